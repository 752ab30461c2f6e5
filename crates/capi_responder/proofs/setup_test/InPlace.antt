-- The rules for a set-up, tested on a state's bytes. Assumes nothing.
use mathlib.Core.Path.{◌≡◌, refl, ap, ◌∙◌}
use mathlib.Core.Bool.{Bool, true, false, ◌&&◌, and_assoc, and-true}
use mathlib.Core.List.{List}
use Prim.Native.Nat.{ℕ, ◌+◌, ◌≤◌}
use native.Mathlib.Omega.{arith}
use borrow.Author.Tests.{eq-eqb, eqb-true}
use lib.Dec.{eqb}
use lib.ListN.{length, drop, length-drop}
use lib.Seq.{length-take-le}
use Rattle.wire.specs.octets.Octets.{word16}
use Rattle.own.specs.records.Setups.{txt_fits}
use Rattle.capi_responder.specs.codec.Layout as layout
use Rattle.capi_responder.specs.codec.Parts.{part_at, strings_at}
use Rattle.capi_responder.specs.setup_test.Held.{strings_of}

pub part_long : (b : List ℕ) (at n : ℕ) → at + n ≤ length b → length (part_at b at n) ≡ n
part_long b at n h = let m : n ≤ length (drop at b) = rw (length-drop at b) (omega arith) in length-take-le n (drop at b) m

-- the TXT strings, by their length as it was read
pub txt-read : (b : List ℕ) (len : ℕ) (v : Bool) → len ≡ word16 b (layout.txt + layout.most_txt) → v ≡ txt_fits (strings_of (part_at b layout.txt layout.most_txt) len)
    → v ≡ txt_fits (strings_at b layout.txt)
unfolding strings_of strings_at
txt-read b len v e h = h ∙ ap (λ (n : ℕ). txt_fits (record { bytes = part_at b layout.txt layout.most_txt; len = n })) e

-- the tests as code puts them together: in a state's bytes both addresses have their lengths
pub whole : (b : List ℕ) (i s p h d t : Bool)
    → ((((((eqb (length b) layout.state_size && i) && s) && p) && h) && d) && t)
    ≡ (eqb (length b) layout.state_size && (i && (s && (p && (h && (d && (t && (eqb (length (part_at b layout.a layout.a_size)) 4
    && eqb (length (part_at b layout.aaaa layout.aaaa_size)) 16))))))))
whole b i s p h d t = go (eqb (length b) layout.state_size) refl
  where
    go : (l : Bool) → eqb (length b) layout.state_size ≡ l
        → ((((((l && i) && s) && p) && h) && d) && t)
        ≡ (l && (i && (s && (p && (h && (d && (t && (eqb (length (part_at b layout.a layout.a_size)) 4
        && eqb (length (part_at b layout.aaaa layout.aaaa_size)) 16))))))))
    go true e =
        let n : length b ≡ layout.state_size = eqb-true _ layout.state_size e in
        let a : _ = eq-eqb _ 4 (part_long b layout.a layout.a_size (omega arith)) in
        let aaaa : _ = eq-eqb _ 16 (part_long b layout.aaaa layout.aaaa_size (omega arith)) in
        simp (a, aaaa, and_assoc, and-true)
    go false e = refl
