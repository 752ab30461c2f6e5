-- No more than 120 known answers fit, so that a plan of the first 121 says all that a packet needs. Assumes nothing.
use Rattle.std.proofs.Common.{None, Option, Some}
use mathlib.Core.Path.{◌≡◌, refl, sym, ap, subst}
use mathlib.Core.List.{List, [], ◌∷◌, ◌++◌}
use mathlib.Core.Bool.{Bool, true, false, cond}
use Prim.Native.Nat.{ℕ, zero, suc, ◌+◌, ◌*◌, ◌≤◌, ◌<◌}
use native.Mathlib.Omega.{arith}
use lib.ListN.{length, take, drop, length-append}
use lib.Dec.{leb}
use borrow.Author.Tests.{leb-true}
use mathlib.Mathlib.Data.Bool.Basic.{and-eq-true-eq-eq-true-and-eq-true as both}
use Rattle.wire.specs.message.Message.{Record, record_of}
use Rattle.wire.specs.rdata.Rdata.{form_of}
use Rattle.writer.specs.Fit.{form_for, held_name, held_behind, fit_record}
use Rattle.writer.specs.compression.Compression.{cut_of, end_of, name_bytes, name_places}
use Rattle.writer.specs.Items.{Writing, fields, data_bytes, put_name, put_fields, put_record}
use Rattle.writer.specs.own_packets.Packets.{put_all}
use Rattle.roundtrip.specs.Writable.{Each, none, one}
use Rattle.browser.specs.query.Query.{first_slot}
use Rattle.browser.specs.query.Drafts.{goes_behind, fitted, filled}

-- a name takes a byte at least
some_bytes : (p os bs : List ℕ) → 1 ≤ length (name_bytes p os bs)
unfolding name_bytes
some_bytes p os bs =
    let a = length-append (take (cut_of p os bs).kept bs) (end_of (cut_of p os bs).place) in
    let e = end_some (cut_of p os bs).place in omega arith
  where
    end_some : (x : Option ℕ) → 1 ≤ length (end_of x)
    end_some (Some o) = omega arith
    end_some None = omega arith

-- a PTR record 12
ptr_least : (w : Writing) (owner : List ℕ) (class ttl : ℕ) (d : List ℕ) → length w.bytes + 12 ≤ length
    (put_record false w (record_of owner 12 class ttl d)).bytes
unfolding put_name put_fields data_bytes form_for
ptr_least w owner class ttl d =
    let N : List ℕ = name_bytes w.bytes w.places owner in
    let p : List ℕ = w.bytes ++ N in
    let os : List ℕ = w.places ++ name_places w.bytes w.places (length w.bytes) owner in
    let M : List ℕ = name_bytes p os (held_name (form_of 12) d) in
    let D : List ℕ = M ++ held_behind (form_of 12) d in
    let F : List ℕ = fields 12 class ttl (length D) in
    let ten : length F ≡ 10 = refl in
    let a = some_bytes w.bytes w.places owner in
    let b = some_bytes p os (held_name (form_of 12) d) in
    omega (arith, length-append p (F ++ D), length-append w.bytes N, length-append F D, length-append M (held_behind (form_of 12) d))

abbrev pub IsPtr : Record → Type 0
IsPtr r = r.rtype ≡ 12

record_least : (w : Writing) (r : Record) → r.rtype ≡ 12 → length w.bytes + 12 ≤ length (put_record false w r).bytes
record_least w r ptr = subst (λ (x : Record). length w.bytes + 12 ≤ length (put_record false w x).bytes) same
    (ptr_least w r.owner r.class r.ttl r.rdata)
  where
    same : record_of r.owner 12 r.class r.ttl r.rdata ≡ r
    same = λ i. record { owner = r.owner; rtype = sym ptr i; class = r.class; ttl = r.ttl; rdata = r.rdata }

pub fitted-count : (w : Writing) {rs : List Record} → Each IsPtr rs → length w.bytes ≤ 1452 → length w.bytes + 12 * length (fitted w rs) ≤ 1452
unfolding fitted
fitted-count w none h = omega arith
fitted-count w (one {x = r} {xs = rs} ptr rest) h = go (goes_behind w r) refl (λ (l : length (put_record false w r).bytes ≤ 1452). fitted-count
    (put_record false w r) rest l)
  where
    go : (t : Bool) → goes_behind w r ≡ t
        → (length (put_record false w r).bytes ≤ 1452 → length (put_record false w r).bytes + 12 * length (fitted (put_record false w r) rs) ≤ 1452)
        → length w.bytes + 12 * length (cond t (r ∷ fitted (put_record false w r) rs) []) ≤ 1452
    go true e ih =
        let l : length (put_record false w r).bytes ≤ 1452 = leb-true _ 1452 ((both (fit_record r.owner r.rtype r.ttl r.rdata)
        (leb (length (put_record false w r).bytes) 1452)).0 e).1 in
        let i = ih l in
        let m = record_least w r ptr in omega arith
    go false e ih = omega arith

pub fitted-take : (n : ℕ) (w : Writing) (rs : List Record) → length (fitted w rs) < n → fitted w (take n rs) ≡ fitted w rs
unfolding fitted
fitted-take zero w rs h = absurd (omega arith)
fitted-take (suc n) w [] h = refl
fitted-take (suc n) w (r ∷ rs) h = go (goes_behind w r) h (λ (l : length (fitted (put_record false w r) rs) < n). fitted-take n (put_record false w r) rs l)
  where
    go : (t : Bool) → length (cond t (r ∷ fitted (put_record false w r) rs) []) < suc n
        → (length (fitted (put_record false w r) rs) < n → fitted (put_record false w r) (take n rs) ≡ fitted (put_record false w r) rs)
        → cond t (r ∷ fitted (put_record false w r) (take n rs)) [] ≡ cond t (r ∷ fitted (put_record false w r) rs) []
    go true l ih = ap (λ (xs : List Record). r ∷ xs) (ih (omega arith))
    go false l ih = refl

pub first-drop : (k n : ℕ) (is : List ℕ) → k < n → first_slot (drop k (take n is)) ≡ first_slot (drop k is)
first-drop k zero is h = absurd (omega arith)
first-drop zero (suc n) [] h = refl
first-drop (suc k) (suc n) [] h = refl
first-drop zero (suc n) (i ∷ is) h = refl
first-drop (suc k) (suc n) (i ∷ is) h = first-drop k n is (omega arith)

pub filled-most : (w : Writing) (rs : List Record) → length w.bytes ≤ 1452 → length (filled w rs).bytes ≤ 1452
unfolding fitted
filled-most w [] h = h
filled-most w (r ∷ rs) h = go (goes_behind w r) refl (λ (l : length (put_record false w r).bytes ≤ 1452). filled-most (put_record false w r) rs l)
  where
    go : (t : Bool) → goes_behind w r ≡ t → (length (put_record false w r).bytes ≤ 1452 → length (filled (put_record false w r) rs).bytes ≤ 1452)
        → length (put_all (put_record false) w (cond t (r ∷ fitted (put_record false w r) rs) [])).bytes ≤ 1452
    go true e ih = ih (leb-true _ 1452 ((both (fit_record r.owner r.rtype r.ttl r.rdata) (leb (length (put_record false w r).bytes) 1452)).0 e).1)
    go false e ih = h
