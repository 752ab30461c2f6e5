-- Rdata with its name mapped, in a buffer of zeros. Assumes nothing.
use Rattle.std.specs.Prelude.{Option, Some}
use mathlib.Core.Path.{◌≡◌, refl, sym, ap, ap₂, ◌∙◌}
use mathlib.Core.List.{List, ◌++◌}
use mathlib.Core.Bool.{true, false}
use Prim.Native.Nat.{ℕ, ◌+◌, ◌-◌, ◌≤◌}
use native.Mathlib.Omega.{arith}
use lib.ListN.{length, take, drop, replicate, length-append, length-drop}
use lib.Seq.{sets, take_all, take_at, length-take-le}
use lib.Dec.{eqb}
use borrow.Author.Tests.{ltb-false}
use Rattle.wire.specs.rdata.Rdata.{form_of}
use Rattle.wire.specs.declared.rdata.Form.{Form}
use Rattle.wire.proofs.octets.Sets.{sets-append, filled}
use Rattle.proxy.specs.domains.Under.{is_overlong, laid, moved_name, moved_of}
use Rattle.proxy.specs.domains.Domains.{Domains}
use Rattle.proxy.specs.records.Records.{fits_type, outward, target_out, rdata_out, content_of}
use Rattle.proxy.specs.declared.domains.Moved.{Moved}
use Rattle.proxy.specs.declared.records.Content.{Content}
use Rattle.proxy.proofs.domains.Fronts.{moved-fits}
use Rattle.proxy.proofs.records.Forms.{room-before}

-- the first bytes of what is laid into a buffer that has room are what was laid
pub laid-front : (n : ℕ) (bs : List ℕ) → length bs ≤ n → take (length bs) (laid n bs) ≡ bs
laid-front n bs h = ap (take (length bs)) (filled n bs h) ∙ take_at bs (replicate (n - length bs) 0) (length bs) refl

module _ (d : Domains) (rtype : ℕ) (rdata : List ℕ) (f : Form) (is : f ≡ form_of rtype) (n : f.named ≡ true) (fits : fits_type rtype rdata ≡ true)
    (t : List ℕ) (ti : t ≡ take (length rdata) (drop f.before rdata)) (m : Moved) (mi : Some m ≡ moved_of (outward d (eqb rtype 33) t)) where
  named-is : (form_of rtype).named ≡ true
  named-is = sym (ap (λ (g : Form). g.named) is) ∙ n

  pub before-is : f.before ≤ length rdata
  before-is = omega (arith, room-before rtype rdata fits named-is, ap (λ (g : Form). g.before) is)

  target_is : outward d (eqb rtype 33) t ≡ target_out d rtype rdata
  unfolding target_out
  target_is =
      ap (outward d (eqb rtype 33))
      (ti ∙ take_all (length rdata) (drop f.before rdata) (omega (arith, length-drop f.before rdata)) ∙ ap (λ (g : Form). drop g.before rdata) is)

  good : (is_overlong (target_out d rtype rdata) ≡ false) × (m ≡ moved_name (target_out d rtype rdata))
  good = moved-fits (target_out d rtype rdata) m (mi ∙ ap moved_of target_is)

  len_is : m.len ≡ length (target_out d rtype rdata)
  len_is = ap (λ (x : Moved). x.len) good.1

  name-is : take m.len m.bytes ≡ target_out d rtype rdata
  name-is =
      ap (λ (x : Moved). take x.len x.bytes) good.1
      ∙ laid-front 255 (target_out d rtype rdata) (ltb-false 255 (length (target_out d rtype rdata)) good.0)

  out_is : rdata_out d rtype rdata ≡ take f.before rdata ++ target_out d rtype rdata
  unfolding rdata_out
  out_is = simp named-is (ap (λ (g : Form). take g.before rdata ++ target_out d rtype rdata) (sym is))

  pub content_good : (a b : List ℕ) → a ≡ sets (replicate 261 0) 0 (take f.before rdata) → b ≡ sets a f.before (take m.len m.bytes)
      → ◌≡◌ {A = Option Content} (Some (record { len = f.before + m.len; bytes = b })) (content_of d rtype rdata)
  content_good a b e g =
      let front : length (take f.before rdata) ≡ f.before = length-take-le f.before rdata before-is in
      let at : f.before ≡ 0 + length (take f.before rdata) = omega (arith, front) in
      let all : b ≡ laid 261 (rdata_out d rtype rdata) =
      g ∙ ap (sets a f.before) name-is ∙ ap (λ (o : List ℕ). sets o f.before (target_out d rtype rdata)) e
      ∙ ap (λ (k : ℕ). sets (sets (replicate 261 0) 0 (take f.before rdata)) k (target_out d rtype rdata)) at
      ∙ sets-append (replicate 261 0) 0 (take f.before rdata) (target_out d rtype rdata) ∙ ap (sets (replicate 261 0) 0) (sym out_is) in
      let long : f.before + m.len ≡ length (rdata_out d rtype rdata) =
      omega (arith, front, len_is, ap length out_is, length-append (take f.before rdata) (target_out d rtype rdata)) in
      let small : is_overlong (target_out d rtype rdata) ≡ false = good.0 in
      ap₂ (λ (x : ℕ) (y : List ℕ). Some (record { len = x; bytes = y })) long all ∙ sym (simp (named-is, small))
