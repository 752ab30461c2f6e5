-- Bytes laid over a buffer. Assumes nothing.
use mathlib.Core.Path.{◌≡◌, ap, ◌∙◌}
use mathlib.Core.List.{List, ◌++◌, append-nil}
use Prim.Native.Nat.{ℕ, ◌+◌, ◌≤◌}
use native.Mathlib.Omega.{arith}
use lib.ListN.{length, take, drop, drop_of_length-le}
use lib.Seq.{sets, sets-eq}
use Rattle.wire.proofs.octets.Sets.{sets-append}
use Rattle.capi_responder.specs.encoder.Laid.{Laid}

-- bytes laid down behind others
pub laid_next : {was mid out : List ℕ} {at next : ℕ} (xs ys : List ℕ) → next ≡ at + length xs → Laid was at xs mid → Laid mid next ys out
    → Laid was at (xs ++ ys) out
laid_next {was} {mid} {out} {at} {next} xs ys e m o = record {
  laid = o.laid ∙ ap (λ (l : List ℕ). sets l next ys) m.laid ∙ ap (λ (k : ℕ). sets (sets was at xs) k ys) e ∙ sets-append was at xs ys;
  long = o.long ∙ m.long;
}

pub laid_as : {was out xs ys : List ℕ} {at : ℕ} → Laid was at xs out → xs ≡ ys → Laid was at ys out
laid_as {was} {at = at} h e = record { laid = h.laid ∙ ap (sets was at) e; long = h.long }

-- bytes laid behind the first `n` of a buffer, up to its end
pub laid-behind : (n : ℕ) (b vs out : List ℕ) → n + length vs ≡ length b → Laid b n vs out → out ≡ take n b ++ vs
laid-behind n b vs out e l =
    let h : n + length vs ≤ length b = omega arith in
    let k : length b ≤ n + length vs = omega arith in
    l.laid ∙ sets-eq vs b n h ∙ ap (λ (r : List ℕ). (take n b ++ vs) ++ r) (drop_of_length-le b k) ∙ append-nil (take n b ++ vs)

-- bytes laid over the front of a buffer
pub laid-front : (n : ℕ) (b vs out : List ℕ) → length vs ≡ n → n ≤ length b → Laid b 0 vs out → out ≡ vs ++ drop n b
laid-front n b vs out e h l =
    let k : 0 + length vs ≤ length b = omega arith in
    let j : 0 + length vs ≡ n = omega arith in
    l.laid ∙ sets-eq vs b 0 k ∙ ap (λ (m : ℕ). vs ++ drop m b) j
