-- The number in an exported call's answer is that of the first of the specification's tests that holds, in its order ('Refusals'), or 0. Assumes nothing.
use Rattle.std.specs.Prelude.{◌≡◌, refl, List, ℕ, zero, suc, Option, Some, None}
use Rattle.std.proofs.Common.{arith, ne_eqb}
use Rattle.cache.specs.entries.Cache.{Cache, take_refusal, take_in, look_refusal, look_in}
use Rattle.cache.specs.declared.entries.Entry.{Entry}
use Rattle.cache.specs.Answers.{taken_with, taken_number, taken_of}
use Rattle.cache.specs.lookup.Answers.{looked_with, looked_number, looked_of}
use Rattle.capi_cache.specs.Numbers.{taken_numbers, looked_numbers}

taken-number : (n : ℕ) (c : Cache) → taken_number (taken_with n c) ≡ n
taken-number zero c = refl
taken-number (suc n) c = simp (ne_eqb (suc n) 0 (λ e. omega arith))

-- of `kurgashel_cache_take`
pub take-number : (now : ℕ) (es : List Entry) (store : List ℕ) (port : ℕ) (p : List ℕ) → (taken_numbers (taken_of now es store port p)).refusal ≡ take_refusal now es store port p
unfolding taken_of
take-number now es store port p = taken-number (take_refusal now es store port p) (take_in now es store port p)

looked_number_lem : (name : List ℕ) (n : ℕ) (x : Option ℕ) → looked_number (looked_with name n x) ≡ n
looked_number_lem name zero (Some i) = refl
looked_number_lem name zero None = refl
looked_number_lem name (suc n) (Some i) = simp (ne_eqb (suc n) 0 (λ e. omega arith))
looked_number_lem name (suc n) None = simp (ne_eqb (suc n) 0 (λ e. omega arith))

-- of `kurgashel_cache_look_up`
pub look-number : (now : ℕ) (es : List Entry) (store name : List ℕ) (rtype from : ℕ) → (looked_numbers (looked_of now es store name rtype from)).refusal ≡ look_refusal now es store name
unfolding looked_of
look-number now es store name rtype from = looked_number_lem name (look_refusal now es store name) (look_in now es store name rtype from)
