-- The refusal and the answer of a lookup, by what was found on the way. Assumes nothing.
use mathlib.Core.Path.{◌≡◌, refl, sym, ap, ◌∙◌}
use mathlib.Core.List.{List}
use Prim.Native.Nat.{ℕ}
use Rattle.wire.specs.refusals.Numbers.{number_of, refused_by}
use Rattle.wire.specs.declared.refusals.Refusal.{Refusal}
use Rattle.std.specs.Prelude.{Ok, Err}
use Rattle.txt.specs.Lookup.{in_txt, when_absent, unless_refused, lookup_tests, lookup_of}
use Rattle.txt.specs.declared.Buffer.TheVariants.{Received, Factory}
use Rattle.txt.specs.declared.Answer.{Answer}
use Rattle.txt.specs.declared.Answer.TheVariants.{Refused, Absent, Present, Empty, Value}

-- an answer that is not absent stands
stands : (a other : Answer) → (a ≡ Absent → ⊥) → a ≡ when_absent a other
stands (Refused n) other h = refl
stands Absent other h = absurd (h refl)
stands Present other h = refl
stands Empty other h = refl
stands (Value v) other h = refl

module _ (key received factory : List ℕ) where
  pub is-refused : (refusal : Refusal) (n : ℕ) → n ≡ number_of refusal → Err refusal ≡ refused_by (lookup_tests key received factory) → Refused n ≡ lookup_of key received factory
  unfolding lookup_of
  is-refused refusal n k e = ap Refused k ∙ ap (λ t. unless_refused t (when_absent (in_txt Received key received) (in_txt Factory key factory))) e

  module _ (u : Unit {0}) (ok : Ok u ≡ refused_by (lookup_tests key received factory)) (a : Answer) (ea : a ≡ in_txt Received key received) where
    asked : when_absent a (in_txt Factory key factory) ≡ lookup_of key received factory
    unfolding lookup_of
    asked = ap (λ x. when_absent x (in_txt Factory key factory)) ea
        ∙ ap (λ t. unless_refused t (when_absent (in_txt Received key received) (in_txt Factory key factory))) ok

    pub is-factory : a ≡ Absent → (o : Answer) → o ≡ in_txt Factory key factory → o ≡ lookup_of key received factory
    is-factory e o eo = eo ∙ sym (ap (λ x. when_absent x (in_txt Factory key factory)) e) ∙ asked

    pub is-received : (a ≡ Absent → ⊥) → a ≡ lookup_of key received factory
    is-received h = stands a (in_txt Factory key factory) h ∙ asked
