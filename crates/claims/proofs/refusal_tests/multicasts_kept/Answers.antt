use Rattle.std.proofs.Common.{arith, rules, tests}
use Rattle.std.proofs.lemmas.Iterator.{YieldsList-from_slice}
use Rattle.std.proofs.lemmas.Iterator.Search.{all_from_yields_List}
use Rattle.std.specs.List.{list_all}
use Prim.Native.Nat.{ℕ}
use mathlib.Core.Path.{◌≡◌, refl, ◌∙◌}
use mathlib.Core.List.{List, [], ◌∷◌}
use lib.ListN.{length}
use Rattle.claims.specs.records.Own.{records}
use Rattle.claims.specs.records.Sets.{every_of}
use Rattle.claims.specs.Time.{at_most}
use Rattle.claims.specs.Refusals.{multicasts_kept}
use Rattle.claims.specs.declared.Multicast.{Multicast}
use Rattle.claims.proofs.refusal_tests.multicasts_kept.Goals as goal

-- the last multicasts one after the other are those of the records
each : (most : ℕ) (of : List Multicast) → length of ≡ records → list_all (λ (m : Multicast). at_most most m.last) of ≡ multicasts_kept most (record { of = of })
unfolding multicasts_kept every_of
each most [] h = absurd (omega arith)
each most (a ∷ []) h = absurd (omega arith)
each most (a ∷ b ∷ []) h = absurd (omega arith)
each most (a ∷ b ∷ c ∷ []) h = absurd (omega arith)
each most (a ∷ b ∷ c ∷ d ∷ []) h = absurd (omega arith)
each most (a ∷ b ∷ c ∷ d ∷ e ∷ []) h = absurd (omega arith)
each most (a ∷ b ∷ c ∷ d ∷ e ∷ f ∷ []) h = absurd (omega arith)
each most (a ∷ b ∷ c ∷ d ∷ e ∷ f ∷ g ∷ []) h = refl
each most (a ∷ b ∷ c ∷ d ∷ e ∷ f ∷ g ∷ x ∷ xs) h = absurd (omega arith)

pub returns : goal.returns
returns c =
    all_from_yields_List (λ m. at_most c.args.most m.last) _ _ c.all.result c.all.ensures.ran (YieldsList-from_slice c.args.sent.of cc) (λ x b q k. search (rules, tests))
    ∙ each c.args.most c.args.sent.of (search rules)
