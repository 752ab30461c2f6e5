-- The known answers are gathered an entry at a time. Assumes nothing.
use mathlib.Core.Path.{◌≡◌, sym, ap, ◌∙◌}
use mathlib.Core.List.{List}
use Prim.Native.Nat.{ℕ, ◌+◌, ◌<◌, ◌≤◌}
use native.Mathlib.Numerals.{add-one}
use lib.ListN.{length, get_or, drop, drop_of_length-le}
use Rattle.cache.specs.declared.entries.Entry.{Entry}
use Rattle.cache.specs.entries.Entries.{blank}
use Rattle.cache.proofs.entries.Searches.{at_slot}
use Rattle.browser.specs.declared.Browser.{Browser}
use Rattle.browser.specs.declared.known_answers.Plan.{Plan}
use Rattle.browser.specs.known_answers.Plans.{plan_with, plan_from}

module _ (now : ℕ) (store : List ℕ) (b : Browser) (es : List Entry) (i : ℕ) (p : Plan) where
  pub gather_on : i < length es → plan_from now store b i (drop i es) p ≡ plan_from now store b (i + 1) (drop (i + 1) es)
      (plan_with now store b i (get_or es i blank) p)
  unfolding plan_from
  gather_on l =
      ap (λ (xs : List Entry). plan_from now store b i xs p) (at_slot es i l)
      ∙ ap (λ (k : ℕ). plan_from now store b k (drop (i + 1) es) (plan_with now store b i (get_or es i blank) p)) (sym (add-one i))

  pub gather_end : length es ≤ i → plan_from now store b i (drop i es) p ≡ p
  unfolding plan_from
  gather_end l = ap (λ (xs : List Entry). plan_from now store b i xs p) (drop_of_length-le es l)
