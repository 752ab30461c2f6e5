-- Theorems on the two counts: exactly when a record is counted. Assumes nothing.
use Rattle.std.proofs.Common.{None, Option, Some}
use mathlib.Core.Path.{◌≡◌, refl, sym, ap, ◌∙◌}
use mathlib.Core.List.{List, [], ◌∷◌}
use mathlib.Core.Bool.{Bool, true, false, cond, not, ◌&&◌, ◌||◌}
use Prim.Native.Nat.{ℕ, suc, ◌+◌}
use native.Mathlib.Nat.{add-zero}
use lib.ListN.{length}
use lib.Dec.{ltb, eqb}
use Rattle.wire.specs.message.Message.{Record}
use Rattle.cache.specs.entries.Entries.{is_free, holds}
use Rattle.cache.specs.entries.Tables.{lowest}
use Rattle.cache.specs.entries.Cache.{Cache, is_cached, rule1, goodbye, taken, renewed, equal_slot, free_slot, rule23, after_rule1, take_record}
use Rattle.cache.specs.declared.entries.Entry.{Entry}
use Rattle.cache.specs.laws.Counts.{any_from, has_equal, all_live, one, TurnedExactly, PassedExactly}
use Rattle.cache.proofs.laws.Steps.{rule1-equal, rule1-free, rule1-turned, rule1-passed}

-- a search finds nothing exactly where no entry passes
abbrev found : Option ℕ → Bool
found (Some i) = true
found None = false

found_any : (test : ℕ → Entry → Bool) (k : ℕ) (es : List Entry) → found (lowest test k es) ≡ any_from test k es
unfolding lowest any_from
found_any test k [] = refl
found_any test k (e ∷ es) = go (test k e) (found_any test (suc k) es)
  where
    go : (b : Bool) → found (lowest test (suc k) es) ≡ any_from test (suc k) es → found (cond b (Some k) (lowest test (suc k) es)) ≡ (b || any_from test (suc k) es)
    go true h = refl
    go false h = h

equal_any : (now : ℕ) (x : Record) (c : Cache) → found (equal_slot now x c) ≡ has_equal now x c
unfolding equal_slot
equal_any now x c = found_any (holds now c.store x.owner x.rtype x.rdata) 0 c.entries

free_any : (now : ℕ) (c : Cache) → found (free_slot now c) ≡ any_from (is_free now) 0 c.entries
unfolding free_slot
free_any now c = found_any (is_free now) 0 c.entries

module _ (now : ℕ) (x : Record) (c : Cache) where
  turned_goodbye : (s : Option ℕ) → (goodbye now c s).turned ≡ c.turned
  turned_goodbye (Some i) = refl
  turned_goodbye None = refl

  turned_taken : (s : Option ℕ) → (taken now x c s).turned ≡ c.turned + one (not (found s))
  turned_taken (Some i) = sym (add-zero c.turned)
  turned_taken None = refl

  turned_renewed : (s : Option ℕ) → (renewed now x c s).turned ≡ c.turned + one (not (found s) && not (found (free_slot now c)))
  turned_renewed (Some i) = sym (add-zero c.turned)
  turned_renewed None = turned_taken (free_slot now c)

  turned_after : (after_rule1 now x c).turned ≡ c.turned + one (not (ltb 768 (length x.rdata)) && (not (eqb x.ttl 0) && (not (found (equal_slot now x c)) && not (found (free_slot now c)))))
  unfolding after_rule1 rule23
  turned_after = go (ltb 768 (length x.rdata)) (eqb x.ttl 0)
    where
      go : (a b : Bool) → (cond a (record { entries = c.entries; store = c.store; turned = c.turned; passed = c.passed + 1 }) (cond b (goodbye now c (equal_slot now x c)) (renewed now x c (equal_slot now x c)))).turned
          ≡ c.turned + one (not a && (not b && (not (found (equal_slot now x c)) && not (found (free_slot now c)))))
      go true b = sym (add-zero c.turned)
      go false true = turned_goodbye (equal_slot now x c) ∙ sym (add-zero c.turned)
      go false false = turned_renewed (equal_slot now x c)

  passed_goodbye : (s : Option ℕ) → (goodbye now c s).passed ≡ c.passed
  passed_goodbye (Some i) = refl
  passed_goodbye None = refl

  passed_taken : (s : Option ℕ) → (taken now x c s).passed ≡ c.passed
  passed_taken (Some i) = refl
  passed_taken None = refl

  passed_renewed : (s : Option ℕ) → (renewed now x c s).passed ≡ c.passed
  passed_renewed (Some i) = refl
  passed_renewed None = passed_taken (free_slot now c)

  passed_after : (after_rule1 now x c).passed ≡ c.passed + one (ltb 768 (length x.rdata))
  unfolding after_rule1 rule23
  passed_after = go (ltb 768 (length x.rdata)) (eqb x.ttl 0)
    where
      go : (a b : Bool) → (cond a (record { entries = c.entries; store = c.store; turned = c.turned; passed = c.passed + 1 }) (cond b (goodbye now c (equal_slot now x c)) (renewed now x c (equal_slot now x c)))).passed ≡ c.passed + one a
      go true b = refl
      go false true = passed_goodbye (equal_slot now x c) ∙ sym (add-zero c.passed)
      go false false = passed_renewed (equal_slot now x c) ∙ sym (add-zero c.passed)

pub turned_exactly : TurnedExactly
unfolding take_record
turned_exactly now x c = go (is_cached x)
  where
    equal_is : found (equal_slot now x (rule1 now x c)) ≡ has_equal now x c
    equal_is = ap found (rule1-equal now x c) ∙ equal_any now x c

    free_is : not (found (free_slot now (rule1 now x c))) ≡ all_live now c
    free_is = ap (λ (s : Option ℕ). not (found s)) (rule1-free now x c) ∙ ap not (free_any now c)

    go : (b : Bool) → (cond b (after_rule1 now x (rule1 now x c)) c).turned ≡ c.turned + one (b && (not (ltb 768 (length x.rdata)) && (not (eqb x.ttl 0) && (not (has_equal now x c) && all_live now c))))
    go true =
        turned_after now x (rule1 now x c)
        ∙ ap (λ (n : ℕ). n + one (not (ltb 768 (length x.rdata)) && (not (eqb x.ttl 0) && (not (found (equal_slot now x (rule1 now x c))) && not (found (free_slot now (rule1 now x c))))))) (rule1-turned now x c)
        ∙ ap (λ (b : Bool). c.turned + one (not (ltb 768 (length x.rdata)) && (not (eqb x.ttl 0) && (not b && not (found (free_slot now (rule1 now x c))))))) equal_is
        ∙ ap (λ (b : Bool). c.turned + one (not (ltb 768 (length x.rdata)) && (not (eqb x.ttl 0) && (not (has_equal now x c) && b)))) free_is
    go false = sym (add-zero c.turned)

pub passed_exactly : PassedExactly
unfolding take_record
passed_exactly now x c = go (is_cached x)
  where
    go : (b : Bool) → (cond b (after_rule1 now x (rule1 now x c)) c).passed ≡ c.passed + one (b && ltb 768 (length x.rdata))
    go true = passed_after now x (rule1 now x c) ∙ ap (λ (n : ℕ). n + one (ltb 768 (length x.rdata))) (rule1-passed now x c)
    go false = sym (add-zero c.passed)
