-- The answer of a lookup in numbers, from what the code has found. Assumes nothing.
use Rattle.std.proofs.Common.{None, Option, Some}
use mathlib.Core.Path.{◌≡◌, sym, ap, ◌∙◌}
use mathlib.Core.List.{List}
use Prim.Native.Nat.{ℕ, ◌+◌, ◌<◌, ◌≤◌}
use mathlib.Core.Bool.{true, false}
use native.Mathlib.Omega.{arith}
use lib.ListN.{length, get_or, drop}
use borrow.Author.Tests.{ne_eqb}
use Rattle.cache.specs.entries.Entries.{blank, live_of, matches}
use Rattle.cache.specs.entries.Tables.{lowest}
use Rattle.cache.specs.entries.Cache.{look_tests, entries_refusal, look_refusal, look_in}
use Rattle.cache.specs.declared.entries.Entry.{Entry}
use Rattle.cache.proofs.entries.Searches.{lowest-here, lowest-on, lowest-end, from-slot}
use Rattle.cache.proofs.entries.Single.{match_from}
use Rattle.cache.proofs.lookup.Refusing.{table_first}
use Rattle.cache.specs.lookup.Answers.{looked_with, looked_of, looked_refusal}
use Rattle.capi_cache.specs.Numbers.{looked_numbers, refused_look, found_look, nothing_look}

-- the number fits a byte

module _ (now : ℕ) (es : List Entry) (store name : List ℕ) (rtype from : ℕ) where
  -- a lookup's refusal, from that of its table
  number : looked_refusal (entries_refusal now es) (length es) store name ≡ look_refusal now es store name
  unfolding look_refusal
  number = sym (table_first now es (look_tests es store name))

  pub is-refused : (looked_refusal (entries_refusal now es) (length es) store name ≡ 0 → ⊥) → refused_look (looked_refusal (entries_refusal now es) (length es) store name) ≡ looked_numbers (looked_of now es store name rtype from)
  unfolding looked_of
  is-refused z = go (looked_refusal (entries_refusal now es) (length es) store name) z (look_in now es store name rtype from) ∙ ap (λ (n : ℕ). looked_numbers (looked_with name n (look_in now es store name rtype from))) number
    where
      go : (n : ℕ) → (n ≡ 0 → ⊥) → (s : Option ℕ) → refused_look n ≡ looked_numbers (looked_with name n s)
      go n z (Some i) = sym (simp (ne_eqb n 0 z))
      go n z None = sym (simp (ne_eqb n 0 z))

  module _ (z : looked_refusal (entries_refusal now es) (length es) store name ≡ 0) where
    answer : (s : Option ℕ) → s ≡ look_in now es store name rtype from → looked_numbers (looked_with name 0 s) ≡ looked_numbers (looked_of now es store name rtype from)
    unfolding looked_of
    answer s h = ap (λ (x : Option ℕ). looked_numbers (looked_with name 0 x)) h ∙ ap (λ (n : ℕ). looked_numbers (looked_with name n (look_in now es store name rtype from))) (sym z ∙ number)

    pub is_found_lem : (i : ℕ) → Some i ≡ look_in now es store name rtype from → found_look name i ≡ looked_numbers (looked_of now es store name rtype from)
    is_found_lem i h = answer (Some i) h

    pub is-nothing : None ≡ look_in now es store name rtype from → nothing_look ≡ looked_numbers (looked_of now es store name rtype from)
    is-nothing h = answer None h

  -- a search of which the slots below i are done
  pub record Searched (i : ℕ) : Type 0 where
    pub past : from ≤ i
    pub rest : lowest (matches now store name rtype from) 0 es ≡ lowest (matches now store name rtype from) i (drop i es)

  pub search_start : Searched from
  search_start = record { past = omega arith; rest = from-slot now store name rtype from es }

  module _ (i : ℕ) (k : Searched i) where
    pub search_here : i < length es → live_of now store name rtype i (get_or es i blank) ≡ true → Some i ≡ look_in now es store name rtype from
    unfolding look_in
    search_here h l = lowest-here (matches now store name rtype from) es i k.rest h (match_from now store name rtype from i (get_or es i blank) k.past ∙ l)

    pub search_on : i < length es → live_of now store name rtype i (get_or es i blank) ≡ false → Searched (i + 1)
    search_on h l = record { past = omega (arith, k.past); rest = lowest-on (matches now store name rtype from) es i k.rest h (match_from now store name rtype from i (get_or es i blank) k.past ∙ l) }

    pub search_end : length es ≤ i → None ≡ look_in now es store name rtype from
    unfolding look_in
    search_end h = lowest-end (matches now store name rtype from) es i k.rest h
