use Rattle.std.proofs.Common.{◌≡◌, ◌∙◌, ℕ, ◌+◌, ◌≤◌, List, length, Bool, true, false, cond, Some, None, ltb, eqb, refl, sym, ap, rules, tests, arith, lt-ltb, le-ltb}
use Rattle.std.specs.Option.{unwrap_or}
use Rattle.std.specs.List.{position_or_len}
use Rattle.std.proofs.lemmas.Iterator.{YieldsList-from_slice}
use Rattle.std.proofs.lemmas.Iterator.Search.{position_from_yields_List}
use Rattle.std.proofs.lemmas.List.Recursion.{is_position_or_len}
use Rattle.std.proofs.lemmas.List.Sums.{prefix_len-le-length}
use Rattle.std.proofs.lemmas.Bool.{cases_lt}
use Rattle.console_text.specs.scan.Scan.{index_of, index_after}
use Rattle.console_text.proofs.scan.find.Goals as goal

-- the place of the first such byte is the library's
counted : (b : ℕ) (l : List ℕ) → index_of b l ≡ position_or_len (λ x. eqb x b) l
unfolding index_of index_after
counted b = is_position_or_len (index_of b) (λ x. eqb x b) refl (λ x xs. go (eqb x b) (index_of b xs))
  where
    go : (t : Bool) (n : ℕ) → index_after t n ≡ cond t 0 (1 + n)
    go true n = refl
    go false n = omega arith

or_all : (n size : ℕ) → n ≤ size → unwrap_or (cond (ltb n size) (Some n) None) size ≡ n
or_all n size h = grind (arith, cases_lt n size, lt-ltb n size, le-ltb n size)

pub returns-clause-place : goal.returns-clause-place
returns-clause-place c =
    let e = position_from_yields_List (λ x. eqb x c.args.b) _ _ c.position.result c.position.ensures.ran (YieldsList-from_slice c.args.s.now cc) (λ x b q k. search (rules, tests)) in
    c.unwrap_or.ensures ∙ ap (λ o. unwrap_or o (length c.args.s.now)) e ∙ or_all _ _ (prefix_len-le-length _ c.args.s.now) ∙ sym (counted c.args.b c.args.s.now)
