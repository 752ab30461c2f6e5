use Rattle.std.proofs.Common.{◌∙◌, sym, rules, tests, arith, eq-eqb}
use borrow.Author.Tests.{ne_eqb}
use Rattle.std.specs.Char.{is_ascii_hexdigit}
use Rattle.std.proofs.lemmas.Iterator.{YieldsList-from_slice}
use Rattle.std.proofs.lemmas.Iterator.Search.{all_from_yields_List}
use Rattle.console_text.proofs.hex.Pairs.{bytes_none, bytes_one, bytes_more, pairs_told}
use Rattle.console_text.proofs.hex.is_bytes.Goals as goal

pub returns-in-empty : goal.returns-in-empty
returns-in-empty c = bytes_none c.args.s.now (omega arith)

pub returns-in-len1 : goal.returns-in-len1
returns-in-len1 c = bytes_one c.args.s.now (omega arith)

pub returns-then-s-eq0 : goal.returns-then-s-eq0
returns-then-s-eq0 c =
    let all = all_from_yields_List is_ascii_hexdigit _ _ c.all.result c.all.ensures.ran (YieldsList-from_slice c.args.s.now cc) (λ x b q k. search (rules, tests)) in
    let even = eq-eqb _ _ c.if-s-eq0.true in
    all ∙ sym (bytes_more c.args.s.now (λ e. omega arith) (λ e. omega arith) ∙ sym (pairs_told c.args.s.now) ∙ simp even)

pub returns-else-s-eq0 : goal.returns-else-s-eq0
returns-else-s-eq0 c =
    let odd = ne_eqb _ _ c.if-s-eq0.false in
    odd ∙ sym (bytes_more c.args.s.now (λ e. omega arith) (λ e. omega arith) ∙ sym (pairs_told c.args.s.now) ∙ simp odd)
