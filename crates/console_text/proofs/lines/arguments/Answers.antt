use Rattle.std.proofs.Common.{length, eqb, ap, rules, tests, arith}
use Rattle.std.proofs.lemmas.Iterator.{YieldsList-from_slice}
use Rattle.std.proofs.lemmas.Iterator.Consumers.{count_from_yields_List, YieldsList-from_filter}
use Rattle.std.proofs.lemmas.List.Sums.{length-filter}
use Rattle.std.proofs.lemmas.List.Splits.{length-slice_split}
use Rattle.console_text.proofs.lines.Split.{fields_split}
use Rattle.console_text.proofs.lines.arguments.Goals as goal

pub returns : goal.returns
returns c =
    let spaces = count_from_yields_List c.filter.result _ c.count.ensures.ran
    (YieldsList-from_filter _ (λ b. eqb b 32) (YieldsList-from_slice c.args.line.now cc) c.filter.ensures.closure (λ x r q k. search (rules, tests))) in
    omega (arith, spaces, length-filter (λ b. eqb b 32) c.args.line.now, length-slice_split (λ b. eqb b 32) c.args.line.now, ap length (fields_split c.args.line.now))
