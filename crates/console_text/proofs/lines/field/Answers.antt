use Rattle.std.proofs.Common.{◌∙◌, eqb, refl, ap, rules, tests}
use Rattle.std.proofs.lemmas.Iterator.Consumers.{nth_from_yields_List}
use Rattle.std.proofs.lemmas.Iterator.Splits.{YieldsList-from_slice_split}
use Rattle.console_text.proofs.lines.Split.{field_found}
use Rattle.console_text.proofs.lines.field.Goals as goal

pub returns : goal.returns
returns c =
    let e = nth_from_yields_List c.nth.result _ c.args.index c.nth.ensures.ran
    (YieldsList-from_slice_split _ (λ b. eqb b 32) c.args.line.now c.split.ensures.rest c.split.ensures.done c.split.ensures.closure (λ x r q k. search (rules, tests))) in
    ap (λ x. x.now) c.unwrap_or.ensures ∙ field_found _ _ _ _ e refl
