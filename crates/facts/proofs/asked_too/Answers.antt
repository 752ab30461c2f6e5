use mathlib.Core.Path.{sym, ◌∙◌}
use Rattle.facts.proofs.Asked.{by-qu, by-qm}
use Rattle.wire.specs.message.Readable.{question_shown}
use Rattle.facts.proofs.asked_too.Goals as goal

pub returns-then-is_qu : goal.returns-then-is_qu
returns-then-is_qu c = let a = c.args in
    by-qu a.setup (question_shown a.p.now a.q) a.asked.qm a.asked.qu (sym c.is_qu.ensures ∙ c.if-is_qu.true) _ c.asked_with.ensures

pub returns-else-is_qu : goal.returns-else-is_qu
returns-else-is_qu c = let a = c.args in
    by-qm a.setup (question_shown a.p.now a.q) a.asked.qm a.asked.qu (sym c.is_qu.ensures ∙ c.if-is_qu.false) _ c.asked_with-else-is_qu.ensures
