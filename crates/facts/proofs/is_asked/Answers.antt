use mathlib.Core.Path.{◌∙◌}
use mathlib.Core.Bool.{false}
use Rattle.wire.specs.message.Readable.{question_shown}
use Rattle.facts.specs.Questions.{asks_by}
use Rattle.facts.specs.Facts.{asks_own}
use Rattle.facts.proofs.Owned.{own_part}
use Rattle.facts.proofs.Tests.{asks-not}
use Rattle.facts.proofs.Asked.{asked-before, asked_here}
use Rattle.facts.proofs.is_asked.Goals as goal

pub returns-then-is_in : goal.returns-then-is_in
returns-then-is_in c = let a = c.args in
    asked-before a.asked a.o _ c.is_in.ensures c.if-is_in.true (asks_own a.setup a.o (question_shown a.p.now a.q))

pub returns-then-not-takes : goal.returns-then-not-takes
returns-then-not-takes c = let a = c.args in
    let q = question_shown a.p.now a.q in
    asked_here a.asked a.o _ c.is_in.ensures c.if-is_in.false (asks_own a.setup a.o q) false
    (asks-not a.setup a.o q _ c.type_asks-takes.ensures c.if-not-takes.true)

pub returns : goal.returns
returns c = let a = c.args in
    let n = c.part.ensures.bytes ∙ own_part _ _ c.own_name-own.ensures in
    asked_here a.asked a.o _ c.is_in.ensures c.if-is_in.false _ _
    (c.asks.ensures ∙ (λ j. asks_by (n j) (c.type_asks-takes.ensures j) (question_shown a.p.now a.q)))
