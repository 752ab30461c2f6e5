use Prim.Native.Nat.{◌-◌}
use Rattle.wire.specs.message.Readable.{question_shown}
use Rattle.wire.proofs.message.Walk.{some-found, some-on, some-broken, some-done}
use mathlib.Core.Path.{ap, ◌∙◌, refl}
use mathlib.Core.Bool.{Bool}
use Rattle.facts.specs.Questions.{asks_by}
use Rattle.facts.proofs.Steps.{one_less}
use Rattle.facts.proofs.chains.Walked.{question-seen, question-none, whole_here, whole-on}
use native.Mathlib.Nat.{sub-zero}
use native.Mathlib.Omega.{arith}
use Rattle.wire.specs.message.Layout.{question_at}
use Rattle.facts.specs.probe.Probe.{asks_all}
use Rattle.facts.proofs.probe.some_asks.Goals as goal

pub loop-read-init : goal.loop-read-init
loop-read-init c = rw (sub-zero c.args.s.count) ((refl, c.requires.whole))

pub question_step-requires : goal.question_step-requires
question_step-requires c = whole_here (question_at c.args.p.now) c.args.ends.now (c.args.s.count - c.loop-read._read) c.loop-read.here c.loop-read.invariant.1 (omega arith)

pub asks-requires : goal.asks-requires
asks-requires c = record { ends = c.requires.ends; question_found = (c.loop-read.here, question-seen c.args.p.now c.loop-read.here _ c.question_step.ensures _ c.in-Some.is) }

pub returns-then-asks : goal.returns-then-asks
returns-then-asks c = let a = c.args in
    let l = c.loop-read in
    let q = question_shown a.p.now c.in-Some.q in
    let m = question-seen a.p.now l.here _ c.question_step.ensures _ c.in-Some.is in
    some-found (asks_all a.name.now) (question_at a.p.now) _ (c.args.s.count - l._read) l.here l.invariant.0 (omega arith) q _ m.here _
    (c.asks.ensures ∙ ap (λ (b : Bool). asks_by a.name.now b q) c.takes_in.ensures) c.if-asks.true

pub returns-in_default : goal.returns-in_default
returns-in_default c = let a = c.args in
    let l = c.loop-read in
    some-broken (asks_all a.name.now) (question_at a.p.now) _ (c.args.s.count - l._read) l.here l.invariant.0
    (question-none a.p.now l.here _ c.question_step.ensures c.in_default.is)

pub loop-read-preserved : goal.loop-read-preserved
loop-read-preserved c = rw (one_less c.args.s.count c.loop-read._read) (let a = c.args in
    let l = c.loop-read in
    let q = question_shown a.p.now c.in-Some.q in
    let m = question-seen a.p.now l.here _ c.question_step.ensures _ c.in-Some.is in (
      some-on (asks_all a.name.now) (question_at a.p.now) _ (c.args.s.count - l._read) l.here l.invariant.0 (omega arith) q _ m.here _
          (c.asks.ensures ∙ ap (λ (b : Bool). asks_by a.name.now b q) c.takes_in.ensures) c.if-asks.false,
      whole-on (question_at a.p.now) a.ends.now (c.args.s.count - l._read) l.here l.invariant.1 (omega arith) _ _ m.here,
    ))

pub returns : goal.returns
returns c = let a = c.args in
    let l = c.loop-read in
    some-done (asks_all a.name.now) (question_at a.p.now) _ (c.args.s.count - l._read) l.here l.invariant.0 (omega arith)
