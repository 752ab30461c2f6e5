use Prim.Native.Nat.{◌-◌}
use mathlib.Core.Path.{refl, ap}
use native.Mathlib.Nat.{sub-zero}
use native.Mathlib.Omega.{arith}
use Rattle.wire.specs.message.Layout.{question_at}
use Rattle.facts.proofs.Asked.{asked-done, asked-broken, asked-turn, asked-all}
use Rattle.facts.specs.Questions.{is_qm, is_qu}
use Rattle.facts.specs.declared.AskedFor.{AskedFor}
use Rattle.facts.proofs.Steps.{one_less}
use Rattle.facts.proofs.chains.Walked.{question-seen, question-none, whole_here, whole-on}
use Rattle.facts.proofs.asked_for.Goals as goal

pub loop-read-init : goal.loop-read-init
loop-read-init c = rw (sub-zero c.args.l.questions.count) ((refl, refl, c.requires.questions))

pub question_step-requires : goal.question_step-requires
question_step-requires c = whole_here (question_at c.args.p.now) c.args.ends.now (c.args.l.questions.count - c.loop-read._read) c.loop-read.here c.loop-read.invariant.2 (omega arith)

pub asked_too-asked-requires : goal.asked_too-asked-requires
asked_too-asked-requires c = record { ends = c.requires.noted; question_found = (c.loop-read.here, question-seen c.args.p.now c.loop-read.here _ c.question_step.ensures _ c.in-Some.is) }

pub returns-in_default : goal.returns-in_default
returns-in_default c = let a = c.args in
    let l = c.loop-read in
    let none = c.no_record-none.ensures in
    let broken = question-none a.p.now l.here _ c.question_step.ensures c.in_default.is in record { qm_value = asked-all is_qm a.p.now a.l a.setup _ none _ (asked-broken is_qm a.p.now a.setup _ (c.args.l.questions.count - l._read) l.here l.asked.qm l.invariant.0 broken); qu_value = asked-all is_qu a.p.now a.l a.setup _ none _ (asked-broken is_qu a.p.now a.setup _ (c.args.l.questions.count - l._read) l.here l.asked.qu l.invariant.1 broken) }

pub loop-read-preserved : goal.loop-read-preserved
loop-read-preserved c = rw (one_less c.args.l.questions.count c.loop-read._read) (let a = c.args in
    let l = c.loop-read in
    let met = question-seen a.p.now l.here _ c.question_step.ensures _ c.in-Some.is in (
      asked-turn is_qm a.p.now a.setup _ (c.args.l.questions.count - l._read) l.here l.asked.qm l.invariant.0 (omega arith) _ met _ (ap (λ (x : AskedFor). x.qm) c.asked_too-asked.ensures),
      asked-turn is_qu a.p.now a.setup _ (c.args.l.questions.count - l._read) l.here l.asked.qu l.invariant.1 (omega arith) _ met _ (ap (λ (x : AskedFor). x.qu) c.asked_too-asked.ensures),
      whole-on (question_at a.p.now) a.ends.now (c.args.l.questions.count - l._read) l.here l.invariant.2 (omega arith) _ _ met.here,
    ))

pub returns : goal.returns
returns c = let a = c.args in
    let l = c.loop-read in
    let none = c.no_record-none.ensures in record { qm_value = asked-all is_qm a.p.now a.l a.setup _ none _ (asked-done is_qm a.p.now a.setup _ (c.args.l.questions.count - l._read) l.here l.asked.qm l.invariant.0 (omega arith)); qu_value = asked-all is_qu a.p.now a.l a.setup _ none _ (asked-done is_qu a.p.now a.setup _ (c.args.l.questions.count - l._read) l.here l.asked.qu l.invariant.1 (omega arith)) }
