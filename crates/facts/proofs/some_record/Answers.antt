use Prim.Native.Nat.{◌-◌}
use mathlib.Core.Path.{refl}
use native.Mathlib.Nat.{sub-zero}
use native.Mathlib.Omega.{arith}
use Rattle.wire.specs.message.Layout.{record_at}
use Rattle.wire.specs.message.Readable.{record_shown}
use Rattle.wire.proofs.message.Walk.{some-found, some-on, some-broken, some-done}
use Rattle.facts.proofs.Steps.{one_less}
use Rattle.facts.proofs.chains.Walked.{record_seen, record_none, whole_here, whole-on}
use Rattle.facts.proofs.some_record.Goals as goal

pub loop-read-init : goal.loop-read-init
loop-read-init g c = rw (sub-zero c.args.s.count) ((λ passes h. refl), c.requires.whole)

pub record_step-requires : goal.record_step-requires
record_step-requires g c = whole_here (record_at c.args.p.now) c.args.ends.now (c.args.s.count - c.loop-read._read) c.loop-read.here c.loop-read.invariant.1 (omega arith)

pub test-requires : goal.test-requires
test-requires g c = c.requires.callable _ (c.loop-read.here, record_seen c.args.p.now c.loop-read.here _ c.record_step.ensures _ c.in-Some.is)

pub returns-then-test : goal.returns-then-test
returns-then-test g c = λ passes h.
    let a = c.args in
    let l = c.loop-read in
    let f = c.in-Some.f in
    let m = record_seen a.p.now l.here _ c.record_step.ensures f c.in-Some.is in
    some-found passes (record_at a.p.now) _ (a.s.count - l._read) l.here (l.invariant.0 passes h) (omega arith)
    (record_shown a.p.now f) _ m.here _ (h f c.test.result (l.here, m) c.test.ensures) c.if-test.true

pub returns-in_default : goal.returns-in_default
returns-in_default g c = λ passes h.
    let a = c.args in
    let l = c.loop-read in
    some-broken passes (record_at a.p.now) _ (a.s.count - l._read) l.here (l.invariant.0 passes h)
    (record_none a.p.now l.here _ c.record_step.ensures c.in_default.is)

pub loop-read-preserved : goal.loop-read-preserved
loop-read-preserved g c = rw (one_less c.args.s.count c.loop-read._read) (let a = c.args in
    let l = c.loop-read in
    let f = c.in-Some.f in
    let m = record_seen a.p.now l.here _ c.record_step.ensures f c.in-Some.is in (
      (λ passes h. some-on passes (record_at a.p.now) _ (a.s.count - l._read) l.here (l.invariant.0 passes h) (omega arith)
          (record_shown a.p.now f) _ m.here _ (h f c.test.result (l.here, m) c.test.ensures) c.if-test.false),
      whole-on (record_at a.p.now) a.ends.now (a.s.count - l._read) l.here l.invariant.1 (omega arith) _ _ m.here,
    ))

pub returns : goal.returns
returns g c = λ passes h.
    let a = c.args in
    let l = c.loop-read in
    some-done passes (record_at a.p.now) _ (a.s.count - l._read) l.here (l.invariant.0 passes h) (omega arith)
