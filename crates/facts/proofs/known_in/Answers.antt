use Prim.Native.Nat.{◌-◌}
use mathlib.Core.Path.{refl, ◌∙◌}
use mathlib.Core.Bool.{false}
use native.Mathlib.Nat.{sub-zero}
use native.Mathlib.Omega.{arith}
use Rattle.wire.specs.message.Layout.{record_at}
use Rattle.wire.specs.message.Readable.{message_in, record_shown}
use Rattle.wire.proofs.message.Walk.{some-found, some-on, some-broken, some-done}
use Rattle.claims.specs.records.Own.{record_at as own_at}
use Rattle.claims.proofs.records.Filled.{none_filled, set-filled}
use Rattle.facts.specs.Facts.{is_known}
use Rattle.facts.proofs.Owned.{own_part}
use Rattle.facts.proofs.Known.{suppresses_own, suppresses-own, own_flag, own_clear, untyped}
use Rattle.facts.proofs.Steps.{one_less}
use Rattle.facts.proofs.chains.Walked.{record_seen, record_none, whole_here, whole-on}
use Rattle.facts.proofs.known_in.Goals as goal

pub own-init : goal.own-init
own-init c = none_filled false _

pub own-preserved-then-not-has_type : goal.own-preserved-then-not-has_type
own-preserved-then-not-has_type c = let a = c.args in
    let own = c.own in
    own_clear _ own.i _ _ (omega arith) refl own.invariant
    (untyped a.setup a.p.now a.l.answers own.i _ c.record_at-o.ensures _ c.own_type-rtype.ensures (c.has_type.ensures (c.if-not-has_type.true)))

pub loop-read-init : goal.loop-read-init
loop-read-init c = rw (sub-zero c.args.l.answers.count) (refl, refl, c.requires.answers)

pub record_step-requires : goal.record_step-requires
record_step-requires c = whole_here (record_at c.args.p.now) c.args.ends.now (c.args.l.answers.count - c.loop-read._read) c.loop-read.here c.loop-read.invariant.2 (omega arith)

pub suppresses-requires : goal.suppresses-requires
suppresses-requires c = record { ends = c.requires.noted; record_found = (c.loop-read.here, record_seen c.args.p.now c.loop-read.here _ c.record_step.ensures _ c.in-Some.is) }

pub own-preserved-then-suppresses : goal.own-preserved-then-suppresses
own-preserved-then-suppresses c = let a = c.args in
    let l = c.loop-read in
    let own = c.own in
    let f = c.in-Some.f in
    let m = record_seen a.p.now l.here _ c.record_step.ensures f c.in-Some.is in
    let own_name = c.part.ensures.bytes ∙ own_part _ _ c.own_name-name.ensures in
    let own_data = c.part-in-loop-read.ensures.bytes ∙ own_part _ _ c.own_rdata-data.ensures in
    let v = suppresses-own a.setup own.i _ c.record_at-o.ensures _ _ _ _ own_name own_data c.own_type-rtype.ensures c.own_ttl-ttl.ensures
    (record_shown a.p.now f) _ c.suppresses.ensures in
    own_flag _ own.i _ _ l.invariant.0 own.invariant
    (some-found (suppresses_own a.setup (own_at own.i)) (record_at a.p.now) _ (a.l.answers.count - l._read) l.here l.invariant.1 (omega arith)
    (record_shown a.p.now f) _ m.here _ v c.if-suppresses.true)

pub own-preserved-in_default : goal.own-preserved-in_default
own-preserved-in_default c = let a = c.args in
    let own = c.own in
    let l = c.loop-read in
    own_clear _ own.i _ _ (omega arith) l.invariant.0 own.invariant
    (some-broken (suppresses_own a.setup (own_at own.i)) (record_at a.p.now) _ (a.l.answers.count - l._read) l.here l.invariant.1
    (record_none a.p.now l.here _ c.record_step.ensures c.in_default.is))

pub loop-read-preserved : goal.loop-read-preserved
loop-read-preserved c = let a = c.args in
    let l = c.loop-read in
    let own = c.own in
    let f = c.in-Some.f in
    let m = record_seen a.p.now l.here _ c.record_step.ensures f c.in-Some.is in
    let own_name = c.part.ensures.bytes ∙ own_part _ _ c.own_name-name.ensures in
    let own_data = c.part-in-loop-read.ensures.bytes ∙ own_part _ _ c.own_rdata-data.ensures in
    let v = suppresses-own a.setup own.i _ c.record_at-o.ensures _ _ _ _ own_name own_data c.own_type-rtype.ensures c.own_ttl-ttl.ensures
    (record_shown a.p.now f) _ c.suppresses.ensures in rw (one_less a.l.answers.count l._read) (
      l.invariant.0,
      some-on (suppresses_own a.setup (own_at own.i)) (record_at a.p.now) _ (a.l.answers.count - l._read) l.here l.invariant.1 (omega arith)
          (record_shown a.p.now f) _ m.here _ v c.if-suppresses.false,
      whole-on (record_at a.p.now) a.ends.now (a.l.answers.count - l._read) l.here l.invariant.2 (omega arith) _ _ m.here,
    )

pub own-preserved : goal.own-preserved
own-preserved c = let a = c.args in
    let own = c.own in
    let l = c.loop-read in
    own_clear _ own.i _ _ (omega arith) l.invariant.0 own.invariant
    (some-done (suppresses_own a.setup (own_at own.i)) (record_at a.p.now) _ (a.l.answers.count - l._read) l.here l.invariant.1 (omega arith))

pub returns : goal.returns
unfolding is_known message_in
returns c = set-filled _ _ _ _ c.set_of.ensures (omega arith) (omega arith) c.own.invariant
