use Prim.Native.Nat.{◌-◌}
use Rattle.std.proofs.Common.{rules}
use Rattle.wire.specs.names.Answers.{name_is}
use mathlib.Core.Path.{refl}
use Rattle.facts.proofs.tiebreak.Turns.{count_done, count_broken, count_turn, met_bounds}
use Rattle.facts.proofs.Steps.{one_less}
use Rattle.facts.proofs.chains.Walked.{record_seen, record_none, whole_here, whole-on}
use native.Mathlib.Nat.{sub-zero}
use native.Mathlib.Omega.{arith}
use Rattle.wire.specs.message.Layout.{record_at}
use Rattle.wire.specs.message.Readable.{record_shown}
use Rattle.facts.specs.tiebreak.Lists.{tie_record, own_record}
use Rattle.facts.proofs.tiebreak.count_under.Goals as goal

pub loop-read-init : goal.loop-read-init
loop-read-init c = rw (sub-zero c.args.s.count) ((omega arith, omega arith, omega arith, search rules, refl, c.requires.whole))

pub record_step-requires : goal.record_step-requires
record_step-requires c = whole_here (record_at c.args.p.now) c.args.ends.now (c.args.s.count - c.loop-read._read) c.loop-read.here c.loop-read.invariant.5 (omega arith)

pub count_met-c-requires : goal.count_met-c-requires
count_met-c-requires c = record { ends = c.requires.ends; record_found = (c.loop-read.here, record_seen c.args.p.now c.loop-read.here _ c.record_step.ensures _ c.in-Some.is); all_bound = (omega arith, omega arith, omega arith) }

pub returns-in_default : goal.returns-in_default
returns-in_default c = let a = c.args in
    let l = c.loop-read in
    count_broken a.p.now (own_record a.rtype a.own.now) a.name.now _ (c.args.s.count - l._read) l.here l.c l.invariant.4
    (record_none a.p.now l.here _ c.record_step.ensures c.in_default.is)

pub loop-read-preserved : goal.loop-read-preserved
loop-read-preserved c = rw (one_less c.args.s.count c.loop-read._read) (let a = c.args in
    let l = c.loop-read in
    let f = c.in-Some.f in
    let own = own_record a.rtype a.own.now in
    let m = record_seen a.p.now l.here _ c.record_step.ensures f c.in-Some.is in
    let k = met_bounds (tie_record (record_shown a.p.now f)) own l.c (name_is a.p.now f.owner a.name.now) c.count_met-c.result
    c.count_met-c.ensures (c.args.s.count - l._read) a.s.count (omega arith) l.invariant.0 l.invariant.1 l.invariant.2 in (
      k.0,
      k.1,
      k.2,
      l.invariant.3,
      count_turn a.p.now own a.name.now _ (c.args.s.count - l._read) l.here l.c l.invariant.4 (omega arith) f m _ c.count_met-c.ensures,
      whole-on (record_at a.p.now) a.ends.now (c.args.s.count - l._read) l.here l.invariant.5 (omega arith) _ _ m.here,
    ))

pub returns : goal.returns
returns c = let a = c.args in
    let l = c.loop-read in
    count_done a.p.now (own_record a.rtype a.own.now) a.name.now _ (c.args.s.count - l._read) l.here l.c l.invariant.4 (omega arith)
