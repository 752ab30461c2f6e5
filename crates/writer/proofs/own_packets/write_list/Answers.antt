use native.Mathlib.Omega.{arith}
use lib.ListN.{take, length-map}
use Rattle.claims.specs.records.Own.{record_at}
use Rattle.writer.proofs.own_packets.Owned.{going, gone, own_ready, step, listed_at}
use Rattle.writer.proofs.own_packets.write_list.Goals as goal

pub loop-i-init : goal.loop-i-init
loop-i-init c = going _ _ _ _ _ _ _ c.requires.list_ready

pub write_own-r-requires : goal.write_own-r-requires
write_own-r-requires c = let a = c.args.list in
    let l = c.loop-i in
    let pre = c.requires in
    own_ready _ _ _ _ _ _ _ _ _ _ _ l.invariant pre.list_ready.ok pre.list_ready.counts (omega (arith, length-map (take a.n a.order) record_at)) _
    (listed_at (take a.n a.order) l.i-index _ c.record_at-o.ensures)

pub loop-i-preserved : goal.loop-i-preserved
loop-i-preserved c = let a = c.args.list in
    let l = c.loop-i in
    let pre = c.requires in
    step _ _ _ _ _ _ _ _ _ _ _ l.invariant pre.list_ready.ok pre.list_ready.counts (omega (arith, length-map (take a.n a.order) record_at)) _
    (listed_at (take a.n a.order) l.i-index _ c.record_at-o.ensures) _ _ _
    c.write_own-r.ensures
    c.write_own-r.auto.out c.write_own-r.auto.places

pub returns : goal.returns
returns c = let a = c.args.list in
    gone _ _ _ _ _ _ _ _ _ _ _ c.loop-i.invariant (omega (arith, length-map (take a.n a.order) record_at))
