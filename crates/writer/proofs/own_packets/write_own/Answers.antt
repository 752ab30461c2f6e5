use Rattle.own.specs.records.Records.{own_name, own_rdata}
use Rattle.writer.proofs.own_packets.Owned.{own_long, own_grown}
use Rattle.writer.proofs.own_packets.write_own.Goals as goal

pub slice_bounds-put_record-end : goal.slice_bounds-put_record-end
slice_bounds-put_record-end c = own_long (own_name c.args.s c.args.o) _ c.own_name-owner.ensures

pub slice_bounds-put_record-end-2 : goal.slice_bounds-put_record-end-2
slice_bounds-put_record-end-2 c = own_long (own_rdata c.args.s c.args.o) _
    c.own_rdata-own.ensures

pub returns : goal.returns
returns c = let a = c.args in
    own_grown a.s a.style a.o _ _ _ _ c.requires _ _
    c.own_name-owner.ensures c.own_rdata-own.ensures _
    c.own_type.ensures
    _ _ c.class_in.ensures c.ttl_in.ensures _ _ _ c.put_record-placed.ensures _
    c.spot_after.ensures
