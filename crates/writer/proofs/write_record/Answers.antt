use native.Mathlib.Omega.{arith}
use mathlib.Core.Path.{refl}
use Prim.Native.Nat.{◌+◌}
use lib.ListN.{length}
use Rattle.writer.specs.Fit.{form_for}
use Rattle.writer.specs.Writer.{labels_for}
use Rattle.writer.proofs.Parts.{record_room, name-ready, first-room, data_ready, fields-room, data_fits, record_grown}
use Rattle.writer.proofs.write_record.Goals as goal

pub put_name-a-requires : goal.put_name-a-requires
put_name-a-requires c = let a = c.args in
    let room = record_room a.at a.count a.owner.now a.rtype a.ttl a.d.now a.out.now a.places.now
    c.requires in
    name-ready a.at a.count a.owner.now (10 + length a.d.now) (labels_for (form_for a.owner.now a.rtype a.d.now) a.d.now) a.out.now a.places.now room.front

pub overflow_add-body : goal.overflow_add-body
overflow_add-body c = let a = c.args in
    let room = record_room a.at a.count a.owner.now a.rtype a.ttl a.d.now a.out.now a.places.now c.requires in
    omega (
      arith,
      first-room a.at a.count a.owner.now (10 + length a.d.now) (labels_for (form_for a.owner.now a.rtype a.d.now) a.d.now) a.out.now a.places.now
          room.front c.put_name-a.result _ _ c.put_name-a.ensures,
    )

pub put_data-b-requires : goal.put_data-b-requires
put_data-b-requires c = let a = c.args in
    let room = record_room a.at a.count a.owner.now a.rtype a.ttl a.d.now a.out.now a.places.now
    c.requires in
    data_ready a.at a.count a.owner.now (10 + length a.d.now) (labels_for (form_for a.owner.now a.rtype a.d.now) a.d.now) a.out.now a.places.now room.front
    c.put_name-a.result _ _
    c.put_name-a.ensures a.rtype a.d.now room.shaped room.short refl refl a.whole _
    c.tried_for-tried.ensures _ c.form_for-held.ensures

pub put_fields-requires : goal.put_fields-requires
put_fields-requires c = let a = c.args in
    let room = record_room a.at a.count a.owner.now a.rtype a.ttl a.d.now a.out.now a.places.now c.requires in (
      fields-room a.at a.count a.owner.now (10 + length a.d.now) (labels_for (form_for a.owner.now a.rtype a.d.now) a.d.now) a.out.now a.places.now room.front
          c.put_name-a.result _ _ c.put_name-a.ensures a.rtype a.d.now
          room.shaped room.short
          refl refl a.whole _ c.tried_for-tried.ensures _ c.form_for-held.ensures
          c.put_data-b.result _ _ c.put_data-b.ensures,
      data_fits a.at a.count a.owner.now (10 + length a.d.now) (labels_for (form_for a.owner.now a.rtype a.d.now) a.d.now) a.out.now a.places.now room.front
          c.put_name-a.result _ _ c.put_name-a.ensures a.rtype a.d.now
          room.shaped room.short
          refl refl a.whole _ c.tried_for-tried.ensures _ c.form_for-held.ensures
          c.put_data-b.result _ _ c.put_data-b.ensures,
    )

pub returns : goal.returns
returns c = let a = c.args in
    let room = record_room a.at a.count a.owner.now a.rtype a.ttl a.d.now a.out.now a.places.now
    c.requires in
    record_grown a.at a.count a.owner.now (10 + length a.d.now) (labels_for (form_for a.owner.now a.rtype a.d.now) a.d.now) a.out.now a.places.now room.front
    c.put_name-a.result _ _ c.put_name-a.ensures
    a.rtype a.d.now room.shaped room.short refl refl a.whole _ c.tried_for-tried.ensures _ c.form_for-held.ensures
    c.put_data-b.result _ _
    c.put_data-b.ensures _ _ _ c.put_fields.ensures
