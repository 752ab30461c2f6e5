-- The specification's probe of 44 bytes, heard by the device that sent it: no one defers. Assumes nothing.
use Rattle.std.specs.declared.cmp.Ordering.TheVariants.{Equal}
use mathlib.Core.Path.{◌≡◌, refl}
use mathlib.Core.List.{[], ◌∷◌}
use mathlib.Core.Bool.{false}
use Rattle.wire.specs.case_folding.Fold.{same_name}
use Rattle.wire.specs.name_pieces.Pieces.{piece_at}
use Rattle.wire.specs.names.Names.{read_from, from_run, name_at}
use Rattle.wire.specs.rdata.Rdata.{form_in, rdata_in, rdata_at}
use Rattle.wire.specs.message.Layout.{record_read, record_at}
use Rattle.wire.specs.message.Readable.{readable, message_in}
use Rattle.facts.proofs.probe.Corner.{host_name, probe, probe_layout}
use Rattle.facts.specs.tiebreak.Later.{compare_numbers, in_turn, compare_records, insert_by, sort_by, tie}
use Rattle.facts.specs.tiebreak.Lists.{own_list, list_under, theirs}

-- "Its probe, 44 bytes", against the own record that it carries
pub own_echo : tie (theirs host_name (message_in probe probe_layout)) (own_list 1 (10 ∷ (0 ∷ (0 ∷ (7 ∷ [])))) false 0 []) ≡ Equal
unfolding tie sort_by insert_by compare_records in_turn compare_numbers list_under message_in probe probe_layout readable record_at record_read name_at from_run read_from piece_at rdata_at form_in rdata_in same_name
own_echo = refl
