-- The specification's probe of 44 bytes is a probe for its name, also for the device that sent it. Assumes nothing.
use mathlib.Core.Path.{◌≡◌, refl}
use mathlib.Core.List.{List, [], ◌∷◌}
use mathlib.Core.Bool.{true}
use Prim.Native.Nat.{ℕ}
use Rattle.wire.specs.case_folding.Fold.{same_name}
use Rattle.wire.specs.name_pieces.Pieces.{piece_at}
use Rattle.wire.specs.names.Names.{read_from, from_run, name_at}
use Rattle.wire.specs.rdata.Rdata.{form_in, rdata_in, rdata_at}
use Rattle.wire.specs.message.Layout.{question_read, question_at, record_read, record_at}
use Rattle.wire.specs.declared.message.Layout.{Layout}
use Rattle.wire.specs.Lists.{some}
use Rattle.wire.specs.message.Readable.{readable, message_in}
use Rattle.facts.specs.probe.Probe.{is_probe}

-- "Its probe, 44 bytes"
abbrev pub host_name : List ℕ
host_name = 4 ∷ (100 ∷ (111 ∷ (99 ∷ (107 ∷ (5 ∷ (108 ∷ (111 ∷ (99 ∷ (97 ∷ (108 ∷ (0 ∷ [])))))))))))

unfoldable pub probe : List ℕ
probe =
    0 ∷ (0 ∷ (0 ∷ (0 ∷ (0 ∷ (1 ∷ (0 ∷ (0 ∷ (0 ∷ (1 ∷ (0 ∷ (0 ∷ (4 ∷ (100 ∷ (111 ∷ (99 ∷ (107 ∷ (5 ∷ (108 ∷ (111 ∷ (99 ∷ (97 ∷ (108 ∷ (0 ∷
    (0 ∷ (255 ∷ (0 ∷ (1 ∷ (192 ∷ (12 ∷ (0 ∷ (1 ∷ (0 ∷ (1 ∷ (0 ∷ (0 ∷ (0 ∷ (120 ∷ (0 ∷ (4 ∷ (10 ∷ (0 ∷ (0 ∷ (7 ∷ [])))))))))))))))))))))))))))))))))))))))))))

unfoldable pub probe_layout : Layout
probe_layout = record {
  id = 0;
  flags = 0;
  questions = record { at = 12; count = 1 };
  answers = record { at = 28; count = 0 };
  authorities = record { at = 28; count = 1 };
  additionals = record { at = 44; count = 0 };
  end = 44;
}

pub own_probe : is_probe host_name (message_in probe probe_layout) ≡ true
unfolding is_probe message_in probe probe_layout some readable question_at question_read record_at record_read name_at from_run read_from piece_at rdata_at form_in rdata_in same_name
own_probe = refl
