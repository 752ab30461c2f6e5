-- A record that is read as the sixth type, by evaluation: `a` has an address and nothing else, its next name cut to a pointer; and one of another window that is
-- not. Assumes nothing.
use mathlib.Core.Path.{◌≡◌, refl}
use mathlib.Core.List.{List, [], ◌∷◌, ◌++◌}
use mathlib.Core.Bool.{true, false}
use Prim.Native.Nat.{ℕ}
use Rattle.wire.specs.case_folding.Fold.{same_name}
use Rattle.wire.specs.name_pieces.Pieces.{piece_at}
use Rattle.wire.specs.names.Names.{read_from, from_run, name_at}
use Rattle.wire.specs.names.Answers.{name_is}
use Rattle.wire.specs.nsec.Nsec.{names, is_block}
use Rattle.wire.specs.rdata.Rdata.{rdata, form_in, form_at, rdata_in, rdata_at}
use Rattle.wire.specs.rdata.Restricted.{Restricted}
use Rattle.wire.specs.declared.message.RecordAt.{RecordAt}
use Rattle.wire.proofs.rdata.Restricted.{sixth}

-- twelve bytes of header, the owner `A`, and ten bytes before the rdata
abbrev front : List ℕ
front =
    0 ∷ (0 ∷ (132 ∷ (0 ∷ (0 ∷ (0 ∷ (0 ∷ (1 ∷ (0 ∷ (0 ∷ (0 ∷ (0
    ∷ (1 ∷ (65 ∷ (0
    ∷ (0 ∷ (47 ∷ (128 ∷ (1 ∷ (0 ∷ (0 ∷ (0 ∷ (120 ∷ (0 ∷ (5 ∷ []))))))))))))))))))))))))

abbrev packet : ℕ → List ℕ
packet window = front ++ (192 ∷ (12 ∷ (window ∷ (1 ∷ (64 ∷ [])))))

abbrev lying : RecordAt
lying = record {
  owner = 12;
  span = record { end = 15; len = 3; labels = 1; first = 1 };
  rtype = 47;
  class = 32769;
  ttl = 120;
  rdata = 25;
  rdlength = 5;
  next = 30;
}

read_so : ((form_at (packet 0) lying).named ≡ true) × (rdata_at (packet 0) lying ≡ rdata (1 ∷ (65 ∷ (0 ∷ (0 ∷ (1 ∷ (64 ∷ []))))))) × (names 1 (0 ∷ (1 ∷ (64 ∷ []))) ≡ true)
    × (names 28 (0 ∷ (1 ∷ (64 ∷ []))) ≡ false)
unfolding form_in rdata_in rdata_at name_at from_run read_from piece_at name_is same_name is_block names
read_so = (refl, refl, refl, refl)

pub is-restricted : Restricted (packet 0) lying
is-restricted = sixth (packet 0) lying refl read_so.0

pub stepped_over : ((form_at (packet 1) lying).named ≡ false) × (rdata_at (packet 1) lying ≡ rdata (192 ∷ (12 ∷ (1 ∷ (1 ∷ (64 ∷ []))))))
unfolding form_in rdata_in rdata_at name_at from_run read_from piece_at name_is same_name is_block names
stepped_over = (refl, refl)
