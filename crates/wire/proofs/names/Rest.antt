-- Pieces enough: `fromRun` reads one piece and goes on as itself, whatever bound on the pieces its definition has.
-- The number that falls with each piece is the start of the run and what is left of the 255 bytes. Assumes nothing.
use mathlib.Core.Path.{◌≡◌, refl, ap, ◌∙◌}
use mathlib.Core.List.{List}
use Prim.Native.Nat.{ℕ, zero, suc, ◌+◌, ◌-◌, ◌<◌}
use native.Mathlib.Omega.{arith}
use lib.ListN.{take, drop}
use Rattle.wire.specs.name_pieces.Pieces.{piece_at}
use Rattle.wire.specs.names.Names.{Reading, before, ending, read_piece, read_from, from_run}
use Rattle.wire.specs.declared.name_pieces.Piece.{Piece}
use Rattle.wire.specs.declared.name_pieces.Piece.TheVariants.{Root, Label, Pointer, Bad}
use Rattle.wire.proofs.name_pieces.Pieces.{label-room, pointer_back}

-- the reading of a piece asks for what follows only below the number
step-agree : (r s : ℕ → ℕ → ℕ → Reading) (p : List ℕ) (start at used : ℕ) (x : Piece) → piece_at p start at used ≡ x
    → ((a b u : ℕ) → a + (255 - u) < start + (255 - used) → r a b u ≡ s a b u)
    → read_piece r p start at used x ≡ read_piece s p start at used x
step-agree r s p start at used Root e same = refl
step-agree r s p start at used (Label n) e same =
    ap (before (take (n + 1) (drop at p))) (same start (at + 1 + n) (used + 1 + n) (omega (arith, label-room p start at used n e)))
step-agree r s p start at used (Pointer t) e same = ap (ending (at + 2)) (same t t used (omega (arith, pointer_back p start at used t e)))
step-agree r s p start at used Bad e same = refl

-- any two bounds that are above the number give the same reading
agree : (f g : ℕ) (p : List ℕ) (start at used : ℕ) → start + (255 - used) < f → start + (255 - used) < g
    → read_from f p start at used ≡ read_from g p start at used
unfolding read_from
agree zero g p start at used h k = absurd (omega arith)
agree (suc f) zero p start at used h k = absurd (omega arith)
agree (suc f) (suc g) p start at used h k =
    step-agree (read_from f p) (read_from g p) p start at used (piece_at p start at used) refl
    (λ a b u lt. agree f g p a b u (omega arith) (omega arith))

pub unroll : (p : List ℕ) (start at used : ℕ)
    → from_run p start at used ≡ read_piece (from_run p) p start at used (piece_at p start at used)
unfolding from_run read_from
unroll p start at used =
    agree (start + 256) (suc (start + 256)) p start at used (omega arith) (omega arith)
    ∙ step-agree (read_from (start + 256) p) (from_run p) p start at used (piece_at p start at used) refl
    (λ a b u lt. agree (start + 256) (a + 256) p a b u (omega arith) (omega arith))

-- the reading where a piece is known
pub read_at : (p : List ℕ) (start at used : ℕ) (x : Piece) → piece_at p start at used ≡ x → from_run p start at used ≡ read_piece (from_run p) p start at used x
read_at p start at used x e = unroll p start at used ∙ ap (read_piece (from_run p) p start at used) e
