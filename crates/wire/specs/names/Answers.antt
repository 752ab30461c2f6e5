-- What the functions of this module answer for each reading of a name.
use Rattle.std.specs.Prelude.{ℕ, ◌+◌, ◌-◌, ◌≤◌, ◌≡◌, Bool, true, false, cond, List, ◌++◌, length, replicate, eqb, None, Option, Some}
use Rattle.std.proofs.lemmas.List.Edits.{sets}
use Rattle.wire.specs.case_folding.Fold.{same_name}
use Rattle.wire.specs.labels.Counted.{labels_in, first_in}
use Rattle.wire.specs.names.Names.{Reading, name, malformed, ending, from_run, name_at}
use Rattle.wire.specs.declared.name_pieces.Piece.{Piece}
use Rattle.wire.specs.declared.name_pieces.Piece.TheVariants.{Root, Label, Pointer, Bad}
use Rattle.wire.specs.declared.names.Span.{Span}
use Rattle.wire.specs.declared.names.Expanded.{Expanded}
use Rattle.wire.specs.declared.names.Reach.{Reach}

-- of a name with these bytes that ends at `e`: its end in place, its uncompressed length, how many labels it has, and how long the first is
abbrev pub span_of : List ℕ → ℕ → Span
span_of bs e = record { end = e; len = length bs; labels = labels_in bs; first = first_in bs }

-- where a name that was copied ends in place, and how many bytes then stand in the buffer
abbrev pub reach_of : ℕ → ℕ → Reach
reach_of e n = record { end = e; len = n }

-- the answer for a name of which `used` bytes were copied before
abbrev pub answer_of : ℕ → Reading → Option Reach
answer_of used (name bs e) = Some (reach_of e (used + length bs))
answer_of used malformed = None

-- the bytes of a name stand in the buffer from `used` on; of a malformed name nothing is said
abbrev pub Filled : Reading → ℕ → List ℕ → List ℕ → Type 0
Filled (name bs e) used o o' = o' ≡ sets o used bs
Filled malformed used o o' = Unit {0}

pub record Wrote (x : Reading) (used : ℕ) (o : List ℕ) (r : (Option Reach)) (o' : List ℕ) : Type 0 where
  pub answer : r ≡ answer_of used x
  pub bytes : Filled x used o o'

-- a pointer stands at a place of a name
abbrev pub is_pointer : Piece → Bool
is_pointer Root = false
is_pointer (Label n) = false
is_pointer (Pointer t) = true
is_pointer Bad = false

-- a chain of pointers that begins at `from` leads to `run`, and the name goes on there
pub record Chased (p : List ℕ) (used from run : ℕ) : Type 0 where
  pub back : run ≤ from
  pub same : (e : ℕ) → ending e (from_run p from from used) ≡ ending e (from_run p run run used)

-- what is known, or where that is 0, as it is until something is known, what comes later
abbrev pub or_later : ℕ → ℕ → ℕ
or_later known later = cond (eqb known 0) later known

-- The answer for a name of which `used` bytes and `labels` labels were read before, without its bytes: `end` is past the first pointer that was followed, and
-- 0 where none was; `first` is the length of the first label, and 0 where none was read.
abbrev pub seen_of : ℕ → ℕ → ℕ → ℕ → Reading → Option Span
seen_of used end labels first (name bs e) = Some
    (record { end = or_later end e; len = used + length bs; labels = labels + labels_in bs; first = or_later first (first_in bs) })
seen_of used end labels first malformed = None

-- the answer for a whole name
abbrev pub found_of : Reading → Option Span
found_of (name bs e) = Some (span_of bs e)
found_of malformed = None

-- the whole answer: the bytes of the name and zeros after them, or zeros alone
abbrev pub expanded : Reading → Expanded
expanded (name bs e) = record { name = Some (span_of bs e); bytes = bs ++ replicate (255 - length bs) 0 }
expanded malformed = record { name = None; bytes = replicate 255 0 }

-- a name that was read equals an uncompressed one, ASCII letters folded
abbrev pub same_as : List ℕ → Reading → Bool
same_as q (name bs e) = same_name bs q
same_as q malformed = false

-- the name at an offset equals `q`
unfoldable pub name_is : List ℕ → ℕ → List ℕ → Bool
name_is p at q = same_as q (name_at p at)
