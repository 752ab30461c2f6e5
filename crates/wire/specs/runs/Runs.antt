-- The runs of labels that a name is read from. Assumes nothing: these are definitions.
use Rattle.wire.specs.declared.names.Span.{Span}
use Rattle.std.specs.Prelude.{ℕ, ◌+◌, ◌≡◌, List, ◌++◌, true, cond, take, drop, eqb, None, Option, Some}
use Rattle.wire.specs.message.Layout.{bytes_of}
use Rattle.wire.specs.names.Names.{Reading}
use Rattle.wire.specs.declared.runs.Runs.{Runs}

-- where the first run begins that is not empty: at `start` where `front`, the bytes of one before, are none
abbrev pub from_of : ℕ → ℕ → ℕ → ℕ
from_of front from start = cond (eqb front 0) start from

-- the span of a name that was read
abbrev pub span_in : (Option Runs) → Option Span
span_in (Some w) = Some w.span
span_in None = None

-- the bytes of the two runs
abbrev pub in_runs : List ℕ → Runs → List ℕ
in_runs p w = take w.front (drop w.from p) ++ take w.rest (drop w.start p)

-- they are the name where it is said so, and are then as long
abbrev pub Lies : List ℕ → Reading → (Option Runs) → Type 0
Lies p x (Some w) = w.whole ≡ true → (w.front + w.rest ≡ w.span.len) × (bytes_of x ≡ in_runs p w)
Lies p x None = Unit {0}
