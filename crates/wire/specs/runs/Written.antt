-- A name that is written where it is wanted. Assumes nothing: these are definitions.
use Rattle.std.specs.Prelude.{List, ◌++◌, cond, ℕ, length, drop, leb}
use Rattle.wire.specs.names.Names.{Reading, name, malformed}

-- a buffer with a name over its first bytes; as it was where the name is malformed or longer
abbrev pub with_name : List ℕ → Reading → List ℕ
with_name out (name bs e) = cond (leb (length bs) (length out)) (bs ++ drop (length bs) out) out
with_name out malformed = out
