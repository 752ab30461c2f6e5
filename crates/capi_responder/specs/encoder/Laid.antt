-- What a function that writes says of its buffer. Assumes nothing: these are definitions.
use Rattle.std.specs.Prelude.{ℕ, ◌≡◌, List, length}
use Rattle.std.proofs.lemmas.List.Edits.{sets}

-- `bytes` stand in `out` from `at` on; all other bytes are those of `was`
pub record Laid (was : List ℕ) (at : ℕ) (bytes : List ℕ) (out : List ℕ) : Type 0 where
  pub laid : out ≡ sets was at bytes
  pub long : length out ≡ length was
