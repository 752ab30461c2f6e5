-- What writing an event into a buffer answers, and what the buffer holds then. Assumes nothing: these are definitions.
use Rattle.std.specs.Prelude.{ℕ, ◌+◌, List, cond, length, leb, Result, Ok, Err}
use Rattle.std.proofs.lemmas.List.Edits.{sets}
use Rattle.trace.specs.reading.Events.{occurrence}
use Rattle.trace.specs.writing.Bytes.{bytes_of}
use Rattle.trace.specs.writing.Sizes.{size_for}
use Rattle.trace.specs.declared.reading.Event.{Event}
use Rattle.trace.specs.declared.writing.Unfit.{Unfit}
use Rattle.trace.specs.declared.writing.Unwritten.{Unwritten}
use Rattle.trace.specs.declared.writing.Unwritten.TheVariants as unwritten

-- "A buffer too small for all that is written is then refused as 3": after 12, where the offset lies in the buffer
abbrev pub written_at : ℕ → ℕ → Result ℕ Unfit → Result ℕ Unwritten
written_at room at (Err u) = cond (leb at room) (Err (unwritten.Unfit (at + u.behind))) (Err unwritten.NoRoom)
written_at room at (Ok n) = cond (leb (at + n) room) (Ok (at + n)) (Err unwritten.NoRoom)

unfoldable pub written_to : List ℕ → ℕ → Event → List ℕ → Result ℕ Unwritten
written_to out at e bytes = written_at (length out) at (size_for e (length bytes))

-- "Nothing is written on a refusal."
abbrev pub laid_by : List ℕ → ℕ → List ℕ → Result ℕ Unwritten → List ℕ
laid_by out at bytes (Ok next) = sets out at bytes
laid_by out at bytes (Err e) = out

abbrev pub out_after : List ℕ → ℕ → Event → List ℕ → List ℕ
out_after out at e bytes = laid_by out at (bytes_of (occurrence e bytes)) (written_to out at e bytes)

-- the number of each answer
abbrev pub number_of : Result ℕ Unwritten → ℕ
number_of (Ok next) = 0
number_of (Err (unwritten.Unfit at)) = 12
number_of (Err unwritten.NoRoom) = 3
