-- The words of the calls on traces, `trace` and `record`. Assumes nothing: these are definitions.
use Rattle.std.specs.Prelude.{ℕ, List, [], ◌∷◌, Bool, ◌||◌}
use Rattle.wire.specs.expansion.Equal.{same_bytes}

abbrev pub trace_word : List ℕ
trace_word = 116 ∷ (114 ∷ (97 ∷ (99 ∷ (101 ∷ []))))

abbrev pub record_word : List ℕ
record_word = 114 ∷ (101 ∷ (99 ∷ (111 ∷ (114 ∷ (100 ∷ [])))))

-- a word is one of these calls
unfoldable pub is_trace_call : List ℕ → Bool
is_trace_call word = same_bytes word trace_word || same_bytes word record_word
