-- The forms of the calls on the browser: `browse NOW DRAW REFRESH SERVICE PROTOCOL DOMAIN`; `ask NOW`, with OUT or without, has that of `tick`, and `list NOW`
-- changes nothing. Assumes nothing: these are definitions.
use Rattle.std.specs.Prelude.{ℕ, List, [], ◌∷◌, Bool, ◌&&◌, ◌||◌}
use Rattle.wire.specs.expansion.Equal.{same_bytes}
use Rattle.console_text.specs.fields.Numbers.{is_number_at}
use Rattle.console_text.specs.fields.Forms.{has_arguments, are_bytes_at}

-- the words `browse`, `ask` and `list`
abbrev pub browse_word : List ℕ
browse_word = 98 ∷ (114 ∷ (111 ∷ (119 ∷ (115 ∷ (101 ∷ [])))))

abbrev pub ask_word : List ℕ
ask_word = 97 ∷ (115 ∷ (107 ∷ []))

abbrev pub list_word : List ℕ
list_word = 108 ∷ (105 ∷ (115 ∷ (116 ∷ [])))

-- a word is one of these calls
unfoldable pub is_browser_call : List ℕ → Bool
is_browser_call word = same_bytes word browse_word || (same_bytes word ask_word || same_bytes word list_word)

unfoldable pub is_browse : List ℕ → Bool
is_browse line =
    has_arguments line 6 && (is_number_at line 1 && (is_number_at line 2 && (is_number_at line 3 && (are_bytes_at line 4 && (are_bytes_at line 5 && are_bytes_at line 6)))))
