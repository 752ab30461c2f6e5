-- The forms of the calls on the responder, and what their lines tell: `start NOW DRAW INSTANCE SERVICE PROTOCOL HOST DOMAIN PORT TXT A AAAA`,
-- `recv NOW FROM PORT DRAW HOLD PACKET` and `tick NOW`, both with OUT or without, and behind it `recv` with UNICAST or without. Assumes nothing: these are
-- definitions.
use Rattle.std.specs.Prelude.{ℕ, List, [], ◌∷◌, Bool, true, cond, not, ◌&&◌, ◌||◌, length, replicate, ltb, leb, eqb}
use Rattle.std.proofs.lemmas.List.Edits.{sets}
use Rattle.wire.specs.expansion.Equal.{same_bytes}
use Rattle.own.specs.declared.records.Label.{Label}
use Rattle.own.specs.declared.records.Service.{Service}
use Rattle.own.specs.declared.records.Strings.{Strings}
use Rattle.own.specs.declared.records.Setup.{Setup}
use Rattle.console_text.specs.hex.Bytes.{bytes_of, is_bytes}
use Rattle.console_text.specs.fields.Numbers.{field_at, is_number_at, number_at, number16_at}
use Rattle.console_text.specs.fields.Forms.{arguments_of, has_arguments, are_bytes_at}

-- the words `start`, `recv`, `tick`, `stop`, `update`, `claims`, `holds`, `out` and `unicast`, and those of an update, `port` and `txt`
abbrev pub start_word : List ℕ
start_word = 115 ∷ (116 ∷ (97 ∷ (114 ∷ (116 ∷ []))))

abbrev pub recv_word : List ℕ
recv_word = 114 ∷ (101 ∷ (99 ∷ (118 ∷ [])))

abbrev pub tick_word : List ℕ
tick_word = 116 ∷ (105 ∷ (99 ∷ (107 ∷ [])))

abbrev pub stop_word : List ℕ
stop_word = 115 ∷ (116 ∷ (111 ∷ (112 ∷ [])))

abbrev pub update_word : List ℕ
update_word = 117 ∷ (112 ∷ (100 ∷ (97 ∷ (116 ∷ (101 ∷ [])))))

abbrev pub port_word : List ℕ
port_word = 112 ∷ (111 ∷ (114 ∷ (116 ∷ [])))

abbrev pub txt_word : List ℕ
txt_word = 116 ∷ (120 ∷ (116 ∷ []))

abbrev pub claims_word : List ℕ
claims_word = 99 ∷ (108 ∷ (97 ∷ (105 ∷ (109 ∷ (115 ∷ [])))))

abbrev pub holds_word : List ℕ
holds_word = 104 ∷ (111 ∷ (108 ∷ (100 ∷ (115 ∷ []))))

abbrev pub out_word : List ℕ
out_word = 111 ∷ (117 ∷ (116 ∷ []))

abbrev pub unicast_word : List ℕ
unicast_word = 117 ∷ (110 ∷ (105 ∷ (99 ∷ (97 ∷ (115 ∷ (116 ∷ []))))))

-- a word is one of these calls
unfoldable pub is_responder_call : List ℕ → Bool
is_responder_call word =
    same_bytes word start_word || (same_bytes word recv_word || (same_bytes word tick_word || (same_bytes word stop_word || (same_bytes word update_word
    || (same_bytes word claims_word || (same_bytes word holds_word || (same_bytes word out_word || same_bytes word unicast_word)))))))

-- ---- a set-up

-- a buffer of zeros with a field's bytes over its start, as many as fit
abbrev pub filled_with : ℕ → List ℕ → List ℕ
filled_with room field = sets (replicate room 0) 0 (bytes_of field)

-- a label or strings: what is too long keeps its whole length, so that the responder refuses it
unfoldable pub label_told : List ℕ → Label
label_told field = record { bytes = filled_with 63 field; len = length (bytes_of field) }

unfoldable pub service_told : List ℕ → Service
service_told field = record { bytes = filled_with 16 field; len = length (bytes_of field) }

unfoldable pub strings_told : List ℕ → Strings
strings_told field = record { bytes = filled_with 400 field; len = length (bytes_of field) }

-- a label that has one length: zeros, which are no such label, where the field has another
unfoldable pub exactly : ℕ → List ℕ → List ℕ
exactly n field = cond (eqb (length (bytes_of field)) n) (filled_with n field) (replicate n 0)

unfoldable pub setup_told : List ℕ → Setup
setup_told line = record {
  instance = label_told (field_at line 3);
  service = service_told (field_at line 4);
  protocol = exactly 4 (field_at line 5);
  host = label_told (field_at line 6);
  domain = exactly 5 (field_at line 7);
  port = number16_at line 8;
  txt = strings_told (field_at line 9);
  a = filled_with 4 (field_at line 10);
  hasaaaa = eqb (length (bytes_of (field_at line 11))) 16;
  aaaa = filled_with 16 (field_at line 11);
}

-- ---- the form of each call

-- a field is bytes, so many of them
unfoldable pub is_bytes_of : List ℕ → ℕ → Bool
is_bytes_of field n = is_bytes field && eqb (length (bytes_of field)) n

-- an IPv6 address, or none
unfoldable pub is_aaaa : List ℕ → Bool
is_aaaa field = is_bytes_of field 16 || is_bytes_of field 0

-- the fields that hold labels and strings are bytes
unfoldable pub are_names : List ℕ → Bool
are_names line =
    are_bytes_at line 3 && (are_bytes_at line 4 && (are_bytes_at line 5 && (are_bytes_at line 6 && (are_bytes_at line 7 && are_bytes_at line 9))))

unfoldable pub is_start : List ℕ → Bool
is_start line =
    has_arguments line 11 && (is_number_at line 1 && (is_number_at line 2 && (are_names line && (is_number_at line 8 && (not (ltb 65535 (number_at line 8))
    && (is_bytes_of (field_at line 10) 4 && is_aaaa (field_at line 11)))))))

-- a field at the end of a line, which may be missing, is a number
unfoldable pub is_number_or_missing : List ℕ → ℕ → Bool
is_number_or_missing line index = cond (ltb (arguments_of line) index) true (is_number_at line index)

-- the address of a sender
unfoldable pub is_address : List ℕ → Bool
is_address field = is_bytes_of field 4 || is_bytes_of field 16

-- the time, the port and the two draws are numbers
unfoldable pub are_numbers : List ℕ → Bool
are_numbers line = is_number_at line 1 && (is_number_at line 3 && (is_number_at line 4 && is_number_at line 5))

unfoldable pub is_recv : List ℕ → Bool
is_recv line =
    not (ltb (arguments_of line) 6) && (not (ltb 8 (arguments_of line)) && (are_numbers line && (is_address (field_at line 2)
    && (are_bytes_at line 6 && (is_number_or_missing line 7 && is_number_or_missing line 8)))))

unfoldable pub is_tick : List ℕ → Bool
is_tick line = not (ltb (arguments_of line) 1) && (not (ltb 2 (arguments_of line)) && (is_number_at line 1 && is_number_or_missing line 2))

-- `update NOW port PORT` or `update NOW txt TXT`, each with OUT or without: the word says what is new
unfoldable pub is_port : List ℕ → Bool
is_port line = same_bytes (field_at line 2) port_word

unfoldable pub is_data : List ℕ → Bool
is_data line = cond (is_port line) (is_number_at line 3 && leb (number_at line 3) 65535) (same_bytes (field_at line 2) txt_word && are_bytes_at line 3)

unfoldable pub is_update : List ℕ → Bool
is_update line =
    not (ltb (arguments_of line) 3) && (not (ltb 4 (arguments_of line)) && (is_number_at line 1 && (is_data line && is_number_or_missing line 4)))

-- how many bytes of an out buffer a line lends: 1,452 where it does not say
unfoldable pub lent_by : List ℕ → ℕ → ℕ
lent_by line index = cond (ltb (arguments_of line) index) 1452 (number_at line index)
