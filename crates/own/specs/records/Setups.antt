-- The rules for a set-up (specification, 'Own records'; RFC 6335, 5.1), in the specification's order. Assumes nothing: these are definitions.
use Rattle.std.specs.Prelude.{ℕ, List, [], ◌∷◌, Bool, true, false, not, cond, ◌&&◌, ◌||◌, length, take, leb, eqb}
use Rattle.std.specs.List.{list_all, list_any}
use Rattle.wire.specs.rdata.Rdata.{strings_fill}
use Rattle.wire.specs.expansion.Equal.{same_bytes}
use Rattle.own.specs.utf8.Utf8.{is_shown}
use Rattle.own.specs.declared.records.Label.{Label}
use Rattle.own.specs.declared.records.Service.{Service}
use Rattle.own.specs.declared.records.Strings.{Strings}
use Rattle.own.specs.declared.records.Setup.{Setup}

-- the fixed strings "_tcp", "_udp" and "local"
abbrev pub tcp : List ℕ
tcp = 95 ∷ 116 ∷ 99 ∷ 112 ∷ []

abbrev pub udp : List ℕ
udp = 95 ∷ 117 ∷ 100 ∷ 112 ∷ []

abbrev pub local : List ℕ
local = 108 ∷ 111 ∷ 99 ∷ 97 ∷ 108 ∷ []

-- the first `len` bytes of an array of `most`, at least `least` of them
abbrev pub held : ℕ → ℕ → ℕ → List ℕ → Bool
held least most len bytes = leb least len && leb len most && eqb (length bytes) most

-- "Instance label and host label 1..63 bytes."
unfoldable pub label_fits : Label → Bool
label_fits l = held 1 63 l.len l.bytes

-- "valid UTF-8 by RFC 3629 (no overlong form, no surrogate, nothing past U+10FFFF) and has no byte 0x00..0x1F or 0x7F"
unfoldable pub instance_fits : Label → Bool
instance_fits l = label_fits l && is_shown (take l.len l.bytes)

-- 'A' to 'Z' and 'a' to 'z'
unfoldable pub is_letter : ℕ → Bool
is_letter b = (leb 65 b && leb b 90) || (leb 97 b && leb b 122)

-- a letter, a hyphen, or '0' to '9'
unfoldable pub is_name_byte : ℕ → Bool
is_name_byte b = is_letter b || (eqb b 45 || (leb 48 b && leb b 57))

-- "letters, digits or hyphens"
unfoldable pub all_name_bytes : List ℕ → Bool
all_name_bytes bs = list_all is_name_byte bs

-- "with a letter"
unfoldable pub some_letter : List ℕ → Bool
some_letter bs = list_any is_letter bs

-- "no hyphen first, last or doubled": none stands where it is barred, at the start and behind a hyphen, and nothing ends there
unfoldable pub hyphens_apart : Bool → List ℕ → Bool
hyphens_apart barred [] = not barred
hyphens_apart barred (b ∷ bs) = cond (eqb b 45) (not barred && hyphens_apart true bs) (hyphens_apart false bs)

-- "The service label is "_" and 1..15 letters, digits or hyphens, with a letter, no hyphen first, last or doubled (RFC 6335)."
unfoldable pub service_rule : List ℕ → Bool
service_rule [] = false
service_rule (b ∷ bs) = eqb b 95 && (all_name_bytes bs && (some_letter bs && hyphens_apart true bs))

unfoldable pub service_fits : Service → Bool
service_fits l = held 2 16 l.len l.bytes && service_rule (take l.len l.bytes)

-- "The next label is exactly "_tcp" or "_udp""
unfoldable pub protocol_fits : List ℕ → Bool
protocol_fits p = same_bytes p tcp || same_bytes p udp

-- "every own name ends in the label "local""
unfoldable pub domain_fits : List ℕ → Bool
domain_fits d = same_bytes d local

-- "TXT is 1..400 bytes of strings that fill it exactly."
unfoldable pub txt_fits : Strings → Bool
txt_fits t = held 1 400 t.len t.bytes && strings_fill 0 (take t.len t.bytes)

-- The set-up keeps the rules: its labels, its TXT, and addresses of 4 and 16 bytes.
unfoldable pub valid_setup : Setup → Bool
valid_setup s =
    instance_fits s.instance
    && (service_fits s.service
    && (protocol_fits s.protocol
    && (label_fits s.host
    && (domain_fits s.domain
    && (txt_fits s.txt
    && (eqb (length s.a) 4 && eqb (length s.aaaa) 16))))))

-- The labels of the own names, with the fixed strings in them.
abbrev pub label_held : Label → List ℕ
label_held l = take l.len l.bytes

abbrev pub service_held : Service → List ℕ
service_held l = take l.len l.bytes

-- one of the two fixed strings
abbrev pub protocol_label : List ℕ → List ℕ
protocol_label p = cond (same_bytes p udp) udp tcp

-- the service's name, the instance's and the host's
unfoldable pub service_labels : Setup → List (List ℕ)
service_labels s = service_held s.service ∷ protocol_label s.protocol ∷ local ∷ []

unfoldable pub instance_labels : Setup → List (List ℕ)
instance_labels s = label_held s.instance ∷ service_labels s

unfoldable pub host_labels : Setup → List (List ℕ)
host_labels s = label_held s.host ∷ local ∷ []
