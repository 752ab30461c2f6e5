-- The refusals of a message (specification, 'Refusal numbers'), as a list of tests: of a packet alone, which is what the reader answers (`refusal_is` in
-- proofs/message/Refused.antt), and of a packet with the port that it came from. Assumes nothing: these are definitions.
use Rattle.std.specs.Prelude.{ℕ, List, [], ◌∷◌, Bool, true, false, not, ◌&&◌, ◌||◌, eqb, Result, Ok, Err}
use Rattle.wire.specs.refusals.Numbers.{first_refusal, refused_by}
use Rattle.wire.specs.declared.refusals.Refusal.{Refusal}
use Rattle.wire.specs.declared.refusals.Refusal.TheVariants.{Length, Header, Malformed}
use Rattle.wire.specs.octets.Octets.{word16}
use Rattle.wire.specs.message.Message.{is_response}
use Rattle.wire.specs.message.Layout.{Reads, read, refused, sections_of, wrong_length, wrong_header, message_at}

-- 5: "or source port not 5353", which "is now given only to responses"
abbrev pub wrong_port : ℕ → List ℕ → Bool
wrong_port port p = is_response (word16 p 2) && not (eqb port 5353)

abbrev pub is_refused : Reads → Bool
is_refused (read l m) = false
is_refused (refused n) = true

-- 6: "message .. malformed": a section is cut
abbrev pub is_malformed : List ℕ → Bool
is_malformed p = is_refused (sections_of p)

-- the refusals of a packet
abbrev pub packet_tests : List ℕ → List (Refusal × Bool)
packet_tests p = (Length, wrong_length p) ∷ ((Header, wrong_header p) ∷ ((Malformed, is_malformed p) ∷ []))

-- the refusals of a message from a port
abbrev pub message_tests : ℕ → List ℕ → List (Refusal × Bool)
message_tests port p = (Length, wrong_length p) ∷ ((Header, wrong_header p || wrong_port port p) ∷ ((Malformed, is_malformed p) ∷ []))

unfoldable pub packet_refusal : List ℕ → ℕ
packet_refusal p = first_refusal (packet_tests p)

unfoldable pub message_refusal : ℕ → List ℕ → ℕ
message_refusal port p = first_refusal (message_tests port p)

-- what is read, or a refusal
abbrev pub or_refused : Result (Unit {0}) Refusal → Reads → Reads
or_refused (Ok u) reads = reads
or_refused (Err refusal) reads = refused refusal

-- the message of a packet that came from a port
unfoldable pub message_from : ℕ → List ℕ → Reads
message_from port p = or_refused (refused_by (message_tests port p)) (message_at p)
