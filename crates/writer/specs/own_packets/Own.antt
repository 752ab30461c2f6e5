-- The packets of own records (specification, 'Writing a packet'): a response of any of them, a claim's probe, and a reply to a plain resolver. Assumes nothing: these are definitions.
use Rattle.std.specs.Prelude.{ℕ, List, [], ◌∷◌, ◌++◌, Bool, cond, not, ◌&&◌, length, drop, ltb, eqb, Option, Some, None, Result, Ok, Err}
use Rattle.claims.specs.records.Own.{all, first_of, claimed, has}
use Rattle.claims.specs.records.Sets.{picked, with_data}
use Rattle.claims.specs.declared.records.Claim.{Claim}
use Rattle.claims.specs.declared.records.Own.{Own}
use Rattle.claims.specs.declared.records.Set.{Set}
use Rattle.wire.specs.refusals.Numbers.{number_in, refused_by, first_refusal}
use Rattle.wire.specs.declared.refusals.Refusal.{Refusal}
use Rattle.wire.specs.declared.refusals.Refusal.TheVariants as cause
use Rattle.wire.specs.names.Names.{is_name}
use Rattle.wire.specs.message.Message.{Question, Message}
use Rattle.own.specs.declared.records.Setup.{Setup}
use Rattle.own.specs.records.Setups.{valid_setup}
use Rattle.own.specs.records.Records.{has_record, own_name}
use Rattle.writer.specs.declared.own_packets.Style.{Style}
use Rattle.writer.specs.own_packets.Styles.{response_style, probe_style, plain_style, styled_message, packet_in}

-- "Records in responses go in the order PTR, SRV, TXT, A, AAAA": those that are chosen and that the set-up has
unfoldable pub response_records : Setup → Set → List Own
response_records s chosen = picked (λ o. has o chosen && has_record s o) all

-- "the claim's records in Authority, by rising type"
unfoldable pub probe_records : Setup → Claim → List Own
probe_records s claim = picked (has_record s) (claimed claim)

-- those of a plain reply: the chosen ones in the same order, and never an NSEC
unfoldable pub plain_records : Setup → Set → List Own
plain_records s chosen = response_records s (with_data chosen)

-- a response has an ID and the chosen records, a probe asks for the claim's name, and a plain reply repeats the ID and the question of its query
unfoldable pub response_of : Setup → ℕ → Set → Message
response_of s id chosen = styled_message s (response_style id) [] (response_records s chosen)

unfoldable pub probe_of : Setup → Claim → Message
probe_of s claim = styled_message s probe_style (own_name s (first_of claim)) (probe_records s claim)

unfoldable pub plain_reply_of : Setup → Set → ℕ → Question → Message
plain_reply_of s chosen id q = styled_message s (plain_style id q.rtype q.class) q.name (plain_records s chosen)

-- the packet, or none where there is no record to send
abbrev pub none_if_empty : List Own → List ℕ → List ℕ
none_if_empty [] packet = []
none_if_empty (o ∷ os) packet = packet

-- in any style
abbrev pub chosen_packet : Setup → Style → Set → List ℕ
chosen_packet s style chosen = none_if_empty (response_records s chosen) (packet_in s style [] (response_records s chosen))

unfoldable pub response_packet : Setup → ℕ → Set → List ℕ
response_packet s id chosen = chosen_packet s (response_style id) chosen

unfoldable pub probe_packet : Setup → Claim → List ℕ
probe_packet s claim = packet_in s probe_style (own_name s (first_of claim)) (probe_records s claim)

-- to a question for what is no name there is none
unfoldable pub plain_packet : Setup → Set → ℕ → Question → List ℕ
plain_packet s chosen id q =
    cond (is_name q.name)
    (none_if_empty (plain_records s chosen) (packet_in s (plain_style id q.rtype q.class) q.name (plain_records s chosen)))
    []

-- 3: "out buffer under 1,452 bytes"
abbrev pub small_buffer : ℕ → Bool
small_buffer room = ltb room 1452

-- 3, then 7: "names or data, in a setup .. break the rules"
abbrev pub write_tests : Setup → ℕ → List (Refusal × Bool)
write_tests s room = (cause.Buffer, small_buffer room) ∷ ((cause.Setup, not (valid_setup s)) ∷ [])

unfoldable pub refusal : Setup → List ℕ → ℕ
refusal s out = first_refusal (write_tests s (length out))

-- what is written: nothing where it is refused
abbrev pub unless_refused : ℕ → List ℕ → List ℕ
unless_refused refusal packet = cond (eqb refusal 0) packet []

-- the answer: the refusal, or the packet's length, if one is sent
abbrev pub sent_of : List ℕ → Option ℕ
sent_of [] = None
sent_of (b ∷ bs) = Some (length (b ∷ bs))

abbrev pub written_of : Result (Unit {0}) Refusal → List ℕ → Result (Option ℕ) Refusal
written_of (Ok u) packet = Ok (sent_of packet)
written_of (Err refusal) packet = Err refusal

-- of a call that writes into a buffer
abbrev pub answer_to : Setup → List ℕ → List ℕ → Result (Option ℕ) Refusal
answer_to s out packet = written_of (refused_by (write_tests s (length out))) packet

-- "Out bytes beyond a written packet are also kept."
abbrev pub laid_over : List ℕ → List ℕ → List ℕ
laid_over packet out = packet ++ drop (length packet) out

-- The specification's values for each answer: the number of the refusal, 0 for none, and the length of what was written
abbrev pub refusal_of : Result (Option ℕ) Refusal → ℕ
refusal_of answer = number_in answer

abbrev pub length_of : Result (Option ℕ) Refusal → ℕ
length_of (Ok (Some n)) = n
length_of (Ok None) = 0
length_of (Err refusal) = 0
