-- The refusals of a start, a packet received and a tick (specification, 'Refusal numbers'): "Each call tests those that apply to it in the order 1, 2, 3, 8,
-- 4, 5, 6, 7, 9". Assumes nothing: these are definitions.
use Rattle.std.specs.Prelude.{ℕ, Bool, not, ◌||◌, List, [], ◌∷◌, ◌++◌}
use Rattle.wire.specs.refusals.Numbers.{first_refusal, refused_by}
use Rattle.wire.specs.declared.refusals.Refusal.{Refusal}
use Rattle.wire.specs.declared.refusals.Refusal.TheVariants as cause
use Rattle.wire.specs.message.Layout.{Reads, message_at}
use Rattle.wire.specs.message.Refusals.{message_tests, or_refused}
use Rattle.own.specs.declared.records.Setup.{Setup}
use Rattle.own.specs.records.Setups.{valid_setup}
pub use Rattle.writer.specs.own_packets.Own.{small_buffer}
use Rattle.claims.specs.Refusals.{late_start, wrong_time, wrong_start_draw, wrong_draws}
use Rattle.responder.specs.Handed.{Arrival, Tick}
use Rattle.responder.specs.declared.State.{State}

-- 7: "names or data, in a setup or a state handed in, break the rules below, or a kept start draw is above 250"
unfoldable pub wrong_state : State → Bool
wrong_state s = not (valid_setup s.setup) || wrong_start_draw s.progress.draw

-- 3 of a packet received: either buffer is too small
abbrev pub small_buffers : Arrival → Bool
small_buffers a = small_buffer a.room || small_buffer a.unicastroom

-- the refusals of a start, of a packet received and of a tick, each in its order
abbrev pub start_tests : Setup → ℕ → ℕ → List (Refusal × Bool)
start_tests setup time draw = (cause.Time, late_start time) ∷ ((cause.Draw, wrong_start_draw draw) ∷ ((cause.Setup, not (valid_setup setup)) ∷ []))

abbrev pub receive_tests : State → Arrival → List (Refusal × Bool)
receive_tests s a =
    (cause.Time, wrong_time s.progress a.time) ∷ ((cause.Draw, wrong_draws a.draw a.hold) ∷ ((cause.Buffer, small_buffers a) ∷
    (message_tests a.port a.packet ++ ((cause.Setup, wrong_state s) ∷ []))))

abbrev pub tick_tests : State → Tick → List (Refusal × Bool)
tick_tests s t = (cause.Time, wrong_time s.progress t.time) ∷ ((cause.Buffer, small_buffer t.room) ∷ ((cause.Setup, wrong_state s) ∷ []))

-- the number of each call's refusal, 0 where it is not refused
unfoldable pub start_refusal : Setup → ℕ → ℕ → ℕ
start_refusal setup time draw = first_refusal (start_tests setup time draw)

unfoldable pub receive_refusal : State → Arrival → ℕ
receive_refusal s a = first_refusal (receive_tests s a)

unfoldable pub tick_refusal : State → Tick → ℕ
tick_refusal s t = first_refusal (tick_tests s t)

-- the message of a packet received, or the call's refusal
unfoldable pub admitted : State → Arrival → Reads
admitted s a = or_refused (refused_by (receive_tests s a)) (message_at a.packet)
