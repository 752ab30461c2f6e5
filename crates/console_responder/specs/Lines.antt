-- What a line makes of the console's responder and of its out buffers: `start` puts another responder in its place, `recv` calls it over the first bytes of both
-- buffers, `tick`, `stop` and `update` over those of the first, and every other line leaves all. Assumes nothing: these are definitions.
use Rattle.std.specs.Prelude.{ℕ, List, [], ◌++◌, cond, ◌&&◌, length, take, drop, leb}
use Rattle.writer.specs.own_packets.Own.{laid_over}
use Rattle.responder.specs.Handed.{Arrival, Tick}
use Rattle.responder.specs.address.Address.{address_of}
use Rattle.responder.specs.Calls.{start_of, receive_of, received_packet, unicast_packet, tick_of, ticked_packet}
use Rattle.own.specs.changes.Changes.{NewData, new_port, new_txt}
use Rattle.responder.specs.changes.Changes.{stop_of, stopped_packet, Update, update_of, updated_packet}
use Rattle.responder.specs.declared.State.{State}
use Rattle.responder.specs.declared.Answer.{Answer}
use Rattle.responder.specs.declared.Answer.TheVariants.{Refused, Quiet, Sent, Unicast, Both}
use Rattle.responder.specs.declared.Started.{Started}
use Rattle.console_text.specs.fields.Numbers.{number_at, number16_at}
use Rattle.console_text.specs.fields.Forms.{is_word, bytes_in}
use Rattle.console_responder.specs.Forms.{start_word, recv_word, tick_word, stop_word, update_word, setup_told, is_start, is_recv, is_tick, is_port, is_update, lent_by}

-- the responder's state and the out buffers, for what goes to all and for what goes to the asker
pub record Responder : Type 0 where
  pub state : State
  pub out : List ℕ
  pub unicast : List ℕ

abbrev pub having : State → List ℕ → List ℕ → Responder
having s out unicast = record { state = s; out = out; unicast = unicast }

-- before the first start: the state of a start that is refused, as one from an empty line is
unfoldable pub unstarted : State
unstarted = (start_of (setup_told []) 0 0).state

-- an accepted start replaces the responder, a refused one changes nothing
abbrev pub started_or : State → Answer → State → State
started_or s (Refused refusal) begun = s
started_or s Quiet begun = begun
started_or s (Sent n) begun = begun
started_or s (Unicast n) begun = begun
started_or s (Both n m) begun = begun

abbrev pub begun_or : State → Started → State
begun_or s r = started_or s r.answer r.state

unfoldable pub after_start : List ℕ → State → State
after_start line s = cond (is_start line) (begun_or s (start_of (setup_told line) (number_at line 1) (number_at line 2))) s

-- an out buffer where a packet is written over the first `n` bytes of it, which were lent: the others stay
abbrev pub lent_over : ℕ → List ℕ → List ℕ → List ℕ
lent_over n packet out = laid_over packet (take n out) ++ drop n out

-- What a packet received is handed, as a line tells it: a port that is too great for one is 0, which is no 5353 either; a packet has at most 20,000 bytes.
unfoldable pub arrival_told : List ℕ → Arrival
arrival_told line = record {
  time = number_at line 1;
  from = address_of (bytes_in 16 line 2);
  port = number16_at line 3;
  draw = number_at line 4;
  hold = number_at line 5;
  packet = bytes_in 20000 line 6;
  room = lent_by line 7;
  unicastroom = lent_by line 8;
}

-- what a tick is handed
abbrev pub tick_at : ℕ → ℕ → Tick
tick_at time n = record { time = time; room = n }

-- both over the first bytes of the out buffers
abbrev pub received : Responder → Arrival → Responder
received r a = record {
  state = (receive_of r.state a).state;
  out = lent_over a.room (received_packet r.state a) r.out;
  unicast = lent_over a.unicastroom (unicast_packet r.state a) r.unicast;
}

abbrev pub ticked : Responder → ℕ → ℕ → Responder
ticked r time n = record {
  state = (tick_of r.state (tick_at time n)).state;
  out = lent_over n (ticked_packet r.state (tick_at time n)) r.out;
  unicast = r.unicast;
}

abbrev pub stopped : Responder → ℕ → ℕ → Responder
stopped r time n = record {
  state = (stop_of r.state (tick_at time n)).state;
  out = lent_over n (stopped_packet r.state (tick_at time n)) r.out;
  unicast = r.unicast;
}

-- what an update is handed, and the new data that a line tells: TXT has at most 20,000 bytes
abbrev pub update_at : ℕ → ℕ → NewData → Update
update_at time n new = record { time = time; room = n; new = new }

unfoldable pub new_told : List ℕ → NewData
new_told line = cond (is_port line) (new_port (number16_at line 3)) (new_txt (bytes_in 20000 line 3))

abbrev pub updated : Responder → ℕ → ℕ → NewData → Responder
updated r time n new = record {
  state = (update_of r.state (update_at time n new)).state;
  out = lent_over n (updated_packet r.state (update_at time n new)) r.out;
  unicast = r.unicast;
}

-- A line that would lend more than there is changes nothing.
unfoldable pub after_recv : List ℕ → Responder → Responder
after_recv line r =
    cond (is_recv line && (leb (lent_by line 7) (length r.out) && leb (lent_by line 8) (length r.unicast))) (received r (arrival_told line)) r

unfoldable pub after_tick : List ℕ → Responder → Responder
after_tick line r = cond (is_tick line && leb (lent_by line 2) (length r.out)) (ticked r (number_at line 1) (lent_by line 2)) r

unfoldable pub after_stop : List ℕ → Responder → Responder
after_stop line r = cond (is_tick line && leb (lent_by line 2) (length r.out)) (stopped r (number_at line 1) (lent_by line 2)) r

unfoldable pub after_update : List ℕ → Responder → Responder
after_update line r = cond (is_update line && leb (lent_by line 4) (length r.out)) (updated r (number_at line 1) (lent_by line 4) (new_told line)) r

-- the responder after a line, by its first word
unfoldable pub responder_after : List ℕ → Responder → Responder
responder_after line r =
    cond (is_word start_word line) (having (after_start line r.state) r.out r.unicast)
    (cond (is_word recv_word line) (after_recv line r)
    (cond (is_word tick_word line) (after_tick line r)
    (cond (is_word stop_word line) (after_stop line r)
    (cond (is_word update_word line) (after_update line r) r))))
