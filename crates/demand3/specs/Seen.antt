-- What a caller sees of a call, as an answer of the record `responder` (crates/uniqueness/specs/Responder.antt): with these the contracts of functions say
-- that they are the responder of demand 3. Assumes nothing: these are definitions.
use Rattle.std.specs.Prelude.{◌≡◌, cond, List, ◌++◌, ℕ, take, drop, eqb}
use Rattle.std.proofs.Math.Option.{Option, none, some}
use Rattle.responder.specs.Handed.{Arrival}
use Rattle.responder.specs.declared.State.{State}
use Rattle.link.specs.Responder as link
use Rattle.link.specs.Responder.{Parcel, everyone}
use Rattle.link.specs.Entries.{returned}
use Rattle.uniqueness.specs.Responder.{sends, back_to, responder}

-- a start whose refusal has the number `refusal`, 0 for none, and that leaves the state x
abbrev pub begun_as : ℕ → State → Option State
begun_as refusal x = cond (eqb refusal 0) (some x) none

-- A call of the state x whose refusal has the number `refusal`, 0 for none, that leaves the state y and sends ps.
pub record Answers (answer : link.Answer State) (x : State) (refusal : ℕ) (y : State) (ps : List Parcel) : Type 0 where
  -- the state and what is sent are the answer's, and where the call is refused the answer is too
  pub seen : answer ≡ cond (eqb refusal 0) (link.accepted y ps) link.refused
  -- what the responder's next call is given, also after a refusal
  pub next : returned responder x answer ≡ y

-- A tick, a stop or an update: it makes `out` into out', of which the first `length` bytes are its packet, which goes to all.
pub record Calls (answer : link.Answer State) (x : State) (out : List ℕ) (refusal length : ℕ) (y : State) (out' : List ℕ) : Type 0 where
  pub answers : Answers answer x refusal y (sends everyone (take length out'))
  -- "Out bytes beyond a written packet are also kept."
  pub kept : drop length out' ≡ drop length out

-- A packet received: it also makes `back` into back', of which the first `replied` bytes are a packet that goes to where that packet came from.
pub record Receives (answer : link.Answer State) (x : State) (a : Arrival) (out back : List ℕ) (refusal length replied : ℕ) (y : State) (out' back' : List ℕ)
    : Type 0 where
  pub answers : Answers answer x refusal y (sends everyone (take length out') ++ sends (back_to a) (take replied back'))
  pub kept : drop length out' ≡ drop length out
  pub kept_back : drop replied back' ≡ drop replied back
