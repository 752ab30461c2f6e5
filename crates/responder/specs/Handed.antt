-- What a call is handed, the state apart (specification, 'Refusal numbers'). Assumes nothing: these are definitions.
use Rattle.std.specs.Prelude.{ℕ, List}
use Rattle.claims.specs.declared.holds.Address.{Address}
use Rattle.claims.specs.declared.answers.Coming.{Coming}

-- a packet received: the time, the address and port that it came from, the draws for a PTR reply and for a hold, its bytes, and the lengths of the out
-- buffers: for what goes to all, and for what goes to its sender
pub record Arrival : Type 0 where
  pub time : ℕ
  pub from : Address
  pub port : ℕ
  pub draw : ℕ
  pub hold : ℕ
  pub packet : List ℕ
  pub room : ℕ
  pub unicastroom : ℕ

-- what the claims' rules are told of it, beside what the message says
abbrev pub coming_of : Arrival → Coming
coming_of a = record { now = a.time; from = a.from; draw = a.draw; hold = a.hold }

-- a tick, and a stop: the time, and the length of the out buffer
pub record Tick : Type 0 where
  pub time : ℕ
  pub room : ℕ
