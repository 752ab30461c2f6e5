-- Which records can stand where: what is owed behind each, and the first that cannot stand (specification, 'Traces': "the offset of the first record that is
-- malformed or can't stand where it does, or the end if one is owed there"). Assumes nothing: these are definitions.
use Rattle.std.specs.Prelude.{ℕ, zero, suc, ◌+◌, ◌-◌, ◌≤◌, ◌≡◌, List, Bool, true, false, cond, length, Option, Some, None}
use Rattle.trace.specs.records.Records.{size_at, record_at}
use Rattle.trace.specs.reading.Reading.{is_usual, is_piece}
use Rattle.trace.specs.declared.records.Record.{Record}
use Rattle.trace.specs.declared.records.Record.TheVariants as is

-- what is owed: nothing, the packet behind its source, or pieces of so many bytes
pub data Owed : Type 0 where
  nothing : Owed
  packet : Owed
  bytes : ℕ → Owed

abbrev pub owing : ℕ → Owed
owing zero = nothing
owing (suc n) = bytes (suc n)

abbrev pub is_owed : Owed → Bool
is_owed nothing = false
is_owed packet = true
is_owed (bytes n) = true

-- what is owed behind a record where nothing was; none where it is malformed or cannot stand there
abbrev pub begins : Option Record → Option Owed
begins (Some (is.Tick time)) = Some nothing
begins (Some (is.Packet time port draw len)) = Some (owing len)
begins (Some is.Piece) = None
begins (Some (is.Claim last claim state)) = Some nothing
begins (Some (is.Source from hold)) = cond (is_usual from hold) None (Some packet)
begins (Some (is.Stop time)) = Some nothing
begins (Some (is.Port time port)) = Some nothing
begins (Some (is.Txt time len)) = Some (owing len)
begins None = None

-- behind a source a packet alone
abbrev pub follows : Option Record → Option Owed
follows (Some (is.Packet time port draw len)) = Some (owing len)
follows (Some (is.Tick time)) = None
follows (Some is.Piece) = None
follows (Some (is.Claim last claim state)) = None
follows (Some (is.Source from hold)) = None
follows (Some (is.Stop time)) = None
follows (Some (is.Port time port)) = None
follows (Some (is.Txt time len)) = None
follows None = None

-- what is owed behind the record at an offset, none where it cannot stand there
abbrev pub goes_on : List ℕ → ℕ → Owed → Option Owed
goes_on p at nothing = begins (record_at p at)
goes_on p at packet = follows (record_at p at)
goes_on p at (bytes n) = cond (is_piece p at n) (Some (owing (n - 16))) None

-- the records from an offset to another all stand, with what is owed at both
pub data Goes (p : List ℕ) : Owed → ℕ → Owed → ℕ → Type 0 where
  stay : {owed : Owed} {at : ℕ} → Goes p owed at owed at
  on : {owed next last : Owed} {at to end : ℕ} → goes_on p at owed ≡ Some next → at + size_at p at ≡ to → Goes p next to last end
      → Goes p owed at last end

-- the record at an offset is malformed, cannot stand there, or is missing where one is owed
pub record Stops (p : List ℕ) (owed : Owed) (at : ℕ) : Type 0 where
  pub cannot : goes_on p at owed ≡ None
  pub inside : at ≤ length p
  pub owes : at ≡ length p → is_owed owed ≡ true
