-- One record of a trace: "one byte of kind, then a body whose length the kind fixes, numbers big-endian". Assumes nothing: these are definitions.
use Rattle.std.specs.Prelude.{ℕ, ◌+◌, List, cond, ◌&&◌, length, leb, eqb, Option, Some, None}
use Rattle.wire.specs.octets.Octets.{byte_at, word16}
use Rattle.trace.specs.records.Numbers.{word64}
use Rattle.trace.specs.declared.records.Kind.{Kind}
use Rattle.trace.specs.declared.records.Kind.TheVariants as kind
use Rattle.trace.specs.declared.records.Record.{Record}
use Rattle.trace.specs.declared.records.Record.TheVariants as is

-- "1 tick .. 2 packet received .. 3 sixteen packet bytes .. 4 claim state", and for what came later 5 a packet's source, 6 a stop, 7 an update of the port, 8
-- an update of TXT
abbrev pub kind_of : ℕ → Option Kind
kind_of b =
    cond (eqb b 1) (Some kind.Tick)
    (cond (eqb b 2) (Some kind.Packet)
    (cond (eqb b 3) (Some kind.Piece)
    (cond (eqb b 4) (Some kind.Claim)
    (cond (eqb b 5) (Some kind.Source)
    (cond (eqb b 6) (Some kind.Stop)
    (cond (eqb b 7) (Some kind.Port)
    (cond (eqb b 8) (Some kind.Txt) None)))))))

-- the size of a record, its byte of kind counted
abbrev pub size_of : Kind → ℕ
size_of kind.Tick = 9
size_of kind.Packet = 14
size_of kind.Piece = 17
size_of kind.Claim = 11
size_of kind.Source = 19
size_of kind.Stop = 9
size_of kind.Port = 11
size_of kind.Txt = 11

-- "1 of claim (0 instance, 1 host), 1 of state (0 waiting, 1 probing, 2 deferred, 3 held, 4 lost)"; others are malformed
abbrev pub claim_of : ℕ → ℕ → ℕ → Option Record
claim_of last claim state = cond (leb claim 1 && leb state 4) (Some (is.Claim last claim state)) None

-- the record of a kind whose first byte stands at `at`
abbrev pub fields_at : List ℕ → ℕ → Kind → Option Record
fields_at p at kind.Tick = Some (is.Tick (word64 p (at + 1)))
fields_at p at kind.Packet = Some (is.Packet (word64 p (at + 1)) (word16 p (at + 9)) (byte_at p (at + 11)) (word16 p (at + 12)))
fields_at p at kind.Piece = Some is.Piece
fields_at p at kind.Claim = claim_of (word64 p (at + 1)) (byte_at p (at + 9)) (byte_at p (at + 10))
fields_at p at kind.Source = Some (is.Source (record { high = word64 p (at + 1); low = word64 p (at + 9) }) (word16 p (at + 17)))
fields_at p at kind.Stop = Some (is.Stop (word64 p (at + 1)))
fields_at p at kind.Port = Some (is.Port (word64 p (at + 1)) (word16 p (at + 9)))
fields_at p at kind.Txt = Some (is.Txt (word64 p (at + 1)) (word16 p (at + 9)))

-- the kind of the record at `at`
abbrev pub kind_at : List ℕ → ℕ → Option Kind
kind_at p at = kind_of (byte_at p at)

-- the size of the record of a kind that was read, 0 where that is unknown
abbrev pub size_by : Option Kind → ℕ
size_by (Some k) = size_of k
size_by None = 0

abbrev pub size_at : List ℕ → ℕ → ℕ
size_at p at = size_by (kind_at p at)

-- a record of a kind, where it is whole
abbrev pub whole_at : List ℕ → ℕ → Option Kind → Option Record
whole_at p at (Some k) = cond (leb (at + size_of k) (length p)) (fields_at p at k) None
whole_at p at None = None

-- the record at `at`: none where its kind is unknown, it is cut short, or a claim or state is out of range
unfoldable pub record_at : List ℕ → ℕ → Option Record
record_at p at = whole_at p at (kind_at p at)
