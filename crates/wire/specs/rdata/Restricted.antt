-- An NSEC record of the restricted kind as it lies (RFC 6762, 6.1): "The Next Domain Name field contains the record's own name. .. The Type Bit Map block
-- number is 0. .. The Type Bit Map block length byte is a value in the range 1-32. The Type Bit Map data is 1-32 bytes, as indicated by length byte."
-- Assumes nothing: these are definitions.
use Rattle.std.specs.Prelude.{ℕ, ◌+◌, ◌-◌, ◌≤◌, ◌≡◌, List, true, false, length, take, drop}
use Rattle.wire.specs.octets.Octets.{byte_at}
use Rattle.wire.specs.names.Names.{name, name_at}
use Rattle.wire.specs.names.Answers.{name_is}
use Rattle.wire.specs.nsec.Nsec.{names}
use Rattle.wire.specs.declared.message.RecordAt.{RecordAt}

-- the fields of a window block
pub record Block (b : List ℕ) : Type 0 where
  pub number : byte_at b 0 ≡ 0
  pub some : 1 ≤ byte_at b 1
  pub most : byte_at b 1 ≤ 32
  pub filled : length b ≡ byte_at b 1 + 2
  pub clear : names 47 b ≡ false

-- the fields of the rdata: the next name, which ends at `end` and is the owner's, letters folded; and behind it, to the rdata's end, a window block
pub record Restricted (p : List ℕ) (f : RecordAt) : Type 0 where
  pub next : List ℕ
  pub end : ℕ
  pub reads : name_at p f.rdata ≡ name next end
  pub own : name_is p f.owner next ≡ true
  pub block : Block (drop (end - f.rdata) (take f.rdlength (drop f.rdata p)))
