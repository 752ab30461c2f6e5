-- Rdata with its name expanded into a buffer of zeros, and where its bytes then are. Assumes nothing: these are definitions.
use Rattle.std.specs.Prelude.{ℕ, ◌-◌, List, [], ◌++◌, cond, length, take, drop, replicate}
use Rattle.wire.specs.names.Names.{Reading, name, malformed}
use Rattle.wire.specs.rdata.Rdata.{Rdata, rdata, unfit, form_at, rdata_at}
use Rattle.wire.specs.rdata.Answers.{start_in}
use Rattle.wire.specs.declared.message.RecordAt.{RecordAt}
use Rattle.wire.specs.declared.expansion.Opened.{Opened}

-- bytes, and zeros after them
abbrev pub padded : List ℕ → Opened
padded d = record { len = length d; bytes = d ++ replicate (289 - length d) 0 }

-- rdata with its name expanded
abbrev pub opened_of : Rdata → Opened
opened_of (rdata d) = padded d
opened_of unfit = padded []

-- a name that was read, between some bytes
abbrev pub opened_name : List ℕ → List ℕ → Reading → Opened
opened_name front back (name bs e) = padded (front ++ (bs ++ back))
opened_name front back malformed = padded []

-- only rdata that holds a name is opened; other rdata lies in the packet as it is
abbrev pub opened_at : List ℕ → RecordAt → Opened
opened_at p f = cond (form_at p f).named (opened_of (rdata_at p f)) (padded [])

-- the bytes of rdata: the first `n` of those opened where it holds a name, else the part of the packet
abbrev pub view_of : List ℕ → List ℕ → ℕ → RecordAt → List ℕ
view_of p opened n f = cond (form_at p f).named (take n opened) (take f.rdlength (drop f.rdata p))

-- and where they start in memory
abbrev pub view_start : List ℕ → ℕ × ℕ → List ℕ → ℕ × ℕ → RecordAt → ℕ × ℕ
view_start p place opened opened_place f = cond (form_at p f).named (start_in opened 0 opened_place) (start_in p f.rdata place)
