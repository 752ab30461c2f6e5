-- What the functions of this module answer.
use Rattle.std.specs.Prelude.{ℕ, ◌+◌, List, [], Bool, true, false, cond, leb, length}
use Rattle.wire.specs.rdata.Rdata.{Rdata, rdata, unfit}

-- rdata is as its type asks
abbrev pub fits : Rdata → Bool
fits (rdata d) = true
fits unfit = false

-- the bytes of rdata; what is not as its type asks has none
abbrev pub data_of : Rdata → List ℕ
data_of (rdata d) = d
data_of unfit = []

-- where a part of a packet starts in memory: a place is a block and an offset in it. A part that would start past the packet's end starts at its end.
abbrev pub start_in : List ℕ → ℕ → ℕ × ℕ → ℕ × ℕ
start_in p at place = (place.0, cond (leb at (length p)) at (length p) + place.1)
