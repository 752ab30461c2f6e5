use Rattle.std.proofs.Common.{◌-◌, ◌≡◌, length}
use Rattle.browser.specs.list.Listing.{is_listed, first_of, listed_from}
use Rattle.browser.proofs.list.list.Given as goal

-- the lowest listed slot is among those from i on
abbrev pub invariant-loop-i : goal.invariant-loop-i
invariant-loop-i l =
    listed_from l.time l.store l.b l.table l.fn.from ≡ first_of (is_listed l.time l.store l.b l.table) l.i (length l.table - l.i)
