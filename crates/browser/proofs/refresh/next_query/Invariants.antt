use Rattle.std.proofs.Common.{◌≡◌, drop}
use Rattle.browser.specs.refresh.Refresh.{soonest, next_query}
use Rattle.browser.proofs.refresh.next_query.Given as goal

-- the soonest of t and of the entries from i on is the soonest of all
abbrev pub invariant-loop-i : goal.invariant-loop-i
invariant-loop-i l = soonest l.time l.store l.b l.i (drop l.i l.table) l.t ≡ next_query l.time l.store l.b l.table
