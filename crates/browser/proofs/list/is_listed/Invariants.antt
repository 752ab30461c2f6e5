use Rattle.std.proofs.Common.{◌≡◌, ◌≤◌}
use Rattle.browser.proofs.list.Turns.{listed_to}
use Rattle.browser.proofs.list.is_listed.Given as goal

-- slot i is listed, so far as the entries below slot j tell
abbrev pub invariant-loop-j : goal.invariant-loop-j
invariant-loop-j l = (l.listed ≡ listed_to l.time l.store l.b l.table l.i l.j) × (l.j ≤ l.i)
