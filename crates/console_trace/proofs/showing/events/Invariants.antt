use Rattle.std.proofs.Common.{◌-◌, length}
use Rattle.console_trace.proofs.showing.events.Given as goal

abbrev pub decreases-loop-entry : goal.decreases-loop-entry
decreases-loop-entry g l = length l.trace - l.at
