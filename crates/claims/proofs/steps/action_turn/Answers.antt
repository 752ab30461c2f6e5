use Rattle.std.proofs.Common.{rules}
use Rattle.claims.specs.steps.Tick.{action_turn}
use Rattle.claims.proofs.steps.action_turn.Goals as goal

pub returns-in-Idle : goal.returns-in-Idle
unfolding action_turn
returns-in-Idle c = search rules

pub returns-in-Probe : goal.returns-in-Probe
unfolding action_turn
returns-in-Probe c = search rules

pub returns-in-Announce : goal.returns-in-Announce
unfolding action_turn
returns-in-Announce c = search rules

pub returns-in-Repeat : goal.returns-in-Repeat
unfolding action_turn
returns-in-Repeat c = search rules
