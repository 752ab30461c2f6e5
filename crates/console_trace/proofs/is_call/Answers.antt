use Rattle.std.proofs.Common.{arith}
use Rattle.std.proofs.lemmas.Grind.{common_steps}
use Rattle.console_trace.specs.Forms.{is_trace_call}
use Rattle.console_trace.proofs.is_call.Goals as goal

pub returns-then-same_bytes : goal.returns-then-same_bytes
unfolding is_trace_call
returns-then-same_bytes c = grind (arith, common_steps)

pub returns-else-same_bytes : goal.returns-else-same_bytes
unfolding is_trace_call
returns-else-same_bytes c = grind (arith, common_steps)
