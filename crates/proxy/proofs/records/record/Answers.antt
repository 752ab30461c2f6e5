use native.Mathlib.Omega.{arith}
use Rattle.std.proofs.lemmas.Grind.{common_steps}
use Rattle.proxy.specs.records.Records.{record_out, mapped, rdata_out}
use Rattle.proxy.proofs.records.record.Goals as goal

pub returns-clause-answer : goal.returns-clause-answer
unfolding record_out mapped rdata_out
returns-clause-answer c = grind (arith, common_steps)
