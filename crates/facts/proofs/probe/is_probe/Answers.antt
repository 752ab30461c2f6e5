use native.Mathlib.Omega.{arith}
use Rattle.facts.proofs.chains.Walked.{not_noted}
use Rattle.facts.proofs.probe.is_probe.Goals as goal

pub probe_by-requires : goal.probe_by-requires
probe_by-requires c = not_noted _ _ _ (omega arith)
