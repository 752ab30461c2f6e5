use Rattle.std.proofs.Common.{rules}
use native.Mathlib.Omega.{arith}
use Rattle.facts.proofs.chains.Table.{note_more}
use Rattle.facts.proofs.chains.note_ends.Goals as goal

pub loop-at-init : goal.loop-at-init
loop-at-init c = (c.requires.p_len_bound.1, c.requires.ends)

pub end_from-requires : goal.end_from-requires
end_from-requires c = record { p_len_bound = (omega arith, omega arith); ends = c.loop-at.invariant.1 }

pub loop-at-preserved : goal.loop-at-preserved
loop-at-preserved c = (search rules, note_more _ _ _ _ (search rules) c.loop-at.invariant.1 c.end_from.ensures)
