use mathlib.Core.Path.{sym}
use Prim.Native.Nat.{ℕ}
use lib.ListN.{length-replicate}
use Rattle.facts.proofs.chains.Table.{note_none}
use Rattle.facts.proofs.chains.Walked.{noted_read}
use Rattle.facts.proofs.noted_facts.Goals as goal

pub note_ends-requires : goal.note_ends-requires
note_ends-requires c = record { p_len_bound = (c.requires.fits, length-replicate {A = ℕ} 8972 0); ends = note_none _ 8972 }

pub slice_bounds-facts_by-end : goal.slice_bounds-facts_by-end
slice_bounds-facts_by-end c = sym c.note_ends.ensures.0

pub facts_by-requires : goal.facts_by-requires
facts_by-requires c = noted_read _ _ _ c.note_ends.ensures.1 c.requires
