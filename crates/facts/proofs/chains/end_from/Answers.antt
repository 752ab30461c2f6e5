use native.Mathlib.Omega.{arith}
use Rattle.facts.proofs.chains.Table.{from-none, from_low, from-pointer}
use Rattle.facts.proofs.chains.end_from.Goals as goal

pub returns-then-p-at-lt192 : goal.returns-then-p-at-lt192
returns-then-p-at-lt192 c = from-none _ _

pub overflow_cast-result : goal.overflow_cast-result
overflow_cast-result c = omega (arith, c.end_of.ensures, from_low _ _ c.requires.ends _ _ _ c.piece_at.ensures c.in-Pointer.is)

pub returns-in-Pointer : goal.returns-in-Pointer
returns-in-Pointer c = from-pointer _ _ c.requires.ends _ _ _ c.piece_at.ensures c.in-Pointer.is _ c.end_of.ensures

pub returns-in-Root : goal.returns-in-Root
returns-in-Root c = from-none _ _
