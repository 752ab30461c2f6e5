use native.Mathlib.Omega.{arith}
use Rattle.txt.proofs.Values.{key_in, is-present, is-empty, is-value}
use Rattle.txt.proofs.given.Goals as goal

pub returns-then-end-start : goal.returns-then-end-start
returns-then-end-start c = is-present _ _ _ _ (omega arith) (omega arith) c.key_len-n.ensures _ c.if-end-start.true

pub overflow_add-at : goal.overflow_add-at
overflow_add-at c = let h = key_in _ _ _ _ c.requires.0 c.requires.1 c.key_len-n.ensures in omega arith

pub overflow_add-at-2 : goal.overflow_add-at-2
overflow_add-at-2 c = let h = key_in _ _ _ _ c.requires.0 c.requires.1 c.key_len-n.ensures in omega arith

pub overflow_sub-len : goal.overflow_sub-len
overflow_sub-len c = let h = key_in _ _ _ _ c.requires.0 c.requires.1 c.key_len-n.ensures in omega arith

pub returns-then-len-eq0 : goal.returns-then-len-eq0
returns-then-len-eq0 c = is-empty _ _ _ _ (omega arith) (omega arith) c.key_len-n.ensures _ c.if-end-start.false c.if-len-eq0.true

pub returns-else-len-eq0 : goal.returns-else-len-eq0
returns-else-len-eq0 c = is-value _ _ _ _ (omega arith) (omega arith) c.key_len-n.ensures _ c.if-end-start.false c.if-len-eq0.false
