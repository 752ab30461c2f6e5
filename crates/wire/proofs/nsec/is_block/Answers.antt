use native.Mathlib.Omega.{arith}
use Prim.Native.Nat.{ℕ, ◌+◌}
use mathlib.Core.Path.{sym, ap, ◌∙◌}
use Rattle.wire.proofs.nsec.Blocks.{other-number, no_bits, many-bits, not-filled, by_bit}
use Rattle.wire.proofs.nsec.is_block.Goals as goal

pub returns-then-byte-ne0 : goal.returns-then-byte-ne0
returns-then-byte-ne0 c = let a = c.args in other-number a.b.now (λ z. c.if-byte-ne0.true (c.byte.ensures ∙ z))

pub returns-then-n-lt1 : goal.returns-then-n-lt1
returns-then-n-lt1 c = let a = c.args in no_bits a.b.now (omega (arith, c.byte.ensures)) (omega (arith, c.byte-n.ensures))

pub returns-then-n-gt-MOST_BITS : goal.returns-then-n-gt-MOST_BITS
returns-then-n-gt-MOST_BITS c = let a = c.args in many-bits a.b.now (omega (arith, c.byte.ensures)) (omega (arith, c.byte-n.ensures)) (omega (arith, c.byte-n.ensures))

pub returns-then-b-n : goal.returns-then-b-n
returns-then-b-n c = let a = c.args in not-filled a.b.now (omega (arith, c.byte.ensures)) (omega (arith, c.byte-n.ensures)) (omega (arith, c.byte-n.ensures)) (λ z. c.if-b-n.true (z ∙ ap (λ (k : ℕ). k + 2) (sym c.byte-n.ensures)))

pub returns : goal.returns
returns c = let a = c.args in by_bit a.b.now (omega (arith, c.byte.ensures)) (omega (arith, c.byte-n.ensures)) (omega (arith, c.byte-n.ensures)) (omega (arith, c.byte-n.ensures)) _ c.names_type.ensures
