use native.Mathlib.Omega.{arith}
use Prim.Native.Nat.{◌+◌}
use Rattle.wire.proofs.bytes.eight.Goals as goal

pub overflow_mul-low : goal.overflow_mul-low
overflow_mul-low c = omega (arith, c.shared_slice_known-8-1.given c.args.i, c.shared_slice_known-8-1.given (c.args.i + 1), c.shared_slice_known-8-1.given (c.args.i + 2), c.shared_slice_known-8-1.given (c.args.i + 3), c.shared_slice_known-8-1.given (c.args.i + 4), c.shared_slice_known-8-1.given (c.args.i + 5), c.shared_slice_known-8-1.given (c.args.i + 6), c.shared_slice_known-8-1.given (c.args.i + 7))

pub overflow_add-low : goal.overflow_add-low
overflow_add-low c = omega (arith, c.shared_slice_known-8-1.given c.args.i, c.shared_slice_known-8-1.given (c.args.i + 1), c.shared_slice_known-8-1.given (c.args.i + 2), c.shared_slice_known-8-1.given (c.args.i + 3), c.shared_slice_known-8-1.given (c.args.i + 4), c.shared_slice_known-8-1.given (c.args.i + 5), c.shared_slice_known-8-1.given (c.args.i + 6), c.shared_slice_known-8-1.given (c.args.i + 7))

pub overflow_mul-low-2 : goal.overflow_mul-low-2
overflow_mul-low-2 c = omega (arith, c.shared_slice_known-8-1.given c.args.i, c.shared_slice_known-8-1.given (c.args.i + 1), c.shared_slice_known-8-1.given (c.args.i + 2), c.shared_slice_known-8-1.given (c.args.i + 3), c.shared_slice_known-8-1.given (c.args.i + 4), c.shared_slice_known-8-1.given (c.args.i + 5), c.shared_slice_known-8-1.given (c.args.i + 6), c.shared_slice_known-8-1.given (c.args.i + 7))

pub overflow_add-low-2 : goal.overflow_add-low-2
overflow_add-low-2 c = omega (arith, c.shared_slice_known-8-1.given c.args.i, c.shared_slice_known-8-1.given (c.args.i + 1), c.shared_slice_known-8-1.given (c.args.i + 2), c.shared_slice_known-8-1.given (c.args.i + 3), c.shared_slice_known-8-1.given (c.args.i + 4), c.shared_slice_known-8-1.given (c.args.i + 5), c.shared_slice_known-8-1.given (c.args.i + 6), c.shared_slice_known-8-1.given (c.args.i + 7))

pub overflow_mul-low-3 : goal.overflow_mul-low-3
overflow_mul-low-3 c = omega (arith, c.shared_slice_known-8-1.given c.args.i, c.shared_slice_known-8-1.given (c.args.i + 1), c.shared_slice_known-8-1.given (c.args.i + 2), c.shared_slice_known-8-1.given (c.args.i + 3), c.shared_slice_known-8-1.given (c.args.i + 4), c.shared_slice_known-8-1.given (c.args.i + 5), c.shared_slice_known-8-1.given (c.args.i + 6), c.shared_slice_known-8-1.given (c.args.i + 7))

pub overflow_add-low-3 : goal.overflow_add-low-3
overflow_add-low-3 c = omega (arith, c.shared_slice_known-8-1.given c.args.i, c.shared_slice_known-8-1.given (c.args.i + 1), c.shared_slice_known-8-1.given (c.args.i + 2), c.shared_slice_known-8-1.given (c.args.i + 3), c.shared_slice_known-8-1.given (c.args.i + 4), c.shared_slice_known-8-1.given (c.args.i + 5), c.shared_slice_known-8-1.given (c.args.i + 6), c.shared_slice_known-8-1.given (c.args.i + 7))

pub overflow_mul-result : goal.overflow_mul-result
overflow_mul-result c = omega (arith, c.shared_slice_known-8-1.given c.args.i, c.shared_slice_known-8-1.given (c.args.i + 1), c.shared_slice_known-8-1.given (c.args.i + 2), c.shared_slice_known-8-1.given (c.args.i + 3), c.shared_slice_known-8-1.given (c.args.i + 4), c.shared_slice_known-8-1.given (c.args.i + 5), c.shared_slice_known-8-1.given (c.args.i + 6), c.shared_slice_known-8-1.given (c.args.i + 7))

pub overflow_add-result : goal.overflow_add-result
overflow_add-result c = omega (arith, c.shared_slice_known-8-1.given c.args.i, c.shared_slice_known-8-1.given (c.args.i + 1), c.shared_slice_known-8-1.given (c.args.i + 2), c.shared_slice_known-8-1.given (c.args.i + 3), c.shared_slice_known-8-1.given (c.args.i + 4), c.shared_slice_known-8-1.given (c.args.i + 5), c.shared_slice_known-8-1.given (c.args.i + 6), c.shared_slice_known-8-1.given (c.args.i + 7))

pub overflow_mul-result-2 : goal.overflow_mul-result-2
overflow_mul-result-2 c = omega (arith, c.shared_slice_known-8-1.given c.args.i, c.shared_slice_known-8-1.given (c.args.i + 1), c.shared_slice_known-8-1.given (c.args.i + 2), c.shared_slice_known-8-1.given (c.args.i + 3), c.shared_slice_known-8-1.given (c.args.i + 4), c.shared_slice_known-8-1.given (c.args.i + 5), c.shared_slice_known-8-1.given (c.args.i + 6), c.shared_slice_known-8-1.given (c.args.i + 7))

pub overflow_add-result-2 : goal.overflow_add-result-2
overflow_add-result-2 c = omega (arith, c.shared_slice_known-8-1.given c.args.i, c.shared_slice_known-8-1.given (c.args.i + 1), c.shared_slice_known-8-1.given (c.args.i + 2), c.shared_slice_known-8-1.given (c.args.i + 3), c.shared_slice_known-8-1.given (c.args.i + 4), c.shared_slice_known-8-1.given (c.args.i + 5), c.shared_slice_known-8-1.given (c.args.i + 6), c.shared_slice_known-8-1.given (c.args.i + 7))

pub overflow_mul-result-3 : goal.overflow_mul-result-3
overflow_mul-result-3 c = omega (arith, c.shared_slice_known-8-1.given c.args.i, c.shared_slice_known-8-1.given (c.args.i + 1), c.shared_slice_known-8-1.given (c.args.i + 2), c.shared_slice_known-8-1.given (c.args.i + 3), c.shared_slice_known-8-1.given (c.args.i + 4), c.shared_slice_known-8-1.given (c.args.i + 5), c.shared_slice_known-8-1.given (c.args.i + 6), c.shared_slice_known-8-1.given (c.args.i + 7))

pub overflow_add-result-3 : goal.overflow_add-result-3
overflow_add-result-3 c = omega (arith, c.shared_slice_known-8-1.given c.args.i, c.shared_slice_known-8-1.given (c.args.i + 1), c.shared_slice_known-8-1.given (c.args.i + 2), c.shared_slice_known-8-1.given (c.args.i + 3), c.shared_slice_known-8-1.given (c.args.i + 4), c.shared_slice_known-8-1.given (c.args.i + 5), c.shared_slice_known-8-1.given (c.args.i + 6), c.shared_slice_known-8-1.given (c.args.i + 7))

pub overflow_mul-result-4 : goal.overflow_mul-result-4
overflow_mul-result-4 c = omega (arith, c.shared_slice_known-8-1.given c.args.i, c.shared_slice_known-8-1.given (c.args.i + 1), c.shared_slice_known-8-1.given (c.args.i + 2), c.shared_slice_known-8-1.given (c.args.i + 3), c.shared_slice_known-8-1.given (c.args.i + 4), c.shared_slice_known-8-1.given (c.args.i + 5), c.shared_slice_known-8-1.given (c.args.i + 6), c.shared_slice_known-8-1.given (c.args.i + 7))

pub overflow_add-result-4 : goal.overflow_add-result-4
overflow_add-result-4 c = omega (arith, c.shared_slice_known-8-1.given c.args.i, c.shared_slice_known-8-1.given (c.args.i + 1), c.shared_slice_known-8-1.given (c.args.i + 2), c.shared_slice_known-8-1.given (c.args.i + 3), c.shared_slice_known-8-1.given (c.args.i + 4), c.shared_slice_known-8-1.given (c.args.i + 5), c.shared_slice_known-8-1.given (c.args.i + 6), c.shared_slice_known-8-1.given (c.args.i + 7))

pub returns : goal.returns
returns c = (omega arith, λ k. omega (arith, c.shared_slice_known-8-1.given k))
