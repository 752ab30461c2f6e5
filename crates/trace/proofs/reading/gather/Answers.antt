use mathlib.Core.Path.{◌≡◌, refl, sym, ap, ◌∙◌}
use Prim.Native.Nat.{ℕ, ◌+◌, ◌-◌}
use native.Mathlib.Omega.{arith}
use lib.ListN.{take, drop}
use lib.Seq.{sets, length-sets}
use Rattle.trace.specs.reading.Events.{in_piece}
use Rattle.trace.proofs.reading.Gathered.{in_piece_most, piece_fits, rest_fits, gather_turn, gather_none}
use Rattle.trace.proofs.reading.gather.Goals as goal

pub loop-left-init : goal.loop-left-init
loop-left-init c = let a = c.args in let z : a.len - a.len ≡ 0 = omega arith in (omega arith, omega arith, refl, rw z)

pub overflow_add-from : goal.overflow_add-from
overflow_add-from c = omega (arith, piece_fits c.args.trace.now c.loop-left.at c.loop-left.left (omega arith) c.loop-left.invariant.0)

pub overflow_add-end : goal.overflow_add-end
overflow_add-end c = omega (arith, piece_fits c.args.trace.now c.loop-left.at c.loop-left.left (omega arith) c.loop-left.invariant.0, in_piece_most c.loop-left.left, c.in_piece.ensures)

pub slice_bounds-put-end : goal.slice_bounds-put-end
slice_bounds-put-end c = omega (arith, piece_fits c.args.trace.now c.loop-left.at c.loop-left.left (omega arith) c.loop-left.invariant.0, in_piece_most c.loop-left.left, c.in_piece.ensures)

pub overflow_add-at : goal.overflow_add-at
overflow_add-at c = omega (arith, piece_fits c.args.trace.now c.loop-left.at c.loop-left.left (omega arith) c.loop-left.invariant.0)

pub loop-left-smaller : goal.loop-left-smaller
loop-left-smaller c = omega (arith, c.saturating_sub-left.ensures)

pub loop-left-preserved : goal.loop-left-preserved
loop-left-preserved c = let a = c.args in
    let l = c.loop-left in
    let n = c.in_piece.result in
    let taken : l.at + 1 + n - (l.at + 1) ≡ in_piece l.left = omega (arith, c.in_piece.ensures) in
    let laid : c.put.new.out ≡ sets l.out (a.len - l.left) (take (in_piece l.left) (drop (l.at + 1) a.trace.now)) =
    c.put.ensures ∙ ap (λ (k : ℕ). sets l.out (a.len - l.left) (take k (drop (l.at + 1) a.trace.now))) taken in (
      rw c.saturating_sub-left.ensures (rest_fits a.trace.now l.at l.left (omega arith) l.invariant.0),
      omega (arith, c.saturating_sub-left.ensures),
      rw laid (simp length-sets l.invariant.2),
      rw (c.saturating_sub-left.ensures, laid) (l.invariant.3 ∙ gather_turn a.trace.now l.at l.left (omega arith) l.invariant.0 l.out a.len l.invariant.1),
    )

pub returns : goal.returns
returns c = let a = c.args in
    let l = c.loop-left in
    let z : l.left ≡ 0 = omega arith in
    sym (l.invariant.3 ∙ rw (z, gather_none a.trace.now l.at))
