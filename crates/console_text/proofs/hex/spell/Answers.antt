use Rattle.std.proofs.Common.{◌≡◌, length, refl, sym, ap, arith, eqb-true}
use Rattle.std.proofs.lemmas.Bool.{eqb-false}
use lib.Seq.{length-sets}
use lib.ListN.{length-set}
use Rattle.console_text.specs.hex.Bytes.{digits_of}
use Rattle.console_text.proofs.hex.Spelled.{one_more, text_all, text_over, text_dash, text_none}
use Rattle.console_text.proofs.hex.spell.Goals as goal

pub returns-then-is_empty-2 : goal.returns-then-is_empty-2
returns-then-is_empty-2 c =
    let all = text_none c.args.out.now c.args.s.now (eqb-true _ 0 (sym c.if-is_empty.ensures)) (eqb-true _ 0 (sym c.if-is_empty-2.ensures)) in
    record { value = all.0; out_after = all.1 }

pub returns-then-is_empty : goal.returns-then-is_empty
returns-then-is_empty c =
    let some : length c.args.out.now ≡ 0 → ⊥ = eqb-false _ 0 (sym c.if-is_empty-2.ensures) in
    let all = text_dash c.args.out.now c.args.s.now (eqb-true _ 0 (sym c.if-is_empty.ensures)) (omega arith) in
    record { value = all.0; out_after = all.1 }

pub returns-then-out-s : goal.returns-then-out-s
returns-then-out-s c = let all = text_over _ _ (eqb-false _ 0 (sym c.if-is_empty.ensures)) (omega arith) in record { value = all.0; out_after = all.1 }

pub loop-i-init : goal.loop-i-init
unfolding digits_of
loop-i-init c = (omega arith, refl)

pub digit-requires : goal.digit-requires
digit-requires c = omega (arith, c.type_inv.s c.loop-i.i)

pub bounds-out-i : goal.bounds-out-i
bounds-out-i c = omega (arith, simp length-sets at (ap length c.loop-i.invariant.1))

pub bounds-out-i-in-loop-i : goal.bounds-out-i-in-loop-i
bounds-out-i-in-loop-i c = simp length-set (omega (arith, simp length-sets at (ap length c.loop-i.invariant.1)))

pub loop-i-preserved : goal.loop-i-preserved
loop-i-preserved c = (omega arith, one_more _ _ _ _ _ _ (omega arith) c.loop-i.invariant.1 c.digit.ensures c.digit-in-loop-i.ensures)

pub returns : goal.returns
returns c =
    let all = text_all _ _ c.loop-i.i _ (eqb-false _ 0 (sym c.if-is_empty.ensures)) (omega arith) (omega arith) c.loop-i.invariant.1 in
    record { value = all.0; out_after = all.1 }
