use mathlib.Core.Path.{refl, sym, ◌∙◌}
use native.Mathlib.Omega.{arith}
use Rattle.own.proofs.utf8.Bytes.{plain-shown}
use Rattle.own.proofs.utf8.Characters.{shown-stop, shown-on, shown-end}
use Rattle.own.proofs.utf8.is_shown.Goals as goal

pub returns-then-all_plain : goal.returns-then-all_plain
returns-then-all_plain c = plain-shown _ (sym c.all_plain.ensures ∙ c.if-all_plain.true)

pub loop-i-init : goal.loop-i-init
loop-i-init c = (omega arith, refl)

pub returns-then-len-eq0 : goal.returns-then-len-eq0
returns-then-len-eq0 c = let l = c.loop-i in
    shown-stop c.args.s.now l.i _ l.invariant.1 c.if-len-eq0.true c.character-len.ensures

pub loop-i-preserved : goal.loop-i-preserved
loop-i-preserved c = let l = c.loop-i in (
  c.character-len.ensures.0,
  shown-on c.args.s.now l.i c.character-len.result l.invariant.1 (omega arith) c.character-len.ensures,
)

pub returns : goal.returns
returns c = shown-end c.args.s.now c.loop-i.i 0 c.loop-i.invariant.1 (omega arith)
