use Rattle.std.proofs.Common.{arith, ◌∙◌}
use Rattle.console_text.proofs.hex.Filled.{bytes_length, joined, one_more, all_written}
use Rattle.console_text.proofs.hex.fill.Goals as goal

pub loop-i-preserved : goal.loop-i-preserved
loop-i-preserved c =
    one_more c.args.s.now c.args.out.now c.loop-i.out c.loop-i.i (omega arith) (joined _ _ _ _ c.value.ensures c.value-in-loop-i.ensures) c.loop-i.invariant

pub returns : goal.returns
returns c = record { value = bytes_length c.args.s.now; out_after = c.loop-i.invariant ∙ all_written c.args.s.now c.args.out.now c.loop-i.i (omega arith) }
