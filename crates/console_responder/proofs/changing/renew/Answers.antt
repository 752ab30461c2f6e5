use Rattle.std.proofs.Common.{ℕ, replicate, arith}
use Rattle.std.proofs.lemmas.Grind.{common_steps}
use lib.ListN.{length-replicate}
use Rattle.console_text.proofs.hex.Room.{in_room}
use Rattle.console_responder.specs.Lines.{new_told}
use Rattle.console_responder.proofs.changing.renew.Goals as goal

pub returns : goal.returns
unfolding new_told
returns c =
    let line = c.args.line.now in
    let m = in_room line 3 20000 _ _ (replicate 20000 0) _ _ (length-replicate {A = ℕ} 20000 0) c.field.ensures c.fill-k.ensures.value c.fill-k.ensures.out_after c.front.ensures in
    grind (arith, common_steps)
