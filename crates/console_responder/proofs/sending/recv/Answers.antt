use Rattle.std.proofs.Common.{ℕ, replicate, arith}
use Rattle.std.proofs.lemmas.Grind.{common_steps}
use lib.ListN.{length-replicate}
use Rattle.console_text.proofs.hex.Room.{in_room}
use Rattle.console_responder.specs.Lines.{arrival_told, after_recv}
use Rattle.console_responder.proofs.sending.recv.Goals as goal

pub returns : goal.returns
unfolding after_recv arrival_told
returns g c =
    let line = c.args.line.now in
    let m = in_room line 6 20000 _ _ (replicate 20000 0) _ _ (length-replicate {A = ℕ} 20000 0) c.field.ensures c.fill-k.ensures.value c.fill-k.ensures.out_after c.front.ensures in
    record { state = grind (arith, common_steps); out = grind (arith, common_steps); unicast = grind (arith, common_steps) }
