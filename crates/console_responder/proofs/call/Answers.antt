use Rattle.std.proofs.Common.{arith}
use Rattle.std.proofs.lemmas.Grind.{common_steps}
use Rattle.console_responder.specs.Lines.{responder_after}
use Rattle.console_responder.proofs.After.{tick-leaves, stop-leaves, update-leaves}
use Rattle.console_responder.proofs.call.Goals as goal

pub returns-then-same_bytes-3 : goal.returns-then-same_bytes-3
unfolding responder_after
returns-then-same_bytes-3 g c =
    let all = tick-leaves c.args.line.now c.args.held c.args.out.now c.args.unicast.now in
    record { state = grind (arith, common_steps); out = grind (arith, common_steps); unicast = grind (arith, common_steps) }

pub returns-then-same_bytes-4 : goal.returns-then-same_bytes-4
unfolding responder_after
returns-then-same_bytes-4 g c =
    let all = stop-leaves c.args.line.now c.args.held c.args.out.now c.args.unicast.now in
    record { state = grind (arith, common_steps); out = grind (arith, common_steps); unicast = grind (arith, common_steps) }

pub returns-then-same_bytes-5 : goal.returns-then-same_bytes-5
unfolding responder_after
returns-then-same_bytes-5 g c =
    let all = update-leaves c.args.line.now c.args.held c.args.out.now c.args.unicast.now in
    record { state = grind (arith, common_steps); out = grind (arith, common_steps); unicast = grind (arith, common_steps) }
