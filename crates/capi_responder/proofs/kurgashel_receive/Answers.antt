use lib.ListN.{length}
use Rattle.claims.specs.declared.holds.Address.{Address}
use Rattle.responder.specs.Handed.{Arrival}
use Rattle.capi_responder.proofs.Calling.{receive-kept, receive-taken}
use Rattle.capi_responder.proofs.kurgashel_receive.Goals as goal
use Rattle.capi_responder.proofs.kurgashel_receive.Goals.{then-refusal_of-eq0, else-refusal_of-eq0}

pub returns : goal.returns
returns c = let a = c.args in
    let arrival : Address → Arrival = λ x. record {
      time = a.time;
      from = x;
      port = a.port;
      draw = a.draw;
      hold = a.hold;
      packet = a.packet.now;
      room = length a.out.now;
      unicastroom = length a.unicast.now;
    } in
    elim c.if-refusal_of-eq0.branch [
      | then-refusal_of-eq0 w ↦ rw w.state-is
          (receive-taken a.state.now a.out.now a.unicast.now arrival c.read_state.ensures c.address_of.ensures c.receive-heard.ensures
          c.refusal_of.ensures c.answered.ensures w.if-refusal_of-eq0.true w.put_progress.ensures)
      | else-refusal_of-eq0 w ↦ rw w.state-is
          (receive-kept a.state.now a.out.now a.unicast.now arrival c.read_state.ensures c.address_of.ensures c.receive-heard.ensures
          c.refusal_of.ensures c.answered.ensures w.if-refusal_of-eq0.false)
    ]
