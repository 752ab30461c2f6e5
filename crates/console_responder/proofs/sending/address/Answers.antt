use mathlib.Core.Path.{ap, ◌∙◌}
use Prim.Native.Nat.{ℕ}
use lib.ListN.{replicate, length-replicate}
use Rattle.responder.specs.address.Address.{address_of}
use Rattle.console_text.proofs.hex.Room.{in_room}
use Rattle.console_responder.proofs.sending.address.Goals as goal

pub returns : goal.returns
returns c = c.address_of.ensures
    ∙ ap address_of
    (in_room c.args.line.now 2 16 _ _ (replicate 16 0) _ _ (length-replicate {A = ℕ} 16 0) c.field.ensures
    c.fill-n.ensures.value c.fill-n.ensures.out_after c.front.ensures)
