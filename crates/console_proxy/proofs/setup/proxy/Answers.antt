use Rattle.console_proxy.proofs.After.{is-proxy}
use Rattle.console_text.proofs.hex.Room.{in_room}
use lib.ListN.{replicate, length-replicate}
use Prim.Native.Nat.{ℕ}
use mathlib.Core.Path.{sym, ◌∙◌}
use Rattle.console_proxy.proofs.setup.proxy.Goals as goal

pub returns : goal.returns
returns g c = let a = c.args
    in is-proxy a.line.now a.held
    (sym c.is_proxy.ensures ∙
    c.if-not-is_proxy.false) _ _
    (in_room a.line.now 1 20000 _ _ (replicate 20000 0) _ _ (length-replicate {A = ℕ} 20000 0)
    c.field.ensures
    c.fill-n.ensures.value
    c.fill-n.ensures.out_after
    c.front.ensures)
    (in_room a.line.now 2 20000 _ _ (replicate 20000 0) _ _ (length-replicate {A = ℕ} 20000 0)
    c.field-2.ensures
    c.fill-m.ensures.value
    c.fill-m.ensures.out_after c.front-2.ensures) _ c.set_up.ensures
