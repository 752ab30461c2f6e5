use Rattle.std.proofs.Common.{◌≡◌, ◌∙◌, ℕ, true, replicate, sym}
use lib.ListN.{length-replicate}
use Rattle.console_text.proofs.hex.Room.{in_room}
use Rattle.console_calls.specs.cache_calls.Lines.{is_put, after_put}
use Rattle.console_calls.proofs.cache_calls.put.Goals as goal

pub returns : goal.returns
unfolding after_put
returns g c =
    let line = c.args.line.now in
    let e : is_put line ≡ true = sym c.is_put.ensures ∙ c.if-not-is_put.false in
    let m = in_room line 3 20000 _ _ (replicate 20000 0) _ _ (length-replicate {A = ℕ} 20000 0) c.field.ensures c.fill-n.ensures.value c.fill-n.ensures.out_after c.front.ensures in
    record { table = simp e (cc); store = simp e (cc) }
