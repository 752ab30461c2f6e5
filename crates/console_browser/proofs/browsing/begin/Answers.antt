use Prim.Native.Nat.{ℕ}
use lib.ListN.{replicate, length-replicate}
use Rattle.console_text.proofs.hex.Room.{in_room}
use Rattle.console_browser.proofs.After.{told}
use Rattle.console_browser.proofs.browsing.begin.Goals as goal

pub returns : goal.returns
returns c = let a = c.args in
    told a.line.now _ _ _ _ _ _ c.number-time.ensures c.number-draw.ensures c.number-refresh.ensures
    (in_room a.line.now 4 20000 _ _ (replicate 20000 0) _ _ (length-replicate {A = ℕ} 20000 0) c.field.ensures c.fill-s.ensures.value c.fill-s.ensures.out_after c.front.ensures)
    (in_room a.line.now 5 20000 _ _ (replicate 20000 0) _ _ (length-replicate {A = ℕ} 20000 0) c.field-2.ensures c.fill-p.ensures.value c.fill-p.ensures.out_after c.front-2.ensures)
    (in_room a.line.now 6 20000 _ _ (replicate 20000 0) _ _ (length-replicate {A = ℕ} 20000 0) c.field-3.ensures c.fill-d.ensures.value c.fill-d.ensures.out_after c.front-3.ensures)
    _ c.kurgashel_browse_start.ensures
