use native.Mathlib.Omega.{arith}
use Rattle.browser.proofs.query.Composing.{no_packet, opened-long, written, draft_few}
use Rattle.browser.proofs.query.write.Goals as goal

pub open-first-requires : goal.open-first-requires
open-first-requires c = (c.requires.0, no_packet)

pub head-header-requires : goal.head-header-requires
head-header-requires c = omega (arith, draft_few _ _ c.args.b c.args.plan _ _ c.well_formed.1.1.0.1.1.0.1.0.1 c.compose-d.ensures)

pub returns : goal.returns
returns c = written c.args.asks c.args.b c.args.store.now c.args.plan c.args.out.now _ _ _ _ _ _ _ _ _ c.requires.1 c.open-first.ensures (opened-long _ _) c.compose-d.ensures c.known_count.ensures c.head-header.ensures c.put.ensures c.put-2.ensures
