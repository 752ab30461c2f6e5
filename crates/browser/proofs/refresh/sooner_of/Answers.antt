use native.Mathlib.Omega.{arith}
use Rattle.browser.proofs.refresh.Thresholds.{sooner-not, sooner-all}
use Rattle.browser.proofs.refresh.sooner_of.Goals as goal

pub returns-then-not-may_ask : goal.returns-then-not-may_ask
returns-then-not-may_ask c = sooner-not _ _ _ _ _ _ _ c.may_ask.ensures (c.if-not-may_ask.true)

pub sooner_by-first-requires : goal.sooner_by-first-requires
sooner_by-first-requires c = (c.requires.refresh, (omega arith, omega arith))

pub sooner_by-second-requires : goal.sooner_by-second-requires
sooner_by-second-requires c = (c.requires.refresh, (omega arith, omega arith))

pub sooner_by-third-requires : goal.sooner_by-third-requires
sooner_by-third-requires c = (c.requires.refresh, (omega arith, omega arith))

pub sooner_by-requires : goal.sooner_by-requires
sooner_by-requires c = (c.requires.refresh, (omega arith, omega arith))

pub returns : goal.returns
returns c = sooner-all _ _ _ _ _ _ _ c.may_ask.ensures
    (c.if-not-may_ask.false) _ _ _ _ c.sooner_by-first.ensures
    c.sooner_by-second.ensures c.sooner_by-third.ensures c.sooner_by.ensures
