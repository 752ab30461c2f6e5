use Rattle.browser.proofs.Asking.{asked-refresh, asked-series}
use Rattle.browser.proofs.ask.Goals as goal

pub series_at-requires : goal.series_at-requires
series_at-requires c = c.requires

pub returns-then-time-series_at : goal.returns-then-time-series_at
returns-then-time-series_at c = asked-refresh _ _ _ _ c.series_at.ensures c.if-time-series_at.true

pub returns : goal.returns
returns c = asked-series _ _ _ _ c.series_at.ensures c.if-time-series_at.false _ c.count_one.ensures
