use Rattle.capi_cache.specs.Refusals.{most_with}
use Rattle.capi_cache.proofs.most_with.Goals as goal

pub returns : goal.returns
unfolding most_with
returns c = λ i. record { received = c.max.ensures i; rdata = c.max-2.ensures i; owner = c.max-3.ensures i }
