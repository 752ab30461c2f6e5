use Rattle.own.specs.records.Setups.{domain_fits}
use Rattle.own.proofs.setups.domain_fits.Goals as goal

pub returns : goal.returns
unfolding domain_fits
returns c = c.same_bytes.ensures
