use mathlib.Core.Path.{refl, sym}
use lib.ListN.{get_or-eq_default}
use Rattle.claims.specs.records.Own.{all, record_at}
use Rattle.claims.specs.declared.records.Own.TheVariants.{Ptr}
use Rattle.claims.proofs.records.record_at.Goals as goal

pub returns-then-i-lt-RECORDS : goal.returns-then-i-lt-RECORDS
unfolding record_at
returns-then-i-lt-RECORDS c = refl

pub returns-else-i-lt-RECORDS : goal.returns-else-i-lt-RECORDS
unfolding record_at
returns-else-i-lt-RECORDS c = sym (get_or-eq_default all Ptr c.if-i-lt-RECORDS.false)
