use Rattle.std.proofs.Common.{◌≡◌, ◌⊎◌, ℕ, inl, inr, refl}
use Rattle.cache.specs.declared.Counts.{Counts}
use Rattle.cache.specs.declared.records.Choice.{Choice}
use Rattle.cache.specs.declared.records.Choice.TheVariants.{Leave, Expire, Refresh, Fill}
use Rattle.cache.specs.records.Taking.{counting}
use Rattle.capi_cache.proofs.counted.Goals as goal

uncounted : (x : Choice) (n : Counts) → (x ≡ Leave) ⊎ (((i : ℕ) × (x ≡ Expire i)) ⊎ (((i : ℕ) × (x ≡ Refresh i)) ⊎ ((i : ℕ) × (x ≡ Fill i)))) → n ≡ counting x n
unfolding counting
uncounted x n (inl e) = rw e refl
uncounted x n (inr (inl k)) = rw k.1 refl
uncounted x n (inr (inr (inl k))) = rw k.1 refl
uncounted x n (inr (inr (inr k))) = rw k.1 refl

pub returns-in-TurnAway : goal.returns-in-TurnAway
unfolding counting
returns-in-TurnAway c = rw c.in-TurnAway.is refl

pub returns-in-PassOver : goal.returns-in-PassOver
unfolding counting
returns-in-PassOver c = rw c.in-PassOver.is refl

pub returns-in-Leave : goal.returns-in-Leave
returns-in-Leave c = uncounted c.args.c c.args.counts c.in-Leave.is
