-- What the covered steps of taking a record give, from what the code has called. Assumes nothing.
use mathlib.Core.Path.{◌≡◌, sym, ap, ap₂, ◌∙◌}
use mathlib.Core.Logic.{◌⊎◌, inl, inr}
use mathlib.Core.List.{List}
use Prim.Native.Nat.{ℕ, ◌*◌}
use lib.ListN.{get_or, replicate, set}
use lib.Seq.{sets}
use Rattle.cache.specs.entries.Cache.{slot_with}
use Rattle.cache.specs.entries.Entries.{blank, soon, refreshed}
use Rattle.cache.specs.declared.entries.Entry.{Entry}
use Rattle.cache.specs.declared.records.Heard.{Heard}
use Rattle.cache.specs.declared.records.Choice.{Choice}
use Rattle.cache.specs.declared.records.Choice.TheVariants.{Leave, Expire, Refresh, Fill, TurnAway, PassOver}
use Rattle.cache.specs.records.Taking.{entry_heard, changed_in, kept_in}
use Rattle.cache.specs.records.Heard.{owner_in, rdata_in}

-- the owner and the rdata were laid over zeros
pub kept : (slot : List ℕ) (h : Heard) (store : List ℕ) (i : ℕ) (zeros owner first d filled last : List ℕ) → zeros ≡ replicate 1024 0 → owner ≡ owner_in slot h → first ≡ sets zeros 0 owner
    → d ≡ rdata_in slot h → filled ≡ sets first 256 d → last ≡ sets store (1024 * i) filled → last ≡ sets store (1024 * i) (slot_with (owner_in slot h) (rdata_in slot h))
kept slot h store i zeros owner first d filled last z o f r l is =
    let whole : filled ≡ slot_with (owner_in slot h) (rdata_in slot h) =
    l ∙ ap₂ (λ (a b : List ℕ). sets a 256 b) (f ∙ ap₂ (λ (a b : List ℕ). sets a 0 b) z o) r in
    is ∙ ap (sets store (1024 * i)) whole

-- what is chosen, done
module _ (now : ℕ) (h : Heard) (slot : List ℕ) (es : List Entry) (store : List ℕ) (c : Choice) where
  pub expires : (i : ℕ) → c ≡ Expire i → (r : Entry) → r ≡ soon now (get_or es i blank) → (set es i r ≡ changed_in now h c es) × (store ≡ kept_in slot h c store)
  unfolding changed_in kept_in
  expires i k r is = (ap (set es i) is ∙ sym (ap (λ (x : Choice). changed_in now h x es) k), sym (ap (λ (x : Choice). kept_in slot h x store) k))

  pub refreshes : (i : ℕ) → c ≡ Refresh i → (r : Entry) → r ≡ refreshed now h.at.ttl (get_or es i blank) → (set es i r ≡ changed_in now h c es) × (store ≡ kept_in slot h c store)
  unfolding changed_in kept_in
  refreshes i k r is = (ap (set es i) is ∙ sym (ap (λ (x : Choice). changed_in now h x es) k), sym (ap (λ (x : Choice). kept_in slot h x store) k))

  pub fills : (i : ℕ) → c ≡ Fill i → (r : Entry) → r ≡ entry_heard now h → (last : List ℕ) → last ≡ sets store (1024 * i) (slot_with (owner_in slot h) (rdata_in slot h))
      → (set es i r ≡ changed_in now h c es) × (last ≡ kept_in slot h c store)
  unfolding changed_in kept_in
  fills i k r is last laid = (ap (set es i) is ∙ sym (ap (λ (x : Choice). changed_in now h x es) k), laid ∙ sym (ap (λ (x : Choice). kept_in slot h x store) k))

  pub leaves : (c ≡ Leave) ⊎ ((c ≡ TurnAway) ⊎ (c ≡ PassOver)) → (es ≡ changed_in now h c es) × (store ≡ kept_in slot h c store)
  unfolding changed_in kept_in
  leaves (inl e) = (sym (ap (λ (x : Choice). changed_in now h x es) e), sym (ap (λ (x : Choice). kept_in slot h x store) e))
  leaves (inr (inl e)) = (sym (ap (λ (x : Choice). changed_in now h x es) e), sym (ap (λ (x : Choice). kept_in slot h x store) e))
  leaves (inr (inr e)) = (sym (ap (λ (x : Choice). changed_in now h x es) e), sym (ap (λ (x : Choice). kept_in slot h x store) e))
