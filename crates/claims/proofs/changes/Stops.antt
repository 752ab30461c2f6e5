-- What a stop leaves: both claims are lost, nothing else changes but the time, and the goodbye is the data records of the claims that were held. Assumes nothing.
use Prim.Native.Nat.{ℕ, ◌≤◌}
use mathlib.Core.Path.{◌≡◌, refl}
use mathlib.Core.Bool.{Bool, true, false, ◌&&◌}
use native.Mathlib.Omega.{arith}
use borrow.Author.Tests.{le-leb}
use Rattle.claims.specs.records.Own.{claim_for, has}
use Rattle.claims.specs.records.Sets.{no_record, records_of}
use Rattle.claims.specs.Time.{last_time, last_due}
use Rattle.claims.specs.Claims.{held_now, claim_of}
use Rattle.claims.specs.Refusals.{kept}
use Rattle.claims.specs.declared.ClaimState.TheVariants.{Lost}
use Rattle.claims.specs.declared.records.Claim.{Claim}
use Rattle.claims.specs.declared.records.Claim.TheVariants.{Instance, Host}
use Rattle.claims.specs.declared.records.Own.{Own}
use Rattle.claims.specs.declared.Progress.{Progress}
use Rattle.claims.specs.changes.Changes.{is_parting, goodbye_of, stop_of}
use Rattle.claims.proofs.Keeping.{AllKept, parts, whole}
use Rattle.claims.proofs.records.Sets.{by-record, has-each}

module _ (progress : Progress) (now : ℕ) (aaaa : Bool) where
  abbrev after : Progress
  after = (stop_of progress now aaaa).progress

  -- "leaves both claims lost"
  pub stop-lost : (k : Claim) → claim_of k after ≡ Lost
  unfolding stop_of
  stop-lost Instance = refl
  stop-lost Host = refl

  pub stop-same : after ≡ record {
    instance = Lost;
    host = Lost;
    sent = progress.sent;
    reply = progress.reply;
    holds = progress.holds;
    updated = progress.updated;
    draw = progress.draw;
    last = now;
  }
  unfolding stop_of
  stop-same = refl

  -- "sends the held records": a record goes out exactly where its claim was held and it is one of those that are announced for it
  pub goodbye-has : (o : Own) → has o (stop_of progress now aaaa).goodbye ≡ is_parting progress aaaa o
  unfolding stop_of goodbye_of
  goodbye-has o = has-each (is_parting progress aaaa) o

  pub goodbye-records : (o : Own) → has o (stop_of progress now aaaa).goodbye ≡ (held_now (claim_of (claim_for o) progress) && has o (records_of (claim_for o) aaaa))
  unfolding stop_of goodbye_of records_of
  goodbye-records =
      by-record (λ o. has o (stop_of progress now aaaa).goodbye ≡ (held_now (claim_of (claim_for o) progress) && has o (records_of (claim_for o) aaaa)))
      refl refl refl refl refl refl refl

  -- where no claim was held there is none
  pub goodbye-none : ((k : Claim) → held_now (claim_of k progress) ≡ false) → (stop_of progress now aaaa).goodbye ≡ no_record
  unfolding stop_of goodbye_of
  goodbye-none n =
      let i : held_now progress.instance ≡ false = n Instance in
      let h : held_now progress.host ≡ false = n Host in
      simp (i, h)

  -- a stop that is not refused keeps the times within bounds
  pub stop-kept : (most : ℕ) → now ≤ last_time → last_due ≤ most → kept most progress ≡ true → kept most after ≡ true
  unfolding stop_of
  stop-kept most h l q =
      let p : AllKept _ _ _ _ _ _ _ = parts most progress q in
      whole most _
      (record {
        instance = refl;
        host = refl;
        sent = p.sent;
        reply = p.reply;
        holds = p.holds;
        updated = p.updated;
        last = le-leb now most (omega arith);
      })
