-- The premises of Contention.antt as tests that compute, to show that they can be met: a list that passes them meets them
-- (proofs/ContentionWitness.antt). No part of the statement. Assumes nothing.
use Rattle.std.specs.Prelude.{Bool, not, ◌&&◌, ◌||◌, List, ℕ, suc, ◌+◌, length, leb, ltb, eqb}
use Rattle.link.specs.Responder.{Responder, Parcel, Claim}
use Rattle.link.specs.Entries.{Entry, time_at, owner_at, is_some, runs, sent_at, heard_at, setup_of, data_at, update_at}
use Rattle.link.specs.Premises.{delivery_time}
use Rattle.link.specs.Holding.{is_and, any_of, conflicts_with, hears}
use Rattle.link.specs.Demand3.{holding_time}
use Rattle.link.specs.Contention.{Tiebreak, wants, begun, probes_for}
use Rattle.link.specs.Witness.{every, some_below, same_bytes}

module _ (D : Responder) where
  open D use {Setup}

  -- entry n hears what entry i sent; and what an entry since then sent
  unfoldable pub hears_from : List (Entry D) → ℕ → ℕ → Bool
  hears_from es n i = any_of (λ (q : Parcel). is_and (same_bytes q.bytes) (heard_at D es n)) (sent_at D es i)

  unfoldable pub is_from_list : List (Entry D) → ℕ → ℕ → Bool
  is_from_list es since n = some_below n (λ i. leb since i && hears_from es n i)

  -- what is asked of entry n, if its responder wants the name
  unfoldable pub kept_on : List (Entry D) → Claim → ℕ → ℕ → Bool
  kept_on es k since n =
      not (leb since n)
      || ((not (runs D es (owner_at D es n) n) || runs D es (owner_at D es n) (suc n))
      && (not (hears D es (owner_at D es n) (λ s. conflicts_with D s k) n) || is_from_list es since n))

  unfoldable pub not_updated : List (Entry D) → ℕ → ℕ → Bool
  not_updated es since n = not (leb (time_at D es since) (time_at D es n + delivery_time)) || not (is_some (update_at D es n))

  unfoldable pub left_alone : List (Entry D) → Claim → List ℕ → ℕ → ℕ → Bool
  left_alone es k name since until =
      (ltb since until && leb until (length es))
      && every until (λ n. not (wants D es k name (owner_at D es n)) || (kept_on es k since n && not_updated es since n))

  -- of these types one is in both set-ups, with different data
  unfoldable pub other_data : List ℕ → Setup → Setup → Claim → Bool
  other_data types s t k =
      any_of (λ (type : ℕ). is_and (λ (a : List ℕ). is_and (λ (b : List ℕ). not (same_bytes a b)) (D.rdata t k type)) (D.rdata s k type)) types

  -- wants the name, and has begun
  abbrev pub contends : List (Entry D) → Claim → List ℕ → ℕ → Bool
  contends es k name d = wants D es k name d && begun D es d

  unfoldable pub apart : List ℕ → List (Entry D) → Claim → ℕ → ℕ → Bool
  apart types es k d e = is_and (λ (s : Setup). is_and (λ (t : Setup). other_data types s t k) (setup_of D es e)) (setup_of D es d)

  module _ (T : Tiebreak D) where
    -- what entry n hears was sent by a responder whose records are not later
    unfoldable pub not_later : List (Entry D) → Claim → Setup → ℕ → Bool
    not_later es k s n =
        some_below n (λ i. hears_from es n i && is_and (λ (t : Setup). not (T.later t s k)) (data_at D es (owner_at D es i) (suc i)))

    unfoldable pub latest : List (Entry D) → Claim → ℕ → Bool
    latest es k x =
        is_and
        (λ (s : Setup).
        every (length es) λ n.
        not (leb (time_at D es n) (time_at D es x + holding_time) && hears D es x (λ r. probes_for D T r k) n) || not_later es k s n)
        (setup_of D es x)

    -- they are switched on and left alone
    unfoldable pub switched_on : List ℕ → List (Entry D) → Claim → List ℕ → ℕ → ℕ → ℕ → Bool
    switched_on types es k name n until one =
        left_alone es k name 0 until
        && (every until (λ m. not (wants D es k name (owner_at D es m) && hears D es (owner_at D es m) (λ s. probes_for D T s k) m) || is_from_list es 0 m)
        && (every (length es) (λ d. every (length es) (λ e. not (contends es k name d && contends es k name e) || (eqb d e || apart types es k d e)))
        && ((contends es k name one && ltb one n)
        && ((leb n until && ltb n (length es))
        && every n (λ d. not (contends es k name d) || ltb (time_at D es d + holding_time) (time_at D es n))))))
