-- The laws, beside those of Laws.antt, from which it follows that contention ends: about names, about the order of records, and about what one accepted
-- call sends. With each, why the specification gives it. No part of the statement. Assumes nothing.
use Rattle.std.specs.Prelude.{◌≡◌, true, false, List, ℕ}
use Rattle.link.specs.Responder.{Responder, Claim}
use Rattle.link.specs.Premises.{Among}
use Rattle.link.specs.Laws.{Step, data_after, Sent, Rules, out}
use Rattle.link.specs.Contention.{Tiebreak, Differ}

module _ (D : Responder) (R : Rules D) (T : Tiebreak D) where
  open D use {Setup, State, Message}

  -- the message conflicts with claim k of t, since the set-up s, whose it is, has the name with other data, and responds under it
  pub record Contradicts (s t : Setup) (k : Claim) (m : Message) : Type 0 where
    pub same : D.same_name (D.name s k) (D.name t k) ≡ true
    pub differ : Differ D s t k
    pub under : D.responds m (D.name s k) ≡ true

  -- the message is s's probe for the name, and defeats t only by later records
  pub record Probed (s t : Setup) (k : Claim) (m : Message) : Type 0 where
    pub same : D.same_name (D.name s k) (D.name t k) ≡ true
    pub later : D.defeats m t k ≡ true → T.later s t k ≡ true

  pub record Candid : Type 0 where
    -- equality of names is transitive
    pub name_trans : (a b c : List ℕ) → D.same_name a b ≡ true → D.same_name b c ≡ true → D.same_name a c ≡ true
    -- "Later" is a strict order of the claims' records
    pub later_self : (s : Setup) (k : Claim) → T.later s s k ≡ false
    pub later_trans : (s t u : Setup) (k : Claim) → T.later s t k ≡ true → T.later t u k ≡ true → T.later s u k ≡ true
    -- what defeats a claim is a probe for its name
    pub is_probe : (m : Message) (s : Setup) (k : Claim) → D.defeats m s k ≡ true → T.probes m (D.name s k) ≡ true
    -- a response has own records alone: one that conflicts with a claim has, under that name, the sender's own data
    pub candid :
        (s : Setup) (x : State) (c : Step D) (q : Sent Message) (t : Setup) (k : Claim)
        → R.Ready x s c
        → Among q (out D R x c)
        → D.conflicts q.message t k ≡ true
        → Contradicts (data_after D c s) t k q.message
    -- a probe has the claim's own records in Authority
    pub probed :
        (s : Setup) (x : State) (c : Step D) (q : Sent Message) (t : Setup) (k : Claim)
        → R.Ready x s c
        → R.Valid t
        → Among q (out D R x c)
        → T.probes q.message (D.name t k) ≡ true
        → Probed (data_after D c s) t k q.message
