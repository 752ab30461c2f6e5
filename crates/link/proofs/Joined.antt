-- Joined links, for every responder that meets the laws: from the same core as demand 3's first conclusion, which is this core with the joining at the
-- list's beginning. Assumes nothing.
use mathlib.Core.Path.{◌≡◌, refl, sym, ◌∙◌, ap, subst}
use mathlib.Core.Bool.{Bool, true, false}
use mathlib.Core.Option.{some}
use mathlib.Core.List.{List}
use Prim.Native.Nat.{ℕ, suc, ◌≤◌, ◌<◌}
use lib.ListN.{length}
use lib.Dec.{eqb}
use borrow.Author.Tests.{eq-eqb}
use Rattle.link.specs.Responder.{Responder, everyone, Parcel, Claim}
use Rattle.link.specs.Entries.{Entry, owner_at, after, sent_at, data_at}
use Rattle.link.specs.Holding.{is_and, any_of, responds_for, conflicts_with, writes, holds}
use Rattle.link.specs.Laws.{held, Unclaimed, Rules, Lawful}
use Rattle.link.specs.Joined.{PremisesFrom, Unchanged, Two, Hearing, Together, Joined, TwoFloorsJoined}
use Rattle.link.proofs.Lists.{and_both, any_of_lem, is-of, is-from}
use Rattle.link.proofs.States.{Calls, hearer, calls_as}
use Rattle.link.proofs.Data.{record_in}
use Rattle.link.proofs.Steps.{heard-step}
use Rattle.link.proofs.Stages.{stage_of_lem, yielded}
use Rattle.link.proofs.Held.{written, holds-held}
use Rattle.link.proofs.Rivals.{not-again}
use Rattle.link.proofs.Unique.{party, pair}

module _
    (D : Responder) (R : Rules D) (L : Lawful D R) (es : List (Entry D)) (base outset : ℕ) (P : PremisesFrom D es base outset)
    (unchanged : Unchanged D es base) (w : Two D) (h : Hearing D es base w)
  where
    open D use {Setup, Message}

    -- the sender's claim is held after its call
    sender_holds : stage_of_lem D R (after D es w.other (suc h.sent)) w.other_claim ≡ held
    unfolding writes
    sender_holds =
        written D R L es w.other w.other_claim h.sent
        (and_both (eqb (owner_at D es h.sent) w.other)
        (is_and (λ (s : Setup). any_of (λ (q : Parcel). responds_for D s w.other_claim q.bytes) (sent_at D es h.sent)) (data_at D es w.other h.sent))
        (eq-eqb (owner_at D es h.sent) w.other h.sender)
        (is-of (λ (s : Setup). any_of (λ (q : Parcel). responds_for D s w.other_claim q.bytes) (sent_at D es h.sent)) (data_at D es w.other h.sent)
        h.other_setup h.other_has
        (any_of_lem (λ (q : Parcel). responds_for D h.other_setup w.other_claim q.bytes) (record { to = everyone; bytes = h.packet }) (sent_at D es h.sent)
        h.sends h.responds)))

    -- the taker's is not probing or held after its own
    taker_yields : Unclaimed (stage_of_lem D R (after D es w.one (suc h.taken)) w.one_claim)
    unfolding conflicts_with
    taker_yields =
        let c : Calls D es w.one h.taken = calls_as D es w.one h.taken h.taker (hearer D es h.taken h.packet h.takes) in
        let m = is-from (λ (b : Message). D.conflicts b h.one_setup w.one_claim) (D.read h.packet) h.differs in
        let s = heard-step D R L es w.one h.taken c h.packet m.0 h.takes m.1 in
        yielded D R L es w.one h.taken h.one_setup h.one_has c w.one_claim s.0 m.0 s.1 m.2

    ended : holds D es w.one w.one_claim (suc h.taken) ≡ false
    ended = go (holds D es w.one w.one_claim (suc h.taken)) (λ e. holds-held D R L es w.one w.one_claim (suc h.taken) e)
      where
        go : (b : Bool) → (b ≡ true → stage_of_lem D R (after D es w.one (suc h.taken)) w.one_claim ≡ held) → b ≡ false
        go true f = absurd (subst Unclaimed (f refl) taker_yields)
        go false f = refl

    apart_for_good :
        (k : Claim) (type n : ℕ) (s t : Setup) (a b : List ℕ) → w.one_claim ≡ k → w.other_claim ≡ k → h.taken < n → n ≤ length es
        → data_at D es w.one n ≡ some s → data_at D es w.other n ≡ some t → D.rdata s k type ≡ some a → D.rdata t k type ≡ some b
        → D.same_name (D.name s k) (D.name t k) ≡ true → (a ≡ b → ⊥) → holds D es w.one k n ≡ true → holds D es w.other k n ≡ true → ⊥
    unfolding party
    apart_for_good k type n s t a b ek el g r hs ht cs ct same other p q =
        not-again D R L es base outset P k type h.sent h.taken h.since h.later
        (party D R L es base outset P w.one k type n s a hs cs) (party D R L es base outset P w.other k type n t b ht ct)
        (pair D R L es base outset P w.one w.other k type n s t a b hs ht cs ct w.two same) unchanged
        (ap (λ (l : Claim). stage_of_lem D R (after D es w.other (suc h.sent)) l) (sym el) ∙ sender_holds)
        (subst (λ (l : Claim). Unclaimed (stage_of_lem D R (after D es w.one (suc h.taken)) l)) ek taker_yields) n g r (λ f. other (differ f))
        (holds-held D R L es w.one k n p) (holds-held D R L es w.other k n q)
      where
        differ : record_in D k type (data_at D es w.one n) ≡ record_in D k type (data_at D es w.other n) → a ≡ b
        differ f = let z : some a ≡ some b = sym cs ∙ ap (record_in D k type) (sym hs) ∙ f ∙ ap (record_in D k type) ht ∙ ct in cc

    never : (n : ℕ) → h.taken < n → n ≤ length es → Together D es w n → ⊥
    never n g r t =
        apart_for_good w.one_claim t.type n t.one_setup t.other_setup t.one_data t.other_data refl (sym same) g r t.one_has t.other_has
        t.one_carries (ap (λ (l : Claim). D.rdata t.other_setup l t.type) same ∙ t.other_carries)
        (ap (λ (l : Claim). D.same_name (D.name t.one_setup w.one_claim) (D.name t.other_setup l)) same ∙ t.same_name) t.different t.one_holds
        (ap (λ (l : Claim). holds D es w.other l n) same ∙ t.other_holds)
      where
        -- a type belongs to one claim
        same : w.one_claim ≡ w.other_claim
        same = L.one_claim t.one_setup t.other_setup w.one_claim w.other_claim t.type t.one_data t.other_data t.one_carries t.other_carries

pub joined : (D : Responder) (R : Rules D) → Lawful D R → Joined D
unfolding Joined
joined D R L es base outset P f w h = record { ended = ended D R L es base outset P f w h; never = never D R L es base outset P f w h }

pub two_floors_joined : (D : Responder) (R : Rules D) → Lawful D R → TwoFloorsJoined D
unfolding TwoFloorsJoined Joined
two_floors_joined D R L es base outset P u w f = joined D R L es base outset P u w f.hearing
