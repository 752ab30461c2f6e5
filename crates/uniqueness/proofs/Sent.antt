-- What one accepted call sends, in messages, to all and to the asker: law `said`. Assumes nothing.
use mathlib.Core.Path.{◌≡◌, refl, sym, ap, subst, ◌∙◌}
use mathlib.Core.Logic.{◌⊎◌, inl, inr}
use mathlib.Core.Bool.{Bool, true, false, cond, not, ◌&&◌}
use mathlib.Core.Option.{some}
use mathlib.Core.List.{List, [], ◌∷◌, map}
use Prim.Native.Nat.{ℕ}
use Rattle.wire.specs.message.Message.{Question, Message, is_response}
use Rattle.own.specs.declared.records.Setup.{Setup}
use Rattle.own.specs.records.Setups.{valid_setup}
use Rattle.own.specs.changes.Changes.{change_of}
use Rattle.own.proofs.changes.Revised.{name-stays}
use Rattle.own.specs.records.Records.{has_record}
use Rattle.claims.specs.Claims.{claim_of, held_now}
use Rattle.claims.specs.records.Own.{has}
use Rattle.claims.specs.records.Sets.{with_data, under, some_of, only, no_record}
use Rattle.claims.specs.changes.Changes.{changed_record, announced_of, update_of}
use Rattle.claims.specs.declared.changes.Change.{Change}
use Rattle.claims.specs.declared.changes.Change.TheVariants.{Port, Txt}
use Rattle.claims.proofs.changes.Updates as changes
use Rattle.claims.specs.declared.records.Claim.TheVariants.{Instance, Host}
use Rattle.claims.specs.declared.records.Claim as own
use Rattle.claims.specs.declared.records.Own.{Own}
use Rattle.claims.specs.declared.ClaimState.{ClaimState}
use Rattle.claims.specs.declared.Progress.{Progress}
use Rattle.claims.specs.declared.records.Set.{Set}
use Rattle.claims.specs.steps.Tick.{concerns}
use Rattle.claims.specs.declared.steps.Output.{Output}
use Rattle.claims.specs.declared.steps.Output.TheVariants.{Nothing, Probe, Response}
use Rattle.claims.proofs.steps.Moves.{Move, stays, probes, announces, repeats, answers, tick-move}
use Rattle.claims.specs.answers.Answers.{asks_of, is_due, is_to_asker, wanted_of, asked_by, multicast_asks, unicast_asks, due_to, judged_of, plain_of}
use Rattle.claims.specs.answers.Held.{held_back}
use Rattle.claims.specs.declared.answers.Asks.{Asks}
use Rattle.claims.specs.declared.answers.Facts.{Facts}
use Rattle.claims.specs.records.Own.{carries_data, claim_for, first_of, present}
use Rattle.claims.proofs.records.Sets.{has-each}
use Rattle.claims.proofs.answers.Causes.{IsDue, only-due, held-or_judged}
use Rattle.claims.proofs.answers.Receives.{answered_wanted, plain-claim}
use Rattle.claims.proofs.answers.Asking.{asks-query}
use Rattle.facts.specs.Facts.{facts_of}
use Rattle.writer.specs.own_packets.Own.{response_records, response_of, probe_of, plain_records, plain_reply_of}
use Rattle.responder.specs.Calls.{walked_of}
use Rattle.responder.specs.changes.Changes.{Update}
use Rattle.responder.specs.declared.State.{State}
use Rattle.link.specs.Responder.{Claim, instance, host, everyone}
use Rattle.link.specs.Premises.{Among}
use Rattle.link.specs.Laws as law
use Rattle.responder.specs.Handed.{Arrival, coming_of, Tick}
use Rattle.uniqueness.specs.Responder.{own_claim, back_to, revise, claim_record, name, responds, responder}
use Rattle.uniqueness.specs.Rules.{response_for, messages_for, replies_for, to_asker, told, served, renewed, progress_of, output_of, stage_of, claim_at, Fits, rules}
use Rattle.uniqueness.proofs.Lists.{clash, never, and_left, and_right, in_append, in_tail, out_append, in_map, out_map}
use Rattle.uniqueness.proofs.Owned.{Owned, own_claim_lem}
use Rattle.uniqueness.proofs.Messages.{only_one, goes_out, carries, name-said, plain-said}
use Rattle.uniqueness.proofs.Hearing.{Hears, same, yields, defers, heard}
use Rattle.uniqueness.proofs.Facts.{stage_held, announce_held, repeat_held, OneOf, one_of, facts_response, is-response, query-flag, unless_out}

module _ (x : State) (ok : valid_setup x.setup ≡ true) where
  abbrev aaaa' : Bool
  aaaa' = x.setup.hasaaaa

  -- the data after a call
  abbrev data_after : law.Step responder → Setup
  data_after c = law.data_after responder c x.setup

  pub in_out :
      (c : law.Step responder) (o : Output) (m : Message) → output_of x c ≡ o → Among m (messages_for (data_after c) o)
      → Among (law.to_all m) (law.out responder rules x c)
  unfolding messages_for
  in_out (law.ticks t) o m e h =
      in_map law.to_all m (messages_for x.setup (output_of x (law.ticks t))) (subst (λ (l : List Message). Among m l) (sym (ap (messages_for x.setup) e)) h)
  in_out (law.hears a b) o m e h =
      in_append (law.to_all m) (map law.to_all (messages_for x.setup (output_of x (law.hears a b))))
      (map (to_asker a) (response_for x.setup b.id (told x a b).unicast))
      (in_map law.to_all m (messages_for x.setup (output_of x (law.hears a b))) (subst (λ (l : List Message). Among m l) (sym (ap (messages_for x.setup) e)) h))
  in_out (law.serves a b) o m e h = absurd (subst (λ (p : Output). Among m (messages_for x.setup p)) (sym e) h)
  in_out (law.updates u) o m e h =
      in_map law.to_all m (messages_for (revise u x.setup) (output_of x (law.updates u)))
      (subst (λ (l : List Message). Among m l) (sym (ap (messages_for (revise u x.setup)) e)) h)

  -- ---- what is told, to all and to the asker

  module _ (k : Claim) (type : ℕ) (r : Own) (is : claim_record k type ≡ some r) where
    pub told-all :
        (c : law.Step responder) → has_record (data_after c) r ≡ true → (set : Set) → output_of x c ≡ Response set → has r set ≡ true
        → law.Tells responder rules (data_after c) x c k type everyone
    unfolding messages_for
    told-all c there set e h =
        record {
          message = response_of (data_after c) 0 set;
          sent = in_out c (Response set) (response_of (data_after c) 0 set) e (goes_out (data_after c) 0 set r h there);
          carries = carries (data_after c) 0 set k type r is h there;
        }

    pub told-asker :
        (a : Arrival) (m : Message) → has_record x.setup r ≡ true → has r (told x a m).unicast ≡ true
        → law.Tells responder rules x.setup x (law.hears a m) k type (back_to a)
    told-asker a m there h =
        let reply : Message = response_of x.setup m.id (told x a m).unicast in
        record {
          message = reply;
          sent =
              in_tail (to_asker a reply) (map law.to_all (messages_for x.setup (output_of x (law.hears a m))))
              (map (to_asker a) (response_for x.setup m.id (told x a m).unicast))
              (in_map (to_asker a) reply (response_for x.setup m.id (told x a m).unicast) (goes_out x.setup m.id (told x a m).unicast r h there));
          carries = carries x.setup m.id (told x a m).unicast k type r is h there;
        }

  -- ---- what is said

  abbrev HeldThen : law.Step responder → Claim → Type 0
  HeldThen c k = stage_of (claim_of (own_claim k) (progress_of x c)) ≡ law.held

  tick-said : (t : Tick) (k : Claim) (set : Set) → (walked_of x t.time).output ≡ Response set → under (own_claim k) set ≡ true → HeldThen (law.ticks t) k
  tick-said t k set e u = go (tick-move (own_claim k) aaaa' t.time x.progress)
    where
      after : ClaimState
      after = claim_of (own_claim k) (walked_of x t.time).progress

      go : Move (own_claim k) aaaa' t.time (claim_at x k) after (walked_of x t.time).output → HeldThen (law.ticks t) k
      go (stays f n) = let z : concerns (own_claim k) (walked_of x t.time).output ≡ true = ap (concerns (own_claim k)) e ∙ u in never (sym n ∙ z)
      go (probes d w f) = let z : Response set ≡ Probe (own_claim k) = sym e ∙ f in clash (cc)
      go (announces d w f) = announce_held (claim_at x k) after t.time w
      go (repeats d w f) = (repeat_held (claim_at x k) after t.time w).1
      go (answers other f h g) = ap stage_of f ∙ stage_held (claim_at x k) h

  -- what is asked for, by multicast or by unicast, is asked for by a query
  asked-query : (unicast : Bool) (now : ℕ) (f : Facts) (r : Own) → has r (asked_by unicast x.progress f now) ≡ true → f.response ≡ false
  unfolding asked_by
  asked-query unicast now f r h =
      asks-query f r
      (and_left (has r (asks_of f).asked) _ (sym (has-each (λ o. has o (asks_of f).asked && way unicast o) r) ∙ h))
    where
      way : Bool → Own → Bool
      way u o = cond u (is_to_asker x.progress f now o) (not (is_to_asker x.progress f now o))

  -- a record of the claim that goes out for a message: the claim was held and the message is a query, so it is held then
  module _ (arrival : Arrival) (m : Message) (k : Claim) where
    abbrev f : Facts
    f = facts_of x.setup m

    out_held :
        (type : ℕ) (r : Own) → Owned k type r → held_now (claim_of (claim_for r) x.progress) ≡ true → (facts_of x.setup m).response ≡ false
        → HeldThen (law.hears arrival m) k
    out_held type r o h q = go (heard x arrival m k)
      where
        was_held : held_now (claim_at x k) ≡ true
        was_held = subst (λ (j : own.Claim). held_now (claim_of j x.progress) ≡ true) (own_claim_lem k type r o) h

        is-query : is_response m.flags ≡ false
        is-query = sym (facts_response x.setup m) ∙ q

        go : Hears x arrival m k → HeldThen (law.hears arrival m) k
        go (same e g) = e ∙ stage_held (claim_at x k) was_held
        go (yields c g) = never (sym is-query ∙ is-response x.setup m k c)
        go (defers i v c p g) = let z = stage_held (claim_at x k) was_held in clash (cc)

    hear_said : under (own_claim k) (told x arrival m).answers ≡ true → HeldThen (law.hears arrival m) k
    unfolding multicast_asks
    hear_said u =
        let one : OneOf k (told x arrival m).answers = one_of k (told x arrival m).answers u in
        let due : IsDue x.progress arrival.time (multicast_asks x.progress f arrival.time) aaaa' one.own =
        only-due x.progress arrival.time (multicast_asks x.progress f arrival.time) aaaa' one.own
        (answered_wanted (coming_of arrival) f aaaa' x.progress one.own one.there) in
        out_held one.type one.own one.is due.held (asked-query false arrival.time f one.own due.asked)

    -- what goes to the asker is wanted
    replied_wanted :
        (r : Own) → has r (told x arrival m).unicast ≡ true
        → has r (wanted_of x.progress (unicast_asks x.progress f arrival.time) arrival.time aaaa') ≡ true
    unfolding held_back judged_of
    replied_wanted r =
        held-or_judged x.progress (coming_of arrival) f aaaa'
        (λ b v. has r v.unicast ≡ true → has r (wanted_of x.progress (unicast_asks x.progress f arrival.time) arrival.time aaaa') ≡ true)
        (λ e h. never (sym (has-each (λ o. false) r) ∙ h)) (λ e h. h)

    reply-said : under (own_claim k) (told x arrival m).unicast ≡ true → HeldThen (law.hears arrival m) k
    unfolding unicast_asks
    reply-said u =
        let one : OneOf k (told x arrival m).unicast = one_of k (told x arrival m).unicast u in
        let due : IsDue x.progress arrival.time (unicast_asks x.progress f arrival.time) aaaa' one.own =
        only-due x.progress arrival.time (unicast_asks x.progress f arrival.time) aaaa' one.own (replied_wanted one.own one.there) in
        out_held one.type one.own one.is due.held (asked-query true arrival.time f one.own due.asked)

  -- an update is announced where the claim is held, and stays so
  update-said : (new : Update) (k : Claim) → under (own_claim k) (renewed x new).announced ≡ true → HeldThen (law.updates new) k
  unfolding update_of announced_of some_of only
  update-said new instance u = go (held_now x.progress.instance) refl u
    where
      go : (b : Bool) → held_now x.progress.instance ≡ b → under Instance (cond b (only (changed_record (change_of new.new))) no_record) ≡ true
          → HeldThen (law.updates new) instance
      go true h v = ap stage_of (changes.update-announces x.progress new.time (change_of new.new) h).0
      go false h v = never v
  update-said new host u = never (sym (none_of (held_now x.progress.instance) (change_of new.new)) ∙ u)
    where
      none_of : (b : Bool) (change : Change) → under Host (cond b (only (changed_record change)) no_record) ≡ false
      none_of true Port = refl
      none_of true Txt = refl
      none_of false Port = refl
      none_of false Txt = refl

  said_by : (c : law.Step responder) (k : Claim) (set : Set) → output_of x c ≡ Response set → under (own_claim k) set ≡ true → HeldThen c k
  said_by (law.ticks t) k set e u = tick-said t k set e u
  said_by (law.hears arrival m) k set e u =
      let z : (told x arrival m).answers ≡ set = cc in
      hear_said arrival m k (subst (λ (r : Set). under (own_claim k) r ≡ true) (sym z) u)
  said_by (law.serves arrival m) k set e u = clash (cc)
  said_by (law.updates new) k set e u =
      let z : (renewed x new).announced ≡ set = cc in
      update-said new k (subst (λ (r : Set). under (own_claim k) r ≡ true) (sym z) u)

  says-not : (m : Message) (n : List ℕ) → is_response m.flags ≡ false → responds m n ≡ true → ⊥
  unfolding responds
  says-not m n e h = never (sym e ∙ and_left (is_response m.flags) _ h)

  said_as :
      (c : law.Step responder) → valid_setup (data_after c) ≡ true → (k : Claim) (m : Message) (o : Output) → output_of x c ≡ o
      → Among m (messages_for (data_after c) o) → responds m (name (data_after c) k) ≡ true → HeldThen c k
  unfolding messages_for response_for
  said_as c fine k m Nothing e h s = absurd h
  said_as c fine k m (Probe j) e h s =
      absurd
      (says-not m (name (data_after c) k)
      (ap (λ (n : Message). is_response n.flags) (only_one m (probe_of (data_after c) j) h) ∙ query-flag (data_after c) j) s)
  said_as c fine k m (Response set) e h s =
      said_by c k set e
      (name-said (data_after c) fine set 0 k
      (subst (λ (n : Message). responds n (name (data_after c) k) ≡ true)
      (unless_out (response_records (data_after c) set) (response_of (data_after c) 0 set) m h) s))

  -- a response to the asker
  reply-as : (a : Arrival) (b : Message) (k : Claim) (m : Message) → Among m (response_for x.setup b.id (told x a b).unicast)
      → responds m (name x.setup k) ≡ true → HeldThen (law.hears a b) k
  unfolding response_for
  reply-as a b k m h s =
      let set : Set = (told x a b).unicast in
      reply-said a b k
      (name-said x.setup ok (told x a b).unicast b.id k
      (subst (λ (n : Message). responds n (name x.setup k) ≡ true)
      (unless_out (response_records x.setup (told x a b).unicast) (response_of x.setup b.id (told x a b).unicast) m h) s))

  -- a plain reply is sent of held claims alone
  due-held : (progress : Progress) (q : Asks) (o : Own) → is_due progress q aaaa' o ≡ true → held_now (claim_of (claim_for o) progress) ≡ true
  due-held progress q o h = and_left (held_now (claim_of (claim_for o) progress)) (present o aaaa' && has o q.asked) h

  serve_held : (arrival : Arrival) (m : Message) (k : Claim) → under (own_claim k) (with_data (served x arrival m).unicast) ≡ true → HeldThen (law.serves arrival m) k
  unfolding with_data plain_of due_to
  serve_held arrival m k u =
      let f : Facts = facts_of x.setup m in
      let one : OneOf k (with_data (served x arrival m).unicast) = one_of k (with_data (served x arrival m).unicast) u in
      let o : Own = one.own in
      let there : (carries_data o && has o (served x arrival m).unicast) ≡ true = sym (has-each (λ p. carries_data p && has p (served x arrival m).unicast) o) ∙ one.there in
      let due : is_due x.progress (asks_of f) aaaa' o ≡ true =
      sym (has-each (is_due x.progress (asks_of f) aaaa') o) ∙ and_right (carries_data o) (has o (served x arrival m).unicast) there in
      let was_held : held_now (claim_at x k) ≡ true =
      subst (λ (j : own.Claim). held_now (claim_of j x.progress) ≡ true) (own_claim_lem k one.type o one.is) (due-held x.progress (asks_of f) o due) in
      ap stage_of (plain-claim arrival.time f aaaa' (own_claim k) x.progress) ∙ stage_held (claim_at x k) was_held

  serve_said : (arrival : Arrival) (b : Message) (k : Claim) (qs : List Question) (m : Message)
      → Among m (replies_for x.setup (served x arrival b).unicast b.id qs) → responds m (name x.setup k) ≡ true → HeldThen (law.serves arrival b) k
  unfolding replies_for
  serve_said arrival b k [] m h s = absurd h
  serve_said arrival b k (q ∷ []) m h s =
      serve_held arrival b k
      (plain-said x.setup ok (served x arrival b).unicast b.id q k
      (subst (λ (n : Message). responds n (name x.setup k) ≡ true)
      (unless_out (plain_records x.setup (served x arrival b).unicast) (plain_reply_of x.setup (served x arrival b).unicast b.id q) m h) s))
  serve_said arrival b k (q ∷ (r ∷ rs)) m h s = absurd h

  pub said : (c : law.Step responder) → Fits x c → (k : Claim) (q : law.Sent Message) → Among q (law.out responder rules x c)
      → responds q.message (name x.setup k) ≡ true
      → rules.stage (law.next responder rules x c) k ≡ law.held
  said (law.ticks t) fits k q h s =
      let m = out_map law.to_all q (messages_for x.setup (output_of x (law.ticks t))) h in
      said_as (law.ticks t) ok k m.0 (output_of x (law.ticks t)) refl m.1 (ap (λ (y : law.Sent Message). responds y.message (name x.setup k)) (sym m.2) ∙ s)
  said (law.hears a b) fits k q h s =
      go
      (out_append q (map law.to_all (messages_for x.setup (output_of x (law.hears a b))))
      (map (to_asker a) (response_for x.setup b.id (told x a b).unicast)) h)
    where
      go :
          Among q (map law.to_all (messages_for x.setup (output_of x (law.hears a b))))
          ⊎ Among q (map (to_asker a) (response_for x.setup b.id (told x a b).unicast))
          → HeldThen (law.hears a b) k
      go (inl i) =
          let m = out_map law.to_all q (messages_for x.setup (output_of x (law.hears a b))) i in
          said_as (law.hears a b) ok k m.0 (output_of x (law.hears a b)) refl m.1
          (ap (λ (y : law.Sent Message). responds y.message (name x.setup k)) (sym m.2) ∙ s)
      go (inr i) =
          let m = out_map (to_asker a) q (response_for x.setup b.id (told x a b).unicast) i in
          reply-as a b k m.0 m.1 (ap (λ (y : law.Sent Message). responds y.message (name x.setup k)) (sym m.2) ∙ s)
  said (law.serves a b) fits k q h s =
      let m = out_map (to_asker a) q (replies_for x.setup (served x a b).unicast b.id b.questions) h in
      serve_said a b k b.questions m.0 m.1 (ap (λ (y : law.Sent Message). responds y.message (name x.setup k)) (sym m.2) ∙ s)
  said (law.updates u) fits k q h s =
      let m = out_map law.to_all q (messages_for (revise u x.setup) (output_of x (law.updates u))) h in
      said_as (law.updates u) fits.0 k m.0 (output_of x (law.updates u)) refl m.1
      (ap (λ (n : List ℕ). responds m.0 n) (name-stays x.setup u.new (first_of (own_claim k)))
      ∙ ap (λ (y : law.Sent Message). responds y.message (name x.setup k)) (sym m.2)
      ∙ s)
