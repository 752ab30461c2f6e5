-- What one accepted call sends, in messages: a claim's probe, or a response with own records alone. Assumes nothing.
use mathlib.Core.Path.{◌≡◌, refl, sym, ap, subst, ◌∙◌}
use mathlib.Core.Logic.{◌⊎◌, inl, inr}
use mathlib.Core.Bool.{true}
use mathlib.Core.List.{List, [], ◌∷◌, ◌++◌, map}
use Prim.Native.Nat.{ℕ}
use Rattle.wire.specs.message.Message.{Question, Message, is_response, all_records}
use Rattle.own.specs.declared.records.Setup.{Setup}
use Rattle.claims.specs.records.Sets.{with_data}
use Rattle.claims.specs.declared.records.Claim as own
use Rattle.claims.specs.declared.records.Set.{Set}
use Rattle.claims.specs.declared.steps.Output.{Output}
use Rattle.claims.specs.declared.steps.Output.TheVariants.{Nothing, Probe, Response}
use Rattle.writer.specs.declared.own_packets.Style.{Style}
use Rattle.writer.specs.own_packets.Styles.{response_style, plain_style, own_record}
use Rattle.writer.specs.own_packets.Own.{response_records, response_of, probe_of, plain_records, plain_reply_of}
use Rattle.responder.specs.declared.State.{State}
use Rattle.link.specs.Premises.{Among}
use Rattle.link.specs.Laws as law
use Rattle.uniqueness.specs.Responder.{revise, responder}
use Rattle.uniqueness.specs.Rules.{response_for, messages_for, replies_for, to_asker, told, served, output_of, rules}
use Rattle.uniqueness.proofs.Lists.{out_append, out_map}
use Rattle.uniqueness.proofs.Messages.{only_one}
use Rattle.uniqueness.proofs.Facts.{unless_out}

-- a claim's probe, or a response with own records alone
pub data Outgoing (s : Setup) (m : Message) : Type 0 where
  asks : (j : own.Claim) → m ≡ probe_of s j → Outgoing s m
  tells : (style : Style) (set : Set) → is_response m.flags ≡ true → all_records m ≡ map (own_record s style) (response_records s set) ++ [] → Outgoing s m

response_out : (s : Setup) (id : ℕ) (set : Set) (m : Message) → Among m (response_for s id set) → Outgoing s m
unfolding response_for response_of
response_out s id set m h =
    let e : m ≡ response_of s id set = unless_out (response_records s set) (response_of s id set) m h in
    tells (response_style id) set (ap (λ (n : Message). is_response n.flags) e) (ap all_records e)

output_out : (s : Setup) (o : Output) (m : Message) → Among m (messages_for s o) → Outgoing s m
unfolding messages_for
output_out s Nothing m h = absurd h
output_out s (Probe j) m h = asks j (only_one m (probe_of s j) h)
output_out s (Response set) m h = response_out s 0 set m h

plain_out : (s : Setup) (set : Set) (id : ℕ) (qs : List Question) (m : Message) → Among m (replies_for s set id qs) → Outgoing s m
unfolding replies_for plain_reply_of plain_records
plain_out s set id [] m h = absurd h
plain_out s set id (q ∷ []) m h =
    let e : m ≡ plain_reply_of s set id q = unless_out (plain_records s set) (plain_reply_of s set id q) m h in
    tells (plain_style id q.rtype q.class) (with_data set) (ap (λ (n : Message). is_response n.flags) e) (ap all_records e)
plain_out s set id (q ∷ (r ∷ rs)) m h = absurd h

module _ (x : State) where
  as_sent : (s : Setup) (q : law.Sent Message) (m : Message) (to : Message → law.Sent Message) → ((n : Message) → (to n).message ≡ n) → q ≡ to m → Outgoing s m
      → Outgoing s q.message
  as_sent s q m to f e o = subst (λ (n : Message). Outgoing s n) (sym (f m) ∙ ap (λ (r : law.Sent Message). r.message) (sym e)) o

  pub outgoing : (c : law.Step responder) (q : law.Sent Message) → Among q (law.out responder rules x c)
      → Outgoing (law.data_after responder c x.setup) q.message
  outgoing (law.ticks t) q h =
      let m = out_map law.to_all q (messages_for x.setup (output_of x (law.ticks t))) h in
      as_sent x.setup q m.0 law.to_all (λ n. refl) m.2 (output_out x.setup (output_of x (law.ticks t)) m.0 m.1)
  outgoing (law.hears arrival b) q h =
      go
      (out_append q (map law.to_all (messages_for x.setup (output_of x (law.hears arrival b))))
      (map (to_asker arrival) (response_for x.setup b.id (told x arrival b).unicast)) h)
    where
      go :
          Among q (map law.to_all (messages_for x.setup (output_of x (law.hears arrival b))))
          ⊎ Among q (map (to_asker arrival) (response_for x.setup b.id (told x arrival b).unicast))
          → Outgoing x.setup q.message
      go (inl i) =
          let m = out_map law.to_all q (messages_for x.setup (output_of x (law.hears arrival b))) i in
          as_sent x.setup q m.0 law.to_all (λ n. refl) m.2 (output_out x.setup (output_of x (law.hears arrival b)) m.0 m.1)
      go (inr i) =
          let m = out_map (to_asker arrival) q (response_for x.setup b.id (told x arrival b).unicast) i in
          as_sent x.setup q m.0 (to_asker arrival) (λ n. refl) m.2 (response_out x.setup b.id (told x arrival b).unicast m.0 m.1)
  outgoing (law.serves arrival b) q h =
      let m = out_map (to_asker arrival) q (replies_for x.setup (served x arrival b).unicast b.id b.questions) h in
      as_sent x.setup q m.0 (to_asker arrival) (λ n. refl) m.2
      (plain_out x.setup (served x arrival b).unicast b.id b.questions m.0 m.1)
  outgoing (law.updates u) q h =
      let m = out_map law.to_all q (messages_for (revise u x.setup) (output_of x (law.updates u))) h in
      as_sent (revise u x.setup) q m.0 law.to_all (λ n. refl) m.2 (output_out (revise u x.setup) (output_of x (law.updates u)) m.0 m.1)
