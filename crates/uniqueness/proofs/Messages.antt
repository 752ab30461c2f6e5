-- What a response of own records says: it carries each of them, and a record under a claim's name is one of the claim's. Assumes nothing.
use mathlib.Core.Path.{◌≡◌, refl, ap, subst}
use mathlib.Core.Logic.{◌⊎◌, inl, inr}
use mathlib.Core.Bool.{true, false, ◌&&◌, ◌||◌}
use mathlib.Core.Option.{some}
use mathlib.Core.List.{List, [], ◌∷◌, ◌++◌, map}
use Prim.Native.Nat.{ℕ}
use Rattle.wire.specs.case_folding.Fold.{same_name}
use Rattle.wire.proofs.case_folding.Equal.{same_refl}
use Rattle.wire.specs.names.Names.{is_name}
use Rattle.wire.specs.message.Message.{Question, Record, Message, is_response, all_records}
use Rattle.wire.specs.message.Layout.{message_at}
use Rattle.own.specs.declared.records.Setup.{Setup}
use Rattle.own.specs.records.Setups.{valid_setup}
use Rattle.own.specs.records.Records.{has_record, own_labels, own_name}
use Rattle.own.proofs.records.Valid.{valid, instance-not_host, host-not_instance, service-not_instance, service-not_host}
use Rattle.claims.specs.records.Own.{all, own_type, has}
use Rattle.claims.specs.records.Sets as sets
use Rattle.claims.specs.declared.records.Own.{Own}
use Rattle.claims.specs.declared.records.Own.TheVariants.{Ptr, Srv, Txt, A, Aaaa, InstanceNsec, HostNsec}
use Rattle.claims.specs.declared.records.Set.{Set}
use Rattle.claims.specs.declared.steps.Output.{Output}
use Rattle.claims.specs.declared.steps.Output.TheVariants.{Nothing, Probe, Response}
use Rattle.wire.specs.Lists.{some as some_of}
use Rattle.writer.specs.declared.own_packets.Style.{Style}
use Rattle.writer.specs.own_packets.Styles.{response_style, plain_style, own_record}
use Rattle.writer.specs.own_packets.Own.{response_records, response_of, none_if_empty, response_packet, probe_packet, probe_of, plain_records, plain_reply_of, plain_packet}
use Rattle.roundtrip.proofs.OwnPackets.{response_back, probe-back, plain_back}
use Rattle.responder.specs.Calls.{packet_for, plain_for}
use Rattle.link.specs.Responder.{Destination, everyone, Parcel, Claim, instance, host}
use Rattle.link.specs.Premises.{Among}
use Rattle.link.specs.Laws.{Sent, to_all, ReadAs}
use Rattle.uniqueness.specs.Responder.{sends, own_claim, claim_record, name, message_of, read_as, is_data, data_under, responds}
use Rattle.uniqueness.specs.Rules.{unless_empty, response_for, messages_for, replies_for, Carried}
use Rattle.uniqueness.proofs.Lists.{clash, never, and_left, and_right, and_both, or_left, or_right, some_in, some_out, in_append, out_append, in_map, out_map, in_picked, out_picked}
use Rattle.uniqueness.proofs.Owned.{Owned, own_owner, own_data}

among_all : (r : Own) → Among r all
among_all Ptr = inl refl
among_all Srv = inr (inl refl)
among_all Txt = inr (inr (inl refl))
among_all A = inr (inr (inr (inl refl)))
among_all Aaaa = inr (inr (inr (inr (inl refl))))
among_all InstanceNsec = inr (inr (inr (inr (inr (inl refl)))))
among_all HostNsec = inr (inr (inr (inr (inr (inr (inl refl))))))

pub only_one : {A : Type 0} (x y : A) → Among x (y ∷ []) → x ≡ y
only_one x y (inl e) = e
only_one x y (inr h) = absurd h

module _ (s : Setup) (id : ℕ) (set : Set) where
  pub response_flag : is_response (response_of s id set).flags ≡ true
  unfolding response_of
  response_flag = refl

  in_response : (r : Own) → has r set ≡ true → has_record s r ≡ true → Among r (response_records s set)
  unfolding response_records
  in_response r h t =
      in_picked (λ (o : Own). has o set && has_record s o) r all (among_all r) (and_both (has r set) (has_record s r) h t)

  not-empty : (o : Own) (os : List Own) (m : Message) → Among o os → Among m (unless_empty os m)
  not-empty o [] m h = absurd h
  not-empty o (p ∷ ps) m h = inl refl

  -- it goes out where it has some record
  pub goes_out : (r : Own) → has r set ≡ true → has_record s r ≡ true → Among (response_of s id set) (response_for s id set)
  unfolding response_for
  goes_out r h t = not-empty r (response_records s set) (response_of s id set) (in_response r h t)

  member : (r : Own) → has r set ≡ true → has_record s r ≡ true → Among (own_record s (response_style id) r) (response_of s id set).answers
  unfolding response_of
  member r h t = in_map (own_record s (response_style id)) r (response_records s set) (in_response r h t)

  -- and it carries each
  pub carries : (k : Claim) (type : ℕ) (r : Own) → claim_record k type ≡ some r → has r set ≡ true → has_record s r ≡ true
      → Carried (response_of s id set) s k type
  unfolding own_record
  carries k type r e h t = record { own = r; owned = e; response = response_flag; member = member r h t }

  -- a record of the claim stands under its name
  pub says-name : (k : Claim) (type : ℕ) (r : Own) → Owned k type r → has r set ≡ true → has_record s r ≡ true
      → responds (response_of s id set) (name s k) ≡ true
  unfolding responds own_record
  says-name k type r o h t =
      and_both (is_response (response_of s id set).flags) (some_of (data_under (name s k)) (all_records (response_of s id set))) response_flag
      (some_in (data_under (name s k)) (own_record s (response_style id) r) (all_records (response_of s id set))
      (in_append (own_record s (response_style id) r) (response_of s id set).answers
      ((response_of s id set).authorities ++ (response_of s id set).additionals) (member r h t))
      (and_both (same_name (own_name s r) (name s k)) (is_data (own_type r)) (rw (own_owner s k type r o) (same_refl (name s k))) (own_data k type r o)))

-- ---- which record stands under a claim's name

module _ (s : Setup) (ok : valid_setup s ≡ true) (set : Set) where
  by_name : (k : Claim) (o : Own) → has o set ≡ true → same_name (own_name s o) (name s k) ≡ true → is_data (own_type o) ≡ true → sets.under (own_claim k) set ≡ true
  unfolding own_name own_labels sets.some_of
  by_name instance Ptr g n d = absurd (service-not_instance s s (valid s ok) (valid s ok) n)
  by_name instance Srv g n d = or_right set.txt (set.srv || false) (or_left set.srv false g)
  by_name instance Txt g n d = or_left set.txt (set.srv || false) g
  by_name instance A g n d = absurd (host-not_instance s s (valid s ok) (valid s ok) n)
  by_name instance Aaaa g n d = absurd (host-not_instance s s (valid s ok) (valid s ok) n)
  by_name instance InstanceNsec g n d = never d
  by_name instance HostNsec g n d = never d
  by_name host Ptr g n d = absurd (service-not_host s s (valid s ok) (valid s ok) n)
  by_name host Srv g n d = absurd (instance-not_host s s (valid s ok) (valid s ok) n)
  by_name host Txt g n d = absurd (instance-not_host s s (valid s ok) (valid s ok) n)
  by_name host A g n d = or_left set.a (set.aaaa || false) g
  by_name host Aaaa g n d = or_right set.a (set.aaaa || false) (or_left set.aaaa false g)
  by_name host InstanceNsec g n d = never d
  by_name host HostNsec g n d = never d

  -- own records in any style, in Answer
  abbrev in_style : Style → List Record
  in_style style = map (own_record s style) (response_records s set)

  answers_only : (style : Style) (r : Record) → Among r (in_style style ++ []) → Among r (in_style style)
  answers_only style r h = go (out_append r (in_style style) [] h)
    where
      go : Among r (in_style style) ⊎ Among r [] → Among r (in_style style)
      go (inl k) = k
      go (inr k) = absurd k

  -- one under the claim's name is a record of the claim
  style_said : (style : Style) (k : Claim) → some_of (data_under (name s k)) (in_style style ++ []) ≡ true → sets.under (own_claim k) set ≡ true
  unfolding response_records own_record
  style_said style k h =
      let found = some_out (data_under (name s k)) (in_style style ++ []) h in
      let made = out_map (own_record s style) found.0 (response_records s set) (answers_only style found.0 found.1) in
      let taken = out_picked (λ (o : Own). has o set && has_record s o) made.0 all made.1 in
      let its : data_under (name s k) (own_record s style made.0) ≡ true =
      subst (λ (r : Record). data_under (name s k) r ≡ true) made.2 found.2 in
      by_name k made.0 (and_left (has made.0 set) (has_record s made.0) taken.1)
      (and_left (same_name (own_name s made.0) (name s k)) (is_data (own_type made.0)) its)
      (and_right (same_name (own_name s made.0) (name s k)) (is_data (own_type made.0)) its)

  -- a response under the claim's name has a record of the claim
  pub name-said : (id : ℕ) (k : Claim) → responds (response_of s id set) (name s k) ≡ true → sets.under (own_claim k) set ≡ true
  unfolding responds response_of
  name-said id k h =
      style_said (response_style id) k
      (and_right (is_response (response_of s id set).flags) (some_of (data_under (name s k)) (all_records (response_of s id set))) h)

-- and so has a plain reply
pub plain-said : (s : Setup) → valid_setup s ≡ true → (set : Set) (id : ℕ) (q : Question) (k : Claim) → responds (plain_reply_of s set id q) (name s k) ≡ true
    → sets.under (own_claim k) (sets.with_data set) ≡ true
unfolding responds plain_reply_of plain_records
plain-said s ok set id q k h =
    style_said s ok (sets.with_data set) (plain_style id q.rtype q.class) k
    (and_right (is_response (plain_reply_of s set id q).flags) (some_of (data_under (name s k)) (all_records (plain_reply_of s set id q))) h)

-- ---- what is written reads back

-- a message as it goes there
abbrev pub sent_to : Destination → Message → Sent Message
sent_to to m = record { to = to; message = m }

-- a packet that is read as a message is not empty
pub reads : (to : Destination) (p : List ℕ) (m : Message) → read_as p ≡ some m → ReadAs read_as (sends to p) (sent_to to m ∷ [])
unfolding message_at
reads to [] m e = clash (cc)
reads to (b ∷ bs) m e = ((refl, e), tt)

-- one packet after another
pub both_read :
    (ps qs : List Parcel) (ms ns : List (Sent Message)) → ReadAs read_as ps ms → ReadAs read_as qs ns → ReadAs read_as (ps ++ qs) (ms ++ ns)
both_read [] qs [] ns r w = w
both_read [] qs (m ∷ ms) ns r w = absurd r
both_read (p ∷ ps) qs [] ns r w = absurd r
both_read (p ∷ ps) qs (m ∷ ms) ns r w = (r.0, both_read ps qs ms ns r.1 w)

module _ (s : Setup) (ok : valid_setup s ≡ true) where
  response_packet_lem : (to : Destination) (id : ℕ) (set : Set) (os : List Own) → response_records s set ≡ os
      → ReadAs read_as (sends to (none_if_empty os (response_packet s id set))) (map (sent_to to) (unless_empty os (response_of s id set)))
  response_packet_lem to id set [] e = tt
  response_packet_lem to id set (o ∷ os) e =
      reads to (response_packet s id set) (response_of s id set) (ap message_of (response_back s ok id set (λ z. clash (cc))))

  none-twice : (os : List Own) (p : List ℕ) → none_if_empty os (none_if_empty os p) ≡ none_if_empty os p
  none-twice [] p = refl
  none-twice (o ∷ os) p = refl

  response_none : (id : ℕ) (set : Set) → none_if_empty (response_records s set) (response_packet s id set) ≡ response_packet s id set
  unfolding response_packet
  response_none id set = none-twice (response_records s set) _

  -- a response is read as its message
  pub response_reads : (to : Destination) (id : ℕ) (set : Set) → ReadAs read_as (sends to (response_packet s id set)) (map (sent_to to) (response_for s id set))
  unfolding response_for
  response_reads to id set =
      subst (λ (p : List ℕ). ReadAs read_as (sends to p) (map (sent_to to) (unless_empty (response_records s set) (response_of s id set)))) (response_none id set)
      (response_packet_lem to id set (response_records s set) refl)

  -- and the packet of an output
  pub output_reads : (o : Output) → ReadAs read_as (sends everyone (packet_for s o)) (map to_all (messages_for s o))
  unfolding packet_for messages_for
  output_reads Nothing = tt
  output_reads (Probe k) = reads everyone (probe_packet s k) (probe_of s k) (ap message_of (probe-back s ok k))
  output_reads (Response set) = response_reads everyone 0 set

  -- a plain reply too
  plain-reads : (to : Destination) (set : Set) (id : ℕ) (q : Question) → is_name q.name ≡ true → (os : List Own) → plain_records s set ≡ os
      → ReadAs read_as (sends to (none_if_empty os (plain_packet s set id q))) (map (sent_to to) (unless_empty os (plain_reply_of s set id q)))
  plain-reads to set id q n [] e = tt
  plain-reads to set id q n (o ∷ os) e =
      reads to (plain_packet s set id q) (plain_reply_of s set id q) (ap message_of (plain_back s ok set id q n (λ z. clash (cc))))

  plain-none : (set : Set) (id : ℕ) (q : Question) → is_name q.name ≡ true → none_if_empty (plain_records s set) (plain_packet s set id q) ≡ plain_packet s set id q
  unfolding plain_packet
  plain-none set id q n = simp n (none-twice (plain_records s set) _)

  pub reply-reads :
      (to : Destination) (set : Set) (id : ℕ) (qs : List Question)
      → ((q : Question) (rest : List Question) → qs ≡ q ∷ rest → is_name q.name ≡ true)
      → ReadAs read_as (sends to (plain_for s set id qs)) (map (sent_to to) (replies_for s set id qs))
  unfolding replies_for
  reply-reads to set id [] n = tt
  reply-reads to set id (q ∷ []) n =
      let is_name_lem : is_name q.name ≡ true = n q [] refl in
      subst (λ (p : List ℕ). ReadAs read_as (sends to p) (map (sent_to to) (unless_empty (plain_records s set) (plain_reply_of s set id q))))
      (plain-none set id q is_name_lem) (plain-reads to set id q is_name_lem (plain_records s set) refl)
  reply-reads to set id (q ∷ (r ∷ rs)) n = tt
