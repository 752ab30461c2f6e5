-- Every packet of a run has the data of then: what is written of a set-up is read as its own records, and after an update no packet says the old data. Assumes
-- nothing.
use Prim.Native.Nat.{ℕ, ◌≤◌}
use mathlib.Core.Path.{◌≡◌, refl, sym, ap, subst, ◌∙◌}
use mathlib.Core.List.{List, [], ◌∷◌, ◌++◌, map}
use mathlib.Core.Bool.{Bool, true, false, cond, ◌&&◌}
use native.Mathlib.Omega.{arith}
use lib.ListN.{length}
use lib.Dec.{eqb, leb}
use borrow.Author.Tests.{eqb-true, leb-true}
use mathlib.Mathlib.Data.Bool.Basic.{and-eq-true-eq-eq-true-and-eq-true as both}
use Rattle.std.specs.Prelude.{is_some}
use Rattle.wire.specs.names.Names.{is_name}
use Rattle.wire.specs.rdata.Rdata.{strings_fill}
use Rattle.wire.specs.message.Message.{Record, Message}
use Rattle.wire.specs.message.Layout.{plain_header}
use Rattle.own.specs.declared.records.Setup.{Setup}
use Rattle.own.specs.records.Setups.{valid_setup}
use Rattle.own.specs.records.Records.{own_name, own_rdata}
use Rattle.own.specs.changes.Changes.{NewData, new_port, new_txt, revised, change_of, valid_data}
use Rattle.own.proofs.records.Valid.{valid, own_is_name}
use Rattle.own.proofs.changes.Revised.{rdata-stays, port-new, txt-new, revised-valid}
use Rattle.claims.specs.records.Own.{first_of, own_type}
use Rattle.claims.specs.changes.Changes.{changed_record}
use Rattle.claims.specs.records.Sets.{no_record}
use Rattle.claims.specs.declared.records.Claim.TheVariants.{Instance}
use Rattle.claims.specs.declared.records.Own.{Own}
use Rattle.claims.specs.declared.records.Own.TheVariants.{Ptr, Srv, Txt, A, Aaaa, InstanceNsec, HostNsec}
use Rattle.writer.specs.declared.own_packets.Style.{Style}
use Rattle.writer.specs.own_packets.Styles.{response_style, probe_style, plain_style, own_record, styled_message, packet_in}
use Rattle.writer.specs.own_packets.Own.{response_records, probe_records, plain_records, none_if_empty, response_packet, probe_packet, plain_packet}
use Rattle.writer.specs.own_packets.Goodbye.{goodbye_style, goodbye_packet}
use Rattle.writer.specs.own_packets.Ready.{TtlSmall, each, fixed}
use Rattle.roundtrip.specs.Writable.{Each, none, one, layout_of}
use Rattle.roundtrip.proofs.OwnPackets.{style_back, packets_fit, plain_fits, unasked}
use Rattle.roundtrip.proofs.Goodbye.{goodbye-fits}
use Rattle.responder.specs.Runs.{updated, refusal_of_call, state_after, packet_of, unicast_of, run}
use Rattle.responder.specs.Data.{taken_by, taken, revised_all, WrittenOf}
use Rattle.responder.specs.Data as written
use Rattle.responder.specs.changes.Changes.{Update, update_refusal, update_of}
use Rattle.responder.specs.declared.State.{State}
use Rattle.responder.proofs.Refusals.{refused_keeps}
use Rattle.responder.proofs.Closure.{accepted_sound}
use Rattle.responder.proofs.changes.Updates.{accepted, updated-state}
use Rattle.responder.proofs.changes.Data.{call-setup, run-setup, sent_of_lem}
use Rattle.changes.specs.Statement.{OwnIn, records_in, Carries, CarriesData, Other, says_now, SaysNew, NewIn, NewDataAnnounced, NewDataSent}
use Rattle.changes.specs.Statement as say
use Rattle.changes.proofs.Right.{right_setup}

each_append : {A : Type 0} {Ok : A → Type 0} {xs ys : List A} → Each Ok xs → Each Ok ys → Each Ok (xs ++ ys)
each_append none qs = qs
each_append (one p ps) qs = one p (each_append ps qs)

each_map : {A : Type 0} {P Q : A → Type 0} {xs : List A} → ((x : A) → P x → Q x) → Each P xs → Each Q xs
each_map f none = none
each_map f (one p ps) = one (f _ p) (each_map f ps)

-- ---- what is written of a set-up is read as its own records

module _ (s : Setup) (ok : valid_setup s ≡ true) where
  own_records : (style : Style) (os : List Own) → Each (OwnIn s) (map (own_record s style) os)
  unfolding own_record
  own_records style [] = none
  own_records style (o ∷ os) = one (record { own = o; owner = refl; rtype = refl; rdata = refl }) (own_records style os)

  module _ (style : Style) (ttls : TtlSmall style.ttl) (plain : plain_header style.flags ≡ true) (name : List ℕ)
      (named : is_some style.asks ≡ true → is_name name ≡ true) where
    in_sections : (os : List Own) → Each (OwnIn s) (records_in (styled_message s style name os))
    in_sections os = go style.authority
      where
        rs : List Record
        rs = map (own_record s style) os

        go : (b : Bool) → Each (OwnIn s) (cond b [] rs ++ (cond b rs [] ++ []))
        go true = each_append (own_records style os) none
        go false = each_append (own_records style os) none

    styled : (os : List Own) → length (packet_in s style name os) ≤ 8972 → Carries s (packet_in s style name os)
    styled os most =
        let m : Message = styled_message s style name os in
        say.message (layout_of style.whole m) m (style_back s ok style ttls plain name named os most) (in_sections os)

    unless_none : (os : List Own) → length (none_if_empty os (packet_in s style name os)) ≤ 8972 → Carries s (none_if_empty os (packet_in s style name os))
    unless_none [] most = say.nothing
    unless_none (o ∷ os) most = styled (o ∷ os) most

  carries : {packet : List ℕ} → WrittenOf s packet → Carries s packet
  unfolding response_packet probe_packet plain_packet goodbye_packet
  carries written.nothing = say.nothing
  carries (written.probe k) =
      styled probe_style each refl (own_name s (first_of k)) (λ e. own_is_name s (valid s ok) (first_of k)) (probe_records s k)
      (omega (arith, (packets_fit s ok 0 no_record k).1))
  carries (written.response id set) =
      unless_none (response_style id) each refl [] unasked (response_records s set) (omega (arith, (packets_fit s ok id set Instance).0))
  carries (written.reply set id q) = go (is_name q.name) refl
    where
      packet : List ℕ
      packet = none_if_empty (plain_records s set) (packet_in s (plain_style id q.rtype q.class) q.name (plain_records s set))

      fits : (b : Bool) → is_name q.name ≡ b → length (cond b packet []) ≤ 8972
      fits b e = omega (arith, subst (λ (v : Bool). length (cond v packet []) ≤ 1268) e (plain_fits s ok set id q))

      go : (b : Bool) → is_name q.name ≡ b → Carries s (cond b packet [])
      go true e =
          unless_none (plain_style id q.rtype q.class) (fixed {ttl = 10} (omega arith)) refl q.name (λ f. e) (plain_records s set) (fits true e)
      go false e = say.nothing
  carries (written.goodbye set) =
      unless_none goodbye_style (fixed {ttl = 0} (omega arith)) refl [] unasked (response_records s set) (omega (arith, goodbye-fits s ok set))

pub carries_data_lem : CarriesData
carries_data_lem s c = go (eqb (refusal_of_call s c) 0) refl
  where
    go : (b : Bool) → eqb (refusal_of_call s c) 0 ≡ b → Carries (state_after s c).setup (packet_of s c) × Carries (state_after s c).setup (unicast_of s c)
    go true e =
        let right : valid_setup (state_after s c).setup ≡ true = right_setup (state_after s c) (accepted_sound s c (eqb-true _ _ e)).right in
        let w = sent_of_lem s c in
        (carries (state_after s c).setup right w.0, carries (state_after s c).setup right w.1)
    go false e = let k = refused_keeps s c e in (rw k.1 say.nothing, rw k.2 say.nothing)

-- ---- after an update

-- updates of the other record leave its data
others_stay : (d : NewData) (ds : List NewData) (s : Setup) → Each (Other d) ds
    → own_rdata (revised_all s ds) (changed_record (change_of d)) ≡ own_rdata s (changed_record (change_of d))
others_stay d [] s none = refl
others_stay d (e ∷ es) s (one p ps) = others_stay d es (revised s e) ps ∙ rdata-stays s e (changed_record (change_of d)) p

-- an own record of the updated type is the updated record
same_type : (d : NewData) (p : Own) → own_type p ≡ own_type (changed_record (change_of d)) → p ≡ changed_record (change_of d)
same_type (new_port port) Srv e = refl
same_type (new_port port) Ptr e = absurd (omega (arith, e))
same_type (new_port port) Txt e = absurd (omega (arith, e))
same_type (new_port port) A e = absurd (omega (arith, e))
same_type (new_port port) Aaaa e = absurd (omega (arith, e))
same_type (new_port port) InstanceNsec e = absurd (omega (arith, e))
same_type (new_port port) HostNsec e = absurd (omega (arith, e))
same_type (new_txt txt) Txt e = refl
same_type (new_txt txt) Ptr e = absurd (omega (arith, e))
same_type (new_txt txt) Srv e = absurd (omega (arith, e))
same_type (new_txt txt) A e = absurd (omega (arith, e))
same_type (new_txt txt) Aaaa e = absurd (omega (arith, e))
same_type (new_txt txt) InstanceNsec e = absurd (omega (arith, e))
same_type (new_txt txt) HostNsec e = absurd (omega (arith, e))

-- the set-up with new data that keep the rules says them
says : (s : Setup) (d : NewData) → valid_data d ≡ true → own_rdata (revised s d) (changed_record (change_of d)) ≡ says_now s d
unfolding valid_data
says s (new_port port) v = port-new s port
says s (new_txt txt) v =
    let f = (both (leb 1 (length txt)) (leb (length txt) 400 && strings_fill 0 txt)).0 v in
    let g = (both (leb (length txt) 400) (strings_fill 0 txt)).0 f.1 in
    txt-new s txt (leb-true (length txt) 400 g.0)

new_record : (s t : Setup) (d : NewData) → own_rdata t (changed_record (change_of d)) ≡ says_now s d → (r : Record) → OwnIn t r → SaysNew s d r
new_record s t d e r x h = x.rdata ∙ ap (own_rdata t) (same_type d x.own (sym x.rtype ∙ h)) ∙ e

new_in : (s t : Setup) (d : NewData) → own_rdata t (changed_record (change_of d)) ≡ says_now s d → {packet : List ℕ} → Carries t packet → NewIn s d packet
new_in s t d e say.nothing = say.empty
new_in s t d e (say.message l m was own) = say.saying l m was (each_map {P = OwnIn t} {Q = SaysNew s d} (new_record s t d e) own)

-- the set-up after an update says its new data
update-says : (s : State) (u : Update) → update_refusal s u ≡ 0
    → own_rdata (update_of s u).state.setup (changed_record (change_of u.new)) ≡ says_now s.setup u.new
update-says s u h =
    let a = accepted s u h in
    let fit : valid_data u.new ≡ true = sym (revised-valid s.setup u.new (right_setup s a.right)) ∙ a.valid in
    ap (λ (x : State). own_rdata x.setup (changed_record (change_of u.new))) (updated-state s u h) ∙ says s.setup u.new fit

pub new_announced : NewDataAnnounced
new_announced s u h = new_in s.setup (update_of s u).state.setup u.new (update-says s u h) (carries_data_lem s (updated u)).0

pub new_data : NewDataSent
new_data s u h cs none-taken c none_then =
    let d : NewData = u.new in
    let x : State = run (update_of s u).state cs in
    let then : (state_after x c).setup ≡ revised_all (revised_all (update_of s u).state.setup (taken (update_of s u).state cs)) (taken_by x c) =
    call-setup x c ∙ ap (λ (y : Setup). revised_all y (taken_by x c)) (run-setup (update_of s u).state cs) in
    let e : own_rdata (state_after x c).setup (changed_record (change_of d)) ≡ says_now s.setup d =
    ap (λ (y : Setup). own_rdata y (changed_record (change_of d))) then
    ∙ others_stay d (taken_by x c) (revised_all (update_of s u).state.setup (taken (update_of s u).state cs)) none_then
    ∙ others_stay d (taken (update_of s u).state cs) (update_of s u).state.setup none-taken
    ∙ update-says s u h in
    let k = carries_data_lem x c in
    (new_in s.setup (state_after x c).setup d e k.0, new_in s.setup (state_after x c).setup d e k.1)
