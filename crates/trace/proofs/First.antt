-- Theorem: the offset of a refusal is that of the first record that is malformed or cannot stand where it does, or the end where one is owed. Assumes nothing.
use mathlib.Core.Path.{◌≡◌, refl, sym, ap, subst, ◌∙◌}
use mathlib.Core.List.{List}
use mathlib.Core.Bool.{Bool, true, false, cond}
use Prim.Native.Nat.{ℕ, zero, suc, ◌+◌, ◌-◌, ◌<◌, ◌≤◌}
use native.Mathlib.Omega.{arith}
use borrow.Author.Tests.{leb-false}
use lib.ListN.{length}
use lib.Dec.{leb}
use Rattle.std.specs.Prelude.{Option, Some, None, Result, Ok, Err}
use Rattle.trace.specs.reading.Reading.{Step, refused}
use Rattle.trace.specs.declared.reading.Refused.{Refused}
use Rattle.claims.specs.declared.holds.Address.{Address}
use Rattle.trace.specs.records.Records.{size_of, size_by, kind_at, record_at}
use Rattle.trace.specs.reading.Reading.{is_usual, pieces_of, is_padded, is_piece, pieces_at, data_step, with_data, alone_step, behind_source, step_with, step_at}
use Rattle.trace.specs.reading.Events.{Reading, within, read_from, reading_of}
use Rattle.trace.specs.reading.Order.{Owed, nothing, packet, bytes, owing, is_owed, begins, follows, goes_on, Goes, stay, on, Stops}
use Rattle.trace.specs.declared.records.Kind.{Kind}
use Rattle.trace.specs.declared.records.Kind.TheVariants as kind
use Rattle.trace.specs.declared.records.Record.{Record}
use Rattle.trace.specs.declared.records.Record.TheVariants as is
use Rattle.trace.specs.declared.reading.Event.{Event}
use Rattle.trace.specs.declared.reading.Entry.{Entry}
use Rattle.trace.proofs.records.Standing.{kind_in, stand, never}
use Rattle.trace.proofs.reading.Owed.{pieces_more, piece_whole}
use Rattle.trace.proofs.reading.Placed.{placed, not-refused, not_end}
use Rattle.trace.proofs.reading.Unrolled.{unroll}
use Rattle.trace.proofs.Written.{ended}

-- where a run of records stops
pub record Stopped (p : List ℕ) (owed : Owed) (at o : ℕ) : Type 0 where
  pub last : Owed
  pub goes : Goes p owed at last o
  pub stops : Stops p last o

abbrev pub next_in : Step → ℕ
next_in (Ok None) = 0
next_in (Ok (Some e)) = e.next
next_in (Err o) = 0

abbrev offset_in : Step → ℕ
offset_in (Ok None) = 0
offset_in (Ok (Some e)) = 0
offset_in (Err r) = r.at

abbrev is_refused : Step → Bool
is_refused (Ok None) = false
is_refused (Ok (Some e)) = false
is_refused (Err o) = true

abbrev end_in : Result ℕ Refused → ℕ
end_in (Ok n) = n
end_in (Err r) = r.at

module _ (p : List ℕ) where
  joined : {a b c : Owed} {i j k : ℕ} → Goes p a i b j → Goes p b j c k → Goes p a i c k
  joined stay g = g
  joined (on e n r) g = on e n (joined r g)

  further : {a b : Owed} {i j : ℕ} → Goes p a i b j → {o : ℕ} → Stopped p b j o → Stopped p a i o
  further g s = record { last = s.last; goes = joined g s.goes; stops = s.stops }

  -- a record that is read, by what is owed behind it
  begin : (at : ℕ) (r : Record) → record_at p at ≡ Some r → (next : Owed) → begins (Some r) ≡ Some next
      → Goes p nothing at next (at + size_of (kind_in r))
  begin at r er next e = on (ap begins er ∙ e) (ap (λ (k : Option Kind). at + size_by k) (stand p at r er).kind) stay

  follow : (at : ℕ) (r : Record) → record_at p at ≡ Some r → (next : Owed) → follows (Some r) ≡ Some next
      → Goes p packet at next (at + size_of (kind_in r))
  follow at r er next e = on (ap follows er ∙ e) (ap (λ (k : Option Kind). at + size_by k) (stand p at r er).kind) stay

  -- ---- pieces

  padded-kind : (at left : ℕ) (r : Option Record) → record_at p at ≡ r → is_padded p at left r ≡ true → kind_at p at ≡ Some kind.Piece
  padded-kind at left (Some is.Piece) e h = (stand p at is.Piece e).kind
  padded-kind at left (Some (is.Tick time)) e h = never h
  padded-kind at left (Some (is.Packet time q draw len)) e h = never h
  padded-kind at left (Some (is.Claim last k state)) e h = never h
  padded-kind at left (Some (is.Source from hold)) e h = never h
  padded-kind at left (Some (is.Stop time)) e h = never h
  padded-kind at left (Some (is.Port time q)) e h = never h
  padded-kind at left (Some (is.Txt time len)) e h = never h
  padded-kind at left None e h = never h

  pub piece_kind : (at left : ℕ) → is_piece p at left ≡ true → kind_at p at ≡ Some kind.Piece
  unfolding is_piece
  piece_kind at left h = padded-kind at left (record_at p at) refl h

  one_piece : (at left : ℕ) → is_piece p at (suc left) ≡ true → Goes p (bytes (suc left)) at (owing (suc left - 16)) (at + 17)
  one_piece at left h =
      on (ap (λ (t : Bool). cond t (Some (owing (suc left - 16))) None) h) (ap (λ (k : Option Kind). at + size_by k) (piece_kind at (suc left) h)) stay

  pieces_go : (k at left n : ℕ) → k ≡ pieces_of left → at ≤ length p → pieces_at k p at left ≡ Ok n → Goes p (owing left) at nothing n
  unfolding pieces_at
  pieces_go zero at zero n ek h e = subst (λ (m : ℕ). Goes p nothing at nothing m) (ap end_in e) stay
  pieces_go zero at (suc left) n ek h e = absurd (omega arith)
  pieces_go (suc k) at zero n ek h e = absurd (omega arith)
  pieces_go (suc k) at (suc left) n ek h e =
      go (is_piece p at (suc left)) refl e (λ w q. pieces_go k (at + 17) (suc left - 16) n (omega (arith, pieces_more (suc left) (omega arith))) w q)
    where
      go : (b : Bool) → is_piece p at (suc left) ≡ b → cond b (pieces_at k p (at + 17) (suc left - 16)) (refused at) ≡ Ok n
          → (at + 17 ≤ length p → pieces_at k p (at + 17) (suc left - 16) ≡ Ok n → Goes p (owing (suc left - 16)) (at + 17) nothing n)
          → Goes p (bytes (suc left)) at nothing n
      go true eb q rest = joined (one_piece at left eb) (rest (piece_whole p at (suc left) eb) q)
      go false eb q rest = not-refused q

  pieces_stop : (k at left o : ℕ) → k ≡ pieces_of left → at ≤ length p → pieces_at k p at left ≡ refused o → Stopped p (owing left) at o
  unfolding pieces_at
  pieces_stop zero at left o ek h e = not-refused (sym e)
  pieces_stop (suc k) at zero o ek h e = absurd (omega arith)
  pieces_stop (suc k) at (suc left) o ek h e =
      go (is_piece p at (suc left)) refl e (λ w q. pieces_stop k (at + 17) (suc left - 16) o (omega (arith, pieces_more (suc left) (omega arith))) w q)
    where
      go : (b : Bool) → is_piece p at (suc left) ≡ b → cond b (pieces_at k p (at + 17) (suc left - 16)) (refused at) ≡ refused o
          → (at + 17 ≤ length p → pieces_at k p (at + 17) (suc left - 16) ≡ refused o → Stopped p (owing (suc left - 16)) (at + 17) o)
          → Stopped p (bytes (suc left)) at o
      go true eb q rest = further (one_piece at left eb) (rest (piece_whole p at (suc left) eb) q)
      go false eb q rest =
          subst (λ (m : ℕ). Stopped p (bytes (suc left)) at m) (ap end_in q)
          (record {
            last = bytes (suc left);
            goes = stay;
            stops = record { cannot = ap (λ (t : Bool). cond t (Some (owing (suc left - 16))) None) eb; inside = h; owes = λ z. refl };
          })

  -- ---- events

  data_goes : (v : Event) (first len : ℕ) (e : Entry) → first ≤ length p → with_data p v first len ≡ Ok (Some e) → Goes p (owing len) first nothing e.next
  unfolding with_data
  data_goes v first len e h q = go (pieces_at (pieces_of len) p first len) refl q
    where
      go : (y : Result ℕ Refused) → pieces_at (pieces_of len) p first len ≡ y → data_step v first len y ≡ Ok (Some e) → Goes p (owing len) first nothing e.next
      go (Ok n) ey qy = subst (λ (m : ℕ). Goes p (owing len) first nothing m) (ap next_in qy) (pieces_go (pieces_of len) first len n refl h ey)
      go (Err o) ey qy = not-refused qy

  data_stops : (v : Event) (first len o : ℕ) → first ≤ length p → with_data p v first len ≡ refused o → Stopped p (owing len) first o
  unfolding with_data
  data_stops v first len o h q = go (pieces_at (pieces_of len) p first len) refl q
    where
      go : (y : Result ℕ Refused) → pieces_at (pieces_of len) p first len ≡ y → data_step v first len y ≡ refused o → Stopped p (owing len) first o
      go (Ok n) ey qy = never (ap is_refused qy)
      go (Err m) ey qy = subst (λ (x : ℕ). Stopped p (owing len) first x) (ap offset_in qy) (pieces_stop (pieces_of len) first len m.at refl h ey)

  -- a record that cannot stand
  halts : (owed : Owed) (at o : ℕ) → at ≤ length p → goes_on p at owed ≡ None → (at ≡ length p → is_owed owed ≡ true)
      → ◌≡◌ {A = Step} (refused at) (refused o) → Stopped p owed at o
  halts owed at o h e w q =
      subst (λ (x : ℕ). Stopped p owed at x) (ap offset_in q) (record { last = owed; goes = stay; stops = record { cannot = e; inside = h; owes = w } })

  behind-goes : (at : ℕ) (from : Address) (hold : ℕ) (e : Entry) (r : Option Record) → record_at p at ≡ r → behind_source p at from hold r ≡ Ok (Some e)
      → Goes p packet at nothing e.next
  behind-goes at from hold e (Some (is.Packet time q draw len)) er z =
      joined (follow at _ er (owing len) refl) (data_goes _ (at + 14) len e (stand p at _ er).whole z)
  behind-goes at from hold e (Some (is.Tick time)) er z = not-refused z
  behind-goes at from hold e (Some is.Piece) er z = not-refused z
  behind-goes at from hold e (Some (is.Claim last k state)) er z = not-refused z
  behind-goes at from hold e (Some (is.Source from2 hold2)) er z = not-refused z
  behind-goes at from hold e (Some (is.Stop time)) er z = not-refused z
  behind-goes at from hold e (Some (is.Port time q)) er z = not-refused z
  behind-goes at from hold e (Some (is.Txt time len)) er z = not-refused z
  behind-goes at from hold e None er z = not-refused z

  behind-stops : (at : ℕ) (from : Address) (hold o : ℕ) → at ≤ length p → (r : Option Record) → record_at p at ≡ r → behind_source p at from hold r ≡ refused o
      → Stopped p packet at o
  behind-stops at from hold o h (Some (is.Packet time q draw len)) er z =
      further (follow at _ er (owing len) refl) (data_stops _ (at + 14) len o (stand p at _ er).whole z)
  behind-stops at from hold o h (Some (is.Tick time)) er z = halts packet at o h (ap follows er) (λ x. refl) z
  behind-stops at from hold o h (Some is.Piece) er z = halts packet at o h (ap follows er) (λ x. refl) z
  behind-stops at from hold o h (Some (is.Claim last k state)) er z = halts packet at o h (ap follows er) (λ x. refl) z
  behind-stops at from hold o h (Some (is.Source from2 hold2)) er z = halts packet at o h (ap follows er) (λ x. refl) z
  behind-stops at from hold o h (Some (is.Stop time)) er z = halts packet at o h (ap follows er) (λ x. refl) z
  behind-stops at from hold o h (Some (is.Port time q)) er z = halts packet at o h (ap follows er) (λ x. refl) z
  behind-stops at from hold o h (Some (is.Txt time len)) er z = halts packet at o h (ap follows er) (λ x. refl) z
  behind-stops at from hold o h None er z = halts packet at o h (ap follows er) (λ x. refl) z

  module _ (at : ℕ) (inside : at < length p) where
    no_owed : at ≡ length p → is_owed nothing ≡ true
    no_owed z = absurd (omega arith)

    alone-goes : (v : Event) (n : ℕ) (e : Entry) → Goes p nothing at nothing n → alone_step v n ≡ Ok (Some e) → Goes p nothing at nothing e.next
    alone-goes v n e g z = subst (λ (m : ℕ). Goes p nothing at nothing m) (ap next_in z) g

    source_goes : (from : Address) (hold : ℕ) (e : Entry) → record_at p at ≡ Some (is.Source from hold) → (t : Bool) → is_usual from hold ≡ t
        → cond t (refused at) (behind_source p (at + 19) from hold (record_at p (at + 19))) ≡ Ok (Some e) → Goes p nothing at nothing e.next
    source_goes from hold e er true et z = not-refused z
    source_goes from hold e er false et z =
        joined (begin at (is.Source from hold) er packet (ap (λ (t : Bool). cond t None (Some packet)) et))
        (behind-goes (at + 19) from hold e (record_at p (at + 19)) refl z)

    source_stops : (from : Address) (hold o : ℕ) → record_at p at ≡ Some (is.Source from hold) → (t : Bool) → is_usual from hold ≡ t
        → cond t (refused at) (behind_source p (at + 19) from hold (record_at p (at + 19))) ≡ refused o → Stopped p nothing at o
    source_stops from hold o er true et z =
        halts nothing at o (omega arith) (ap begins er ∙ ap (λ (t : Bool). cond t None (Some packet)) et) no_owed z
    source_stops from hold o er false et z =
        further (begin at (is.Source from hold) er packet (ap (λ (t : Bool). cond t None (Some packet)) et))
        (behind-stops (at + 19) from hold o (stand p at _ er).whole (record_at p (at + 19)) refl z)

    with-goes : (e : Entry) (r : Option Record) → record_at p at ≡ r → step_with p at r ≡ Ok (Some e) → Goes p nothing at nothing e.next
    with-goes e (Some (is.Tick time)) er z = alone-goes _ (at + 9) e (begin at _ er nothing refl) z
    with-goes e (Some (is.Packet time q draw len)) er z = joined (begin at _ er (owing len) refl) (data_goes _ (at + 14) len e (stand p at _ er).whole z)
    with-goes e (Some is.Piece) er z = not-refused z
    with-goes e (Some (is.Claim last k state)) er z = alone-goes _ (at + 11) e (begin at _ er nothing refl) z
    with-goes e (Some (is.Source from hold)) er z = source_goes from hold e er (is_usual from hold) refl z
    with-goes e (Some (is.Stop time)) er z = alone-goes _ (at + 9) e (begin at _ er nothing refl) z
    with-goes e (Some (is.Port time q)) er z = alone-goes _ (at + 11) e (begin at _ er nothing refl) z
    with-goes e (Some (is.Txt time len)) er z = joined (begin at _ er (owing len) refl) (data_goes _ (at + 11) len e (stand p at _ er).whole z)
    with-goes e None er z = not-refused z

    with-stops : (o : ℕ) (r : Option Record) → record_at p at ≡ r → step_with p at r ≡ refused o → Stopped p nothing at o
    with-stops o (Some (is.Tick time)) er z = never (ap is_refused z)
    with-stops o (Some (is.Packet time q draw len)) er z = further (begin at _ er (owing len) refl) (data_stops _ (at + 14) len o (stand p at _ er).whole z)
    with-stops o (Some is.Piece) er z = halts nothing at o (omega arith) (ap begins er) no_owed z
    with-stops o (Some (is.Claim last k state)) er z = never (ap is_refused z)
    with-stops o (Some (is.Source from hold)) er z = source_stops from hold o er (is_usual from hold) refl z
    with-stops o (Some (is.Stop time)) er z = never (ap is_refused z)
    with-stops o (Some (is.Port time q)) er z = never (ap is_refused z)
    with-stops o (Some (is.Txt time len)) er z = further (begin at _ er (owing len) refl) (data_stops _ (at + 11) len o (stand p at _ er).whole z)
    with-stops o None er z = halts nothing at o (omega arith) (ap begins er) no_owed z

  pub event_goes : (at : ℕ) (e : Entry) → step_at p at ≡ Ok (Some e) → Goes p nothing at nothing e.next
  unfolding step_at
  event_goes at e q = go (leb (length p) at) refl q
    where
      go : (t : Bool) → leb (length p) at ≡ t → cond t (Ok None) (step_with p at (record_at p at)) ≡ Ok (Some e) → Goes p nothing at nothing e.next
      go true et z = not_end z
      go false et z = with-goes at (leb-false (length p) at et) e (record_at p at) refl z

  pub event_stops : (at o : ℕ) → step_at p at ≡ refused o → Stopped p nothing at o
  unfolding step_at
  event_stops at o q = go (leb (length p) at) refl q
    where
      go : (t : Bool) → leb (length p) at ≡ t → cond t (Ok None) (step_with p at (record_at p at)) ≡ refused o → Stopped p nothing at o
      go true et z = never (ap is_refused z)
      go false et z = with-stops at (leb-false (length p) at et) o (record_at p at) refl z

  -- ---- whole traces

  -- from an offset on: every record stands, or the run stops at the offset of the refusal
  abbrev Outcome : ℕ → Option ℕ → Type 0
  Outcome at None = Goes p nothing at nothing (length p)
  Outcome at (Some o) = Stopped p nothing at o

  carry : {a : ℕ} {b : ℕ} → Goes p nothing a nothing b → (f : Option ℕ) → Outcome b f → Outcome a f
  carry g None x = joined g x
  carry g (Some o) x = further g x

  from-outcome : (n at : ℕ) → length p - at < n → at ≤ length p → Outcome at (read_from p at).fault
  from-outcome zero at h w = absurd (omega arith)
  from-outcome (suc n) at h w =
      subst (Outcome at) (sym (ap (λ (x : Reading). x.fault) (unroll p at))) (go (step_at p at) refl (λ to a c. from-outcome n to a c))
    where
      go : (s : Step) → step_at p at ≡ s → ((to : ℕ) → length p - to < n → to ≤ length p → Outcome to (read_from p to).fault)
          → Outcome at (within p (read_from p) s).fault
      go (Ok None) es rest = let past = ended p at es in let same : at ≡ length p = omega arith in subst (λ (m : ℕ). Goes p nothing at nothing m) same stay
      go (Ok (Some e)) es rest =
          let place = placed p at e es in
          carry (event_goes at e es) (read_from p e.next).fault (rest e.next (omega arith) place.room)
      go (Err r) es rest = event_stops at r.at es

  -- the theorem: a trace is read where every record stands; else its refusal has the offset of the first that does not
  pub all-stand : (reading_of p).fault ≡ None → Goes p nothing 0 nothing (length p)
  all-stand f = subst (Outcome 0) f (from-outcome (suc (length p - 0)) 0 (omega arith) (omega arith))

  pub first-fault : (o : ℕ) → (reading_of p).fault ≡ Some o → Stopped p nothing 0 o
  first-fault o f = subst (Outcome 0) f (from-outcome (suc (length p - 0)) 0 (omega arith) (omega arith))
