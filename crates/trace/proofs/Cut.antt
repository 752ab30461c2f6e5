-- An event of a trace in a beginning of it: read where it is whole there; else the beginning is refused within it. Assumes nothing.
use mathlib.Core.Path.{◌≡◌, refl, sym, ap, subst, ◌∙◌}
use mathlib.Core.List.{List, ◌++◌}
use mathlib.Core.Bool.{Bool, true, false, cond}
use Prim.Native.Nat.{ℕ, zero, suc, ◌+◌, ◌-◌, ◌<◌, ◌≤◌}
use native.Mathlib.Omega.{arith}
use borrow.Author.Tests.{leb-true, leb-false}
use lib.ListN.{length}
use lib.Dec.{leb}
use Rattle.std.specs.Prelude.{Option, Some, None, Result, Ok, Err}
use Rattle.trace.specs.reading.Reading.{Step, refused}
use Rattle.trace.specs.declared.reading.Refused.{Refused}
use Rattle.claims.specs.declared.holds.Address.{Address}
use Rattle.trace.specs.records.Records.{size_of, size_by, size_at, record_at}
use Rattle.trace.specs.reading.Reading.{is_usual, pieces_of, is_piece, pieces_at, data_step, with_data, alone_step, behind_source, step_with, step_at}
use Rattle.trace.specs.reading.Events.{data_from, data_in}
use Rattle.trace.specs.declared.records.Kind.{Kind}
use Rattle.trace.specs.declared.records.Record.{Record}
use Rattle.trace.specs.declared.records.Record.TheVariants as is
use Rattle.trace.specs.declared.reading.Event.{Event}
use Rattle.trace.specs.declared.reading.Entry.{Entry}
use Rattle.trace.proofs.records.Standing.{kind_in, stand}
use Rattle.trace.proofs.reading.Owed.{piece_whole}
use Rattle.trace.proofs.reading.Placed.{pieces_end, same_entry, not-refused}
use Rattle.trace.proofs.reading.Begun.{step_of}
use Rattle.trace.proofs.First.{next_in, piece_kind}
use Rattle.trace.proofs.Beginnings.{longer, kept, cut, piece_kept, piece_cut, data_same}

-- a beginning `p` of `p ++ more`
module _ (p more : List ℕ) where
  abbrev t : List ℕ
  t = p ++ more

  -- where a beginning is refused: the record that stands there in the whole is not whole in it
  pub record Missing (at o : ℕ) : Type 0 where
    pub behind : at ≤ o
    pub inside : o ≤ length p
    pub lacks : length p < o + size_at t o

  pub further : {a b o : ℕ} → a ≤ b → Missing b o → Missing a o
  further {a} {b} {o} h m = record { behind = (let x = m.behind in omega arith); inside = m.inside; lacks = m.lacks }

  pieces_kept : (k at left n : ℕ) → at ≤ length t → pieces_at k t at left ≡ Ok n → n ≤ length p → pieces_at k p at left ≡ Ok n
  unfolding pieces_at
  pieces_kept zero at left n w e h = e
  pieces_kept (suc k) at left n w e h = go (is_piece t at left) refl e (λ x q. pieces_kept k (at + 17) (left - 16) n x q h)
    where
      go : (b : Bool) → is_piece t at left ≡ b → cond b (pieces_at k t (at + 17) (left - 16)) (refused at) ≡ Ok n
          → (at + 17 ≤ length t → pieces_at k t (at + 17) (left - 16) ≡ Ok n → pieces_at k p (at + 17) (left - 16) ≡ Ok n)
          → cond (is_piece p at left) (pieces_at k p (at + 17) (left - 16)) (refused at) ≡ Ok n
      go true eb q rest =
          let whole = piece_whole t at left eb in
          let ends = pieces_end t k (at + 17) (left - 16) n whole q in
          ap (λ (b : Bool). cond b (pieces_at k p (at + 17) (left - 16)) (refused at)) (piece_kept p more at left eb (omega arith)) ∙ rest whole q
      go false eb q rest = not-refused q

  pieces_cut : (k at left n : ℕ) → at ≤ length p → pieces_at k t at left ≡ Ok n → length p < n
      → (o : ℕ) × (pieces_at k p at left ≡ refused o) × Missing at o
  unfolding pieces_at
  pieces_cut zero at left n w e h = absurd (let ends = pieces_end t 0 at left n (omega (arith, longer p more)) e in omega arith)
  pieces_cut (suc k) at left n w e h = go (is_piece t at left) refl e (λ x q. pieces_cut k (at + 17) (left - 16) n x q h) (leb (at + 17) (length p)) refl
    where
      go : (b : Bool) → is_piece t at left ≡ b → cond b (pieces_at k t (at + 17) (left - 16)) (refused at) ≡ Ok n
          → (at + 17 ≤ length p → pieces_at k t (at + 17) (left - 16) ≡ Ok n
          → (o : ℕ) × (pieces_at k p (at + 17) (left - 16) ≡ refused o) × Missing (at + 17) o)
          → (c : Bool) → leb (at + 17) (length p) ≡ c
          → (o : ℕ) × (cond (is_piece p at left) (pieces_at k p (at + 17) (left - 16)) (refused at) ≡ refused o) × Missing at o
      go true eb q rest true ec =
          let whole : at + 17 ≤ length p = leb-true (at + 17) (length p) ec in
          let x = rest whole q in (
            x.0,
            ap (λ (b : Bool). cond b (pieces_at k p (at + 17) (left - 16)) (refused at)) (piece_kept p more at left eb whole) ∙ x.1,
            further (omega arith) x.2,
          )
      go true eb q rest false ec =
          let less : length p < at + 17 = leb-false (at + 17) (length p) ec in
          let size : at + size_at t at ≡ at + 17 = ap (λ (k : Option Kind). at + size_by k) (piece_kind t at left eb) in (
            at,
            ap (λ (b : Bool). cond b (pieces_at k p (at + 17) (left - 16)) (refused at)) (piece_cut p more at left eb less),
            record { behind = omega arith; inside = w; lacks = omega arith },
          )
      go false eb q rest c ec = not-refused q

  -- ---- events

  -- an event of the whole is read in the beginning, or the beginning is refused within it
  pub data Seen (at : ℕ) (e : Entry) (s : Step) : Type 0 where
    whole : e.next ≤ length p → s ≡ Ok (Some e) → data_in p e ≡ data_in t e → Seen at e s
    torn : (o : ℕ) → length p < e.next → s ≡ refused o → Missing at o → Seen at e s

  -- a record of the whole that is cut p more
  record_torn : (at : ℕ) (r : Record) → record_at t at ≡ Some r → at ≤ length p → length p < at + size_of (kind_in r)
      → (record_at p at ≡ None) × Missing at at
  record_torn at r er h less =
      let size : size_at t at ≡ size_of (kind_in r) = ap size_by (stand t at r er).kind in
      (cut p more at (omega arith), record { behind = omega arith; inside = h; lacks = omega arith })

  data_seen : (at : ℕ) (v : Event) (first len : ℕ) (e : Entry) → at ≤ first → first ≤ length p → with_data t v first len ≡ Ok (Some e)
      → Seen at e (with_data p v first len)
  unfolding with_data
  data_seen at v first len e a w q = go (pieces_at (pieces_of len) t first len) refl q
    where
      at-end : (n : ℕ) → pieces_at (pieces_of len) t first len ≡ Ok n
          → (x : Entry) → record { event = v; first = first; len = len; next = n } ≡ x → (c : Bool) → leb n (length p) ≡ c
          → Seen at x (data_step v first len (pieces_at (pieces_of len) p first len))
      at-end n ey x ex true ec =
          let room : n ≤ length p = leb-true n (length p) ec in
          let ends = pieces_end t (pieces_of len) first len n (omega (arith, longer p more)) ey in
          subst (λ (y : Entry). Seen at y (data_step v first len (pieces_at (pieces_of len) p first len))) ex
          (whole room (ap (data_step v first len) (pieces_kept (pieces_of len) first len n (omega (arith, longer p more)) ey room)) (data_same p more (pieces_of len) first len (omega arith)))
      at-end n ey x ex false ec =
          let less : length p < n = leb-false n (length p) ec in
          let found = pieces_cut (pieces_of len) first len n w ey less in
          subst (λ (y : Entry). Seen at y (data_step v first len (pieces_at (pieces_of len) p first len))) ex
          (torn found.0 less (ap (data_step v first len) found.1) (further a found.2))

      go : (y : Result ℕ Refused) → pieces_at (pieces_of len) t first len ≡ y → data_step v first len y ≡ Ok (Some e)
          → Seen at e (data_step v first len (pieces_at (pieces_of len) p first len))
      go (Ok n) ey qy = at-end n ey e (same_entry qy) (leb n (length p)) refl
      go (Err o) ey qy = not-refused qy

  -- an event that begins with a record, where that is whole and where it is cut p more
  begun-seen : (at : ℕ) (r : Record) (e : Entry) → record_at t at ≡ Some r → at < length p → at + size_of (kind_in r) ≤ e.next
      → (at + size_of (kind_in r) ≤ length p → Seen at e (step_with p at (Some r))) → Seen at e (step_at p at)
  begun-seen at r e er h far f = go (leb (at + size_of (kind_in r)) (length p)) refl
    where
      go : (c : Bool) → leb (at + size_of (kind_in r)) (length p) ≡ c → Seen at e (step_at p at)
      go true ec =
          let room = leb-true (at + size_of (kind_in r)) (length p) ec in
          subst (Seen at e) (step_of p at (record_at p at) refl (Some r) (kept p more at r er h room) h) (f room)
      go false ec =
          let less = leb-false (at + size_of (kind_in r)) (length p) ec in
          let x = record_torn at r er (omega arith) less in
          torn at (omega arith) (sym (step_of p at (record_at p at) refl None x.0 h)) x.1

  alone-seen : (at : ℕ) (v : Event) (n : ℕ) (e : Entry) → alone_step v n ≡ Ok (Some e) → n ≤ length p → Seen at e (alone_step v n)
  unfolding data_from
  alone-seen at v n e q room = subst (λ (x : Entry). Seen at x (alone_step v n)) (same_entry q) (whole room refl refl)

  data_far : (v : Event) (first len : ℕ) (e : Entry) → first ≤ length t → with_data t v first len ≡ Ok (Some e) → first ≤ e.next
  unfolding with_data
  data_far v first len e w q = go (pieces_at (pieces_of len) t first len) refl q
    where
      go : (y : Result ℕ Refused) → pieces_at (pieces_of len) t first len ≡ y → data_step v first len y ≡ Ok (Some e) → first ≤ e.next
      go (Ok n) ey qy =
          let ends = pieces_end t (pieces_of len) first len n w ey in
          let next : n ≡ e.next = ap next_in qy in
          omega arith
      go (Err o) ey qy = not-refused qy

  behind-seen : (at to : ℕ) (from : Address) (hold : ℕ) (e : Entry) → at ≤ to → to ≤ length p → (r : Option Record) → record_at t to ≡ r
      → behind_source t to from hold r ≡ Ok (Some e) → Seen at e (behind_source p to from hold (record_at p to))
  behind-seen at to from hold e a w (Some (is.Packet time q draw len)) er z = go (leb (to + 14) (length p)) refl
    where
      size : to + 14 ≤ length t
      size = (stand t to (is.Packet time q draw len) er).whole

      go : (c : Bool) → leb (to + 14) (length p) ≡ c → Seen at e (behind_source p to from hold (record_at p to))
      go true ec =
          let room = leb-true (to + 14) (length p) ec in
          let same = kept p more to (is.Packet time q draw len) er (omega arith) room in
          subst (λ (x : Option Record). Seen at e (behind_source p to from hold x)) (sym same) (data_seen at _ (to + 14) len e (omega arith) room z)
      go false ec =
          let less = leb-false (to + 14) (length p) ec in
          let x = record_torn to (is.Packet time q draw len) er w less in
          let far = data_far _ (to + 14) len e size z in
          torn to (omega arith) (ap (behind_source p to from hold) x.0) (further a x.1)
  behind-seen at to from hold e a w (Some (is.Tick time)) er z = not-refused z
  behind-seen at to from hold e a w (Some is.Piece) er z = not-refused z
  behind-seen at to from hold e a w (Some (is.Claim last k state)) er z = not-refused z
  behind-seen at to from hold e a w (Some (is.Source from2 hold2)) er z = not-refused z
  behind-seen at to from hold e a w (Some (is.Stop time)) er z = not-refused z
  behind-seen at to from hold e a w (Some (is.Port time q)) er z = not-refused z
  behind-seen at to from hold e a w (Some (is.Txt time len)) er z = not-refused z
  behind-seen at to from hold e a w None er z = not-refused z

  behind-far : (to : ℕ) (from : Address) (hold : ℕ) (e : Entry) (r : Option Record) → record_at t to ≡ r → behind_source t to from hold r ≡ Ok (Some e) → to ≤ e.next
  behind-far to from hold e (Some (is.Packet time q draw len)) er z = let far = data_far _ (to + 14) len e (stand t to _ er).whole z in omega arith
  behind-far to from hold e (Some (is.Tick time)) er z = not-refused z
  behind-far to from hold e (Some is.Piece) er z = not-refused z
  behind-far to from hold e (Some (is.Claim last k state)) er z = not-refused z
  behind-far to from hold e (Some (is.Source from2 hold2)) er z = not-refused z
  behind-far to from hold e (Some (is.Stop time)) er z = not-refused z
  behind-far to from hold e (Some (is.Port time q)) er z = not-refused z
  behind-far to from hold e (Some (is.Txt time len)) er z = not-refused z
  behind-far to from hold e None er z = not-refused z

  source_seen : (at : ℕ) (from : Address) (hold : ℕ) (e : Entry) → record_at t at ≡ Some (is.Source from hold) → at < length p → (b : Bool) → is_usual from hold ≡ b
      → cond b (refused at) (behind_source t (at + 19) from hold (record_at t (at + 19))) ≡ Ok (Some e) → Seen at e (step_at p at)
  source_seen at from hold e er h true eb z = not-refused z
  source_seen at from hold e er h false eb z =
      begun-seen at (is.Source from hold) e er h (behind-far (at + 19) from hold e (record_at t (at + 19)) refl z)
      (λ room. subst (λ (b : Bool). Seen at e (cond b (refused at) (behind_source p (at + 19) from hold (record_at p (at + 19))))) (sym eb)
      (behind-seen at (at + 19) from hold e (omega arith) room (record_at t (at + 19)) refl z))

  with-seen : (at : ℕ) (e : Entry) → at < length p → (r : Option Record) → record_at t at ≡ r → step_with t at r ≡ Ok (Some e) → Seen at e (step_at p at)
  with-seen at e h (Some (is.Tick time)) er z =
      begun-seen at _ e er h (let n : at + 9 ≡ e.next = ap next_in z in omega arith) (λ room. alone-seen at _ (at + 9) e z room)
  with-seen at e h (Some (is.Packet time q draw len)) er z =
      begun-seen at _ e er h (data_far _ (at + 14) len e (stand t at _ er).whole z) (λ room. data_seen at _ (at + 14) len e (omega arith) room z)
  with-seen at e h (Some is.Piece) er z = not-refused z
  with-seen at e h (Some (is.Claim last k state)) er z =
      begun-seen at _ e er h (let n : at + 11 ≡ e.next = ap next_in z in omega arith) (λ room. alone-seen at _ (at + 11) e z room)
  with-seen at e h (Some (is.Source from hold)) er z = source_seen at from hold e er h (is_usual from hold) refl z
  with-seen at e h (Some (is.Stop time)) er z =
      begun-seen at _ e er h (let n : at + 9 ≡ e.next = ap next_in z in omega arith) (λ room. alone-seen at _ (at + 9) e z room)
  with-seen at e h (Some (is.Port time q)) er z =
      begun-seen at _ e er h (let n : at + 11 ≡ e.next = ap next_in z in omega arith) (λ room. alone-seen at _ (at + 11) e z room)
  with-seen at e h (Some (is.Txt time len)) er z =
      begun-seen at _ e er h (data_far _ (at + 11) len e (stand t at _ er).whole z) (λ room. data_seen at _ (at + 11) len e (omega arith) room z)
  with-seen at e h None er z = not-refused z

  pub event_seen : (at : ℕ) (e : Entry) → at < length p → step_at t at ≡ Ok (Some e) → Seen at e (step_at p at)
  event_seen at e h q =
      let inside : at < length t = omega (arith, longer p more) in
      with-seen at e h (record_at t at) refl (step_of t at (record_at t at) refl (record_at t at) refl inside ∙ q)
