-- A turn of each loop, and what the functions without a loop answer. Assumes nothing.
use Rattle.std.specs.declared.cmp.Ordering.{Ordering}
use Rattle.std.specs.declared.cmp.Ordering.TheVariants.{Less, Equal, Greater}
use mathlib.Core.Path.{◌≡◌, refl, sym, ap, ◌∙◌}
use mathlib.Core.List.{List, [], ◌∷◌}
use mathlib.Core.Bool.{Bool, true, false, cond}
use Prim.Native.Nat.{ℕ, ◌+◌, ◌-◌, ◌%◌, ◌<◌, ◌≤◌}
use native.Mathlib.Omega.{arith}
use Rattle.wire.specs.names.Answers.{name_is}
use Rattle.wire.specs.rdata.Rdata.{rdata_at}
use Rattle.wire.specs.rdata.Answers.{fits, data_of}
use Rattle.wire.specs.expansion.Opened.{opened_at, view_of}
use Rattle.wire.specs.declared.expansion.Opened.{Opened}
use Rattle.wire.proofs.expansion.Views.{view_is}
use Rattle.wire.specs.message.Message.{Record}
use Rattle.wire.specs.message.Layout.{broken, record_at}
use Rattle.wire.specs.declared.message.RecordAt.{RecordAt}
use Rattle.wire.specs.declared.message.Layout.{Layout}
use Rattle.wire.specs.message.Readable.{readable, message_in, record_shown}
use Rattle.facts.specs.probe.Probe.{under}
use Rattle.wire.proofs.message.Walk.{walk_done, walk_broken, walk_on}
use Rattle.facts.specs.Found.{RecordSeen}
use Rattle.facts.specs.declared.tiebreak.Counts.{Counts}
use Rattle.facts.specs.declared.tiebreak.OwnTypes.{OwnTypes}
use Rattle.std.specs.Prelude.{Option, Some, None}
use Rattle.std.specs.Ordering.{is_gt, is_ne, ordering_then}
use Rattle.facts.specs.tiebreak.Later.{number_of, is_later, unless_same, TieRecord, compare_records, tie}
use Rattle.facts.specs.tiebreak.Lists.{tie_record, list_under, theirs, own_record, second_record, own_records}
use Rattle.facts.specs.tiebreak.Counts.{count_one, count_met, count_all, none_counted, placed, beyond}
use Rattle.facts.proofs.tiebreak.Orders.{records-order}
use Rattle.facts.proofs.tiebreak.Sorting.{not-later_swap}
use Rattle.facts.proofs.tiebreak.Counting.{tie-one, tie-two, tie-turned}

-- a record of the packet, by the view of its rdata
pub seen_record : (p : List ℕ) (f : RecordAt) → fits (rdata_at p f) ≡ true
    → (o : Opened) → o ≡ opened_at p f → (seen : List ℕ) → seen ≡ view_of p o.bytes o.len f
    → (y : TieRecord) (v : Ordering) → v ≡ compare_records (record {
      class =
          f.class % 32768;
      rtype = f.rtype;
      rdata = seen;
    }) y → v ≡ compare_records (tie_record (record_shown p f)) y
seen_record p f h o k seen s y v e =
    let is : seen ≡ data_of (rdata_at p f) = s ∙ sym (ap data_of (view_is p f h o k)) in
    e ∙ ap (λ (d : List ℕ). compare_records (record { class = f.class % 32768; rtype = f.rtype; rdata = d }) y) is

-- one record counted, or passed over
module _ (t x : TieRecord) (c : Counts) (b u : Bool) (is : u ≡ b) where
  pub met_under : u ≡ true → (v : Ordering) → v ≡ compare_records t x → (d : Counts) → d ≡ count_one v c → d ≡ count_met b t x c
  met_under e v h d k = k ∙ ap (λ (w : Ordering). count_one w c) h ∙ ap (λ (w : Bool). count_met w t x c) (sym e ∙ is)

  pub met_other : u ≡ false → c ≡ count_met b t x c
  met_other e = ap (λ (w : Bool). count_met w t x c) (sym e ∙ is)

-- it raises each count by one at the most
met_most : (t x : TieRecord) (c : Counts) (b : Bool) (d : Counts) → d ≡ count_met b t x c
    → (d.all ≤ c.all + 1) × (d.earlier ≤ c.earlier + 1) × (d.same ≤ c.same + 1)
met_most t x c b d e = rw e (go b (compare_records t x))
  where
    go : (b : Bool) (v : Ordering)
        → ((cond b (count_one v c) c).all ≤ c.all + 1) × ((cond b (count_one v c) c).earlier ≤ c.earlier + 1) × ((cond b (count_one v c) c).same ≤ c.same + 1)
    go true Less = (omega arith, omega arith, omega arith)
    go true Equal = (omega arith, omega arith, omega arith)
    go true Greater = (omega arith, omega arith, omega arith)
    go false v = (omega arith, omega arith, omega arith)

-- so the counts of a section stay within its count
pub met_bounds : (t x : TieRecord) (c : Counts) (b : Bool) (d : Counts) → d ≡ count_met b t x c → (n most : ℕ) → 0 < n → c.all + n ≤ most
    → c.earlier + n ≤ most → c.same + n ≤ most
    → (d.all + (n - 1) ≤ most) × (d.earlier + (n - 1) ≤ most) × (d.same + (n - 1) ≤ most)
met_bounds t x c b d e n most lt u v w =
    let k = met_most t x c b d e in
    (omega arith, omega arith, omega arith)

-- the counting loop
module _ (p : List ℕ) (x : TieRecord) (other : List ℕ) (all : Counts) (n at : ℕ) (c : Counts)
    (inv : all ≡ count_all x (list_under other (readable (record_at p) n at)) c) where
  abbrev made : List Record → Counts
  made rs = count_all x (list_under other rs) c

  pub count_done : n ≤ 0 → c ≡ all
  unfolding count_all list_under
  count_done l = walk_done (record_at p) made all n at inv l

  pub count_broken : record_at p at ≡ broken → c ≡ all
  unfolding count_all list_under
  count_broken e = walk_broken (record_at p) made all n at inv e

  pub count_turn : 0 < n → (f : RecordAt) → RecordSeen p at f → (d : Counts) → d ≡ count_met (name_is p f.owner other) (tie_record (record_shown p f)) x c
      → all ≡ count_all x (list_under other (readable (record_at p) (n - 1) f.next)) d
  unfolding count_all list_under
  count_turn lt f m d e =
      let rest : List Record = readable (record_at p) (n - 1) f.next in
      walk_on (record_at p) made all n at inv lt (record_shown p f) f.next m.here ∙ go rest (under other (record_shown p f))
      ∙ ap (count_all x (list_under other rest)) (sym (e ∙ ap (λ (b : Bool). count_met b (tie_record (record_shown p f)) x c) (m.named other)))
    where
      go : (rest : List Record) (b : Bool)
          → count_all x (cond b (tie_record (record_shown p f) ∷ list_under other rest) (list_under other rest)) c
          ≡ count_all x (list_under other rest) (count_met b (tie_record (record_shown p f)) x c)
      go rest true = refl
      go rest false = refl

-- the verdict from the answers of `place` and `past_own`
module _ (l : List TieRecord) (x : TieRecord) (c : Counts) (is : c ≡ count_all x l none_counted) (v : Ordering) (at : v ≡ placed 0 c) where
  one-is : tie l (x ∷ []) ≡ unless_same v (beyond 1 c)
  one-is = tie-one l x ∙ ap (λ (d : Counts). unless_same (placed 0 d) (beyond 1 d)) (sym is) ∙ ap (λ (u : Ordering). unless_same u (beyond 1 c)) (sym at)

  pub one_verdict : (w : Ordering) → w ≡ beyond 1 c → (r : Ordering) → r ≡ ordering_then v w → r ≡ tie l (x ∷ [])
  one_verdict w h r e = e ∙ ap (ordering_then v) h ∙ sym one-is

  module _ (y : TieRecord) (order : is_later (compare_records x y) ≡ false) where
    two_is : tie l (x ∷ (y ∷ [])) ≡ unless_same v (unless_same (placed 1 (count_all y l none_counted)) (beyond 2 (count_all y l none_counted)))
    two_is =
        tie-two l x y order
        ∙ ap (λ (u : Ordering). unless_same u (unless_same (placed 1 (count_all y l none_counted)) (beyond 2 (count_all y l none_counted)))) (ap (placed 0) (sym is) ∙ sym at)

    -- the first record decides
    pub two_decided : is_ne v ≡ true → v ≡ tie l (x ∷ (y ∷ []))
    two_decided e = go v e (unless_same (placed 1 (count_all y l none_counted)) (beyond 2 (count_all y l none_counted))) ∙ sym two_is
      where
        go : (u : Ordering) → is_ne u ≡ true → (w : Ordering) → u ≡ unless_same u w
        go Less e w = refl
        go Equal e w = cc
        go Greater e w = refl

    -- it does not, and the second does
    module _ (equal : is_ne v ≡ false) (d : Counts) (on : d ≡ count_all y l none_counted) (w : Ordering) (next : w ≡ placed 1 d) where
      same : (u : Ordering) → is_ne u ≡ false → u ≡ Equal
      same Less e = cc
      same Equal e = refl
      same Greater e = cc

      second_is : tie l (x ∷ (y ∷ [])) ≡ unless_same w (beyond 2 d)
      second_is =
          two_is ∙ ap (λ (u : Ordering). unless_same u (unless_same (placed 1 (count_all y l none_counted)) (beyond 2 (count_all y l none_counted)))) (same v equal)
          ∙ ap (λ (k : Counts). unless_same (placed 1 k) (beyond 2 k)) (sym on) ∙ ap (λ (u : Ordering). unless_same u (beyond 2 d)) (sym next)

      pub second_verdict : (t : Ordering) → t ≡ beyond 2 d → (r : Ordering) → r ≡ ordering_then w t → r ≡ tie l (x ∷ (y ∷ []))
      second_verdict t h r e = e ∙ ap (ordering_then w) h ∙ sym second_is

-- the own list of a claim: one record, or two in either order
module _ (p : List ℕ) (l : Layout) (other : List ℕ) (own : OwnTypes) (d d₂ : List ℕ) (v : Ordering) where
  abbrev here : List TieRecord
  here = list_under other (readable (record_at p) l.authorities.count l.authorities.at)

  pub alone-is : own.second ≡ None → v ≡ tie here (own_record own.first d ∷ []) → v ≡ tie (theirs other (message_in p l)) (own_records own d d₂)
  unfolding message_in
  alone-is e h = h ∙ sym (ap (λ (s : Option ℕ). tie here (own_record own.first d ∷ second_record s d₂)) e)

  module _ (rtype : ℕ) (two : own.second ≡ Some rtype) where
    pub pair_is : v ≡ tie here (own_record own.first d ∷ (own_record rtype d₂ ∷ [])) → v ≡ tie (theirs other (message_in p l)) (own_records own d d₂)
    unfolding message_in
    pair_is h = h ∙ sym (ap (λ (s : Option ℕ). tie here (own_record own.first d ∷ second_record s d₂)) two)

    pub turned_is : is_later (compare_records (own_record own.first d) (own_record rtype d₂)) ≡ true
        → v ≡ tie here (own_record rtype d₂ ∷ (own_record own.first d ∷ [])) → v ≡ tie (theirs other (message_in p l)) (own_records own d d₂)
    turned_is e h = pair_is (h ∙ sym (tie-turned here (own_record own.first d) (own_record rtype d₂) e))

-- what a verdict says of the order of the two own records
module _ (x y : TieRecord) (v : Ordering) (e : v ≡ compare_records x y) (g : Bool) (h : g ≡ is_gt v) where
  pub in_order_lem : g ≡ false → is_later (compare_records x y) ≡ false
  in_order_lem f = ap is_later (sym e) ∙ sym h ∙ f

  pub out_of_order : g ≡ true → is_later (compare_records x y) ≡ true
  out_of_order f = ap is_later (sym e) ∙ sym h ∙ f

  pub other-order : g ≡ true → is_later (compare_records y x) ≡ false
  other-order f = not-later_swap compare_records records-order x y (out_of_order f)

-- a verdict with the specification's number for it
pub numbered : (v w : Ordering) → v ≡ w → (v ≡ w) × (number_of v ≡ number_of w)
numbered v w e = (e, ap number_of e)
