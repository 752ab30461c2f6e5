-- The records of a section one after the other: what is left makes of the cache what all make. Assumes nothing.
use Rattle.std.proofs.Common.{None, Option, Some}
use Rattle.std.proofs.lemmas.Option.{same_Some}
use mathlib.Core.Path.{◌≡◌, refl, sym, ap, subst, ◌∙◌}
use mathlib.Core.List.{List}
use Prim.Native.Nat.{ℕ, ◌+◌, ◌-◌, ◌<◌, ◌≤◌}
use native.Mathlib.Omega.{arith}
use lib.ListN.{length}
use Rattle.wire.specs.message.Message.{Record}
use Rattle.wire.specs.message.Layout.{record_at}
use Rattle.wire.specs.message.Readable.{readable, whole_read, record_shown}
use Rattle.wire.specs.declared.message.RecordAt.{RecordAt}
use Rattle.wire.specs.declared.message.Section.{Section}
use Rattle.wire.proofs.names.Use.{at_most-255}
use Rattle.wire.proofs.message.Walk.{RecordMet, record_found, record_broken, readable-item, readable-broken, readable-none}
use Rattle.cache.specs.entries.Cache.{Cache, take_records}
use Rattle.cache.specs.declared.entries.Entry.{Entry}
use Rattle.cache.specs.declared.records.Heard.{Heard}
use Rattle.cache.specs.declared.records.Choice.{Choice}
use Rattle.cache.specs.declared.records.Choice.TheVariants.{Leave, Expire, Refresh, Fill, TurnAway, PassOver}
use Rattle.cache.specs.declared.Counts.{Counts}
use Rattle.cache.specs.records.Heard.{heard_as, heard_of, heard_at}
use Rattle.cache.specs.records.Taking.{flushed_in, chosen_in, changed_in, kept_in, counting, take_heard}
use Rattle.cache.proofs.records.Rules.{Within, Fitting, flushed-length, changed-length, kept-length, chosen_within, chosen_fills, as_shown}
use Rattle.capi_cache.specs.hearing.Hearing.{heard_in}
use Rattle.capi_cache.proofs.hearing.Shown.{heard-shows}
use Rattle.capi_cache.specs.Sections.{Changing, records_of, cache_with}

-- the name of a record that is whole fits the owner's bytes of a slot
pub heard-fits : (p : List ℕ) (at : ℕ) (h : Heard) → Some h ≡ heard_at p at → h.at.span.len ≤ 255
unfolding heard_at
heard-fits p at h is = go (whole_read p at) refl is
  where
    go : (a : Option RecordAt) → a ≡ whole_read p at → Some h ≡ heard_of p a → h.at.span.len ≤ 255
    go (Some f) w e =
        let met : RecordMet p at f = record_found p at (Some f) w f refl in
        let same : h ≡ heard_as p f = same_Some h (heard_as p f) e in
        omega (arith, at_most-255 p f.owner (record_shown p f).owner met.end met.owner, met.span, ap (λ (k : Heard). k.at.span.len) same)
    go None w e = let z : ◌≡◌ {A = ℕ} 0 1 = cc in absurd (omega arith)

-- what is chosen can be done
pub changing : (now : ℕ) (store slot : List ℕ) (h : Heard) (es : List Entry) (n : ℕ) → length es ≡ n → h.at.span.len ≤ 255 → Changing n h (chosen_in now store slot h es)
changing now store slot h es n len fits = go (chosen_in now store slot h es) (chosen_within now store slot h es) (chosen_fills now store slot h es)
  where
    go : (c : Choice) → Within c (length es) → Fitting h c → Changing n h c
    go Leave w f = tt
    go (Expire i) w f = omega (arith, w, len)
    go (Refresh i) w f = omega (arith, w, len)
    go (Fill i) w f = (omega (arith, w, len), (fits, f.1))
    go TurnAway w f = tt
    go PassOver w f = tt

-- a count grows by one at the most
counts_one : (x : Choice) (c : Counts) → ((counting x c).turned ≤ c.turned + 1) × ((counting x c).passed ≤ c.passed + 1)
unfolding counting
counts_one Leave c = (omega arith, omega arith)
counts_one (Expire i) c = (omega arith, omega arith)
counts_one (Refresh i) c = (omega arith, omega arith)
counts_one (Fill i) c = (omega arith, omega arith)
counts_one TurnAway c = (omega arith, omega arith)
counts_one PassOver c = (omega arith, omega arith)

-- what a loop over the records of a section keeps: the records that are left, `left` at the most from `at` on, still make of the cache what all do, the lengths
-- stay, and no more is counted than there are records
pub record Going (now : ℕ) (p : List ℕ) (all : Cache) (n m t o at left : ℕ) (c : Counts) (zs : List Entry) (cs : List ℕ) : Type 0 where
  pub same : take_records now (readable (record_at p) left at) (cache_with c zs cs) ≡ all
  pub entries : length zs ≡ n
  pub store : length cs ≡ m
  pub away : c.turned + left ≤ t
  pub over : c.passed + left ≤ o

pub starts : (now : ℕ) (p : List ℕ) (s : Section) (c : Counts) (es : List Entry) (store : List ℕ)
    → Going now p (take_records now (records_of p s) (cache_with c es store)) (length es) (length store) (c.turned + s.count) (c.passed + s.count) s.at (s.count - 0) c es store
unfolding records_of
starts now p s c es store =
    let none : s.count - 0 ≡ s.count = omega arith in
    record { same = ap (λ (k : ℕ). take_records now (readable (record_at p) k s.at) (cache_with c es store)) none; entries = refl; store = refl; away = omega arith; over = omega arith }

module _ (now : ℕ) (p : List ℕ) (all : Cache) (n m t o at left : ℕ) (c : Counts) (zs : List Entry) (cs : List ℕ) (g : Going now p all n m t o at left c zs cs) where
  -- none is left, or none that is whole
  pub gone : left ≤ 0 → cache_with c zs cs ≡ all
  unfolding take_records
  gone l = ap (λ (rs : List Record). take_records now rs (cache_with c zs cs)) (sym (readable-none (record_at p) left at l)) ∙ g.same

  pub broken_off : heard_at p at ≡ None → cache_with c zs cs ≡ all
  unfolding heard_at take_records
  broken_off none = go (whole_read p at) refl none
    where
      go : (a : Option RecordAt) → a ≡ whole_read p at → heard_of p a ≡ None → cache_with c zs cs ≡ all
      go (Some f) e k = let z : ◌≡◌ {A = ℕ} 0 1 = cc in absurd (omega arith)
      go None e k = ap (λ (rs : List Record). take_records now rs (cache_with c zs cs)) (sym (readable-broken (record_at p) left at (record_broken p at None e refl))) ∙ g.same

  -- one that is whole, before the rest
  module _ (lt : 0 < left) (ss : List ℕ) (size : length ss ≡ 1024) (h : Heard) (is : Some h ≡ heard_at p at) where
    abbrev slot' : List ℕ
    slot' = heard_in p at ss

    abbrev es' : List Entry
    es' = flushed_in now cs slot' h zs

    abbrev x' : Choice
    x' = chosen_in now cs slot' h es'

    after_is : cache_with (counting x' c) (changed_in now h x' es') (kept_in slot' h x' cs) ≡ take_heard now slot' h (cache_with c zs cs)
    unfolding take_heard
    after_is = refl

    one : take_records now (readable (record_at p) (left - 1) h.at.next) (take_heard now slot' h (cache_with c zs cs)) ≡ take_records now (readable (record_at p) left at) (cache_with c zs cs)
    unfolding take_records heard_at
    one = go (whole_read p at) refl is
      where
        of_whole : (f : RecordAt) → Some f ≡ whole_read p at
            → take_records now (readable (record_at p) (left - 1) f.next) (take_heard now slot' (heard_as p f) (cache_with c zs cs)) ≡ take_records now (readable (record_at p) left at) (cache_with c zs cs)
        of_whole f e =
            let met : RecordMet p at f = record_found p at (Some f) e f refl in
            ap (take_records now (readable (record_at p) (left - 1) f.next)) (as_shown now p at f met slot' (heard-shows p at ss size f e) (cache_with c zs cs))
            ∙ ap (λ (rs : List Record). take_records now rs (cache_with c zs cs)) (sym (readable-item (record_at p) left at (record_shown p f) f.next lt met.here))

        go : (a : Option RecordAt) → a ≡ whole_read p at → Some h ≡ heard_of p a
            → take_records now (readable (record_at p) (left - 1) h.at.next) (take_heard now slot' h (cache_with c zs cs)) ≡ take_records now (readable (record_at p) left at) (cache_with c zs cs)
        go (Some f) e same =
            subst (λ (k : Heard). take_records now (readable (record_at p) (left - 1) k.at.next) (take_heard now slot' k (cache_with c zs cs)) ≡ take_records now (readable (record_at p) left at) (cache_with c zs cs))
            (sym (same_Some h (heard_as p f) same)) (of_whole f e)
        go None e same = let z : ◌≡◌ {A = ℕ} 0 1 = cc in absurd (omega arith)

    goes_on_lem : Going now p all n m t o h.at.next (left - 1) (counting x' c) (changed_in now h x' es') (kept_in slot' h x' cs)
    goes_on_lem =
        let k = counts_one x' c in
        record {
          same = ap (take_records now (readable (record_at p) (left - 1) h.at.next)) after_is ∙ one ∙ g.same;
          entries = changed-length now h x' es' ∙ flushed-length now cs slot' h zs ∙ g.entries;
          store = kept-length slot' h x' cs ∙ g.store;
          away = omega (arith, k.0, lt, g.away);
          over = omega (arith, k.1, lt, g.over);
        }

    -- what the code has made of the counts, the table and the store
    pub goes_on : (slot : List ℕ) → slot ≡ heard_in p at ss → (x : Choice) (ys : List Entry) (bs : List ℕ)
        → (let es : List Entry = flushed_in now cs slot h zs in
        let y : Choice = chosen_in now cs slot h es in (x ≡ y) × ((ys ≡ changed_in now h y es) × (bs ≡ kept_in slot h y cs)))
        → (d : Counts) → d ≡ counting x c → (left' : ℕ) → left' ≡ left - 1 → Going now p all n m t o h.at.next left' d ys bs
    goes_on slot heard x ys bs made d d-is left' left-is =
        let x-is : x ≡ x' = made.0 ∙ ap (λ (s : List ℕ). chosen_in now cs s h (flushed_in now cs s h zs)) heard in
        let ys-is : ys ≡ changed_in now h x' es' =
        made.1.0 ∙ ap (λ (s : List ℕ). changed_in now h (chosen_in now cs s h (flushed_in now cs s h zs)) (flushed_in now cs s h zs)) heard in
        let bs-is : bs ≡ kept_in slot' h x' cs = made.1.1 ∙ ap (λ (s : List ℕ). kept_in s h (chosen_in now cs s h (flushed_in now cs s h zs)) cs) heard in
        subst (λ (k : ℕ). Going now p all n m t o h.at.next k d ys bs) (sym left-is)
        (subst (λ (k : Counts). Going now p all n m t o h.at.next (left - 1) k ys bs) (sym (d-is ∙ ap (λ (y : Choice). counting y c) x-is))
        (subst (λ (k : List Entry). Going now p all n m t o h.at.next (left - 1) (counting x' c) k bs) (sym ys-is)
        (subst (λ (k : List ℕ). Going now p all n m t o h.at.next (left - 1) (counting x' c) (changed_in now h x' es') k) (sym bs-is) goes_on_lem)))
