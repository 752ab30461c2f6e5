-- What one record makes of a table and its store, in the code's steps, is what the rules say of it. Assumes nothing.
use Rattle.std.proofs.Common.{None, Option, Some}
use mathlib.Core.Path.{◌≡◌, refl, sym, ap, ap₂, ◌∙◌}
use mathlib.Core.List.{List, [], ◌∷◌}
use mathlib.Core.Bool.{Bool, true, false, cond, not, ◌&&◌, and-false}
use Prim.Native.Nat.{ℕ, suc, ◌+◌, ◌*◌, ◌<◌, ◌≤◌}
use native.Mathlib.Omega.{arith}
use lib.ListN.{length, get_or, set, drop, length-set}
use lib.Seq.{sets, length-sets}
use lib.Dec.{ltb, leb, eqb}
use borrow.Author.Tests.{lt-ltb, le-ltb, le-leb, ltb-true, ltb-false, eqb-true, eqb-false}
use Rattle.wire.specs.rdata.Rdata.{form_at}
use Rattle.wire.specs.rdata.Answers.{fits}
use Rattle.wire.proofs.expansion.Views.{within}
use Rattle.wire.proofs.rdata.Restricted.{by-content}
use Rattle.wire.specs.message.Message.{Record, top_bit}
use Rattle.wire.specs.message.Readable.{record_shown}
use Rattle.wire.specs.declared.message.RecordAt.{RecordAt}
use Rattle.wire.proofs.message.Walk.{RecordMet}
use Rattle.cache.specs.entries.Entries.{blank, is_free, is_old, soon, flushed, refreshed}
use Rattle.cache.specs.entries.Tables.{lowest, slot_from, each}
use Rattle.cache.specs.entries.Cache.{Cache, with_entries, cached_as, is_cached, rule1, goodbye, taken, renewed, equal_slot, free_slot, slot_with, slot_for, rule23, after_rule1, take_record}
use Rattle.cache.specs.declared.entries.Entry.{Entry}
use Rattle.cache.specs.declared.records.Heard.{Heard}
use Rattle.cache.specs.declared.records.Choice.{Choice}
use Rattle.cache.specs.declared.records.Choice.TheVariants.{Leave, Expire, Refresh, Fill, TurnAway, PassOver}
use Rattle.cache.specs.records.Heard.{heard_as, is_taken, is_flushing, is_sought, owner_in, rdata_in, may_hold, has_bytes, holds_heard, live_heard, flushed_heard, first_slot, is_filling, chosen_among, chosen_of}
use Rattle.cache.specs.records.Taking.{Shows, flushed_in, equal_in, free_from, chosen_in, entry_heard, changed_in, kept_in, counting, changed_cache, take_heard}
use Rattle.cache.proofs.entries.Searches.{found_at}
use Rattle.cache.proofs.entries.Shape.{length-each}
use Rattle.cache.proofs.records.Whole.{slot-fits, live_shown, holds-shown}
use Rattle.cache.proofs.records.Tests.{alike-type, may_not, holds-may, holds-bytes}
use Rattle.cache.proofs.records.Seeking.{numbered, numbered_all}

-- tests and rules that agree on every entry agree on a table
same_lowest : (a b : ℕ → Entry → Bool) → ((i : ℕ) (e : Entry) → a i e ≡ b i e) → (i : ℕ) (es : List Entry) → lowest a i es ≡ lowest b i es
unfolding lowest
same_lowest a b h i [] = refl
same_lowest a b h i (e ∷ es) = ap (λ (t : Bool). cond t (Some i) (lowest a (suc i) es)) (h i e) ∙ ap (cond (b i e) (Some i)) (same_lowest a b h (suc i) es)

same_each : (a b : ℕ → Entry → Entry) → ((i : ℕ) (e : Entry) → a i e ≡ b i e) → (i : ℕ) (es : List Entry) → each a i es ≡ each b i es
unfolding each
same_each a b h i [] = refl
same_each a b h i (e ∷ es) = ap (λ (x : Entry). x ∷ each a (suc i) es) (h i e) ∙ ap (λ (l : List Entry). b i e ∷ l) (same_each a b h (suc i) es)

left-each : (a : ℕ → Entry → Entry) → ((i : ℕ) (e : Entry) → a i e ≡ e) → (i : ℕ) (es : List Entry) → each a i es ≡ es
unfolding each
left-each a h i [] = refl
left-each a h i (e ∷ es) = ap (λ (x : Entry). x ∷ each a (suc i) es) (h i e) ∙ ap (λ (l : List Entry). e ∷ l) (left-each a h (suc i) es)

-- ---- lengths
pub flushed-length : (now : ℕ) (store slot : List ℕ) (h : Heard) (es : List Entry) → length (flushed_in now store slot h es) ≡ length es
unfolding flushed_in
flushed-length now store slot h es = length-each (flushed_heard now store slot h) 0 es

pub changed-length : (now : ℕ) (h : Heard) (c : Choice) (es : List Entry) → length (changed_in now h c es) ≡ length es
unfolding changed_in
changed-length now h Leave es = refl
changed-length now h (Expire i) es = length-set es i (soon now (get_or es i blank))
changed-length now h (Refresh i) es = length-set es i (refreshed now h.at.ttl (get_or es i blank))
changed-length now h (Fill i) es = length-set es i (entry_heard now h)
changed-length now h TurnAway es = refl
changed-length now h PassOver es = refl

pub kept-length : (slot : List ℕ) (h : Heard) (c : Choice) (store : List ℕ) → length (kept_in slot h c store) ≡ length store
unfolding kept_in
kept-length slot h Leave store = refl
kept-length slot h (Expire i) store = refl
kept-length slot h (Refresh i) store = refl
kept-length slot h (Fill i) store = length-sets store (1024 * i) (slot_with (owner_in slot h) (rdata_in slot h))
kept-length slot h TurnAway store = refl
kept-length slot h PassOver store = refl

-- rule 1 that is not for a record leaves every entry, and begins past the last
pub flushes_none : (now : ℕ) (store slot : List ℕ) (h : Heard) (es : List Entry) → is_flushing h ≡ false → flushed_in now store slot h es ≡ es
unfolding flushed_in flushed_heard
flushes_none now store slot h es n = left-each (flushed_heard now store slot h) (λ i e. ap (λ (b : Bool). cond (b && (live_heard now store slot h i e && is_old now e)) (soon now e) e) n) 0 es

-- ---- what is chosen
-- the slot of a change is one of a table of n entries
abbrev pub Within : Choice → ℕ → Type 0
Within Leave n = Unit {0}
Within (Expire i) n = i < n
Within (Refresh i) n = i < n
Within (Fill i) n = i < n
Within TurnAway n = Unit {0}
Within PassOver n = Unit {0}

-- only a record that is taken and fits a slot fills one
abbrev pub Fitting : Heard → Choice → Type 0
Fitting h Leave = Unit {0}
Fitting h (Expire i) = Unit {0}
Fitting h (Refresh i) = Unit {0}
Fitting h (Fill i) = (is_taken h ≡ true) × (h.len ≤ 768)
Fitting h TurnAway = Unit {0}
Fitting h PassOver = Unit {0}

module _ (h : Heard) (n equal free : ℕ) where
  chosen_good : Within (chosen_of h n equal free) n × Fitting h (chosen_of h n equal free)
  unfolding chosen_of
  chosen_good = go (is_taken h) refl (ltb 768 h.len) refl (eqb h.at.ttl 0) (ltb equal n) refl (ltb free n) refl
    where
      go : (t : Bool) → is_taken h ≡ t → (l : Bool) → ltb 768 h.len ≡ l → (ends a : Bool) → ltb equal n ≡ a → (b : Bool) → ltb free n ≡ b
          → Within (cond t (cond l PassOver (cond a (cond ends (Expire equal) (Refresh equal)) (cond ends Leave (cond b (Fill free) TurnAway)))) Leave) n
          × Fitting h (cond t (cond l PassOver (cond a (cond ends (Expire equal) (Refresh equal)) (cond ends Leave (cond b (Fill free) TurnAway)))) Leave)
      go false u l v ends a e b f = (tt, tt)
      go true u true v ends a e b f = (tt, tt)
      go true u false v true true e b f = (ltb-true equal n e, tt)
      go true u false v false true e b f = (ltb-true equal n e, tt)
      go true u false v true false e b f = (tt, tt)
      go true u false v false false e true f = (ltb-true free n f, (u, ltb-false 768 h.len v))
      go true u false v false false e false f = (tt, tt)

module _ (now : ℕ) (store slot : List ℕ) (h : Heard) (es : List Entry) where
  pub chosen_within : Within (chosen_in now store slot h es) (length es)
  unfolding chosen_in
  chosen_within = (chosen_good h (length es) _ _).0

  pub chosen_fills : Fitting h (chosen_in now store slot h es)
  unfolding chosen_in
  chosen_fills = (chosen_good h (length es) _ _).1

-- ---- an entry that may not hold a record does not, and one that may does where its bytes are the record's
pub may_wider : (now : ℕ) (store slot : List ℕ) (h : Heard) (i : ℕ) (e : Entry) → may_hold now h e ≡ false → holds_heard now store slot h i e ≡ false
may_wider now store slot h i e n = sym (holds-may now store slot h i e n)

pub type_wider : (now : ℕ) (h : Heard) (e : Entry) → eqb e.rtype h.at.rtype ≡ false → may_hold now h e ≡ false
type_wider now h e n = sym (may_not now h e (sym (alike-type now h e (eqb-false _ _ n))))

pub may_bytes : (now : ℕ) (store slot : List ℕ) (h : Heard) (i : ℕ) (e : Entry) → may_hold now h e ≡ true → has_bytes store slot h i e ≡ holds_heard now store slot h i e
may_bytes now store slot h i e k = holds-bytes now store slot h i e k

-- ---- a record that is left
not-flushing : (h : Heard) → is_taken h ≡ false → is_flushing h ≡ false
unfolding is_flushing
not-flushing h n = ap (λ (b : Bool). top_bit h.at.class && b) n ∙ and-false (top_bit h.at.class)

chosen_none : (now : ℕ) (store slot : List ℕ) (h : Heard) (es : List Entry) → is_taken h ≡ false → chosen_in now store slot h es ≡ Leave
unfolding chosen_in chosen_of
chosen_none now store slot h es n = simp n

-- a change of no entry
same_cache : (now : ℕ) (slot : List ℕ) (h : Heard) (c : Cache) → changed_cache now slot h Leave c ≡ c
unfolding changed_in kept_in counting
same_cache now slot h c = refl

pub left_alone_lem : (now : ℕ) (slot : List ℕ) (h : Heard) (c : Cache) → is_taken h ≡ false → take_heard now slot h c ≡ c
unfolding take_heard
left_alone_lem now slot h c none =
    ap (λ (x : Choice). changed_cache now slot h x (with_entries (flushed_in now c.store slot h c.entries) c)) (chosen_none now c.store slot h (flushed_in now c.store slot h c.entries) none)
    ∙ same_cache now slot h (with_entries (flushed_in now c.store slot h c.entries) c)
    ∙ ap (λ (es : List Entry). with_entries es c) (flushes_none now c.store slot h c.entries (not-flushing h none))

pub not-whole : (h : Heard) → h.whole ≡ false → is_taken h ≡ false
unfolding is_taken
not-whole h n = simp n

-- ---- a record that the rules are for
over : (now : ℕ) (store slot : List ℕ) (h : Heard) (es : List Entry) → is_taken h ≡ true → ltb 768 h.len ≡ true → chosen_in now store slot h es ≡ PassOver
unfolding chosen_in chosen_of
over now store slot h es t l = simp (t, l)

-- the choice by slots: the lowest live equal entry, else the lowest not live
abbrev chosen_free : Option ℕ → Choice
chosen_free (Some i) = Fill i
chosen_free None = TurnAway

abbrev chosen_slot_lem : Bool → Option ℕ → Option ℕ → Choice
chosen_slot_lem ends (Some i) free = cond ends (Expire i) (Refresh i)
chosen_slot_lem ends None free = cond ends Leave (chosen_free free)

module _ (now : ℕ) (store slot : List ℕ) (h : Heard) (es : List Entry) (t : is_taken h ≡ true) (l : ltb 768 h.len ≡ false) where
  abbrev n : ℕ
  n = length es

  abbrev equal : Option ℕ
  equal = lowest (holds_heard now store slot h) 0 es

  abbrev free : Option ℕ
  free = lowest (is_free now) 0 es

  sought : is_sought h ≡ true
  unfolding is_sought
  sought = ap (λ (b : Bool). b && is_taken h) (le-leb _ _ (ltb-false 768 h.len l)) ∙ t

  equal_number : equal_in now store slot h es ≡ numbered (holds_heard now store slot h) n equal
  unfolding equal_in
  equal_number =
      ap (λ (b : Bool). slot_from (holds_heard now store slot h) (first_slot b n) (drop (first_slot b n) es)) sought
      ∙ numbered_all (holds_heard now store slot h) es

  free_number : (from : ℕ) → from ≡ 0 → free_from now es from ≡ numbered (is_free now) n free
  unfolding free_from
  free_number from z = ap (λ (k : ℕ). slot_from (is_free now) k (drop k es)) z ∙ numbered_all (is_free now) es

  is-filling : eqb h.at.ttl 0 ≡ false → first_slot (is_filling h n n) n ≡ 0
  unfolding is_filling
  is-filling z =
      let all : (is_sought h && (leb n n && not (eqb h.at.ttl 0))) ≡ true = simp (sought, le-leb n n (omega arith), z) in
      ap (λ (b : Bool). first_slot b n) all

  by_number : (x : ℕ) (a : Option ℕ) → ((i : ℕ) → a ≡ Some i → i < n) → x ≡ numbered (holds_heard now store slot h) n a → (ends : Bool) → eqb h.at.ttl 0 ≡ ends
      → chosen_among ends n x (free_from now es (first_slot (is_filling h n x) n)) ≡ chosen_slot_lem ends a free
  by_number x (Some i) k is ends e = ap (λ (y : ℕ). chosen_among ends n y (free_from now es (first_slot (is_filling h n y) n))) is ∙ simp (lt-ltb i n (k i refl))
  by_number x None k is true e = ap (λ (y : ℕ). chosen_among true n y (free_from now es (first_slot (is_filling h n y) n))) is ∙ simp (le-ltb n n (omega arith))
  by_number x None k is false e =
      ap (λ (y : ℕ). chosen_among false n y (free_from now es (first_slot (is_filling h n y) n))) is
      ∙ simp (le-ltb n n (omega arith)) (ap (λ (y : ℕ). cond (ltb y n) (Fill y) TurnAway) (free_number (first_slot (is_filling h n n) n) (is-filling e)) ∙ of_free free (λ i is. (found_at (is_free now) es i is).0))
    where
      of_free : (a : Option ℕ) → ((i : ℕ) → a ≡ Some i → i < n) → cond (ltb (numbered (is_free now) n a) n) (Fill (numbered (is_free now) n a)) TurnAway ≡ chosen_free a
      of_free (Some i) k = simp (lt-ltb i n (k i refl))
      of_free None k = simp (le-ltb n n (omega arith))

  chosen_slot : chosen_in now store slot h es ≡ chosen_slot_lem (eqb h.at.ttl 0) equal free
  unfolding chosen_in chosen_of
  chosen_slot = simp (t, l) (by_number (equal_in now store slot h es) equal (λ i is. (found_at (holds_heard now store slot h) es i is).0) equal_number (eqb h.at.ttl 0) refl)

module _ (now : ℕ) (p : List ℕ) (at : ℕ) (f : RecordAt) (met : RecordMet p at f) (slot : List ℕ) (shows : Shows p (heard_as p f) slot) where
  abbrev h : Heard
  h = heard_as p f

  abbrev x : Record
  x = record_shown p f

  -- the bytes that it would fill a slot with
  abbrev bytes : List ℕ
  bytes = slot_with (owner_in slot h) (rdata_in slot h)

  fills_slot : bytes ≡ slot_for x → (c : Cache) (i : ℕ) → changed_cache now slot h (Fill i) c ≡ taken now x c (Some i)
  unfolding changed_in kept_in counting
  fills_slot is c i =
      ap₂ (λ (n : ℕ) (l : List ℕ). record { entries = set c.entries i (record { rtype = f.rtype; owner = n; rdata = h.len; received = now; expiry = (entry_heard now h).expiry; ttl = f.ttl }); store = sets c.store (1024 * i) l; turned = c.turned; passed = c.passed }) met.span is

  turns_away : (c : Cache) → changed_cache now slot h TurnAway c ≡ taken now x c None
  unfolding changed_in kept_in counting
  turns_away c = refl

  passes_over : (c : Cache) → changed_cache now slot h PassOver c ≡ record { entries = c.entries; store = c.store; turned = c.turned; passed = c.passed + 1 }
  unfolding changed_in kept_in counting
  passes_over c = refl

  expires : (c : Cache) (i : ℕ) → changed_cache now slot h (Expire i) c ≡ goodbye now c (Some i)
  unfolding changed_in kept_in counting
  expires c i = refl

  refreshes : (c : Cache) (i : ℕ) → changed_cache now slot h (Refresh i) c ≡ renewed now x c (Some i)
  unfolding changed_in kept_in counting
  refreshes c i = refl

  by-free : bytes ≡ slot_for x → (c : Cache) (s : Option ℕ) → changed_cache now slot h (chosen_free s) c ≡ taken now x c s
  by-free is c (Some i) = fills_slot is c i
  by-free is c None = turns_away c

  by-slot : bytes ≡ slot_for x → (c : Cache) (ends : Bool) (a : Option ℕ) → changed_cache now slot h (chosen_slot_lem ends a (free_slot now c)) c ≡ cond ends (goodbye now c a) (renewed now x c a)
  by-slot is c true (Some i) = expires c i
  by-slot is c false (Some i) = refreshes c i
  by-slot is c true None = same_cache now slot h c
  by-slot is c false None = by-free is c (free_slot now c)

  equal_is : is_taken h ≡ true → h.len ≤ 768 → (c : Cache) → lowest (holds_heard now c.store slot h) 0 c.entries ≡ equal_slot now x c
  unfolding equal_slot
  equal_is t l c = same_lowest _ _ (λ i e. holds-shown p at f met slot shows t l c.store now i e) 0 c.entries

  free_is : (c : Cache) → lowest (is_free now) 0 c.entries ≡ free_slot now c
  unfolding free_slot
  free_is c = refl

  after : (c : Cache) → is_taken h ≡ true → changed_cache now slot h (chosen_in now c.store slot h c.entries) c ≡ after_rule1 now x c
  unfolding after_rule1 rule23
  after c t = go (ltb 768 h.len) refl
    where
      go : (l : Bool) → ltb 768 h.len ≡ l
          → changed_cache now slot h (chosen_in now c.store slot h c.entries) c
          ≡ cond l (record { entries = c.entries; store = c.store; turned = c.turned; passed = c.passed + 1 }) (cond (eqb f.ttl 0) (goodbye now c (equal_slot now x c)) (renewed now x c (equal_slot now x c)))
      go true l = ap (λ (y : Choice). changed_cache now slot h y c) (over now c.store slot h c.entries t l) ∙ passes_over c
      go false l =
          let le : h.len ≤ 768 = ltb-false 768 h.len l in
          ap (λ (y : Choice). changed_cache now slot h y c) (chosen_slot now c.store slot h c.entries t l)
          ∙ ap₂ (λ (a b : Option ℕ). changed_cache now slot h (chosen_slot_lem (eqb f.ttl 0) a b) c) (equal_is t le c) (free_is c)
          ∙ by-slot (slot-fits p at f met slot shows t le) c (eqb f.ttl 0) (equal_slot now x c)

  -- the form of an NSEC that was read says of which kind it is; that of another type is not asked
  kind_is : cached_as f.class f.rtype (form_at p f).named ≡ is_cached x
  unfolding cached_as
  kind_is = go (eqb f.rtype 47) refl
    where
      go : (b : Bool) → eqb f.rtype 47 ≡ b → cached_as f.class f.rtype (form_at p f).named ≡ is_cached x
      go true e = ap (cached_as f.class f.rtype) (by-content p f (eqb-true _ _ e) (within p f (ap fits met.content)) x.owner met.end met.owner)
      go false e = simp e

  is-taken : {b : Bool} → is_cached x ≡ b → is_taken h ≡ b
  unfolding is_taken
  is-taken e = kind_is ∙ e

  steps : (c : Cache) → is_taken h ≡ true → take_heard now slot h c ≡ after_rule1 now x (with_entries (flushed_in now c.store slot h c.entries) c)
  unfolding take_heard
  steps c t = after (with_entries (flushed_in now c.store slot h c.entries) c) t

  flush_is : (store : List ℕ) → is_taken h ≡ true → (i : ℕ) (e : Entry) → top_bit f.class ≡ true → flushed_heard now store slot h i e ≡ flushed now store x.owner x.rtype i e
  unfolding flushed_heard flushed is_flushing
  flush_is store t i e top =
      ap₂ (λ (a b : Bool). cond ((a && b) && (live_heard now store slot h i e && is_old now e)) (soon now e) e) top t
      ∙ ap (λ (b : Bool). cond (b && is_old now e) (soon now e) e) (live_shown p at f met slot shows t store now i e)

  all-flushed : (c : Cache) → is_taken h ≡ true → top_bit f.class ≡ true → flushed_in now c.store slot h c.entries ≡ each (flushed now c.store x.owner x.rtype) 0 c.entries
  unfolding flushed_in
  all-flushed c t top = same_each _ _ (λ i e. flush_is c.store t i e top) 0 c.entries

  no_top : is_taken h ≡ true → top_bit f.class ≡ false → is_flushing h ≡ false
  unfolding is_flushing
  no_top t top = ap (λ (b : Bool). b && is_taken h) top

  rule1-is : (c : Cache) → is_taken h ≡ true → with_entries (flushed_in now c.store slot h c.entries) c ≡ rule1 now x c
  unfolding rule1
  rule1-is c t = go (top_bit f.class) refl
    where
      go : (b : Bool) → top_bit f.class ≡ b → with_entries (flushed_in now c.store slot h c.entries) c ≡ cond b (with_entries (each (flushed now c.store x.owner x.rtype) 0 c.entries) c) c
      go true top = ap (λ (es : List Entry). with_entries es c) (all-flushed c t top)
      go false top = ap (λ (es : List Entry). with_entries es c) (flushes_none now c.store slot h c.entries (no_top t top))

  pub as_shown : (c : Cache) → take_heard now slot h c ≡ take_record now x c
  unfolding take_record
  as_shown c = go (is_cached x) refl
    where
      go : (b : Bool) → is_cached x ≡ b → take_heard now slot h c ≡ cond b (after_rule1 now x (rule1 now x c)) c
      go true e = steps c (is-taken e) ∙ ap (after_rule1 now x) (rule1-is c (is-taken e))
      go false e = left_alone_lem now slot h c (is-taken e)
