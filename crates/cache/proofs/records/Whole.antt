-- Of a record that is whole, what the code finds of an entry is what the rules say of the record that it shows. Assumes nothing.
use mathlib.Core.Path.{◌≡◌, ap, ap₂}
use mathlib.Core.List.{List}
use mathlib.Core.Bool.{Bool, true, ◌&&◌}
use Prim.Native.Nat.{ℕ, ◌≤◌}
use lib.ListN.{length}
use lib.Dec.{eqb}
use Rattle.wire.specs.case_folding.Fold.{same_name}
use Rattle.wire.specs.expansion.Equal.{same_bytes}
use Rattle.wire.specs.message.Message.{Record}
use Rattle.wire.specs.message.Readable.{record_shown}
use Rattle.wire.specs.declared.message.RecordAt.{RecordAt}
use Rattle.wire.proofs.message.Walk.{RecordMet}
use Rattle.cache.specs.entries.Entries.{owner_held, rdata_held, is_live, is_of, live_of, holds}
use Rattle.cache.specs.declared.entries.Entry.{Entry}
use Rattle.cache.specs.declared.records.Heard.{Heard}
use Rattle.cache.specs.records.Heard.{heard_as, is_taken, owner_in, rdata_in, is_of_heard, live_heard, holds_heard}
use Rattle.cache.specs.records.Taking.{Shows}
use Rattle.cache.specs.entries.Cache.{slot_with, slot_for}

-- where a slot shows a record, the tests on it are the rules'
module _ (p : List ℕ) (at : ℕ) (f : RecordAt) (met : RecordMet p at f) where
  abbrev shown : Record
  shown = record_shown p f

  abbrev h : Heard
  h = heard_as p f

  module _ (slot : List ℕ) (shows : Shows p h slot) (taken : is_taken h ≡ true) where
    pub slot-fits : h.len ≤ 768 → slot_with (owner_in slot h) (rdata_in slot h) ≡ slot_for shown
    slot-fits l = ap₂ slot_with (shows.owner taken) (shows.content taken l)

    of_shown : (store : List ℕ) (i : ℕ) (e : Entry) → is_of_heard store slot h i e ≡ is_of store shown.owner shown.rtype i e
    unfolding is_of_heard is_of
    of_shown store i e = ap₂ (λ (n : ℕ) (o : List ℕ). eqb e.rtype f.rtype && (eqb e.owner n && same_name (owner_held store i e) o)) met.span (shows.owner taken)

    pub live_shown : (store : List ℕ) (now i : ℕ) (e : Entry) → live_heard now store slot h i e ≡ live_of now store shown.owner shown.rtype i e
    unfolding live_heard live_of
    live_shown store now i e = ap (λ (b : Bool). is_live now e && b) (of_shown store i e)

    pub holds-shown : h.len ≤ 768 → (store : List ℕ) (now i : ℕ) (e : Entry) → holds_heard now store slot h i e ≡ holds now store shown.owner shown.rtype shown.rdata i e
    unfolding holds_heard holds
    holds-shown l store now i e =
        ap₂ (λ (a : Bool) (d : List ℕ). a && (eqb e.rdata (length shown.rdata) && same_bytes (rdata_held store i e) d)) (live_shown store now i e) (shows.content taken l)
