-- The numbers of what becomes of a record: those that its tests come to. Assumes nothing.
use Rattle.std.specs.Prelude.{Option, Result, Ok, Err}
use mathlib.Core.Path.{◌≡◌, refl, sym, ap, ◌∙◌}
use mathlib.Core.List.{List}
use mathlib.Core.Bool.{Bool, true, false, cond}
use Prim.Native.Nat.{ℕ}
use native.Mathlib.Omega.{arith}
use lib.Dec.{eqb}
use borrow.Author.Tests.{ne_eqb}
use Rattle.wire.specs.message.Message.{Record}
use Rattle.wire.specs.message.Layout.{Item, item, broken}
use Rattle.wire.specs.declared.refusals.Refusal.{Refusal}
use Rattle.wire.specs.refusals.Numbers.{number_in, refused_by}
use Rattle.wire.proofs.refusals.Tests.{numbers_from-1, number_by}
use Rattle.cache.specs.entries.Entries.{is_live}
use Rattle.cache.specs.declared.entries.Entry.{Entry}
use Rattle.proxy.specs.domains.Domains.{Domains, setup_tests, setup_refusal, unless_refused}
use Rattle.proxy.specs.records.Records.{record_tests, record_refusal, record_out, none_out, item_out, item_refusal}
use Rattle.proxy.specs.records.Held.{held_record, held_tests, held_refusal, held_out, cached_refusal}
use Rattle.proxy.specs.declared.records.Passed.{Passed}

abbrev Out : Type 0
Out = Result (Option Passed) Refusal

-- what is given where nothing refuses has the number of what refuses
given : (u : Result (Unit {0}) Refusal) (x : Option Passed) → number_in (unless_refused u (Ok x)) ≡ number_in u
given (Ok v) x = refl
given (Err refusal) x = refl

pub record_number : (d : Domains) (r : Record) → number_in (record_out d r) ≡ record_refusal d r
unfolding record_out record_refusal
record_number d r = given _ _ ∙ number_by (record_tests d r)

pub none_number : (d : Domains) → number_in (none_out d) ≡ setup_refusal d
unfolding none_out setup_refusal
none_number d = given _ _ ∙ number_by (setup_tests d)

pub item_number : (d : Domains) (i : Item Record) → number_in (item_out d i) ≡ item_refusal d i
item_number d (item r next) = record_number d r
item_number d broken = none_number d

pub held_number : (now : ℕ) (e : Entry) (slot : List ℕ) → number_in (refused_by (held_tests now e slot)) ≡ held_refusal now e slot
unfolding held_refusal
held_number now e slot = number_by (held_tests now e slot)

-- of an entry: its own refusal, else that of what becomes of its record
live_number : (d : Domains) (now : ℕ) (e : Entry) (slot : List ℕ) (b : Bool)
    → number_in (cond b (record_out d (held_record now e slot)) (none_out d)) ≡ cond b (record_refusal d (held_record now e slot)) (setup_refusal d)
live_number d now e slot true = record_number d (held_record now e slot)
live_number d now e slot false = none_number d

behind : (u : Result (Unit {0}) Refusal) (n : ℕ) → number_in u ≡ n → (out : Out) (m : ℕ) → number_in out ≡ m
    → number_in (unless_refused u out) ≡ cond (eqb n 0) m n
behind (Ok v) n h out m k = k ∙ ap (λ (i : ℕ). cond (eqb i 0) m i) h
behind (Err refusal) n h out m k =
    let other : eqb n 0 ≡ false = ne_eqb n 0 (omega (arith, numbers_from-1 refusal, h)) in
    h ∙ sym (ap (λ (b : Bool). cond b m n) other)

pub cached_number : (d : Domains) (now : ℕ) (e : Entry) (slot : List ℕ) → number_in (held_out d now e slot) ≡ cached_refusal d now e slot
unfolding held_out cached_refusal
cached_number d now e slot = behind _ _ (held_number now e slot) _ _ (live_number d now e slot (is_live now e))
