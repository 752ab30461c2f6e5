-- The tests and rules on one entry, from what the code has tested. Assumes nothing.
use mathlib.Core.Path.{◌≡◌, refl, sym, ap, ◌∙◌}
use mathlib.Core.List.{List, []}
use mathlib.Core.Bool.{Bool, true, false}
use Prim.Native.Nat.{ℕ, ◌+◌, ◌-◌, ◌*◌, ◌/◌, ◌<◌, ◌≤◌}
use native.Mathlib.Nat.{add-sub_cancel_left}
use native.Mathlib.Omega.{arith}
use lib.ListN.{length, take, drop, drop_of_length-le}
use lib.Seq.{take-take, drop-drop}
use borrow.Author.Tests.{le-leb, lt-leb}
use Rattle.wire.specs.rdata.Answers.{start_in}
use Rattle.wire.proofs.rdata.Forms.{drop-take}
use Rattle.cache.specs.entries.Entries.{slot_of, is_live, is_of, live_of, matches}
use Rattle.cache.specs.declared.entries.Entry.{Entry}

-- a slot past the store's end has no bytes
pub slot-past : (store : List ℕ) (i : ℕ) → length store / 1024 < i → [] ≡ slot_of store i
slot-past store i h =
    let l : length store ≤ 1024 * i = omega arith in
    sym (ap (take 1024) (drop_of_length-le store l))

pub start-past : (store : List ℕ) (i : ℕ) (place : ℕ × ℕ) → length store / 1024 < i → start_in store (length store) place ≡ start_in store (1024 * i) place
start-past store i place h =
    let l : length store < 1024 * i = omega arith in
    rw (le-leb (length store) (length store) (omega arith), lt-leb (1024 * i) (length store) l) refl

module _ (now : ℕ) (store name : List ℕ) (rtype i : ℕ) (e : Entry) where
  pub live_of_lem : is_live now e ≡ true → (r : Bool) → r ≡ is_of store name rtype i e → r ≡ live_of now store name rtype i e
  unfolding live_of
  live_of_lem h r k = k ∙ sym (simp h)

-- a match from a slot on
pub match_before : (now : ℕ) (store name : List ℕ) (rtype from i : ℕ) (e : Entry) → i < from → matches now store name rtype from i e ≡ false
unfolding matches
match_before now store name rtype from i e h = simp (lt-leb _ _ h)

pub match_from : (now : ℕ) (store name : List ℕ) (rtype from i : ℕ) (e : Entry) → from ≤ i → matches now store name rtype from i e ≡ live_of now store name rtype i e
unfolding matches
match_from now store name rtype from i e h = simp (le-leb _ _ h)

-- the rdata in a slot that the store has
pub rdata-here : (store : List ℕ) (i len : ℕ) → i < length store / 1024 → len ≤ 768
    → take (1024 * i + 256 + len - (1024 * i + 256)) (drop (1024 * i + 256) store) ≡ take len (drop 256 (slot_of store i))
rdata-here store i len h l =
    ap (λ (k : ℕ). take k (drop (1024 * i + 256) store)) (add-sub_cancel_left (1024 * i + 256) len)
    ∙ sym (ap (take len) (drop-take 256 1024 (drop (1024 * i) store)) ∙ take-take len 768 (drop 256 (drop (1024 * i) store)) l ∙ ap (take len) (drop-drop 256 (1024 * i) store))
