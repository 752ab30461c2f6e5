-- The list of a message in the tiebreak (specification, 'A claim's life', 'Errors earlier docks made'): it does not depend on the order of the records
-- in the packet, nor on the spelling of the claim's name. Assumes nothing.
use mathlib.Core.Path.{◌≡◌, refl, sym, ap}
use mathlib.Core.List.Permᴰ
use mathlib.Core.List.{List, [], ◌∷◌, Permᴰ}
use mathlib.Core.Bool.{Bool, true, false, cond}
use Prim.Native.Nat.{ℕ}
use native.Mathlib.Omega.{arith}
use Rattle.wire.specs.case_folding.Fold.{same_name}
use Rattle.wire.specs.message.Message.{Record, Message}
use Rattle.facts.specs.probe.Probe.{under}
use Rattle.facts.proofs.probe.Probes.{equal_to}
use Rattle.facts.specs.tiebreak.Later.{TieRecord, tie}
use Rattle.facts.specs.tiebreak.Lists.{tie_record, list_under, theirs}
use Rattle.facts.proofs.tiebreak.Ties.{perm_tie}

-- the records of a packet in another order give the list in another order
swap_list : (other : List ℕ) (a b : Record) (rs : List Record) → Permᴰ (list_under other (a ∷ (b ∷ rs))) (list_under other (b ∷ (a ∷ rs)))
unfolding list_under
swap_list other a b rs = go (under other a) (under other b)
  where
    go : (u v : Bool)
        → Permᴰ (cond u (tie_record a ∷ cond v (tie_record b ∷ list_under other rs) (list_under other rs))
        (cond v (tie_record b ∷ list_under other rs) (list_under other rs)))
        (cond v (tie_record b ∷ cond u (tie_record a ∷ list_under other rs) (list_under other rs)) (cond u (tie_record a ∷ list_under other rs) (list_under other rs)))
    go true true = Permᴰ.swap refl refl
    go true false = Permᴰ.refl (tie_record a ∷ list_under other rs)
    go false true = Permᴰ.refl (tie_record b ∷ list_under other rs)
    go false false = Permᴰ.refl (list_under other rs)

pub perm_list : (other : List ℕ) {rs ss : List Record} → Permᴰ rs ss → Permᴰ (list_under other rs) (list_under other ss)
unfolding list_under
perm_list other Permᴰ.nil = Permᴰ.nil
perm_list other (Permᴰ.cons {a} {b} {l₁ = rs} {l₂ = ss} e d) = go (under other a) (under other b) (ap (under other) e) (perm_list other d)
  where
    go : (u v : Bool) → u ≡ v → Permᴰ (list_under other rs) (list_under other ss)
        → Permᴰ (cond u (tie_record a ∷ list_under other rs) (list_under other rs)) (cond v (tie_record b ∷ list_under other ss) (list_under other ss))
    go true true h again = Permᴰ.cons (ap (λ (r : Record). tie_record r) e) again
    go true false h again = let z : ◌≡◌ {A = ℕ} 0 1 = cc in absurd (omega arith)
    go false true h again = let z : ◌≡◌ {A = ℕ} 0 1 = cc in absurd (omega arith)
    go false false h again = again
perm_list other (Permᴰ.swap {a} {b} {a'} {b'} {l} e f) = rw (sym f, sym e) (swap_list other a b l)
perm_list other (Permᴰ.trans d f) = Permᴰ.trans (perm_list other d) (perm_list other f)

-- so the verdict does not depend on the order in the packet
pub packet_order : (other : List ℕ) (m n : Message) → Permᴰ m.authorities n.authorities → (own : List TieRecord)
    → tie (theirs other m) own ≡ tie (theirs other n) own
packet_order other m n d own = perm_tie (theirs other m) (theirs other n) (perm_list other d) own

-- names that are equal, letters folded, have the same list
module _ (a b : List ℕ) (same : same_name a b ≡ true) where
  pub spelling_list : (rs : List Record) → list_under a rs ≡ list_under b rs
  unfolding list_under
  spelling_list [] = refl
  spelling_list (r ∷ rs) = rw (equal_to a b same r.owner, spelling_list rs)
