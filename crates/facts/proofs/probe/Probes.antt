-- Whether a message is a probe does not depend on the spelling of the claim's name; and what its question is. Assumes nothing.
use mathlib.Core.Path.{◌≡◌, refl}
use mathlib.Core.List.{List, [], ◌∷◌}
use mathlib.Core.Bool.{Bool, true, false, ◌&&◌, ◌||◌}
use Prim.Native.Nat.{ℕ}
use native.Mathlib.Omega.{arith}
use lib.Dec.{eqb}
use Rattle.wire.specs.case_folding.Fold.{same_name}
use Rattle.wire.proofs.case_folding.Equal.{same_sym, same_trans}
use Rattle.wire.specs.message.Message.{Question, Record, Message, class_of}
use Rattle.wire.specs.Lists.{some}
use Rattle.facts.specs.Questions.{takes_in}
use Rattle.facts.specs.probe.Probe.{under, asks_all, is_probe}

-- names that are equal, letters folded, have the same probes
module _ (a b : List ℕ) (same : same_name a b ≡ true) where
  pub equal_to : (bs : List ℕ) → same_name bs a ≡ same_name bs b
  equal_to bs = go (same_name bs a) (same_name bs b) refl refl
    where
      go : (u v : Bool) → same_name bs a ≡ u → same_name bs b ≡ v → u ≡ v
      go true true e f = refl
      go false false e f = refl
      go true false e f =
          let k : same_name bs b ≡ true = same_trans bs a b e same in
          let z : ◌≡◌ {A = ℕ} 0 1 = cc in absurd (omega arith)
      go false true e f =
          let k : same_name bs a ≡ true = same_trans bs b a f (same_sym a b same) in
          let z : ◌≡◌ {A = ℕ} 0 1 = cc in absurd (omega arith)

  spelling_asks : (qs : List Question) → some (asks_all a) qs ≡ some (asks_all b) qs
  unfolding some
  spelling_asks [] = refl
  spelling_asks (x ∷ qs) = rw (equal_to x.name, spelling_asks qs)

  spelling_some : (rs : List Record) → some (under a) rs ≡ some (under b) rs
  unfolding some
  spelling_some [] = refl
  spelling_some (r ∷ rs) = rw (equal_to r.owner, spelling_some rs)

  pub spelling_probe : (m : Message) → is_probe a m ≡ is_probe b m
  unfolding is_probe
  spelling_probe m = rw (spelling_asks m.questions, spelling_some m.authorities)

-- a question that asks for all that a name has is of type 255, and of class 1 or 255
pub asks-all : (n : List ℕ) (q : Question) → asks_all n q ≡ (same_name q.name n && (eqb q.rtype 255 && takes_in (class_of q.class) 1))
asks-all n q = go (eqb q.rtype 255)
  where
    go : (b : Bool) → (same_name q.name n && ((b || b) && takes_in (class_of q.class) 1)) ≡ (same_name q.name n && (b && takes_in (class_of q.class) 1))
    go true = refl
    go false = refl
