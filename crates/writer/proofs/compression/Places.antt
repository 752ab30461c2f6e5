-- Offsets at which labels start: those of a packet rise, and none is in the header. Assumes nothing.
use Prim.Native.Nat.{ℕ, suc, ◌+◌, ◌≤◌}
use mathlib.Core.List.{List, [], ◌∷◌, ◌++◌}
use native.Mathlib.Omega.{arith}
use lib.ListN.{length, length-append}
use Rattle.wire.specs.labels.Labels.{encode}
use Rattle.writer.specs.compression.Compression.{place_of}
use Rattle.writer.specs.compression.Sentence.{Rising, empty, next}
use Rattle.writer.proofs.compression.ByLabels.{cut_at, none_at, by_labels, places_by}
use Rattle.std.specs.Prelude.{Option, Some, None}

pub rising_le : {m n : ℕ} {os : List ℕ} → Rising m n os → m ≤ n
rising_le (empty h) = h
rising_le (next h r) = omega (arith, rising_le r)

pub rising_from : {m n : ℕ} {os : List ℕ} (l : ℕ) → l ≤ m → Rising m n os → Rising l n os
rising_from {n = n} l h (empty k) = let g : l ≤ n = omega arith in empty g
rising_from l h (next {o = o} k r) = let g : l ≤ o = omega arith in next g r

pub rising_to : {m n : ℕ} {os : List ℕ} (k : ℕ) → n ≤ k → Rising m n os → Rising m k os
rising_to {m = m} k h (empty l) = let g : m ≤ k = omega arith in empty g
rising_to k h (next l r) = next l (rising_to k h r)

pub rising_append : {m n k : ℕ} {os us : List ℕ} → Rising m n os → Rising n k us → Rising m k (os ++ us)
rising_append {m = m} (empty h) s = rising_from m h s
rising_append (next h r) s = next h (rising_append r s)

-- the labels of a name start where it is written
pub name-rising : (p os : List ℕ) (at : ℕ) (ls : List (List ℕ)) → Rising at (at + length (by_labels p os ls)) (places_by p os at ls)
unfolding by_labels places_by
name-rising p os at [] = let g : at ≤ at + 1 = omega arith in empty g
name-rising p os at (l ∷ ls) = go (place_of p (encode (l ∷ ls)) os) (name-rising p os (at + 1 + length l) ls)
  where
    go : (x : Option ℕ) → Rising (at + 1 + length l) (at + 1 + length l + length (by_labels p os ls)) (places_by p os (at + 1 + length l) ls)
        → Rising at (at + length (cut_at x (length l ∷ (l ++ by_labels p os ls)))) (none_at x (at ∷ places_by p os (at + 1 + length l) ls))
    go (Some o) ih = let g : at ≤ at + 2 = omega arith in empty g
    go None ih =
        let g : at ≤ at = omega arith in next g (rising_from (suc at) (omega arith)
        (rising_to (at + suc (length (l ++ by_labels p os ls))) (omega (arith, length-append l (by_labels p os ls))) ih))
