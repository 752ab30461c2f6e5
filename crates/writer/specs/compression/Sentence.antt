-- The specification's sentence as a property of what is written: a name "is cut at its longest suffix of whole labels that stands earlier byte for byte in a
-- name of the packet, .. pointers there followed, and points to the smallest such offset; the root alone is never pointed to". proofs/AsSaid.antt
-- proves that every name is written so (`is_cut`). Assumes nothing: these are definitions.
use Rattle.std.specs.Prelude.{ℕ, suc, ◌+◌, ◌<◌, ◌≤◌, ◌≡◌, List, [], ◌∷◌, ◌++◌, true, length, take, drop}
use Rattle.wire.specs.labels.Labels.{encode}
use Rattle.writer.specs.compression.Compression.{stands_at, pointer_to}

-- an offset is one of a list
pub data Among : ℕ → List ℕ → Type 0 where
  first : {o : ℕ} {os : List ℕ} → Among o (o ∷ os)
  later : {o x : ℕ} {os : List ℕ} → Among o os → Among o (x ∷ os)

-- The name of these labels stands earlier in a name of the packet `p`: at one of the offsets `os` at which a label of its names starts, reading
-- gives its bytes.
pub record Stands (p os : List ℕ) (ls : List (List ℕ)) (o : ℕ) : Type 0 where
  pub labelled : Among o os
  pub read : stands_at p (encode ls) o ≡ true

-- labels with no end
abbrev pub label_bytes : List (List ℕ) → List ℕ
label_bytes [] = []
label_bytes (l ∷ ls) = length l ∷ (l ++ label_bytes ls)

-- where each label starts, of a name that is written at `at` whole
abbrev pub starts_at : ℕ → List (List ℕ) → List ℕ
starts_at at [] = []
starts_at at (l ∷ ls) = at ∷ starts_at (at + 1 + length l) ls

-- offsets from `m` on and below `n`, each above the one before it
pub data Rising : ℕ → ℕ → List ℕ → Type 0 where
  empty : {m n : ℕ} → m ≤ n → Rising m n []
  next : {m n o : ℕ} {os : List ℕ} → m ≤ o → Rising (suc o) n os → Rising m n (o ∷ os)

-- The name `ls` is written at `at` as `bs`, and its labels are noted at the offsets `ps`: whole, where no suffix of it stands earlier; or cut after
-- `k` labels, where its suffix from there on stands earlier at `o`, at no smaller offset, and no longer suffix stands anywhere. `k` is below the
-- number of labels, so that what is pointed to is never the root alone.
pub data Cuts (p os : List ℕ) (at : ℕ) (ls : List (List ℕ)) (bs ps : List ℕ) : Type 0 where
  whole : ((j o : ℕ) → j < length ls → Stands p os (drop j ls) o → ⊥) → bs ≡ encode ls → ps ≡ starts_at at ls → Cuts p os at ls bs ps
  cut : (k o : ℕ) → k < length ls → Stands p os (drop k ls) o → ((o' : ℕ) → Stands p os (drop k ls) o' → o ≤ o')
      → ((j o' : ℕ) → j < k → Stands p os (drop j ls) o' → ⊥) → bs ≡ label_bytes (take k ls) ++ pointer_to o → ps ≡ take k (starts_at at ls) → Cuts p os at ls bs
      ps
