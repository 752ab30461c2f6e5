-- The bytes of a field, written one by one. Assumes nothing.
use Rattle.std.proofs.Common.{◌≡◌, ◌∙◌, ℕ, zero, suc, ◌+◌, ◌*◌, ◌/◌, ◌%◌, ◌<◌, ◌≤◌, List, [], ◌∷◌, length, get_or, take, drop, set, refl, sym, ap, arith, min, ⊎_elim}
use Rattle.std.proofs.lemmas.Bool.{cases_lt}
use native.Mathlib.Nat.{zero-add}
use lib.ListN.{take-append-drop, length-take}
use lib.Seq.{sets, length-sets, take_all}
use Rattle.wire.proofs.octets.Sets.{sets_more, sets-append}
use Rattle.console_text.specs.hex.Bytes.{hex_value, byte_of, bytes_of}

pub bytes_length : (s : List ℕ) → length s / 2 ≡ length (bytes_of s)
unfolding bytes_of
bytes_length [] = refl
bytes_length (a ∷ []) = refl
bytes_length (a ∷ (b ∷ bs)) = omega (arith, bytes_length bs)

bytes_at : (s : List ℕ) (i : ℕ) → 2 * i + 1 < length s → get_or (bytes_of s) i 0 ≡ byte_of (get_or s (2 * i) 0) (get_or s (2 * i + 1) 0)
unfolding bytes_of
bytes_at [] i h = absurd (omega arith)
bytes_at (a ∷ []) i h = absurd (omega arith)
bytes_at (a ∷ (b ∷ bs)) zero h = refl
bytes_at (a ∷ (b ∷ bs)) (suc i) h =
    let first : 2 * suc i ≡ suc (suc (2 * i)) = omega arith in
    let second : 2 * suc i + 1 ≡ suc (suc (2 * i + 1)) = omega arith in
    rw (second, first) (bytes_at bs i (omega arith))

pub joined : (a b x y : ℕ) → x ≡ hex_value a % 16 → y ≡ hex_value b % 16 → x * 16 + y ≡ byte_of a b
joined a b x y ex ey = rw (ex, ey)

-- the first `i` bytes stand in the buffer
pub one_more : (s before out : List ℕ) (i : ℕ) → 2 * i + 1 < length s → {x : ℕ} → x ≡ byte_of (get_or s (2 * i) 0) (get_or s (2 * i + 1) 0)
    → out ≡ sets before 0 (take i (bytes_of s)) → set out i x ≡ sets before 0 (take (i + 1) (bytes_of s))
one_more s before out i h {x} e w =
    let k : i < length (bytes_of s) = omega (arith, bytes_length s) in
    rw (w, e, ← bytes_at s i h) (rw zero-add at (sets_more before 0 (bytes_of s) i k))

-- stores past the end of a list change nothing
set_past : (l : List ℕ) (i v : ℕ) → length l ≤ i → set l i v ≡ l
set_past [] i v h = refl
set_past (x ∷ l) zero v h = absurd (omega arith)
set_past (x ∷ l) (suc i) v h = ap (λ (r : List ℕ). x ∷ r) (set_past l i v (omega arith))

sets-past : (l : List ℕ) (i : ℕ) (vs : List ℕ) → length l ≤ i → sets l i vs ≡ l
sets-past l i [] h = refl
sets-past l i (v ∷ vs) h = ap (λ (r : List ℕ). sets r (suc i) vs) (set_past l i v h) ∙ sets-past l (suc i) vs (omega arith)

-- of bytes that have no room, the first fill the buffer
pub sets-full : (l bs : List ℕ) (n : ℕ) → length l ≤ n → n ≤ length bs → sets l 0 (take n bs) ≡ sets l 0 bs
sets-full l bs n h k =
    sym (ap (sets l 0) (sym (take-append-drop n bs)) ∙ sym (sets-append l 0 (take n bs) (drop n bs))
    ∙ sets-past (sets l 0 (take n bs)) (0 + length (take n bs)) (drop n bs) (simp (length-sets, length-take) (omega arith)))

pub all_written : (s before : List ℕ) (i : ℕ) → i ≡ min (length s / 2) (length before) → sets before 0 (take i (bytes_of s)) ≡ sets before 0 (bytes_of s)
all_written s before i e =
    ⊎_elim
    (λ (h : i < length s / 2). sets-full before (bytes_of s) i (omega arith) (omega (arith, bytes_length s)))
    (λ (h : length s / 2 ≤ i). ap (sets before 0) (take_all i (bytes_of s) (omega (arith, bytes_length s))))
    (cases_lt i (length s / 2))
