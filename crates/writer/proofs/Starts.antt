-- The offsets at which labels start, label by label: noted in a loop. Assumes nothing.
use mathlib.Core.Path.{◌≡◌, refl, sym, ap, ◌∙◌}
use mathlib.Core.List.{List, [], ◌∷◌}
use Prim.Native.Nat.{ℕ, ◌+◌, ◌<◌, ◌≤◌}
use native.Mathlib.Numerals.{add-one}
use native.Mathlib.Omega.{arith}
use lib.ListN.{length, get_or, drop, set}
use lib.Seq.{sets}
use Rattle.wire.specs.labels.Counted.{starts}
use Rattle.wire.proofs.labels.Counted.{starts-end, starts-root, starts-label}

-- noted: what is still to be noted, and what has been
pub record Noting (at count : ℕ) (s pl₀ pl : List ℕ) (next i : ℕ) : Type 0 where
  pub same : length pl ≡ length pl₀
  pub stores : sets pl₀ count (starts at 0 s) ≡ sets pl next (starts (at + i) 0 (drop i s))
  pub total : count + length (starts at 0 s) ≡ next + length (starts (at + i) 0 (drop i s))

pub noting : (at count : ℕ) (s pl : List ℕ) → Noting at count s pl pl count 0
noting at count s pl =
    let e : at ≡ at + 0 = omega arith in
    record { same = refl; stores = ap (λ (n : ℕ). sets pl count (starts n 0 s)) e; total = ap (λ (n : ℕ). count + length (starts n 0 s)) e }

module _ (at count : ℕ) (s pl₀ pl : List ℕ) (next i : ℕ) (inv : Noting at count s pl₀ pl next i) where
  none_left : starts (at + i) 0 (drop i s) ≡ [] → (next ≡ count + length (starts at 0 s)) × (pl ≡ sets pl₀ count (starts at 0 s))
  none_left e = (omega (arith, inv.total, ap length e), sym (inv.stores ∙ ap (sets pl next) e))

  pub noted_end : length s ≤ i → (next ≡ count + length (starts at 0 s)) × (pl ≡ sets pl₀ count (starts at 0 s))
  noted_end h = none_left (starts-end s i (at + i) h)

  pub noted_root : i < length s → get_or s i 0 ≡ 0 → (next ≡ count + length (starts at 0 s)) × (pl ≡ sets pl₀ count (starts at 0 s))
  noted_root h z = none_left (starts-root s i (at + i) h z)

  module _ (h : i < length s) (nz : get_or s i 0 ≡ 0 → ⊥) where
    label : starts (at + i) 0 (drop i s) ≡ (at + i) ∷ starts (at + i + 1 + get_or s i 0) 0 (drop (i + 1 + get_or s i 0) s)
    label = starts-label s i (at + i) h nz

    pub noted_room : count + length (starts at 0 s) ≤ length pl₀ → next < length pl
    noted_room k = omega (arith, inv.total, inv.same, ap length label)

    pub noted_on : length (set pl next (at + i)) ≡ length pl → Noting at count s pl₀ (set pl next (at + i)) (next + 1) (i + 1 + get_or s i 0)
    noted_on l =
        let e : at + i + 1 + get_or s i 0 ≡ at + (i + 1 + get_or s i 0) = omega arith in
        let more : starts (at + i) 0 (drop i s) ≡ (at + i) ∷ starts (at + (i + 1 + get_or s i 0)) 0 (drop (i + 1 + get_or s i 0) s) =
        label ∙ ap (λ (n : ℕ). (at + i) ∷ starts n 0 (drop (i + 1 + get_or s i 0) s)) e in
        record {
          same = l ∙ inv.same;
          stores =
              inv.stores ∙ ap (sets pl next) more ∙ ap (λ (n : ℕ). sets (set pl next (at + i)) n
              (starts (at + (i + 1 + get_or s i 0)) 0 (drop (i + 1 + get_or s i 0) s))) (sym (add-one next));
          total = omega (arith, inv.total, ap length more);
        }
