-- The gaps of the series: "gaps of 1 s from its sending, doubled each time, up to 60 minutes". Assumes nothing.
use mathlib.Core.Path.{◌≡◌, refl, sym, ap, ◌∙◌}
use Prim.Native.Nat.{ℕ, zero, suc, ◌+◌, ◌*◌, ◌≤◌, ◌<◌}
use native.Mathlib.Omega.{arith}
use borrow.Author.Tests.{lt-ltb}
use Rattle.cache.specs.entries.Entries.{lesser}
use Rattle.browser.specs.series.Series.{gap_after}

pub gap_long : (k : ℕ) → 12 < k → 3600000 ≡ gap_after k
unfolding gap_after
gap_long k h = sym (simp (lt-ltb _ _ h))

-- by cases up to the twelfth
pub gap_cases : (P : ℕ → Type 0) → P 0 → P 1 → P 2 → P 3 → P 4 → P 5 → P 6 → P 7 → P 8 → P 9 → P 10 → P 11 → P 12 → ((k : ℕ) → 12 < k → P k) → (k : ℕ) → P k
gap_cases P p0 p1 p2 p3 p4 p5 p6 p7 p8 p9 p10 p11 p12 more zero = p0
gap_cases P p0 p1 p2 p3 p4 p5 p6 p7 p8 p9 p10 p11 p12 more (suc zero) = p1
gap_cases P p0 p1 p2 p3 p4 p5 p6 p7 p8 p9 p10 p11 p12 more (suc (suc zero)) = p2
gap_cases P p0 p1 p2 p3 p4 p5 p6 p7 p8 p9 p10 p11 p12 more (suc (suc (suc zero))) = p3
gap_cases P p0 p1 p2 p3 p4 p5 p6 p7 p8 p9 p10 p11 p12 more (suc (suc (suc (suc zero)))) = p4
gap_cases P p0 p1 p2 p3 p4 p5 p6 p7 p8 p9 p10 p11 p12 more (suc (suc (suc (suc (suc zero))))) = p5
gap_cases P p0 p1 p2 p3 p4 p5 p6 p7 p8 p9 p10 p11 p12 more (suc (suc (suc (suc (suc (suc zero)))))) = p6
gap_cases P p0 p1 p2 p3 p4 p5 p6 p7 p8 p9 p10 p11 p12 more (suc (suc (suc (suc (suc (suc (suc zero))))))) = p7
gap_cases P p0 p1 p2 p3 p4 p5 p6 p7 p8 p9 p10 p11 p12 more (suc (suc (suc (suc (suc (suc (suc (suc zero)))))))) = p8
gap_cases P p0 p1 p2 p3 p4 p5 p6 p7 p8 p9 p10 p11 p12 more (suc (suc (suc (suc (suc (suc (suc (suc (suc zero))))))))) = p9
gap_cases P p0 p1 p2 p3 p4 p5 p6 p7 p8 p9 p10 p11 p12 more (suc (suc (suc (suc (suc (suc (suc (suc (suc (suc zero)))))))))) = p10
gap_cases P p0 p1 p2 p3 p4 p5 p6 p7 p8 p9 p10 p11 p12 more (suc (suc (suc (suc (suc (suc (suc (suc (suc (suc (suc zero))))))))))) = p11
gap_cases P p0 p1 p2 p3 p4 p5 p6 p7 p8 p9 p10 p11 p12 more (suc (suc (suc (suc (suc (suc (suc (suc (suc (suc (suc (suc zero)))))))))))) = p12
gap_cases P p0 p1 p2 p3 p4 p5 p6 p7 p8 p9 p10 p11 p12 more (suc (suc (suc (suc (suc (suc (suc (suc (suc (suc (suc (suc (suc k))))))))))))) =
    more (suc (suc (suc (suc (suc (suc (suc (suc (suc (suc (suc (suc (suc k))))))))))))) (omega arith)

-- every gap is at least a second and at most an hour
pub gap_most : (k : ℕ) → gap_after k ≤ 3600000
unfolding gap_after
gap_most = gap_cases (λ (k : ℕ). gap_after k ≤ 3600000) (omega arith) (omega arith) (omega arith) (omega arith) (omega arith) (omega arith) (omega arith)
    (omega arith) (omega arith)
    (omega arith) (omega arith) (omega arith) (omega arith) (λ (k : ℕ) (h : 12 < k). let e = gap_long k h in omega arith)

pub gap_least : (k : ℕ) → 1000 ≤ gap_after k
unfolding gap_after
gap_least = gap_cases (λ (k : ℕ). 1000 ≤ gap_after k) (omega arith) (omega arith) (omega arith) (omega arith) (omega arith) (omega arith) (omega arith)
    (omega arith) (omega arith)
    (omega arith) (omega arith) (omega arith) (omega arith) (λ (k : ℕ) (h : 12 < k). let e = gap_long k h in omega arith)

-- `doubled`: each gap is twice the one before it, up to 60 minutes
pub doubled : (k : ℕ) → 1 ≤ k → gap_after (k + 1) ≡ lesser (2 * gap_after k) 3600000
unfolding gap_after
doubled = gap_cases (λ (k : ℕ). 1 ≤ k → gap_after (k + 1) ≡ lesser (2 * gap_after k) 3600000) (λ h. absurd (omega arith)) (λ h. refl) (λ h. refl) (λ h. refl)
    (λ h. refl) (λ h. refl)
    (λ h. refl) (λ h. refl) (λ h. refl) (λ h. refl) (λ h. refl) (λ h. refl) (λ h. refl)
    (λ (k : ℕ) (h : 12 < k) (l : 1 ≤ k). let m : 12 < k + 1 = omega arith in sym (gap_long (k + 1) m) ∙ ap (λ (g : ℕ). lesser (2 * g) 3600000) (gap_long k h))
