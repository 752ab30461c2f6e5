-- The search for an earlier suffix: the front of an expanded name, the offsets one after the other, and the suffixes one after the other.
-- Assumes nothing.
use mathlib.Core.Path.{◌≡◌, refl, sym, ap, ◌∙◌}
use mathlib.Core.List.{List, [], ◌∷◌}
use mathlib.Core.Bool.{Bool, true, false, cond}
use Prim.Native.Nat.{ℕ, zero, suc, ◌+◌, ◌-◌, ◌<◌, ◌≤◌}
use native.Mathlib.Nat.{zero-add}
use native.Mathlib.Numerals.{add-one}
use native.Mathlib.Omega.{arith}
use lib.ListN.{length, get_or, take, drop, length-drop, length-take, drop_of_length-le}
use lib.Seq.{drop-cons, drop-drop, take_all}
use Rattle.wire.specs.names.Names.{name, name_at}
use Rattle.wire.specs.names.Answers.{expanded}
use Rattle.wire.specs.declared.names.Expanded.{Expanded}
use Rattle.wire.specs.declared.names.Span.{Span}
use Rattle.wire.proofs.names.Use.{as_expanded, as_unexpanded}
use Rattle.wire.specs.expansion.Equal.{same_bytes}
use Rattle.writer.specs.declared.compression.Cut.{Cut}
use Rattle.writer.specs.compression.Compression.{stands_at, place_of, onward, cut_here, cut_from, cut_of}
use Rattle.std.specs.Prelude.{Option, Some, None}

-- the front of an expanded name is the name
module _ (p : List ℕ) (at : ℕ) (r : Expanded) (h : r ≡ expanded (name_at p at)) where
  pub stands_bad : (s : List ℕ) → r.name ≡ None → false ≡ stands_at p s at
  unfolding stands_at
  stands_bad s k = simp (as_unexpanded (name_at p at) r r.name h refl k)

  module _ (f : Span) (k : r.name ≡ Some f) where
    found : (bs : List ℕ) × (name_at p at ≡ name bs f.end) × (length bs ≡ f.len) × (take f.len r.bytes ≡ bs)
    found = as_expanded (name_at p at) r r.name f h refl k

    pub front_long : f.len ≡ length (take f.len r.bytes)
    front_long = sym (ap length found.3 ∙ found.2)

    pub front_fits : f.len ≤ length r.bytes
    front_fits = omega (arith, front_long, length-take f.len r.bytes)

    pub stands_found : (s : List ℕ) (v : Bool) → v ≡ same_bytes (take f.len r.bytes) s → v ≡ stands_at p s at
    unfolding stands_at
    stands_found s v e = simp found.1 (e ∙ ap (λ (b : List ℕ). same_bytes b s) found.3)

-- a turn of the loop over the offsets
module _ (p s os : List ℕ) (i : ℕ) (inv : place_of p s os ≡ place_of p s (drop i os)) where
  pub place_end : length os ≤ i → None ≡ place_of p s os
  unfolding place_of
  place_end h = sym (inv ∙ ap (place_of p s) (drop_of_length-le os h))

  module _ (h : i < length os) (v : Bool) (e : v ≡ stands_at p s (get_or os i 0)) where
    place-turn : place_of p s os ≡ cond v (Some (get_or os i 0)) (place_of p s (drop (i + 1) os))
    unfolding place_of
    place-turn = inv ∙ rw (add-one, drop-cons os i 0 h, e)

    pub place_here : v ≡ true → Some (get_or os i 0) ≡ place_of p s os
    place_here t = sym (place-turn ∙ simp t)

    pub place-on : v ≡ false → place_of p s os ≡ place_of p s (drop (i + 1) os)
    place-on t = place-turn ∙ simp t

-- so many bytes more are kept
abbrev pub further : ℕ → Cut → Cut
further n c = record { kept = n + c.kept; place = c.place }

pub further_zero : (c : Cut) → c ≡ further 0 c
further_zero c = λ i. record { kept = sym (zero-add c.kept) i; place = c.place }

further_suc : (n : ℕ) (c : Cut) → onward (further n c) ≡ further (suc n) c
further_suc n c = let e : suc (n + c.kept) ≡ suc n + c.kept = omega arith in λ i. record { kept = e i; place = c.place }

further_add : (m n : ℕ) (c : Cut) → further m (further n c) ≡ further (m + n) c
further_add m n c = let e : m + (n + c.kept) ≡ m + n + c.kept = omega arith in λ i. record { kept = e i; place = c.place }

module _ (p os : List ℕ) where
  -- the bytes of a label are kept
  cut-past : (k : ℕ) (bs : List ℕ) → k ≤ length bs → cut_from p os k bs ≡ further k (cut_from p os 0 (drop k bs))
  unfolding cut_from
  cut-past zero bs h = further_zero (cut_from p os 0 bs)
  cut-past (suc k) [] h = absurd (omega arith)
  cut-past (suc k) (b ∷ bs) h = ap onward (cut-past k bs (omega arith)) ∙ further_suc k (cut_from p os 0 (drop k bs))

  -- a label that runs past the end
  cut-over : (k : ℕ) (bs : List ℕ) → length bs ≤ k → cut_from p os k bs ≡ record { kept = length bs; place = None }
  unfolding cut_from
  cut-over k [] h = refl
  cut-over zero (b ∷ bs) h = absurd (omega arith)
  cut-over (suc k) (b ∷ bs) h = ap onward (cut-over k bs (omega arith))

  module _ (s : List ℕ) (i : ℕ) (inv : cut_of p os s ≡ further i (cut_of p os (drop i s))) where
    pub cut-end : i ≡ length s → ◌≡◌ {A = Cut} (record { kept = i; place = None }) (cut_of p os s)
    unfolding cut_from
    cut-end e =
        let z : drop i s ≡ [] = drop_of_length-le s {i = i} (omega arith) in
        let k : i ≡ i + 0 = omega arith in (λ j. record { kept = k j; place = None }) ∙ sym (inv ∙ ap (λ (l : List ℕ). further i (cut_of p os l)) z)

    module _ (h : i < length s) where
      front : drop i s ≡ get_or s i 0 ∷ drop (i + 1) s
      front = drop-cons s i 0 h ∙ ap (λ (k : ℕ). get_or s i 0 ∷ drop k s) (sym (add-one i))

      pub cut-root : get_or s i 0 ≡ 0 → ◌≡◌ {A = Cut} (record { kept = i; place = None }) (cut_of p os s)
      unfolding cut_from
      cut-root e =
          let z : drop i s ≡ 0 ∷ drop (i + 1) s = front ∙ ap (λ (n : ℕ). n ∷ drop (i + 1) s) e in
          let k : i ≡ i + 0 = omega arith in (λ j. record { kept = k j; place = None }) ∙ sym (inv ∙ ap (λ (l : List ℕ). further i (cut_of p os l)) z)

      -- a label: what is left of the name was looked for
      module _ (nz : get_or s i 0 ≡ 0 → ⊥) (x : Option ℕ) (is : x ≡ place_of p (take (length s - i) (drop i s)) os) where
        whole : take (length s - i) (drop i s) ≡ drop i s
        whole = take_all (length s - i) (drop i s) (omega (arith, length-drop i s))

        here : cut_of p os (drop i s) ≡ cut_here x (onward (cut_from p os (get_or s i 0) (drop (i + 1) s)))
        unfolding cut_from
        here = go (get_or s i 0) nz front
          where
            go : (n : ℕ) → (n ≡ 0 → ⊥) → drop i s ≡ n ∷ drop (i + 1) s → cut_of p os (drop i s) ≡ cut_here x (onward (cut_from p os n (drop (i + 1) s)))
            go zero nz f = absurd (nz refl)
            go (suc n) nz f =
                ap (cut_from p os 0) f
                ∙ ap (λ (y : Option ℕ). cut_here y (onward (cut_from p os (suc n) (drop (i + 1) s))))
                (ap (λ (l : List ℕ). place_of p l os) (sym (whole ∙ f)) ∙ sym is)

        pub cut-found : (o : ℕ) → x ≡ Some o → ◌≡◌ {A = Cut} (record { kept = i; place = Some o }) (cut_of p os s)
        cut-found o q =
            let k : i ≡ i + 0 = omega arith in
            (λ j. record { kept = k j; place = Some o }) ∙ sym (inv ∙ ap (further i)
            (here ∙ ap (λ (y : Option ℕ). cut_here y (onward (cut_from p os (get_or s i 0) (drop (i + 1) s)))) q))

        module _ (q : x ≡ None) where
          gone : cut_of p os (drop i s) ≡ onward (cut_from p os (get_or s i 0) (drop (i + 1) s))
          gone = here ∙ ap (λ (y : Option ℕ). cut_here y (onward (cut_from p os (get_or s i 0) (drop (i + 1) s)))) q

          pub cut-long : length s - i ≤ get_or s i 0 → ◌≡◌ {A = Cut} (record { kept = length s; place = None }) (cut_of p os s)
          cut-long l =
              let e : cut_from p os (get_or s i 0) (drop (i + 1) s) ≡ record { kept = length (drop (i + 1) s); place = None } =
              cut-over (get_or s i 0) (drop (i + 1) s) (omega (arith, length-drop (i + 1) s)) in
              let k : length s ≡ i + suc (length (drop (i + 1) s)) = omega (arith, length-drop (i + 1) s) in
              (λ j. record { kept = k j; place = None }) ∙ sym (inv ∙ ap (further i) (gone ∙ ap onward e))

          pub cut_on : get_or s i 0 < length s - i → cut_of p os s ≡ further (i + (1 + get_or s i 0)) (cut_of p os (drop (i + (1 + get_or s i 0)) s))
          cut_on l =
              let n : ℕ = get_or s i 0 in
              let e : cut_from p os n (drop (i + 1) s) ≡ further n (cut_from p os 0 (drop (i + 1 + n) s)) =
              cut-past n (drop (i + 1) s) (omega (arith, length-drop (i + 1) s)) ∙ ap (λ (b : List ℕ). further n (cut_from p os 0 b)) (drop-drop n (i + 1) s) in
              let k : i + suc n ≡ i + 1 + n = omega arith in
              inv ∙ ap (further i) (gone ∙ ap onward e ∙ further_suc n (cut_from p os 0 (drop (i + 1 + n) s))) ∙ further_add i (suc n)
              (cut_from p os 0 (drop (i + 1 + n) s))
              ∙ ap (λ (m : ℕ). further m (cut_from p os 0 (drop (i + 1 + n) s))) k ∙ ap (λ (m : ℕ). further m (cut_of p os (drop m s)))
              (let e : i + 1 + n ≡ i + (1 + n) = omega arith in e)
