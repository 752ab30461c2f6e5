-- What each piece of a name makes of the walk: what is then read and written. Assumes nothing.
use Rattle.std.specs.Prelude.{None, Option, Some}
use mathlib.Core.Path.{◌≡◌, refl, sym, ap, ◌∙◌}
use mathlib.Core.List.{List, ◌∷◌, ◌++◌}
use mathlib.Core.Bool.{Bool, true, false, cond}
use Prim.Native.Nat.{ℕ, zero, suc, ◌+◌, ◌-◌, ◌<◌, ◌≤◌}
use native.Mathlib.Nat.{zero-add}
use native.Mathlib.Omega.{arith}
use borrow.Author.Tests.{eq-eqb, ne_eqb, eqb-true}
use lib.Dec.{eqb}
use lib.ListN.{length, take, drop, get_or, set, length-append, length-drop}
use lib.Seq.{sets, length-take-le, drop-cons}
use native.Mathlib.Numerals.{add-one}
use Rattle.wire.proofs.octets.Sets.{sets-append}
use Rattle.wire.specs.name_pieces.Pieces.{piece_at}
use Rattle.wire.specs.names.Names.{Reading, name, malformed, before, ending, from_run, name_at}
use Rattle.wire.specs.names.Answers.{reach_of, Wrote, is_pointer, Chased, or_later, seen_of, found_of}
use Rattle.wire.specs.declared.name_pieces.Piece.{Piece}
use Rattle.wire.specs.declared.name_pieces.Piece.TheVariants.{Root, Label, Pointer, Bad}
use Rattle.wire.specs.labels.Counted.{starts, labels_in, first_in}
use Rattle.wire.specs.declared.names.Reach.{Reach}
use Rattle.wire.proofs.names.Rest.{read_at}
use Rattle.wire.proofs.name_pieces.Pieces.{is-label, label-in, pointer_back}
use Rattle.wire.proofs.labels.Counted.{label-before}

-- the bytes of a label, its length byte with them
pub label-long : (p : List ℕ) (at n : ℕ) → at + 1 + n ≤ length p → length (take (n + 1) (drop at p)) ≡ 1 + n
label-long p at n l = length-take-le (n + 1) (drop at p) (simp length-drop (omega arith)) ∙ omega arith

-- its length byte first
label-bytes : (p : List ℕ) (at n : ℕ) → at < length p → get_or p at 0 ≡ n → take (n + 1) (drop at p) ≡ n ∷ take n (drop (at + 1) p)
label-bytes p at n h e =
    ap (λ (k : ℕ). take k (drop at p)) (add-one n) ∙ ap (take (suc n)) (drop-cons p at 0 h ∙ ap (λ (k : ℕ). get_or p at 0 ∷ drop k p) (sym (add-one at)))
    ∙ ap (λ (k : ℕ). k ∷ take n (drop (at + 1) p)) e

module _ (p : List ℕ) (start at used : ℕ) (r : Piece) (is : r ≡ piece_at p start at used) where
  at_piece : (x : Piece) → r ≡ x → piece_at p start at used ≡ x
  at_piece x e = sym is ∙ e

  pub wrote_bad : (o o' : List ℕ) → r ≡ Bad → Wrote (from_run p start at used) used o None o'
  wrote_bad o o' e = rw (read_at p start at used Bad (at_piece Bad e)) (record { answer = refl; bytes = tt })

  pub wrote_root : (o : List ℕ) → r ≡ Root → Wrote (from_run p start at used) used o (Some (reach_of (at + 1) (used + 1))) (set o used 0)
  wrote_root o e = rw (read_at p start at used Root (at_piece Root e)) (record { answer = refl; bytes = refl })

  pub wrote_label : (n : ℕ) (o o₁ : List ℕ) (a : (Option Reach)) (o' : List ℕ) → r ≡ Label n
      → o₁ ≡ sets o used (take (at + 1 + n - at) (drop at p))
      → Wrote (from_run p start (at + 1 + n) (used + 1 + n)) (used + 1 + n) o₁ a o' → Wrote (from_run p start at used) used o a o'
  wrote_label n o o₁ a o' e w rest = rw (read_at p start at used (Label n) (at_piece (Label n) e)) (go (from_run p start (at + 1 + n) (used + 1 + n)) rest)
    where
      xs : List ℕ
      xs = take (n + 1) (drop at p)

      long : length xs ≡ 1 + n
      long = label-long p at n (label-in p start at used n (at_piece (Label n) e))

      same : take (at + 1 + n - at) (drop at p) ≡ xs
      same = let h : at + 1 + n - at ≡ n + 1 = omega arith in ap (λ (k : ℕ). take k (drop at p)) h

      go : (x : Reading) → Wrote x (used + 1 + n) o₁ a o' → Wrote (before xs x) used o a o'
      go (name ys d) g = record {
        answer = g.answer ∙ ap (λ (k : ℕ). Some (reach_of d k)) (omega (arith, length-append xs ys, long));
        bytes =
            g.bytes ∙ ap (λ (l : List ℕ). sets l (used + 1 + n) ys) (w ∙ ap (sets o used) same)
            ∙ ap (λ (k : ℕ). sets (sets o used xs) k ys) (omega (arith, long)) ∙ sets-append o used xs ys;
      }
      go malformed g = record { answer = g.answer; bytes = tt }

  pub wrote_pointer : (t : ℕ) (o : List ℕ) (a : (Option Reach)) (o' : List ℕ) → r ≡ Pointer t → Wrote (ending (at + 2) (from_run p t t used)) used o a o' → Wrote (from_run p start at used) used o a o'
  wrote_pointer t o a o' e rest = rw (read_at p start at used (Pointer t) (at_piece (Pointer t) e)) rest

  -- one pointer of a chain further
  pub chased_on : (from t : ℕ) → r ≡ Pointer t → start ≡ at → Chased p used from at → Chased p used from t
  chased_on from t e s h =
      let b : t < start = pointer_back p start at used t (at_piece (Pointer t) e) in
      record {
        back = omega (arith, h.back);
        same = λ d.
            h.same d ∙ ap (λ (k : ℕ). ending d (from_run p k at used)) (sym s)
            ∙ ap (ending d) (read_at p start at used (Pointer t) (at_piece (Pointer t) e)) ∙ twice (at + 2) d (from_run p t t used);
      }
    where
      twice : (e d : ℕ) (x : Reading) → ending d (ending e x) ≡ ending d x
      twice e d (name ys _) = refl
      twice e d malformed = refl

-- where a chain ends no pointer stands
pub no_pointer : (x : Piece) → ((t : ℕ) → x ≡ Pointer t → ⊥) → is_pointer x ≡ false
no_pointer Root h = refl
no_pointer (Label n) h = refl
no_pointer (Pointer t) h = absurd (h t refl)
no_pointer Bad h = refl

pub chased_none : (p : List ℕ) (used from : ℕ) → Chased p used from from
chased_none p used from = record { back = omega arith; same = λ d. refl }

-- what the walk from the end of a chain answers is the answer at its beginning, but for the end
module _ (p : List ℕ) (used from run at : ℕ) (c : Chased p used from run) (o : List ℕ) (a : (Option Reach)) (o' : List ℕ) (w : Wrote (from_run p run run used) used o a o') where
  pub followed : (s : Reach) → a ≡ Some s → Wrote (ending (at + 2) (from_run p from from used)) used o (Some (reach_of (at + 2) s.len)) o'
  followed s is = rw (c.same (at + 2)) (go (from_run p run run used) w)
    where
      go : (x : Reading) → Wrote x used o a o' → Wrote (ending (at + 2) x) used o (Some (reach_of (at + 2) s.len)) o'
      go (name ys d) g =
          let h : Some s ≡ Some (reach_of d (used + length ys)) = sym is ∙ g.answer in
          let k : s ≡ reach_of d (used + length ys) = cc in
          record { answer = ap (λ (n : ℕ). Some (reach_of (at + 2) n)) (ap (λ (y : Reach). y.len) k); bytes = g.bytes }
      go malformed g = let h : a ≡ None = g.answer in let z : ◌≡◌ {A = ℕ} 0 1 = cc in absurd (omega arith)

  pub followed_bad : a ≡ None → Wrote (ending (at + 2) (from_run p from from used)) used o None o'
  followed_bad is = rw (c.same (at + 2)) (go (from_run p run run used) w)
    where
      go : (x : Reading) → Wrote x used o a o' → Wrote (ending (at + 2) x) used o None o'
      go (name ys d) g = let h : a ≡ Some (reach_of d (used + length ys)) = g.answer in let z : ◌≡◌ {A = ℕ} 0 1 = cc in absurd (omega arith)
      go malformed g = record { answer = refl; bytes = tt }

-- the answer where nothing is copied
or_later_none : (known : ℕ) → or_later known 0 ≡ known
or_later_none known = go (eqb known 0) refl
  where
    go : (b : Bool) → eqb known 0 ≡ b → cond b 0 known ≡ known
    go true h = sym (eqb-true known 0 h)
    go false h = refl

-- a label in front of the rest of a name
seen_before : (used n end labels first : ℕ) (xs : List ℕ) → (n ≡ 0 → ⊥) → length xs ≡ n → (x : Reading)
    → seen_of used end labels first (before (n ∷ xs) x) ≡ seen_of (used + 1 + n) end (labels + 1) (or_later first n) x
seen_before used n end labels first xs z h (name ys e) =
    let len : used + length (n ∷ xs ++ ys) ≡ used + 1 + n + length ys = omega (arith, length-append xs ys) in
    let count : labels + labels_in (n ∷ (xs ++ ys)) ≡ labels + 1 + labels_in ys = omega (arith, label-before n xs ys z h) in
    let one : or_later first n ≡ or_later (or_later first n) (first_in ys) = sym (simp (ne_eqb _ _ (known first))) in
    λ i. Some (record { end = or_later end e; len = len i; labels = count i; first = one i })
  where
    known : (f : ℕ) → or_later f n ≡ 0 → ⊥
    known zero e = z e
    known (suc f) e = let k : suc f ≡ 0 → ⊥ = λ q. omega arith in k (sym (simp (ne_eqb (suc f) 0 k)) ∙ e)
seen_before used n end labels first xs z h malformed = refl

module _ (p : List ℕ) (start at used end labels first : ℕ) (r : Piece) (is : r ≡ piece_at p start at used) where
  here : (x : Piece) → r ≡ x → piece_at p start at used ≡ x
  here x e = sym is ∙ e

  pub root_seen : (e : ℕ) → e ≡ or_later end (at + 1) → r ≡ Root
      → Some (record { end = e; len = used + 1; labels = labels; first = first }) ≡ seen_of used end labels first (from_run p start at used)
  unfolding starts
  root_seen e h k =
      let count : labels ≡ labels + 0 = omega arith in
      (λ i. Some (record { end = h i; len = used + 1; labels = count i; first = sym (or_later_none first) i }))
      ∙ ap (seen_of used end labels first) (sym (read_at p start at used Root (here Root k)))

  pub seen_root : r ≡ Root → end ≡ 0
      → Some (record { end = at + 1; len = used + 1; labels = labels; first = first }) ≡ seen_of used end labels first (from_run p start at used)
  seen_root e z = root_seen (at + 1) (sym (simp (eq-eqb _ _ z))) e

  pub seen_root_after : r ≡ Root → (end ≡ 0 → ⊥)
      → Some (record { end = end; len = used + 1; labels = labels; first = first }) ≡ seen_of used end labels first (from_run p start at used)
  seen_root_after e z = root_seen end (sym (simp (ne_eqb _ _ z))) e

  -- what is read of a label
  pub seen_label : (n : ℕ) → r ≡ Label n → (f : ℕ) → f ≡ or_later first n
      → seen_of used end labels first (from_run p start at used) ≡ seen_of (used + 1 + n) end (labels + 1) f (from_run p start (at + 1 + n) (used + 1 + n))
  seen_label n e f known =
      let l = is-label p start at used n (here (Label n) e) in
      ap (seen_of used end labels first) (read_at p start at used (Label n) (here (Label n) e))
      ∙ ap (λ (xs : List ℕ). seen_of used end labels first (before xs (from_run p start (at + 1 + n) (used + 1 + n)))) (label-bytes p at n l.0 l.5)
      ∙ seen_before used n end labels first (take n (drop (at + 1) p)) (λ z. l.1 (l.5 ∙ z))
      (length-take-le n (drop (at + 1) p) (omega (arith, length-drop (at + 1) p, l.3, l.5))) (from_run p start (at + 1 + n) (used + 1 + n))
      ∙ ap (λ (k : ℕ). seen_of (used + 1 + n) end (labels + 1) k (from_run p start (at + 1 + n) (used + 1 + n))) (sym known)

  pub seen_pointer : (t : ℕ) → r ≡ Pointer t → seen_of used end labels first (from_run p start at used) ≡ seen_of used end labels first (ending (at + 2) (from_run p t t used))
  seen_pointer t e = ap (seen_of used end labels first) (read_at p start at used (Pointer t) (here (Pointer t) e))

  pub seen_bad : r ≡ Bad → None ≡ seen_of used end labels first (from_run p start at used)
  seen_bad e = rw (read_at p start at used Bad (here Bad e))

-- a pointer that is followed: the name ends in place behind the first
module _ (p : List ℕ) (run at used end labels first : ℕ) where
  pub passed : (e : ℕ) → e ≡ or_later end (at + 2)
      → seen_of used e labels first (from_run p run run used) ≡ seen_of used end labels first (ending (at + 2) (from_run p run run used))
  passed e h = ap (λ (k : ℕ). seen_of used k labels first (from_run p run run used)) h ∙ go (from_run p run run used)
    where
      go : (x : Reading) → seen_of used (or_later end (at + 2)) labels first x ≡ seen_of used end labels first (ending (at + 2) x)
      go (name ys d) = ap (λ (k : ℕ). Some (record { end = k; len = used + length ys; labels = labels + labels_in ys; first = or_later first (first_in ys) })) (once end)
        where
          once : (k : ℕ) → or_later (or_later k (at + 2)) d ≡ or_later k (at + 2)
          once zero = let z : at + 2 ≡ 0 → ⊥ = λ q. omega arith in simp (ne_eqb _ _ z)
          once (suc k) = let z : suc k ≡ 0 → ⊥ = λ q. omega arith in simp (ne_eqb _ _ z)
      go malformed = refl

  pub passed_first : end ≡ 0 → seen_of used (at + 2) labels first (from_run p run run used) ≡ seen_of used end labels first (ending (at + 2) (from_run p run run used))
  passed_first z = passed (at + 2) (sym (simp (eq-eqb _ _ z)))

  pub passed_later : (end ≡ 0 → ⊥) → seen_of used end labels first (from_run p run run used) ≡ seen_of used end labels first (ending (at + 2) (from_run p run run used))
  passed_later z = passed end (sym (simp (ne_eqb _ _ z)))

  pub passed_chain : (from : ℕ) → Chased p used from run
      → seen_of used end labels first (ending (at + 2) (from_run p run run used)) ≡ seen_of used end labels first (ending (at + 2) (from_run p from from used))
  passed_chain from c = ap (seen_of used end labels first) (sym (c.same (at + 2)))

-- at the beginning nothing has been read
pub seen_start : (p : List ℕ) (at : ℕ) → found_of (name_at p at) ≡ seen_of 0 0 0 0 (from_run p at at 0)
unfolding name_at
seen_start p at = go (from_run p at at 0)
  where
    go : (x : Reading) → found_of x ≡ seen_of 0 0 0 0 x
    go (name bs e) = λ i. Some (record { end = e; len = sym (zero-add (length bs)) i; labels = sym (zero-add (labels_in bs)) i; first = first_in bs })
    go malformed = refl
