-- Names, numbers and rdata are read back. Assumes nothing.
use Prim.Native.Nat.{ℕ, ◌+◌, ◌-◌, ◌/◌, ◌%◌, ◌≤◌}
use mathlib.Core.Path.{◌≡◌, refl, sym, ap, ap₂, ◌∙◌, subst}
use mathlib.Core.List.{List, [], ◌++◌, append_assoc}
use mathlib.Core.Bool.{Bool, true, false, cond, ◌&&◌}
use native.Mathlib.Omega.{arith}
use borrow.Author.Tests.{le-leb, eq-eqb, ne_eqb, eqb-true, eqb-false}
use mathlib.Mathlib.Data.Bool.Basic.{and-eq-true-eq-eq-true-and-eq-true as both}
use lib.Dec.{eqb}
use lib.ListN.{length, get_or, take, drop, length-append, length-drop, take-append-drop}
use lib.Seq.{take_at, drop_at, drop-drop, get_or-drop}
use Rattle.wire.specs.octets.Octets.{word16}
use Rattle.wire.specs.case_folding.Fold.{same_name}
use Rattle.wire.specs.names.Names.{Reading, name, malformed, name_at, is_name}
use Rattle.wire.specs.names.Answers.{same_as, name_is}
use Rattle.wire.specs.nsec.Nsec.{is_block, is_nsec}
use Rattle.wire.proofs.nsec.Blocks.{nsec_long}
use Rattle.wire.specs.rdata.Rdata.{rdata, as_it_lies, strings_fill, plain_form, form_of, next_form, form_in, with_name, rdata_in, rdata_at}
use Rattle.wire.specs.declared.rdata.Form.{Form}
use Rattle.wire.proofs.rdata.Fits.{in_named}
use Rattle.wire.proofs.rdata.Forms.{in_nsec, in_typed}
use Rattle.wire.proofs.rdata.Restricted.{as_it_lies_lem as lies_so}
use Rattle.wire.specs.declared.names.Span.{Span}
use Rattle.wire.specs.declared.message.RecordAt.{RecordAt}
use Rattle.writer.specs.compression.Compression.{name_bytes}
use Rattle.writer.specs.compression.Sentence.{Rising}
use Rattle.writer.proofs.compression.Written.{name_back}
use Rattle.writer.specs.Fit.{form_for, held_name, held_behind, holds_name, is_found, is_shaped}
use Rattle.writer.specs.Items.{data_bytes}
use Rattle.writer.proofs.Rdata.{shaped_holds, target_fits, target-bytes, plain-bytes, front_long, behind-long}

-- numbers from what is left at a place
pub word_at : (P r : List ℕ) (e : ℕ) → drop e P ≡ r → (i n : ℕ) → get_or r i 0 ≡ n / 256 → get_or r (i + 1) 0 ≡ n % 256 → word16 P (e + i) ≡ n
word_at P r e h i n a b =
    let x : get_or P (e + i) 0 ≡ n / 256 = sym (get_or-drop e P i 0) ∙ ap (λ (l : List ℕ). get_or l i 0) h ∙ a in
    let s : e + i + 1 ≡ e + (i + 1) = omega arith in
    let y : get_or P (e + i + 1) 0 ≡ n % 256 = ap (λ (k : ℕ). get_or P k 0) s ∙ sym (get_or-drop e P (i + 1) 0) ∙ ap (λ (l : List ℕ). get_or l (i + 1) 0) h ∙ b in
    omega arith

-- a record as it lies
abbrev pub lying : (owner : ℕ) (span : Span) (rtype class ttl at len next : ℕ) → RecordAt
lying owner span rtype class ttl at len next = record {
  owner = owner;
  span = span;
  rtype = rtype;
  class = class;
  ttl = ttl;
  rdata = at;
  rdlength = len;
  next = next;
}

-- rdata in which no name stands
as_it_lies_lem : (u v w a b c : Bool) (d : List ℕ) → cond u a (cond v b (cond w c true)) ≡ true
    → cond u (as_it_lies a d) (cond v (as_it_lies b d) (cond w (as_it_lies c d) (rdata d))) ≡ rdata d
as_it_lies_lem true v w a b c d h = ap (λ (x : Bool). as_it_lies x d) h
as_it_lies_lem false true w a b c d h = ap (λ (x : Bool). as_it_lies x d) h
as_it_lies_lem false false true a b c d h = ap (λ (x : Bool). as_it_lies x d) h
as_it_lies_lem false false false a b c d h = refl

plain_in : (d P : List ℕ) (f : RecordAt) → (form_in P f d).named ≡ false
    → cond (eqb f.rtype 1) (eqb (length d) 4) (cond (eqb f.rtype 16) (strings_fill 0 d) (cond (eqb f.rtype 28) (eqb (length d) 16) true)) ≡ true
    → rdata_in P f d ≡ rdata d
unfolding rdata_in
plain_in d P f t h =
    simp t
    (as_it_lies_lem (eqb f.rtype 1) (eqb f.rtype 16) (eqb f.rtype 28) (eqb (length d) 4) (strings_fill 0 d) (eqb (length d) 16) d h)

-- what holds no name is not of the restricted kind
not-nsec : (owner : List ℕ) (k : ℕ) (d : List ℕ) → k ≡ 47 → (form_for owner k d).named ≡ false → is_nsec owner d ≡ false
unfolding form_for
not-nsec owner k d e t = go (is_nsec owner d) (sym (ap (λ (b : Bool). (cond b (kind (is_nsec owner d)) (form_of k)).named) (eq-eqb k 47 e)) ∙ t)
  where
    kind : Bool → Form
    kind b = cond b (record { named = true; before = 0; behind = length d - length owner }) plain_form

    go : (b : Bool) → (kind b).named ≡ false → b ≡ false
    go true h = let z : ◌≡◌ {A = ℕ} 0 1 = cc in absurd (omega arith)
    go false h = refl

is-nsec : (owner : List ℕ) (k : ℕ) (d : List ℕ) → k ≡ 47 → (form_for owner k d).named ≡ true
    → (is_nsec owner d ≡ true) × (form_for owner k d ≡ record { named = true; before = 0; behind = length d - length owner })
unfolding form_for
is-nsec owner k d e t = go (is_nsec owner d) refl
  where
    kind : Bool → Form
    kind b = cond b (record { named = true; before = 0; behind = length d - length owner }) plain_form

    at-47 : form_for owner k d ≡ kind (is_nsec owner d)
    at-47 = ap (λ (b : Bool). cond b (kind (is_nsec owner d)) (form_of k)) (eq-eqb k 47 e)

    go : (b : Bool) → is_nsec owner d ≡ b → (is_nsec owner d ≡ true) × (form_for owner k d ≡ record { named = true; before = 0; behind = length d - length owner })
    go true h = (h, at-47 ∙ ap kind h)
    go false h =
        let u : (form_for owner k d).named ≡ false = ap (λ (y : Form). y.named) (at-47 ∙ ap kind h) in
        let z : ◌≡◌ {A = ℕ} 0 1 = cc in absurd (omega arith)

of_type_lem : (owner : List ℕ) (k : ℕ) (d : List ℕ) → (k ≡ 47 → ⊥) → form_for owner k d ≡ form_of k
unfolding form_for
of_type_lem owner k d n = simp (ne_eqb k 47 n)

-- rdata of a form is the bytes before the name, the name, and the bytes behind it
whole-data : (g : Form) (d : List ℕ) → g.before + g.behind ≤ length d → take g.before d ++ (held_name g d ++ held_behind g d) ≡ d
whole-data g d room =
    let b : ℕ = g.before in
    let m : ℕ = length d - g.behind - b in
    let there : b + m ≡ length d - g.behind = omega arith in
    ap (λ (l : List ℕ). take b d ++ (take m (drop b d) ++ l)) (ap (λ (j : ℕ). drop j d) (sym there) ∙ sym (drop-drop m b d))
    ∙ ap (λ (l : List ℕ). take b d ++ l) (take-append-drop m (drop b d)) ∙ take-append-drop b d

module _ (p os : List ℕ) (n : ℕ) (small : length p ≤ 16384) (low : Rising 12 n os) where
  -- a name with nothing between it and the packet before it
  pub name-here : (post bs : List ℕ) → is_name bs ≡ true → name_at ((p ++ name_bytes p os bs) ++ post) (length p) ≡ name bs (length (p ++ name_bytes p os bs))
  name-here post bs ok =
      let zero_in : length p + 0 ≡ length p = omega arith in
      let total : length p + length (name_bytes p os bs) ≡ length (p ++ name_bytes p os bs) = sym (length-append p (name_bytes p os bs)) in
      ap (λ (P : List ℕ). name_at P (length p)) (append_assoc p (name_bytes p os bs) post) ∙ rw (zero_in, total) at (name_back p os bs ok [] post n small low)

  module _ (owner F post : List ℕ) (ten : length F ≡ 10) where
    -- what stands behind the ten bytes
    body : (D : List ℕ) → drop (length p + 10) (p ++ (F ++ (D ++ post))) ≡ D ++ post
    body D =
        sym (drop-drop 10 (length p) (p ++ (F ++ (D ++ post)))) ∙ ap (drop 10) (drop_at p (F ++ (D ++ post)) (length p) refl) ∙ drop_at F (D ++ post) 10 ten

    part : (D : List ℕ) → take (length D) (drop (length p + 10) (p ++ (F ++ (D ++ post)))) ≡ D
    part D = ap (take (length D)) (body D) ∙ take_at D post (length D) refl

    inside : (D : List ℕ) → length p + 10 + length D ≤ length (p ++ (F ++ (D ++ post)))
    inside D = omega (arith, length-append p (F ++ (D ++ post)), length-append F (D ++ post), length-append D post)

    -- a record of this owner, wherever that stands
    abbrev Back : ℕ → List ℕ → List ℕ → Type 0
    Back k D d = (o : ℕ) (s : Span) (c t x : ℕ) → name_at (p ++ (F ++ (D ++ post))) o ≡ name owner (length p)
        → rdata_at (p ++ (F ++ (D ++ post))) (lying o s k c t (length p + 10) (length D) x) ≡ rdata d

    in_part : (k : ℕ) (D d : List ℕ)
        → ((o : ℕ) (s : Span) (c t x : ℕ) → name_at (p ++ (F ++ (D ++ post))) o ≡ name owner (length p)
        → rdata_in (p ++ (F ++ (D ++ post))) (lying o s k c t (length p + 10) (length D) x) D ≡ rdata d) → Back k D d
    unfolding rdata_at
    in_part k D d h o s c t x nm =
        simp (le-leb _ _ (inside D)) (ap (rdata_in (p ++ (F ++ (D ++ post))) (lying o s k c t (length p + 10) (length D) x)) (part D) ∙ h o s c t x nm)

    -- rdata in which no name stands
    plain_back : (k : ℕ) (d : List ℕ) → (form_for owner k d).named ≡ false → is_shaped owner k d ≡ true → Back k d d
    unfolding is_shaped
    plain_back k d f h = go (eqb k 47) refl
      where
        P : List ℕ
        P = p ++ (F ++ (d ++ post))

        tests : Bool → Bool
        tests b =
            cond (eqb k 1) (eqb (length d) 4)
            (cond (eqb k 16) (strings_fill 0 d) (cond (eqb k 28) (eqb (length d) 16) (cond b (is_found (name_at d 0)) true)))

        shaped : tests (eqb k 47) ≡ true
        shaped = simp f at h

        go : (b : Bool) → eqb k 47 ≡ b → Back k d d
        go true e =
            let k-is : k ≡ 47 = eqb-true k 47 e in
            λ o s c t x nm.
            let r : (bs : List ℕ) × (m : ℕ) × (name_at d 0 ≡ name bs m) = found (name_at d 0) refl (rw k-is at shaped) in
            lies_so P (lying o s k c t (length p + 10) (length d) x) k-is (inside d) owner (length p) nm r.0 r.1
            (ap (λ (l : List ℕ). name_at l 0) (part d) ∙ r.2)
            (ap (is_nsec owner) (part d) ∙ not-nsec owner k d k-is f)
            ∙ ap rdata (part d)
          where
            found : (x : Reading) → name_at d 0 ≡ x → is_found x ≡ true → (bs : List ℕ) × (m : ℕ) × (name_at d 0 ≡ name bs m)
            found (name bs m) r t = (bs, m, r)
            found malformed r t = let z : ◌≡◌ {A = ℕ} 0 1 = cc in absurd (omega arith)
        go false e =
            let n : k ≡ 47 → ⊥ = eqb-false k 47 e in
            in_part k d d
            (λ o s c t x nm.
            let y : RecordAt = lying o s k c t (length p + 10) (length d) x in
            let form : form_of k ≡ form_in P y d = in_typed P d y n (form_of k) refl in
            plain_in d P y (ap (λ (z : Form). z.named) (sym form ∙ sym (of_type_lem owner k d n)) ∙ f) (ap tests (sym e) ∙ shaped))

    -- a name between bytes
    named_back : (k : ℕ) (g : Form) (d : List ℕ) → g.named ≡ true → holds_name g d ≡ true
        → ((o : ℕ) (s : Span) (c t x : ℕ)
        → name_at (p ++ (F ++ ((take g.before d ++ (name_bytes p os (held_name g d) ++ held_behind g d)) ++ post))) o ≡ name owner (length p)
        → name_at (p ++ (F ++ ((take g.before d ++ (name_bytes p os (held_name g d) ++ held_behind g d)) ++ post))) (length p + 10 + g.before)
        ≡ name (held_name g d) (length p + 10 + g.before + length (name_bytes p os (held_name g d)))
        → form_in (p ++ (F ++ ((take g.before d ++ (name_bytes p os (held_name g d) ++ held_behind g d)) ++ post)))
        (lying o s k c t (length p + 10) (length (take g.before d ++ (name_bytes p os (held_name g d) ++ held_behind g d))) x)
        (take g.before d ++ (name_bytes p os (held_name g d) ++ held_behind g d)) ≡ g)
        → Back k (take g.before d ++ (name_bytes p os (held_name g d) ++ held_behind g d)) d
    named_back k g d named ok form =
        let b : ℕ = g.before in
        let H : List ℕ = held_name g d in
        let N : List ℕ = name_bytes p os H in
        let back : List ℕ = held_behind g d in
        let D : List ℕ = take b d ++ (N ++ back) in
        let P : List ℕ = p ++ (F ++ (D ++ post)) in
        let fit = target_fits g d ok in
        let many : length (take b d) ≡ b = front_long g d ok in
        let there : length p + length (F ++ take b d) ≡ length p + 10 + b = omega (arith, length-append F (take b d)) in
        let same : (F ++ take b d) ++ (N ++ (back ++ post)) ≡ F ++ ((take b d ++ (N ++ back)) ++ post) = simp append_assoc in
        let r : name_at P (length p + 10 + b) ≡ name H (length p + 10 + b + length N) =
        rw (same, there) at (name_back p os H fit.1 (F ++ take b d) (back ++ post) n small low) in
        let long : length D ≡ b + length N + g.behind =
        omega (arith, length-append (take b d) (N ++ back), length-append N back, many, behind-long g d ok) in
        let enough : b + g.behind ≤ length D = omega (arith, long) in
        let stop : length p + 10 + b + length N ≡ length p + 10 + (length D - g.behind) = omega (arith, long) in
        let front : take b D ≡ take b d = take_at (take b d) (N ++ back) b many in
        let split : D ≡ (take b d ++ N) ++ back = sym (append_assoc (take b d) N back) in
        let cut : length (take b d ++ N) ≡ length D - g.behind = omega (arith, long, length-append (take b d) N, many) in
        let rest : drop (length D - g.behind) D ≡ back = ap (drop (length D - g.behind)) split ∙ drop_at (take b d ++ N) back (length D - g.behind) cut in
        in_part k D d
        (λ o s c t x nm.
        let y : RecordAt = lying o s k c t (length p + 10) (length D) x in
        let f : form_in P y D ≡ g = form o s c t x nm r in
        in_named P D y (ap (λ (z : Form). z.named) f ∙ named)
        ∙ ap (λ (z : Form). with_name P (length p + 10) D z.before z.behind) f
        ∙ simp (le-leb (b + g.behind) (length D) enough, r, front, rest, eq-eqb (length p + 10 + b + length N) (length p + 10 + (length D - g.behind)) stop)
        (ap rdata (whole-data g d fit.0)))

    -- the form that a reader finds is the form that was written
    read_form : (k : ℕ) (d : List ℕ) → (form_for owner k d).named ≡ true → holds_name (form_for owner k d) d ≡ true
        → Back k (data_bytes p os (form_for owner k d) d) d
    unfolding name_is is_nsec
    read_form k d named ok =
        let g : Form = form_for owner k d in
        subst (λ (D : List ℕ). Back k D d) (sym (target-bytes g d named p os)) (named_back k g d named ok (λ o s c t x nm r. go (eqb k 47) refl o s c t x nm r))
      where
        go : (b : Bool) → eqb k 47 ≡ b → (o : ℕ) (s : Span) (c t x : ℕ)
            → (let g : Form = form_for owner k d in
            let N : List ℕ = name_bytes p os (held_name g d) in
            let D : List ℕ = take g.before d ++ (N ++ held_behind g d) in
            name_at (p ++ (F ++ (D ++ post))) o ≡ name owner (length p)
            → name_at (p ++ (F ++ (D ++ post))) (length p + 10 + g.before) ≡ name (held_name g d) (length p + 10 + g.before + length N)
            → form_in (p ++ (F ++ (D ++ post))) (lying o s k c t (length p + 10) (length D) x) D ≡ g)
        go true e o s c t x nm r =
            let k-is : k ≡ 47 = eqb-true k 47 e in
            let q = is-nsec owner k d k-is named in
            let g : Form = form_for owner k d in
            let none : g.before ≡ 0 = ap (λ (y : Form). y.before) q.1 in
            let rest : g.behind ≡ length d - length owner = ap (λ (y : Form). y.behind) q.1 in
            let H : List ℕ = held_name g d in
            let N : List ℕ = name_bytes p os H in
            let back : List ℕ = held_behind g d in
            let D : List ℕ = take g.before d ++ (N ++ back) in
            let P : List ℕ = p ++ (F ++ (D ++ post)) in
            let y : RecordAt = lying o s k c t (length p + 10) (length D) x in
            let fit : length owner ≤ length d = nsec_long owner d q.0 in
            let parts = (both (same_name owner (take (length owner) d)) (is_block (drop (length owner) d))).0 q.0 in
            let h-is : H ≡ take (length owner) d =
            ap (λ (z : Form). held_name z d) q.1
            ∙ ap (λ (m : ℕ). take m d) (let u : length d - (length d - length owner) - 0 ≡ length owner = omega arith in u) in
            let back_is : back ≡ drop (length owner) d =
            ap (λ (z : Form). held_behind z d) q.1
            ∙ ap (λ (m : ℕ). drop m d) (let u : length d - (length d - length owner) ≡ length owner = omega arith in u) in
            let here : name_at P (length p + 10) ≡ name H (length p + 10 + length N) =
            ap (name_at P) (let u : length p + 10 ≡ length p + 10 + g.before = omega (arith, none) in u) ∙ r
            ∙ ap (name H) (let u : length p + 10 + g.before + length N ≡ length p + 10 + length N = omega (arith, none) in u) in
            let own : name_is P o H ≡ true = ap (same_as H) nm ∙ ap (same_name owner) h-is ∙ parts.0 in
            let skip : length p + 10 + length N - (length p + 10) ≡ length (take g.before d ++ N) =
            omega (arith, length-append (take g.before d) N, front_long g d ok, none) in
            let block : drop (length p + 10 + length N - (length p + 10)) D ≡ back =
            ap (λ (m : ℕ). drop m D) skip ∙ ap (drop (length (take g.before d ++ N))) (sym (append_assoc (take g.before d) N back))
            ∙ drop_at (take g.before d ++ N) back (length (take g.before d ++ N)) refl in
            let good : is_block (drop (length p + 10 + length N - (length p + 10)) D) ≡ true = ap is_block (block ∙ back_is) ∙ parts.1 in
            let long : length (drop (length p + 10 + length N - (length p + 10)) D) ≡ length d - length owner =
            ap length (block ∙ back_is) ∙ length-drop (length owner) d in
            sym (in_nsec P D y k-is (next_form P o (length p + 10) D (name_at P (length p + 10))) refl)
            ∙ ap (next_form P o (length p + 10) D) here
            ∙ ap₂
            (λ (u v : Bool). cond (u && v) (record { named = true; before = 0; behind = length (drop (length p + 10 + length N - (length p + 10)) D) }) plain_form)
            own good
            ∙ ap (λ (m : ℕ). record { named = true; before = 0; behind = m }) long ∙ sym q.1
        go false e o s c t x nm r =
            let n : k ≡ 47 → ⊥ = eqb-false k 47 e in
            let g : Form = form_for owner k d in
            let D : List ℕ = take g.before d ++ (name_bytes p os (held_name g d) ++ held_behind g d) in
            sym (in_typed (p ++ (F ++ (D ++ post))) D (lying o s k c t (length p + 10) (length D) x) n (form_of k) refl) ∙ sym (of_type_lem owner k d n)

    -- the rdata of a record, after ten bytes
    pub data_back : (k : ℕ) (d : List ℕ) → is_shaped owner k d ≡ true → Back k (data_bytes p os (form_for owner k d) d) d
    data_back k d h = go (form_for owner k d).named refl
      where
        go : (b : Bool) → (form_for owner k d).named ≡ b → Back k (data_bytes p os (form_for owner k d) d) d
        go true t = read_form k d t (shaped_holds owner k d h t)
        go false t = subst (λ (D : List ℕ). Back k D d) (sym (plain-bytes (form_for owner k d) d t p os)) (plain_back k d t h)
