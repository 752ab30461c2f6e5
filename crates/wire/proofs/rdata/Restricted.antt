-- A record of type 47 is read as the sixth type exactly where it has the fields of the restricted kind; any other is stepped over, and none is malformed. What is
-- read so says by itself of which kind it was. Assumes nothing.
use mathlib.Core.Path.{◌≡◌, refl, sym, ap, ap₂, ◌∙◌}
use mathlib.Core.List.{List, [], ◌++◌}
use mathlib.Core.Bool.{Bool, true, false, cond, ◌&&◌}
use Prim.Native.Nat.{ℕ, ◌+◌, ◌-◌, ◌≤◌}
use native.Mathlib.Nat.{add-zero}
use native.Mathlib.Omega.{arith}
use borrow.Author.Tests.{le-leb, eq-eqb}
use mathlib.Mathlib.Data.Bool.Basic.{and-eq-true-eq-eq-true-and-eq-true as both}
use lib.ListN.{length, take, drop, length-drop, length-take, length-append, take-append-drop}
use lib.Seq.{take_at, drop_at, take-take}
use lib.Dec.{eqb}
use Rattle.wire.specs.case_folding.Fold.{same_name}
use Rattle.wire.specs.names.Names.{Reading, name, malformed, name_at, is_name}
use Rattle.wire.specs.names.Answers.{same_as, name_is}
use Rattle.wire.specs.nsec.Nsec.{is_block, is_nsec}
use Rattle.wire.specs.rdata.Restricted.{Restricted}
use Rattle.wire.specs.rdata.Rdata.{rdata, unfit, ending_name, plain_form, next_form, form_at, with_name, rdata_in, rdata_at}
use Rattle.wire.specs.rdata.Answers.{fits, data_of}
use Rattle.wire.specs.declared.rdata.Form.{Form}
use Rattle.wire.specs.declared.message.RecordAt.{RecordAt}
use Rattle.wire.proofs.case_folding.Equal.{same_length}
use Rattle.wire.proofs.names.Plain.{expanded-is_name}
use Rattle.wire.proofs.names.InPlace.{ends_behind, read_in_place, front_plain, same_is_name}
use Rattle.wire.proofs.nsec.Blocks.{is_block_lem, block-is, block-long}
use Rattle.wire.proofs.rdata.Fits.{at-within, in_named}
use Rattle.wire.proofs.rdata.Forms.{in_nsec}

-- the form that a test of a block gives
tested : (t : Bool) (n : ℕ) → (cond t (record { named = true; before = 0; behind = n }) plain_form).named ≡ true → t ≡ true
tested true n h = refl
tested false n h = let z : ◌≡◌ {A = ℕ} 0 1 = cc in absurd (omega arith)

module _ (p : List ℕ) (f : RecordAt) (type : f.rtype ≡ 47) where
  abbrev part : List ℕ
  part = take f.rdlength (drop f.rdata p)

  form_is : form_at p f ≡ next_form p f.owner f.rdata part (name_at p f.rdata)
  form_is = sym (in_nsec p part f type (next_form p f.owner f.rdata part (name_at p f.rdata)) refl)

  -- what is read as the sixth type has these fields
  pub sixth : (form_at p f).named ≡ true → Restricted p f
  sixth h = go (name_at p f.rdata) refl (sym (ap (λ (y : Form). y.named) form_is) ∙ h)
    where
      go : (x : Reading) → name_at p f.rdata ≡ x → (next_form p f.owner f.rdata part x).named ≡ true → Restricted p f
      go (name bs e) r k =
          let b : List ℕ = drop (e - f.rdata) part in
          let t = (both (name_is p f.owner bs) (is_block b)).0 (tested (name_is p f.owner bs && is_block b) (length b) k) in
          record { next = bs; end = e; reads = r; own = t.0; block = is_block_lem b t.1 }
      go malformed r k = let z : ◌≡◌ {A = ℕ} 0 1 = cc in absurd (omega arith)

  module _ (x : Restricted p f) where
    abbrev block : List ℕ
    block = drop (x.end - f.rdata) part

    read_so : form_at p f ≡ record { named = true; before = 0; behind = length block }
    read_so =
        form_is ∙ ap (next_form p f.owner f.rdata part) x.reads
        ∙ ap₂ (λ (s t : Bool). cond (s && t) (record { named = true; before = 0; behind = length block }) plain_form) x.own (block-is block x.block)

    -- and what has them is read as the sixth type
    pub is-sixth : (form_at p f).named ≡ true
    is-sixth = ap (λ (y : Form). y.named) read_so

    -- its rdata is the next name, expanded, and the block
    pub content : f.rdata + f.rdlength ≤ length p → rdata_at p f ≡ rdata (x.next ++ block)
    content inside =
        let n : ℕ = x.end - f.rdata in
        let long : length block ≡ length part - n = length-drop n part in
        let some = block-long block (block-is block x.block) in
        let before-end : f.rdata + n ≡ x.end = omega (arith, ends_behind p f.rdata x.next x.end x.reads) in
        let own : length part - length block ≡ n = omega (arith, long, some.0) in
        let room : 0 + length block ≤ length part = omega (arith, long) in
        let ends : eqb x.end (f.rdata + n) ≡ true = eq-eqb _ _ (sym before-end) in
        at-within p f inside ∙ in_named p part f is-sixth
        ∙ ap (λ (y : Form). with_name p f.rdata part y.before y.behind) read_so
        ∙ ap (λ (b : Bool). cond b (ending_name [] (drop (length part - length block) part) (f.rdata + (length part - length block)) (name_at p (f.rdata + 0))) unfit)
        (le-leb (0 + length block) (length part) room)
        ∙ ap₂ (λ (m k : ℕ). ending_name [] (drop m part) (f.rdata + m) (name_at p k)) own (add-zero f.rdata)
        ∙ ap (ending_name [] block (f.rdata + n)) x.reads
        ∙ ap (λ (b : Bool). cond b (rdata (x.next ++ block)) unfit) ends

  -- any other is stepped over: its rdata is as it lies
  pub other : f.rdata + f.rdlength ≤ length p → (form_at p f).named ≡ false → rdata_at p f ≡ rdata part
  unfolding rdata_in
  other inside h =
      let a : eqb f.rtype 1 ≡ false = ap (λ (k : ℕ). eqb k 1) type in
      let b : eqb f.rtype 16 ≡ false = ap (λ (k : ℕ). eqb k 16) type in
      let c : eqb f.rtype 28 ≡ false = ap (λ (k : ℕ). eqb k 28) type in
      at-within p f inside ∙ simp (a, b, c, h)

  -- so none is malformed
  pub never_unfit : f.rdata + f.rdlength ≤ length p → fits (rdata_at p f) ≡ true
  never_unfit inside = go (form_at p f).named refl
    where
      go : (b : Bool) → (form_at p f).named ≡ b → fits (rdata_at p f) ≡ true
      go true t = ap fits (content (sixth t) inside)
      go false t = ap fits (other inside t)

  -- the owner and the rdata that were read say whether it is of the restricted kind
  module _ (inside : f.rdata + f.rdlength ≤ length p) (owner : List ℕ) (e : ℕ) (at-owner : name_at p f.owner ≡ name owner e) where
    owned : (q : List ℕ) → name_is p f.owner q ≡ same_name owner q
    unfolding name_is
    owned q = ap (same_as q) at-owner

    shown : Restricted p f → is_nsec owner (data_of (rdata_at p f)) ≡ true
    unfolding is_nsec
    shown x =
        let same : same_name owner x.next ≡ true = sym (owned x.next) ∙ x.own in
        let long : length x.next ≡ length owner = sym (same_length owner x.next same) in
        let b : List ℕ = drop (x.end - f.rdata) part in
        let d : data_of (rdata_at p f) ≡ x.next ++ b = ap data_of (content x inside) in
        let front : take (length owner) (data_of (rdata_at p f)) ≡ x.next = ap (take (length owner)) d ∙ take_at x.next b (length owner) long in
        let back : drop (length owner) (data_of (rdata_at p f)) ≡ b = ap (drop (length owner)) d ∙ drop_at x.next b (length owner) long in
        simp (front, back, same, block-is b x.block)

    lying : is_nsec owner part ≡ true → Restricted p f
    unfolding is_nsec
    lying h =
        let n : ℕ = length owner in
        let t = (both (same_name owner (take n part)) (is_block (drop n part))).0 h in
        let long : n ≡ length (take n part) = same_length owner (take n part) t.0 in
        let few : n ≤ f.rdlength = omega (arith, long, length-take n part, length-take f.rdlength (drop f.rdata p)) in
        let same : take n part ≡ take n (drop f.rdata p) = take-take n f.rdlength (drop f.rdata p) few in
        let there : drop f.rdata p ≡ take n part ++ drop n (drop f.rdata p) =
        sym (ap (λ (l : List ℕ). l ++ drop n (drop f.rdata p)) same ∙ take-append-drop n (drop f.rdata p)) in
        let ok : is_name (take n part) ≡ true = same_is_name owner (take n part) t.0 (expanded-is_name p f.owner owner e at-owner) in
        let r : name_at p f.rdata ≡ name (take n part) (f.rdata + n) =
        read_in_place p (take n part) (drop n (drop f.rdata p)) f.rdata ok there ∙ ap (λ (k : ℕ). name (take n part) (f.rdata + k)) (sym long) in
        let back : f.rdata + n - f.rdata ≡ n = omega arith in record {
          next = take n part;
          end = f.rdata + n;
          reads = r;
          own = owned (take n part) ∙ t.0;
          block = is_block_lem (drop (f.rdata + n - f.rdata) part) (ap (λ (k : ℕ). is_block (drop k part)) back ∙ t.1);
        }

    pub by-content : (form_at p f).named ≡ is_nsec owner (data_of (rdata_at p f))
    by-content = go (form_at p f).named refl
      where
        none : (b : Bool) → (form_at p f).named ≡ false → is_nsec owner part ≡ b → false ≡ b
        none true t h = sym t ∙ is-sixth (lying h)
        none false t h = refl

        go : (b : Bool) → (form_at p f).named ≡ b → b ≡ is_nsec owner (data_of (rdata_at p f))
        go true t = sym (shown (sixth t))
        go false t = none (is_nsec owner part) t refl ∙ ap (is_nsec owner) (sym (ap data_of (other inside t)))

    -- rdata that begins with an uncompressed name, and is not of the restricted kind by itself, is read as it lies
    pub as_it_lies_lem : (bs : List ℕ) (k : ℕ) → name_at part 0 ≡ name bs k → is_nsec owner part ≡ false → rdata_at p f ≡ rdata part
    unfolding is_nsec
    as_it_lies_lem bs k r other-kind = go (form_at p f).named refl
      where
        whole : part ≡ bs ++ drop (length bs) part
        whole = (front_plain part bs k r).1

        few : length bs ≤ f.rdlength
        few = omega (arith, ap length whole, length-append bs (drop (length bs) part), length-take f.rdlength (drop f.rdata p))

        front : take (length bs) part ≡ bs
        front = ap (take (length bs)) whole ∙ take_at bs (drop (length bs) part) (length bs) refl

        there : drop f.rdata p ≡ bs ++ drop (length bs) (drop f.rdata p)
        there =
            sym
            (ap (λ (l : List ℕ). l ++ drop (length bs) (drop f.rdata p)) (sym (sym (take-take (length bs) f.rdlength (drop f.rdata p) few) ∙ front))
            ∙ take-append-drop (length bs) (drop f.rdata p))

        reads_so : name_at p f.rdata ≡ name bs (f.rdata + length bs)
        reads_so = read_in_place p bs (drop (length bs) (drop f.rdata p)) f.rdata (expanded-is_name part 0 bs k r) there

        kind : Restricted p f → is_nsec owner part ≡ true
        kind x =
            let both_read : name x.next x.end ≡ name bs (f.rdata + length bs) = sym x.reads ∙ reads_so in
            let next_is : x.next ≡ bs = cc in
            let end_is : x.end ≡ f.rdata + length bs = cc in
            let same : same_name owner bs ≡ true = sym (owned bs) ∙ ap (name_is p f.owner) (sym next_is) ∙ x.own in
            let long : length bs ≡ length owner = sym (same_length owner bs same) in
            let skip : x.end - f.rdata ≡ length owner = omega (arith, end_is, long) in
            let first : take (length owner) part ≡ bs = ap (λ (n : ℕ). take n part) (sym long) ∙ front in
            let last : is_block (drop (length owner) part) ≡ true =
            ap (λ (n : ℕ). is_block (drop n part)) (sym skip) ∙ block-is (drop (x.end - f.rdata) part) x.block in
            simp (first, same, last)

        go : (b : Bool) → (form_at p f).named ≡ b → rdata_at p f ≡ rdata part
        go true t =
            let y : is_nsec owner part ≡ true = kind (sixth t) in
            let z : ◌≡◌ {A = ℕ} 0 1 = cc in absurd (omega arith)
        go false t = other inside t
