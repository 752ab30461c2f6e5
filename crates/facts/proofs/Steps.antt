-- Steps from one record to the next that follow no pointer: of a name that is well formed, the end in place is found. Assumes nothing.
use Rattle.std.specs.Prelude.{Some, None}
use mathlib.Core.Path.{◌≡◌, refl, sym, ap, ◌∙◌}
use mathlib.Core.List.{List, []}
use mathlib.Core.Bool.{Bool, true, false, cond, ◌&&◌, ◌||◌}
use Prim.Native.Nat.{ℕ, zero, suc, ◌+◌, ◌-◌, ◌<◌, ◌≤◌}
use native.Mathlib.Omega.{arith}
use borrow.Author.Tests.{leb-true}
use lib.ListN.{length, get_or, take, drop}
use lib.Dec.{leb}
use Rattle.wire.specs.Lists.{some}
use Rattle.wire.specs.octets.Octets.{word16, word32}
use Rattle.wire.specs.name_pieces.Pieces.{piece_at}
use Rattle.wire.specs.names.Names.{Reading, name, malformed, before, ending, read_piece, from_run, name_at}
use Rattle.wire.specs.names.Answers.{span_of}
use Rattle.wire.specs.message.Message.{Record, ttl_of}
use Rattle.wire.specs.message.Layout.{Item, item, broken, record_from, record_read, record_at}
use Rattle.wire.specs.message.Readable.{and_more, readable}
use Rattle.wire.specs.declared.message.RecordAt.{RecordAt}
use Rattle.wire.specs.declared.name_pieces.Piece.{Piece}
use Rattle.wire.specs.declared.name_pieces.Piece.TheVariants.{Root, Label, Pointer, Bad}
use Rattle.wire.proofs.name_pieces.Pieces.{is-root, is-label, is_pointer_lem}
use Rattle.wire.proofs.names.Rest.{read_at}
use Rattle.wire.proofs.message.Cursor.{record_here}

-- what is left of a count behind one item more
pub one_less : (n k : ℕ) → n - (k + 1) ≡ n - k - 1
one_less n k = omega arith

-- the rest of a name that ends at `e` stands at `here`, in the run of labels that begins at `start`
abbrev pub Rests : List ℕ → ℕ → ℕ → ℕ → Type 0
Rests p start here e = (used : ℕ) × ((bs : List ℕ) × (from_run p start here used ≡ name bs e))

pub rests_first : (p : List ℕ) (at : ℕ) (bs : List ℕ) (e : ℕ) → name_at p at ≡ name bs e → Rests p at at e
unfolding name_at
rests_first p at bs e h = (0, (bs, h))

module _ (p : List ℕ) (start here e : ℕ) (r : Rests p start here e) where
  abbrev piece : Piece
  piece = piece_at p start here r.0

  read_here : (x : Piece) → piece ≡ x → read_piece (from_run p) p start here r.0 x ≡ name r.1.0 e
  read_here x is = sym (read_at p start here r.0 x is) ∙ r.1.1

  -- there is a piece at its place
  pub rests_in : here < length p
  rests_in = go piece refl
    where
      go : (x : Piece) → piece ≡ x → here < length p
      go Root is = (is-root p start here r.0 is).0
      go (Label n) is = (is-label p start here r.0 n is).0
      go (Pointer t) is = (is_pointer_lem p start here r.0 t is).0
      go Bad is = let k = read_here Bad is in let z : ◌≡◌ {A = ℕ} 0 1 = cc in absurd (omega arith)

  -- the zero byte
  pub rests_root : get_or p here 0 ≡ 0 → here + 1 ≡ e
  rests_root zero-byte = go piece refl
    where
      go : (x : Piece) → piece ≡ x → here + 1 ≡ e
      go Root is = let k = read_here Root is in cc
      go (Label n) is = absurd ((is-label p start here r.0 n is).1 zero-byte)
      go (Pointer t) is = absurd (omega (arith, (is_pointer_lem p start here r.0 t is).1))
      go Bad is = let k = read_here Bad is in let z : ◌≡◌ {A = ℕ} 0 1 = cc in absurd (omega arith)

  -- a pointer
  pub rests_pointer : 192 ≤ get_or p here 0 → here + 2 ≡ e
  rests_pointer high = go piece refl
    where
      ends : (x : Reading) → ending (here + 2) x ≡ name r.1.0 e → here + 2 ≡ e
      ends (name ys d) k = cc
      ends malformed k = let z : ◌≡◌ {A = ℕ} 0 1 = cc in absurd (omega arith)

      go : (x : Piece) → piece ≡ x → here + 2 ≡ e
      go Root is = absurd (omega (arith, (is-root p start here r.0 is).1))
      go (Label n) is = absurd (omega (arith, (is-label p start here r.0 n is).2))
      go (Pointer t) is = ends (from_run p t t r.0) (read_here (Pointer t) is)
      go Bad is = let k = read_here Bad is in let z : ◌≡◌ {A = ℕ} 0 1 = cc in absurd (omega arith)

  -- a label
  pub rests_label : (get_or p here 0 ≡ 0 → ⊥) → get_or p here 0 < 192 → Rests p start (here + 1 + get_or p here 0) e
  rests_label some low = go piece refl
    where
      on : (n : ℕ) (x : Reading) → from_run p start (here + 1 + n) (r.0 + 1 + n) ≡ x → before (take (n + 1) (drop here p)) x ≡ name r.1.0 e
          → Rests p start (here + 1 + n) e
      on n (name ys d) is k = let f : d ≡ e = cc in (r.0 + 1 + n, (ys, is ∙ ap (name ys) f))
      on n malformed is k = let z : ◌≡◌ {A = ℕ} 0 1 = cc in absurd (omega arith)

      go : (x : Piece) → piece ≡ x → Rests p start (here + 1 + get_or p here 0) e
      go Root is = absurd (some (is-root p start here r.0 is).1)
      go (Label n) is =
          let f = is-label p start here r.0 n is in
          rw f.5 (on n (from_run p start (here + 1 + n) (r.0 + 1 + n)) refl (read_here (Label n) is))
      go (Pointer t) is = absurd (omega (arith, (is_pointer_lem p start here r.0 t is).1))
      go Bad is = let k = read_here Bad is in let z : ◌≡◌ {A = ℕ} 0 1 = cc in absurd (omega arith)

pub some-none : {A : Type 0} (test : A → Bool) → some test [] ≡ false
unfolding some
some-none test = refl

-- a step over an item of a section: where none can be made, no item stands there; where one is made, the item has what was seen of it
module _ {A : Type 0} (part : ℕ → Item A) (test : A → Bool) (n at : ℕ) where
  pub stopped : ((x : A) (next : ℕ) → part at ≡ item x next → ⊥) → some test (readable part n at) ≡ false
  unfolding some readable
  stopped never = go n
    where
      at_item : (k : ℕ) (y : Item A) → part at ≡ y → some test (and_more (readable part k) y) ≡ false
      at_item k (item x next) is = absurd (never x next is)
      at_item k broken is = refl

      go : (k : ℕ) → some test (readable part k at) ≡ false
      go zero = refl
      go (suc k) = at_item k (part at) refl

  pub stepped : (v : Bool) (on : ℕ) → ((x : A) (next : ℕ) → part at ≡ item x next → (test x ≡ v) × (next ≡ on)) → v ≡ false
      → some test (readable part (n - 1) on) ≡ false → some test (readable part n at) ≡ false
  unfolding some readable
  stepped v on saw f rest = go n rest
    where
      at_item : (k : ℕ) (y : Item A) → part at ≡ y → some test (readable part k on) ≡ false → some test (and_more (readable part k) y) ≡ false
      at_item k (item x next) is h =
          let k' = saw x next is in
          (λ i. (k'.0 ∙ f) i || some test (readable part k (k'.1 i))) ∙ h
      at_item k broken is h = refl

      go : (k : ℕ) → some test (readable part (k - 1) on) ≡ false → some test (readable part k at) ≡ false
      go zero h = refl
      go (suc k) h =
          let less : suc k - 1 ≡ k = omega arith in
          at_item k (part at) refl (ap (λ (j : ℕ). some test (readable part j on)) (sym less) ∙ h)

-- the fields of a record whose name ends at `e`
abbrev pub record_made : List ℕ → ℕ → List ℕ → ℕ → RecordAt
record_made p at bs e = record {
  owner = at;
  span = span_of bs e;
  rtype = word16 p e;
  class = word16 p (e + 2);
  ttl = ttl_of (word32 p (e + 4));
  rdata = e + 10;
  rdlength = word16 p (e + 8);
  next = e + 10 + word16 p (e + 8);
}

pub record_of_lem : (p : List ℕ) (at : ℕ) (bs : List ℕ) (e : ℕ) (f : RecordAt) → record_from p at (name bs e) ≡ Some f
    → (e + 10 ≤ length p) × (record_made p at bs e ≡ f)
record_of_lem p at bs e f h = go (leb (e + 10) (length p)) (leb (e + 10 + word16 p (e + 8)) (length p)) refl h
  where
    go : (a b : Bool) → leb (e + 10) (length p) ≡ a → cond (a && b) (Some (record_made p at bs e)) None ≡ Some f
        → (e + 10 ≤ length p) × (record_made p at bs e ≡ f)
    go true true t g = (leb-true _ _ t, cc)
    go true false t g = let z : ◌≡◌ {A = ℕ} 0 1 = cc in absurd (omega arith)
    go false b t g = let z : ◌≡◌ {A = ℕ} 0 1 = cc in absurd (omega arith)

-- behind a name that ends at `end`, if it is well formed
module _ (p : List ℕ) (at end : ℕ) (past : (bs : List ℕ) (e : ℕ) → name_at p at ≡ name bs e → end ≡ e) where
  pub record_behind_lem : (x : Record) (next : ℕ) → record_at p at ≡ item x next
      → (end + 10 ≤ length p) × (x.rtype ≡ word16 p end) × (next ≡ end + 10 + word16 p (end + 8))
  unfolding record_read
  record_behind_lem x next is =
      let k = record_here p at x next is in
      let g = record_of_lem p at x.owner k.end k.fields (ap (record_from p at) (sym k.named) ∙ k.found) in
      let e : end ≡ k.end = past x.owner k.end k.named in (
        omega (arith, g.0, e),
        sym k.rtype ∙ sym (ap (λ (y : RecordAt). y.rtype) g.1) ∙ ap (λ (n : ℕ). word16 p n) (sym e),
        sym k.past ∙ sym (ap (λ (y : RecordAt). y.next) g.1) ∙ ap (λ (n : ℕ). n + 10 + word16 p (n + 8)) (sym e),
      )
