-- For callers: walking a section of any layout meets what the section shows, a question or record at a time. Of the layout that `read_message` gave
-- that is the message that was read. Assumes nothing.
use Rattle.std.specs.Prelude.{None, Option, Some}
use mathlib.Core.Path.{◌≡◌, refl, sym, ap, ◌∙◌}
use mathlib.Core.List.{List, [], ◌∷◌}
use mathlib.Core.Bool.{Bool, true, false, cond, ◌||◌}
use Prim.Native.Nat.{ℕ, zero, suc, ◌-◌, ◌<◌, ◌≤◌}
use native.Mathlib.Omega.{arith}
use lib.ListN.{length}
use Rattle.wire.specs.Lists.{some}
use Rattle.wire.specs.case_folding.Fold.{same_name}
use Rattle.wire.specs.names.Names.{name, name_at}
use Rattle.wire.specs.names.Answers.{same_as, name_is}
use Rattle.wire.specs.labels.Counted.{labels_in, first_in}
use Rattle.wire.specs.declared.names.Span.{Span}
use Rattle.wire.specs.rdata.Rdata.{Rdata, rdata, unfit, rdata_at}
use Rattle.wire.specs.rdata.Answers.{fits, data_of}
use Rattle.wire.specs.message.Message.{record_of, Message}
use Rattle.wire.specs.message.Layout.{Item, item, broken, Listing, listing, cut, first, and_on, list_from, bytes_of, question_read, question_meant, question_at, record_read, with_rdata, record_meant, record_at, read, message_at}
use Rattle.wire.specs.message.Readable.{and_more, readable, message_in, whole_from, whole_read, question_shown, record_shown}
use Rattle.wire.specs.declared.message.QuestionAt.{QuestionAt}
use Rattle.wire.specs.declared.message.RecordAt.{RecordAt}
use Rattle.wire.specs.declared.message.Layout.{Layout}
use Rattle.wire.proofs.message.Cursor.{question-fields, record_fields, Sections, sections}

-- a section a step at a time
module _ {A : Type 0} (part : ℕ → Item A) where
  pub readable-item : (n at : ℕ) (x : A) (next : ℕ) → 0 < n → part at ≡ item x next → readable part n at ≡ x ∷ readable part (n - 1) next
  unfolding readable
  readable-item zero at x next lt e = absurd (omega arith)
  readable-item (suc n) at x next lt e =
      let less : suc n - 1 ≡ n = omega arith in
      ap (and_more (readable part n)) e ∙ ap (λ (k : ℕ). x ∷ readable part k next) (sym less)

  pub readable-broken : (n at : ℕ) → part at ≡ broken → readable part n at ≡ []
  unfolding readable
  readable-broken zero at e = refl
  readable-broken (suc n) at e = ap (and_more (readable part n)) e

  pub readable-none : (n at : ℕ) → n ≤ 0 → readable part n at ≡ []
  unfolding readable
  readable-none zero at l = refl
  readable-none (suc n) at l = absurd (omega arith)

  -- what is readable of a section that is whole is its list
  pub whole-section : (n at : ℕ) (xs : List A) (end : ℕ) → list_from part n at ≡ listing xs end → readable part n at ≡ xs
  unfolding readable list_from
  whole-section zero at xs end h = cc
  whole-section (suc n) at xs end h = go (part at) (λ next ys e. whole-section n next ys e) h
    where
      on : (x : A) (next : ℕ) (l : Listing A) → list_from part n next ≡ l → first x l ≡ listing xs end
          → ((ys : List A) (e : ℕ) → list_from part n next ≡ listing ys e → readable part n next ≡ ys) → x ∷ readable part n next ≡ xs
      on x next (listing ys e) is f again =
          let i : x ∷ ys ≡ xs = cc in
          ap (λ (t : List A). x ∷ t) (again ys e is) ∙ i
      on x next cut is f again = let z : ◌≡◌ {A = ℕ} 0 1 = cc in absurd (omega arith)

      go : (y : Item A) → ((next : ℕ) (ys : List A) (e : ℕ) → list_from part n next ≡ listing ys e → readable part n next ≡ ys) → and_on (list_from part n) y ≡ listing xs end
          → and_more (readable part n) y ≡ xs
      go (item x next) again f = on x next (list_from part n next) refl f (again next)
      go broken again f = let z : ◌≡◌ {A = ℕ} 0 1 = cc in absurd (omega arith)

-- a loop that makes something of a section's items one after the other: at its end, at an item that is broken, and at one that is met
module _ {A B : Type 0} (part : ℕ → Item A) (of : List A → B) (all : B) (n at : ℕ) (inv : all ≡ of (readable part n at)) where
  pub walk_done : n ≤ 0 → of [] ≡ all
  walk_done l = sym (inv ∙ ap of (readable-none part n at l))

  pub walk_broken : part at ≡ broken → of [] ≡ all
  walk_broken e = sym (inv ∙ ap of (readable-broken part n at e))

  pub walk_on : 0 < n → (x : A) (next : ℕ) → part at ≡ item x next → all ≡ of (x ∷ readable part (n - 1) next)
  walk_on lt x next e = inv ∙ ap of (readable-item part n at x next lt e)

-- a loop that looks for an item that passes a test
module _ {A : Type 0} (test : A → Bool) (part : ℕ → Item A) (all : Bool) (n at : ℕ) (inv : all ≡ some test (readable part n at)) where
  pub some-done : n ≤ 0 → false ≡ all
  unfolding some
  some-done l = walk_done part (some test) all n at inv l

  pub some-broken : part at ≡ broken → false ≡ all
  unfolding some
  some-broken e = walk_broken part (some test) all n at inv e

  module _ (lt : 0 < n) (x : A) (next : ℕ) (here : part at ≡ item x next) (v : Bool) (is : v ≡ test x) where
    some_turn : all ≡ (v || some test (readable part (n - 1) next))
    unfolding some
    some_turn = walk_on part (some test) all n at inv lt x next here ∙ ap (λ (b : Bool). b || some test (readable part (n - 1) next)) (sym is)

    pub some-found : v ≡ true → true ≡ all
    some-found e = sym (some_turn ∙ ap (λ (b : Bool). b || some test (readable part (n - 1) next)) e)

    pub some-on : v ≡ false → all ≡ some test (readable part (n - 1) next)
    some-on e = some_turn ∙ ap (λ (b : Bool). b || some test (readable part (n - 1) next)) e

-- The message that a layout shows is the one that was read.
pub layout_shows : (p : List ℕ) (l : Layout) (m : Message) → message_at p ≡ read l m → message_in p l ≡ m
unfolding message_in
layout_shows p l m h = λ i. record {
  id = s.id i;
  flags = s.flags i;
  questions = whole-section (question_at p) l.questions.count l.questions.at m.questions l.answers.at s.questions i;
  answers = whole-section (record_at p) l.answers.count l.answers.at m.answers l.authorities.at s.answers i;
  authorities = whole-section (record_at p) l.authorities.count l.authorities.at m.authorities l.additionals.at s.authorities i;
  additionals = whole-section (record_at p) l.additionals.count l.additionals.at m.additionals l.end s.additionals i;
}
  where
    s : Sections p l m
    s = sections p l m h

-- a name that was read, compared
name-read : (p : List ℕ) (at : ℕ) (bs : List ℕ) (end : ℕ) (other : List ℕ) → name_at p at ≡ name bs end → name_is p at other ≡ same_name bs other
unfolding name_is
name-read p at bs end other e = ap (same_as other) e

-- A question at the cursor: the section has there what its fields show.
pub record QuestionMet (p : List ℕ) (at : ℕ) (f : QuestionAt) : Type 0 where
  pub here : question_at p at ≡ item (question_shown p f) f.next
  pub named : (other : List ℕ) → name_is p f.name other ≡ same_name (question_shown p f).name other

-- what a caller of `question_at` learns from its answer
module _ (p : List ℕ) (at : ℕ) (a : (Option QuestionAt)) (is : a ≡ question_read p at) where
  pub question-broken : a ≡ None → question_at p at ≡ broken
  unfolding question_at
  question-broken e = ap (question_meant (bytes_of (name_at p at))) (sym is ∙ e)

  pub question-found : (f : QuestionAt) → a ≡ Some f → QuestionMet p at f
  unfolding question_at question_read
  question-found f e =
      let k = question-fields p at (name_at p at) f (sym is ∙ e) in
      let bytes : bytes_of (name_at p at) ≡ bytes_of (name_at p f.name) = ap (λ (n : ℕ). bytes_of (name_at p n)) (sym k.0) in
      let read_there : name_at p f.name ≡ name (bytes_of (name_at p f.name)) k.2.0 =
      ap (name_at p) k.0 ∙ k.2.1 ∙ ap (λ (l : List ℕ). name l k.2.0) bytes in
      record {
        here = ap (question_meant (bytes_of (name_at p at))) (sym is ∙ e) ∙ ap (λ (l : List ℕ). item (record { name = l; rtype = f.rtype; class = f.class }) f.next) bytes;
        named = λ other. name-read p f.name (bytes_of (name_at p f.name)) k.2.0 other read_there;
      }

-- A record at the cursor: the section has there what its fields show.
pub record RecordMet (p : List ℕ) (at : ℕ) (f : RecordAt) : Type 0 where
  pub place : f.owner ≡ at
  pub here : record_at p at ≡ item (record_shown p f) f.next
  pub end : ℕ
  pub owner : name_at p f.owner ≡ name (record_shown p f).owner end
  pub named : (other : List ℕ) → name_is p f.owner other ≡ same_name (record_shown p f).owner other
  pub span : f.span.len ≡ length (record_shown p f).owner
  pub labels : f.span.labels ≡ labels_in (record_shown p f).owner
  pub first-label : f.span.first ≡ first_in (record_shown p f).owner
  pub content : rdata_at p f ≡ rdata (record_shown p f).rdata

-- rdata as its type asks has bytes
has-bytes : (x : Rdata) → fits x ≡ true → x ≡ rdata (data_of x)
has-bytes (rdata d) h = refl
has-bytes unfit h = let z : ◌≡◌ {A = ℕ} 0 1 = cc in absurd (omega arith)

-- the answers of `whole_record`
module _ (p : List ℕ) (at : ℕ) (a : (Option RecordAt)) (is : a ≡ record_read p at) where
  pub whole-bad : a ≡ None → None ≡ whole_read p at
  unfolding whole_read
  whole-bad e = sym (ap (whole_from p) (sym is ∙ e))

  module _ (f : RecordAt) (e : a ≡ Some f) (v : Bool) (fit : v ≡ fits (rdata_at p f)) where
    tested : whole_read p at ≡ cond v (Some f) None
    unfolding whole_read
    tested = ap (whole_from p) (sym is ∙ e) ∙ ap (λ (b : Bool). cond b (Some f) None) (sym fit)

    pub whole-found : v ≡ true → Some f ≡ whole_read p at
    whole-found t = sym (tested ∙ ap (λ (b : Bool). cond b (Some f) None) t)

    pub whole-unfit : v ≡ false → None ≡ whole_read p at
    whole-unfit t = sym (tested ∙ ap (λ (b : Bool). cond b (Some f) None) t)

-- what a caller of `whole_record` learns from its answer
module _ (p : List ℕ) (at : ℕ) (a : (Option RecordAt)) (is : a ≡ whole_read p at) where
  pub record_broken : a ≡ None → record_at p at ≡ broken
  unfolding record_at whole_read
  record_broken e = go (record_read p at) refl (sym is ∙ e)
    where
      on : (f : RecordAt) (x : Rdata) → cond (fits x) (Some f) None ≡ None → with_rdata (bytes_of (name_at p at)) f x ≡ broken
      on f (rdata d) k = let z : ◌≡◌ {A = ℕ} 0 1 = cc in absurd (omega arith)
      on f unfit k = refl

      go : (y : (Option RecordAt)) → record_read p at ≡ y → whole_from p y ≡ None → record_meant p (bytes_of (name_at p at)) y ≡ broken
      go (Some f) h k = on f (rdata_at p f) k
      go None h k = refl

  pub record_found : (f : RecordAt) → a ≡ Some f → RecordMet p at f
  unfolding record_at whole_read record_read
  record_found f e = go (record_read p at) refl (sym is ∙ e)
    where
      met : record_read p at ≡ Some f → fits (rdata_at p f) ≡ true → RecordMet p at f
      met h fit =
          let k = record_fields p at (name_at p at) f h in
          let bytes : bytes_of (name_at p at) ≡ bytes_of (name_at p f.owner) = ap (λ (n : ℕ). bytes_of (name_at p n)) (sym k.0) in
          let content : rdata_at p f ≡ rdata (data_of (rdata_at p f)) =
          has-bytes (rdata_at p f) fit in
          let read_there : name_at p f.owner ≡ name (bytes_of (name_at p f.owner)) k.2.0 =
          ap (name_at p) k.0 ∙ k.2.1 ∙ ap (λ (l : List ℕ). name l k.2.0) bytes in
          record {
            place = k.0;
            here = ap (record_meant p (bytes_of (name_at p at))) h ∙ ap (with_rdata (bytes_of (name_at p at)) f) content
                ∙ ap (λ (l : List ℕ). item (record_of l f.rtype f.class f.ttl (data_of (rdata_at p f))) f.next) bytes;
            end = k.2.0;
            owner = read_there;
            named = λ other. name-read p f.owner (bytes_of (name_at p f.owner)) k.2.0 other read_there;
            span = ap (λ (s : Span). s.len) k.1.1 ∙ ap length bytes;
            labels = ap (λ (s : Span). s.labels) k.1.1 ∙ ap labels_in bytes;
            first-label = ap (λ (s : Span). s.first) k.1.1 ∙ ap first_in bytes;
            content = content;
          }

      on : (g : RecordAt) (b : Bool) → fits (rdata_at p g) ≡ b → record_read p at ≡ Some g → cond b (Some g) None ≡ Some f → RecordMet p at f
      on g true fit h k =
          let same : g ≡ f = cc in
          met (h ∙ k) (ap (λ (y : RecordAt). fits (rdata_at p y)) (sym same) ∙ fit)
      on g false fit h k = let z : ◌≡◌ {A = ℕ} 0 1 = cc in absurd (omega arith)

      go : (y : (Option RecordAt)) → record_read p at ≡ y → whole_from p y ≡ Some f → RecordMet p at f
      go (Some g) h k = on g (fits (rdata_at p g)) refl h k
      go None h k = let z : ◌≡◌ {A = ℕ} 0 1 = cc in absurd (omega arith)
