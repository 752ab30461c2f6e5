-- What a step of a walk finds, with the names followed and without; and a section of a message that was read, a step at a time. Assumes nothing.
use Rattle.std.specs.Prelude.{Option, Some, None}
use mathlib.Core.Path.{◌≡◌, refl, sym, ap, ◌∙◌}
use mathlib.Core.List.{List}
use mathlib.Core.Bool.{Bool, true, false, cond}
use Prim.Native.Nat.{ℕ, ◌+◌, ◌-◌, ◌<◌, ◌≤◌}
use native.Mathlib.Omega.{arith}
use borrow.Author.Tests.{leb-true}
use lib.ListN.{length}
use lib.Dec.{leb}
use Rattle.wire.specs.octets.Octets.{word16, word32}
use Rattle.wire.specs.case_folding.Fold.{same_name}
use Rattle.wire.specs.names.Names.{name, name_at}
use Rattle.wire.specs.names.Answers.{span_of, same_as, name_is}
use Rattle.wire.specs.declared.names.Span.{Span}
use Rattle.wire.specs.rdata.Rdata.{Rdata, rdata, rdata_at, rdata_in, form_in}
use Rattle.wire.specs.rdata.Answers.{data_of}
use Rattle.wire.specs.message.Message.{record_of, ttl_of}
use Rattle.wire.specs.message.Layout.{Item, item, broken, list_from, bytes_of, question_from, question_read, question_at, record_from, record_read, record_at}
use Rattle.wire.specs.message.Readable.{whole_read}
use Rattle.wire.specs.declared.message.QuestionAt.{QuestionAt}
use Rattle.wire.specs.declared.message.RecordAt.{RecordAt}
use Rattle.wire.proofs.message.Cursor.{step, question-here, record_here}
use Rattle.wire.proofs.message.Walk.{question-found, question-broken, record_found, record_broken}
use Rattle.facts.specs.Found.{QuestionSeen, RecordSeen, QuestionStep, RecordStep}
use Rattle.wire.specs.declared.message.Layout.{Layout}
use Rattle.facts.specs.chains.Chains.{Stands, Whole, WholeLayout, Walkable, Ends}
use Rattle.facts.proofs.chains.Table.{no_entries}
use Rattle.facts.proofs.Steps.{record_of_lem}
use Rattle.facts.proofs.Tests.{question-long, record_long}

-- with the names followed
pub question-stepped : (p : List ℕ) (at : ℕ) (a : Option QuestionAt) → a ≡ question_read p at → QuestionStep p at a
question-stepped p at (Some f) is =
    let m = question-found p at _ is f refl in
    record { here = m.here; named = m.named; long = λ _. question-long p at f (sym is) }
question-stepped p at None is = question-broken p at _ is refl

pub record_stepped : (p : List ℕ) (at : ℕ) (a : Option RecordAt) → a ≡ whole_read p at → RecordStep p at a
record_stepped p at (Some f) is =
    let m = record_found p at _ is f refl in
    record { here = m.here; named = m.named; long = λ _. record_long p at f (sym is); content = m.content }
record_stepped p at None is = record_broken p at _ is refl

-- the answer of a step
pub question-seen : (p : List ℕ) (at : ℕ) (a : Option QuestionAt) → QuestionStep p at a → (f : QuestionAt) → a ≡ Some f → QuestionSeen p at f
question-seen p at a s f e = rw e at s

pub question-none : (p : List ℕ) (at : ℕ) (a : Option QuestionAt) → QuestionStep p at a → a ≡ None → question_at p at ≡ broken
question-none p at a s e = rw e at s

pub record_seen : (p : List ℕ) (at : ℕ) (a : Option RecordAt) → RecordStep p at a → (f : RecordAt) → a ≡ Some f → RecordSeen p at f
record_seen p at a s f e = rw e at s

pub record_none : (p : List ℕ) (at : ℕ) (a : Option RecordAt) → RecordStep p at a → a ≡ None → record_at p at ≡ broken
record_none p at a s e = rw e at s

-- the span of a name that is not followed
abbrev pub unread : ℕ → Span
unread end = record { end = end; len = 0; labels = 0; first = 0 }

-- a question that stands there, its name not followed
question_made : List ℕ → ℕ → List ℕ → ℕ → QuestionAt
question_made p at bs e = record { name = at; span = span_of bs e; rtype = word16 p e; class = word16 p (e + 2); next = e + 4 }

question-of : (p : List ℕ) (at : ℕ) (bs : List ℕ) (e : ℕ) (f : QuestionAt) → question_from p at (name bs e) ≡ Some f
    → (e + 4 ≤ length p) × (question_made p at bs e ≡ f)
unfolding question_made
question-of p at bs e f h = go (leb (e + 4) (length p)) refl h
  where
    go : (a : Bool) → leb (e + 4) (length p) ≡ a → cond a (Some (question_made p at bs e)) None ≡ Some f
        → (e + 4 ≤ length p) × (question_made p at bs e ≡ f)
    go true t g = (leb-true _ _ t, cc)
    go false t g = let z : ◌≡◌ {A = ℕ} 0 1 = cc in absurd (omega arith)

module _ (p : List ℕ) (at end : ℕ) (past : (bs : List ℕ) (e : ℕ) → name_at p at ≡ name bs e → end ≡ e) where
  pub question-room : Stands (question_at p) at → end + 4 ≤ length p
  unfolding question_read
  question-room (x, (next, is)) =
      let k = question-here p at x next is in
      let g = question-of p at x.name k.end k.fields (ap (question_from p at) (sym k.named) ∙ k.found) in
      omega (arith, g.0, past x.name k.end k.named)

  pub question-unread : Stands (question_at p) at → (rtype class : ℕ) → rtype ≡ word16 p end → class ≡ word16 p (end + 2)
      → QuestionSeen p at (record { name = at; span = unread end; rtype = rtype; class = class; next = end + 4 })
  unfolding question_read name_is question_made
  question-unread (x, (next, is)) rtype class et ec =
      let k = question-here p at x next is in
      let g = question-of p at x.name k.end k.fields (ap (question_from p at) (sym k.named) ∙ k.found) in
      let e : end ≡ k.end = past x.name k.end k.named in
      let n : bytes_of (name_at p at) ≡ x.name = ap bytes_of k.named in
      let t : rtype ≡ x.rtype = et ∙ ap (word16 p) e ∙ ap (λ (y : QuestionAt). y.rtype) g.1 ∙ k.rtype in
      let c : class ≡ x.class = ec ∙ ap (λ (n : ℕ). word16 p (n + 2)) e ∙ ap (λ (y : QuestionAt). y.class) g.1 ∙ k.class in
      let on : end + 4 ≡ next = ap (λ (n : ℕ). n + 4) e ∙ ap (λ (y : QuestionAt). y.next) g.1 ∙ k.past in
      record {
        here = is ∙ sym (λ j. item (record { name = n j; rtype = t j; class = c j }) (on j));
        named = λ other. ap (same_as other) k.named ∙ ap (λ (l : List ℕ). same_name l other) (sym n);
        long = λ h. absurd (h refl);
      }

  -- a record that stands there, its names not followed
  pub record_room : Stands (record_at p) at → end + 10 ≤ length p
  unfolding record_read
  record_room (x, (next, is)) =
      let k = record_here p at x next is in
      let g = record_of_lem p at x.owner k.end k.fields (ap (record_from p at) (sym k.named) ∙ k.found) in
      omega (arith, g.0, past x.owner k.end k.named)

  pub record_unread : Stands (record_at p) at → (rtype class ttl len : ℕ) → rtype ≡ word16 p end → class ≡ word16 p (end + 2)
      → ttl ≡ ttl_of (word32 p (end + 4)) → len ≡ word16 p (end + 8)
      → RecordSeen p at
      (record { owner = at; span = unread end; rtype = rtype; class = class; ttl = ttl; rdata = end + 10; rdlength = len; next = end + 10 + len })
  unfolding record_read name_is rdata_at rdata_in form_in
  record_unread (x, (next, is)) rtype class ttl len et ec el ed =
      let k = record_here p at x next is in
      let g = record_of_lem p at x.owner k.end k.fields (ap (record_from p at) (sym k.named) ∙ k.found) in
      let e : end ≡ k.end = past x.owner k.end k.named in
      let n : bytes_of (name_at p at) ≡ x.owner = ap bytes_of k.named in
      let t₀ : rtype ≡ word16 p k.end = et ∙ ap (word16 p) e in
      let d₀ : len ≡ word16 p (k.end + 8) = ed ∙ ap (λ (n : ℕ). word16 p (n + 8)) e in
      let t : rtype ≡ x.rtype = t₀ ∙ ap (λ (y : RecordAt). y.rtype) g.1 ∙ k.rtype in
      let c : class ≡ x.class = ec ∙ ap (λ (n : ℕ). word16 p (n + 2)) e ∙ ap (λ (y : RecordAt). y.class) g.1 ∙ k.class in
      let l : ttl ≡ x.ttl = el ∙ ap (λ (n : ℕ). ttl_of (word32 p (n + 4))) e ∙ ap (λ (y : RecordAt). y.ttl) g.1 ∙ k.ttl in
      let on : end + 10 + len ≡ next = (λ j. e j + 10 + d₀ j) ∙ ap (λ (y : RecordAt). y.next) g.1 ∙ k.past in
      let f : RecordAt =
      record { owner = at; span = unread end; rtype = rtype; class = class; ttl = ttl; rdata = end + 10; rdlength = len; next = end + 10 + len } in
      let bytes : rdata_at p f ≡ rdata x.rdata =
      (λ j. rdata_at p (record { owner = at; span = unread end; rtype = t₀ j; class = class; ttl = ttl; rdata = e j + 10; rdlength = d₀ j; next = end + 10 + len }))
      ∙ ap (rdata_at p) g.1 ∙ k.content in
      record {
        here = is ∙ sym (λ j. item (record_of (n j) (t j) (c j) (l j) (data_of (bytes j))) (on j));
        named = λ other. ap (same_as other) k.named ∙ ap (λ (l : List ℕ). same_name l other) (sym n);
        long = λ h. absurd (h refl);
        content = bytes ∙ sym (ap (λ (y : Rdata). rdata (data_of y)) bytes);
      }

-- a section that is well formed to its end
module _ {A : Type 0} (part : ℕ → Item A) (ends : List ℕ) (n at : ℕ) (w : Whole part ends n at) (lt : 0 < n) where
  pub whole_here : 0 < length ends → Stands part at
  whole_here some = let k = w some in let s = step part n at k.0 k.1.0 k.1.1 lt in (s.head, (s.next, s.here))

  pub whole-on : (x : A) (next : ℕ) → part at ≡ item x next → Whole part ends (n - 1) next
  whole-on x next is = λ some.
      let k = w some in
      let s = step part n at k.0 k.1.0 k.1.1 lt in
      let same : item s.head s.next ≡ item x next = sym s.here ∙ is in
      let e : s.next ≡ next = cc in
      (s.rest, (k.1.0, ap (list_from part (n - 1)) (sym e) ∙ s.on))

-- a table without entries asks nothing of a layout, and any other that its message was read
pub not_noted : (p ends : List ℕ) (l : Layout) → length ends ≤ 0 → Walkable p ends l
not_noted p ends l h = record {
  noted = no_entries p ends h;
  questions = λ some. absurd (omega arith);
  answers = λ some. absurd (omega arith);
  authorities = λ some. absurd (omega arith);
  additionals = λ some. absurd (omega arith);
}

pub noted_read : (p ends : List ℕ) (l : Layout) → Ends p ends → WholeLayout p l → Walkable p ends l
noted_read p ends l e w = record {
  noted = e;
  questions = λ _. w.questions;
  answers = λ _. w.answers;
  authorities = λ _. w.authorities;
  additionals = λ _. w.additionals;
}
