-- For callers: walking a section with a cursor meets exactly the elements of its list, and never anything malformed. Assumes nothing.
use Rattle.wire.specs.declared.refusals.Refusal.TheVariants.{Length, Header}
use Rattle.std.specs.Prelude.{Err, None, Ok, Option, Result, Some}
use Rattle.wire.specs.declared.refusals.Refusal.{Refusal}
use mathlib.Core.Path.{◌≡◌, refl, sym, ap, ◌∙◌}
use mathlib.Core.List.{List, [], ◌∷◌}
use mathlib.Core.Bool.{Bool, true, false, cond, ◌&&◌}
use Prim.Native.Nat.{ℕ, ◌+◌, ◌-◌, ◌<◌, ◌≤◌}
use native.Mathlib.Omega.{arith}
use lib.ListN.{length}
use lib.Dec.{leb}
use borrow.Author.Tests.{leb-true}
use Rattle.wire.specs.octets.Octets.{word16, word32}
use Rattle.wire.specs.names.Names.{Reading, name, malformed, name_at}
use Rattle.wire.specs.names.Answers.{span_of}
use Rattle.wire.specs.labels.Counted.{labels_in, first_in}
use Rattle.wire.specs.declared.names.Span.{Span}
use Rattle.wire.specs.rdata.Rdata.{Rdata, rdata, unfit, rdata_at}
use Rattle.wire.specs.message.Message.{Question, Record, record_of, Message, ttl_of}
use Rattle.wire.specs.message.Layout.{question_from, question_read, record_from, record_read, Item, item, broken, bytes_of, question_meant, question_at, with_rdata, record_meant, record_at, Listing, listing, cut, first, and_on, list_from, Reads, read, refused, and_then, sections_of, wrong_length, wrong_header, message_at, read_of}
use Rattle.wire.specs.declared.message.QuestionAt.{QuestionAt}
use Rattle.wire.specs.declared.message.RecordAt.{RecordAt}
use Rattle.wire.specs.declared.message.Layout.{Layout}
use Rattle.wire.proofs.message.Ends.{list_one, list_none}

-- One element of a section: what stands at the cursor is the list's first element, and the others follow it.
pub record Step {A : Type 0} (part : ℕ → Item A) (n at : ℕ) (xs : List A) (end : ℕ) : Type 0 where
  pub head : A
  pub rest : List A
  pub next : ℕ
  pub here : part at ≡ item head next
  pub list : xs ≡ head ∷ rest
  pub on : list_from part (n - 1) next ≡ listing rest end

module _ {A : Type 0} (part : ℕ → Item A) (n at : ℕ) (xs : List A) (end : ℕ) (h : list_from part n at ≡ listing xs end) where
  pub step : 0 < n → Step part n at xs end
  step lt = go (part at) refl
    where
      on : (y : A) (k : ℕ) (l : Listing A) → list_from part (n - 1) k ≡ l → first y l ≡ listing xs end → part at ≡ item y k → Step part n at xs end
      on y k (listing ys e) g f is =
          let i : y ∷ ys ≡ xs = cc in
          let j : e ≡ end = cc in
          record { head = y; rest = ys; next = k; here = is; list = sym i; on = g ∙ ap (listing ys) j }
      on y k cut g f is = let z : ◌≡◌ {A = ℕ} 0 1 = cc in absurd (omega arith)

      go : (y : Item A) → part at ≡ y → Step part n at xs end
      go (item y k) e = on y k (list_from part (n - 1) k) refl (sym (ap (and_on (list_from part (n - 1))) e) ∙ sym (list_one part n at lt) ∙ h) e
      go broken e =
          let f : cut ≡ listing xs end = sym (ap (and_on (list_from part (n - 1))) e) ∙ sym (list_one part n at lt) ∙ h in
          let z : ◌≡◌ {A = ℕ} 0 1 = cc in absurd (omega arith)

  pub done : n ≤ 0 → (xs ≡ []) × (at ≡ end)
  done l =
      let f : listing [] at ≡ listing xs end = sym (list_none part n at l) ∙ h in
      (cc, cc)

-- A question at the cursor: its fields as they lie, and what they say.
pub record QuestionHere (p : List ℕ) (at : ℕ) (x : Question) (next : ℕ) : Type 0 where
  pub fields : QuestionAt
  pub found : question_read p at ≡ Some fields
  pub place : fields.name ≡ at
  pub span : fields.span.len ≡ length x.name
  pub labels : fields.span.labels ≡ labels_in x.name
  pub first-label : fields.span.first ≡ first_in x.name
  pub rtype : fields.rtype ≡ x.rtype
  pub class : fields.class ≡ x.class
  pub past : fields.next ≡ next
  pub end : ℕ
  pub named : name_at p at ≡ name x.name end

-- A record at the cursor: its fields as they lie, and what they say.
pub record RecordHere (p : List ℕ) (at : ℕ) (x : Record) (next : ℕ) : Type 0 where
  pub fields : RecordAt
  pub found : record_read p at ≡ Some fields
  pub place : fields.owner ≡ at
  pub span : fields.span.len ≡ length x.owner
  pub labels : fields.span.labels ≡ labels_in x.owner
  pub first-label : fields.span.first ≡ first_in x.owner
  pub rtype : fields.rtype ≡ x.rtype
  pub class : fields.class ≡ x.class
  pub ttl : fields.ttl ≡ x.ttl
  pub past : fields.next ≡ next
  pub end : ℕ
  pub named : name_at p at ≡ name x.owner end
  pub content : rdata_at p fields ≡ rdata x.rdata
  pub within : fields.rdata + fields.rdlength ≤ length p

-- the fields of a question and of a record whose name ends at `e`
abbrev question_made : List ℕ → ℕ → List ℕ → ℕ → QuestionAt
question_made p at bs e = record { name = at; span = span_of bs e; rtype = word16 p e; class = word16 p (e + 2); next = e + 4 }

abbrev record_made : List ℕ → ℕ → List ℕ → ℕ → RecordAt
record_made p at bs e = record {
  owner = at;
  span = span_of bs e;
  rtype = word16 p e;
  class = word16 p (e + 2);
  ttl = ttl_of (word32 p (e + 4));
  rdata = e + 10;
  rdlength = word16 p (e + 8);
  next = e + 10 + word16 p (e + 8);
}

-- the fields of a question are its own: the name starts where it was read
pub question-fields : (p : List ℕ) (at : ℕ) (y : Reading) (f : QuestionAt) → question_from p at y ≡ Some f → (f.name ≡ at) × ((d : ℕ) × (f.span ≡ span_of (bytes_of y) d)) × ((e : ℕ) × (y ≡ name (bytes_of y) e))
question-fields p at (name bs e) f h = go (leb (e + 4) (length p)) h
  where
    go : (b : Bool) → cond b (Some (question_made p at bs e)) None ≡ Some f → (f.name ≡ at) × ((d : ℕ) × (f.span ≡ span_of bs d)) × ((d : ℕ) × (name bs e ≡ name bs d))
    go true g =
        let k : question_made p at bs e ≡ f = cc in
        (ap (λ (y : QuestionAt). y.name) (sym k), (e, ap (λ (y : QuestionAt). y.span) (sym k)), (e, refl))
    go false g = let z : ◌≡◌ {A = ℕ} 0 1 = cc in absurd (omega arith)
question-fields p at malformed f h = let z : ◌≡◌ {A = ℕ} 0 1 = cc in absurd (omega arith)

pub question-here : (p : List ℕ) (at : ℕ) (x : Question) (next : ℕ) → question_at p at ≡ item x next → QuestionHere p at x next
unfolding question_at question_read
question-here p at x next h = go (question_read p at) refl h
  where
    go : (a : (Option QuestionAt)) → question_read p at ≡ a → question_meant (bytes_of (name_at p at)) a ≡ item x next → QuestionHere p at x next
    go (Some f) e g =
        let k = question-fields p at (name_at p at) f e in
        let same : record { name = bytes_of (name_at p at); rtype = f.rtype; class = f.class } ≡ x = cc in
        let bytes : bytes_of (name_at p at) ≡ x.name = ap (λ (y : Question). y.name) same in
        record {
          fields = f;
          found = e;
          place = k.0;
          span = ap (λ (s : Span). s.len) k.1.1 ∙ ap length bytes;
          labels = ap (λ (s : Span). s.labels) k.1.1 ∙ ap labels_in bytes;
          first-label = ap (λ (s : Span). s.first) k.1.1 ∙ ap first_in bytes;
          rtype = ap (λ (y : Question). y.rtype) same;
          class = ap (λ (y : Question). y.class) same;
          past = cc;
          end = k.2.0;
          named = k.2.1 ∙ ap (λ (l : List ℕ). name l k.2.0) bytes;
        }
    go None e g = let z : ◌≡◌ {A = ℕ} 0 1 = cc in absurd (omega arith)

pub record_fields : (p : List ℕ) (at : ℕ) (y : Reading) (f : RecordAt) → record_from p at y ≡ Some f
    → (f.owner ≡ at) × ((d : ℕ) × (f.span ≡ span_of (bytes_of y) d)) × ((e : ℕ) × (y ≡ name (bytes_of y) e)) × (f.rdata + f.rdlength ≤ length p)
record_fields p at (name bs e) f h = go (leb (e + 10) (length p)) (leb (e + 10 + word16 p (e + 8)) (length p)) refl h
  where
    go : (a b : Bool) → leb (e + 10 + word16 p (e + 8)) (length p) ≡ b → cond (a && b) (Some (record_made p at bs e)) None ≡ Some f
        → (f.owner ≡ at) × ((d : ℕ) × (f.span ≡ span_of bs d)) × ((d : ℕ) × (name bs e ≡ name bs d)) × (f.rdata + f.rdlength ≤ length p)
    go true true l g =
        let k : record_made p at bs e ≡ f = cc in
        let data-at : e + 10 ≡ f.rdata = ap (λ (y : RecordAt). y.rdata) k in
        let data-len : word16 p (e + 8) ≡ f.rdlength = ap (λ (y : RecordAt). y.rdlength) k in (
          ap (λ (y : RecordAt). y.owner) (sym k),
          (e, ap (λ (y : RecordAt). y.span) (sym k)),
          (e, refl),
          omega (arith, leb-true (e + 10 + word16 p (e + 8)) (length p) l),
        )
    go true false l g = let z : ◌≡◌ {A = ℕ} 0 1 = cc in absurd (omega arith)
    go false b l g = let z : ◌≡◌ {A = ℕ} 0 1 = cc in absurd (omega arith)
record_fields p at malformed f h = let z : ◌≡◌ {A = ℕ} 0 1 = cc in absurd (omega arith)

pub record_here : (p : List ℕ) (at : ℕ) (x : Record) (next : ℕ) → record_at p at ≡ item x next → RecordHere p at x next
unfolding record_at record_read
record_here p at x next h = go (record_read p at) refl h
  where
    on : (f : RecordAt) (y : Rdata) → record_read p at ≡ Some f → rdata_at p f ≡ y → with_rdata (bytes_of (name_at p at)) f y ≡ item x next → RecordHere p at x next
    on f (rdata d) e is g =
        let k = record_fields p at (name_at p at) f e in
        let same : record_of (bytes_of (name_at p at)) f.rtype f.class f.ttl d ≡ x = cc in
        let bytes : bytes_of (name_at p at) ≡ x.owner = ap (λ (y : Record). y.owner) same in
        record {
          fields = f;
          found = e;
          place = k.0;
          span = ap (λ (s : Span). s.len) k.1.1 ∙ ap length bytes;
          labels = ap (λ (s : Span). s.labels) k.1.1 ∙ ap labels_in bytes;
          first-label = ap (λ (s : Span). s.first) k.1.1 ∙ ap first_in bytes;
          rtype = ap (λ (y : Record). y.rtype) same;
          class = ap (λ (y : Record). y.class) same;
          ttl = ap (λ (y : Record). y.ttl) same;
          past = cc;
          end = k.2.0;
          named = k.2.1 ∙ ap (λ (l : List ℕ). name l k.2.0) bytes;
          content = is ∙ ap rdata (ap (λ (y : Record). y.rdata) same);
          within = k.3;
        }
    on f unfit e is g = let z : ◌≡◌ {A = ℕ} 0 1 = cc in absurd (omega arith)

    go : (a : (Option RecordAt)) → record_read p at ≡ a → record_meant p (bytes_of (name_at p at)) a ≡ item x next → RecordHere p at x next
    go (Some f) e g = on f (rdata_at p f) e refl g
    go None e g = let z : ◌≡◌ {A = ℕ} 0 1 = cc in absurd (omega arith)

-- What a caller learns at the cursor from the answer of `question_at` or `record_at`, in a section that has been checked.
module _ (p : List ℕ) (n at : ℕ) (xs : List Question) (end : ℕ) (h : list_from (question_at p) n at ≡ listing xs end) (lt : 0 < n) (a : (Option QuestionAt)) (is : a ≡ question_read p at) where
  pub question-never_malformed : a ≡ None → ⊥
  question-never_malformed e =
      let s = step (question_at p) n at xs end h lt in
      let k = question-here p at s.head s.next s.here in
      let f : Some k.fields ≡ None = sym k.found ∙ sym is ∙ e in
      let z : ◌≡◌ {A = ℕ} 0 1 = cc in omega arith

  -- the question at the cursor is the list's first, and the cursor goes on to the others
  pub question-met : (f : QuestionAt) → a ≡ Some f
      → (s : Step (question_at p) n at xs end) × (k : QuestionHere p at s.head s.next) × (k.fields ≡ f) × (list_from (question_at p) (n - 1) f.next ≡ listing s.rest end)
  question-met f e =
      let s = step (question_at p) n at xs end h lt in
      let k = question-here p at s.head s.next s.here in
      let g : Some k.fields ≡ Some f = sym k.found ∙ sym is ∙ e in
      let same : k.fields ≡ f = cc in
      (s, k, same, ap (list_from (question_at p) (n - 1)) (sym (ap (λ (y : QuestionAt). y.next) same) ∙ k.past) ∙ s.on)

module _ (p : List ℕ) (n at : ℕ) (xs : List Record) (end : ℕ) (h : list_from (record_at p) n at ≡ listing xs end) (lt : 0 < n) (a : (Option RecordAt)) (is : a ≡ record_read p at) where
  pub record_never_malformed : a ≡ None → ⊥
  record_never_malformed e =
      let s = step (record_at p) n at xs end h lt in
      let k = record_here p at s.head s.next s.here in
      let f : Some k.fields ≡ None = sym k.found ∙ sym is ∙ e in
      let z : ◌≡◌ {A = ℕ} 0 1 = cc in omega arith

  -- the record at the cursor is the list's first, and the cursor goes on to the others
  pub record_met : (f : RecordAt) → a ≡ Some f
      → (s : Step (record_at p) n at xs end) × (k : RecordHere p at s.head s.next) × (k.fields ≡ f) × (list_from (record_at p) (n - 1) f.next ≡ listing s.rest end)
  record_met f e =
      let s = step (record_at p) n at xs end h lt in
      let k = record_here p at s.head s.next s.here in
      let g : Some k.fields ≡ Some f = sym k.found ∙ sym is ∙ e in
      let same : k.fields ≡ f = cc in
      (s, k, same, ap (list_from (record_at p) (n - 1)) (sym (ap (λ (y : RecordAt). y.next) same) ∙ k.past) ∙ s.on)

-- The sections of a message that was read, each as the list that the message has.
pub record Sections (p : List ℕ) (l : Layout) (m : Message) : Type 0 where
  pub id : l.id ≡ m.id
  pub flags : l.flags ≡ m.flags
  pub questions : list_from (question_at p) l.questions.count l.questions.at ≡ listing m.questions l.answers.at
  pub answers : list_from (record_at p) l.answers.count l.answers.at ≡ listing m.answers l.authorities.at
  pub authorities : list_from (record_at p) l.authorities.count l.authorities.at ≡ listing m.authorities l.additionals.at
  pub additionals : list_from (record_at p) l.additionals.count l.additionals.at ≡ listing m.additionals l.end

-- a section that is followed by a message is whole
then_read : {A : Type 0} (x : Listing A) (next : List A → ℕ → Reads) (l : Layout) (says : Message) → and_then x next ≡ read l says
    → (xs : List A) × (e : ℕ) × (x ≡ listing xs e) × (next xs e ≡ read l says)
unfolding and_then
then_read (listing xs e) next l says h = (xs, e, refl, h)
then_read cut next l says h = let z : ◌≡◌ {A = ℕ} 0 1 = cc in absurd (omega arith)

-- the tests before the sections
past_tests : (p : List ℕ) (l : Layout) (says : Message) → message_at p ≡ read l says → sections_of p ≡ read l says
unfolding message_at
past_tests p l says h = go (wrong_length p) (wrong_header p) h
  where
    go : (a b : Bool) → cond a (refused Length) (cond b (refused Header) (sections_of p)) ≡ read l says → sections_of p ≡ read l says
    go true b e = let z : ◌≡◌ {A = ℕ} 0 1 = cc in absurd (omega arith)
    go false true e = let z : ◌≡◌ {A = ℕ} 0 1 = cc in absurd (omega arith)
    go false false e = e

pub sections : (p : List ℕ) (l : Layout) (says : Message) → message_at p ≡ read l says → Sections p l says
sections p l says h =
    let q = then_read _ _ l says (past_tests p l says h) in
    let a = then_read _ _ l says q.3 in
    let n = then_read _ _ l says a.3 in
    let r = then_read _ _ l says n.3 in
    let made : Layout = record {
      id = word16 p 0;
      flags = word16 p 2;
      questions = record { at = 12; count = word16 p 4 };
      answers = record { at = q.1; count = word16 p 6 };
      authorities = record { at = a.1; count = word16 p 8 };
      additionals = record { at = n.1; count = word16 p 10 };
      end = r.1;
    } in
    let said : Message = record { id = word16 p 0; flags = word16 p 2; questions = q.0; answers = a.0; authorities = n.0; additionals = r.0 } in
    let is : read made said ≡ read l says = r.3 in
    both made l (cc) said says (cc) (record { id = refl; flags = refl; questions = q.2; answers = a.2; authorities = n.2; additionals = r.2 })
  where
    both : (a b : Layout) → a ≡ b → (x y : Message) → x ≡ y → Sections p a x → Sections p b y
    both a b i x y j s = rw (sym i, sym j) s

-- What a caller of `read_message` learns from its answer.
pub as_read : (x : Reads) (a : (Result Layout Refusal)) (l : Layout) → a ≡ read_of x → a ≡ Ok l → (says : Message) × (x ≡ read l says)
as_read (read k says) a l h e = let i : k ≡ l = cc in (says, ap (λ (y : Layout). read y says) i)
as_read (refused n) a l h e = let z : ◌≡◌ {A = ℕ} 0 1 = cc in absurd (omega arith)

pub as_refused : (x : Reads) (a : Result Layout Refusal) (n : Refusal) → a ≡ read_of x → a ≡ Err n → x ≡ refused n
as_refused (read k says) a n h e = let z : ◌≡◌ {A = ℕ} 0 1 = cc in absurd (omega arith)
as_refused (refused k) a n h e = let i : k ≡ n = cc in ap refused i
