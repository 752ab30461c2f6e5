-- The reply to a plain resolver: which question is written, and that one is written only where there is just one. Assumes nothing.
use Prim.Native.Nat.{ℕ, zero, suc, ◌-◌}
use mathlib.Core.Path.{◌≡◌, refl, sym, ap, ◌∙◌}
use mathlib.Core.List.{List, [], ◌∷◌}
use mathlib.Core.Bool.{Bool, true, false, cond}
use native.Mathlib.Omega.{arith}
use lib.ListN.{length, take, drop, replicate}
use lib.Seq.{take_at}
use Rattle.wire.specs.names.Names.{name, name_at, is_name}
use Rattle.wire.proofs.names.Plain.{expanded-is_name}
use Rattle.wire.proofs.names.InPlace.{first_plain}
use Rattle.wire.specs.octets.Octets.{word16}
use Rattle.wire.specs.names.Answers.{expanded}
use Rattle.wire.specs.declared.names.Expanded.{Expanded}
use Rattle.wire.specs.message.Message.{Question, Message}
use Rattle.wire.specs.message.Layout.{Item, Listing, listing, cut, list_from, question_read, question_at, record_at, Reads, read, refused, and_then, sections_of, wrong_length, wrong_header, message_at}
use Rattle.wire.specs.message.Readable.{message_in}
use Rattle.wire.specs.declared.message.QuestionAt.{QuestionAt}
use Rattle.std.specs.Prelude.{Option, Some, None, Result}
use Rattle.wire.specs.declared.refusals.Refusal.TheVariants.{Length, Header}
use Rattle.wire.specs.declared.message.Layout.{Layout}
use Rattle.wire.proofs.message.Cursor.{Step, step, done, QuestionHere, question-here, question-never_malformed, question-met, Sections, sections}
use Rattle.wire.proofs.message.Walk.{layout_shows}
use Rattle.own.specs.declared.records.Setup.{Setup}
use Rattle.claims.specs.declared.records.Set.{Set}
use Rattle.writer.specs.own_packets.Own.{plain_packet, length_of, refusal, unless_refused, answer_to, laid_over}
use Rattle.writer.specs.Writer.{question_of}
use Rattle.wire.specs.declared.refusals.Refusal.{Refusal}
use Rattle.responder.specs.Calls.{plain_for}
use Rattle.responder.proofs.Sending.{Wrote, wrote}

-- a section has as many items as its count says
pub section_length : {A : Type 0} (part : ℕ → Item A) (n at : ℕ) (xs : List A) (end : ℕ) → list_from part n at ≡ listing xs end → length xs ≡ n
section_length part zero at xs end h = ap length (done part 0 at xs end h (omega arith)).0
section_length part (suc n) at xs end h =
    let s = step part (suc n) at xs end h (omega arith) in
    let less : suc n - 1 ≡ n = omega arith in
    let on : list_from part n s.next ≡ listing s.rest end = ap (λ (k : ℕ). list_from part k s.next) (sym less) ∙ s.on in
    ap length s.list ∙ ap suc (section_length part n s.next s.rest end on)

-- where a message begins: its flags are the header's, and its questions stand behind that
abbrev Begins : List ℕ → Layout → Message → Type 0
Begins p l m = (m.flags ≡ word16 p 2) × (l.questions.at ≡ 12)

abbrev BeginsIf : List ℕ → Reads → Type 0
BeginsIf p (read l m) = Begins p l m
BeginsIf p (refused n) = Unit {0}

then_begins : {A : Type 0} (p : List ℕ) (x : Listing A) (next : List A → ℕ → Reads) → ((xs : List A) (e : ℕ) → BeginsIf p (next xs e)) → BeginsIf p (and_then x next)
unfolding and_then
then_begins p (listing xs e) next h = h xs e
then_begins p cut next h = tt

message_begins : (p : List ℕ) → BeginsIf p (message_at p)
unfolding message_at
message_begins p = go (wrong_length p) (wrong_header p)
  where
    sections_begin : BeginsIf p (sections_of p)
    sections_begin =
        then_begins p (list_from (question_at p) (word16 p 4) 12) _ (λ qs a.
        then_begins p (list_from (record_at p) (word16 p 6) a) _ (λ an b.
        then_begins p (list_from (record_at p) (word16 p 8) b) _ (λ ns c.
        then_begins p (list_from (record_at p) (word16 p 10) c) _ (λ ar e. (refl, refl)))))

    go : (a b : Bool) → BeginsIf p (cond a (refused Length) (cond b (refused Header) (sections_of p)))
    go true b = tt
    go false true = tt
    go false false = sections_begin

pub begins : (p : List ℕ) (l : Layout) (m : Message) → message_at p ≡ read l m → Begins p l m
begins p l m h = rw h at (message_begins p)

-- the first question of a message that was read is for a name, whose bytes lie in the packet as they were read
pub first-named : (p : List ℕ) (l : Layout) (m : Message) → message_at p ≡ read l m → (x : Question) (xs : List Question) → m.questions ≡ x ∷ xs
    → is_name x.name ≡ true
first-named p l m h x xs e =
    let listed = (sections p l m h).questions in
    let many : length m.questions ≡ l.questions.count = section_length (question_at p) l.questions.count l.questions.at m.questions l.answers.at listed in
    let s = step (question_at p) l.questions.count l.questions.at m.questions l.answers.at listed (omega (arith, many, ap length e)) in
    let k = question-here p l.questions.at s.head s.next s.here in
    let same : x ∷ xs ≡ s.head ∷ s.rest = sym e ∙ s.list in
    let is : s.head ≡ x = cc in
    ap (λ (y : Question). is_name y.name) (sym is) ∙ expanded-is_name p l.questions.at s.head.name k.end k.named

pub first-lies : (p : List ℕ) (l : Layout) (m : Message) → message_at p ≡ read l m → (x : Question) (xs : List Question) → m.questions ≡ x ∷ xs
    → take (length x.name) (drop 12 p) ≡ x.name
first-lies p l m h x xs e =
    let listed = (sections p l m h).questions in
    let many : length m.questions ≡ l.questions.count = section_length (question_at p) l.questions.count l.questions.at m.questions l.answers.at listed in
    let s = step (question_at p) l.questions.count l.questions.at m.questions l.answers.at listed (omega (arith, many, ap length e)) in
    let k = question-here p l.questions.at s.head s.next s.here in
    let same : x ∷ xs ≡ s.head ∷ s.rest = sym e ∙ s.list in
    let is : s.head ≡ x = cc in
    let there : name_at p 12 ≡ name x.name k.end =
    ap (name_at p) (sym (begins p l m h).1) ∙ k.named ∙ ap (λ (y : Question). name y.name k.end) is in
    (first_plain p x.name k.end there).1

module _ (setup : Setup) (set : Set) where
  none-for : (id : ℕ) (qs : List Question) → (length qs ≡ 1 → ⊥) → plain_for setup set id qs ≡ []
  none-for id [] h = refl
  none-for id (x ∷ []) h = absurd (h refl)
  none-for id (x ∷ (y ∷ ys)) h = refl

  module _ (p : List ℕ) (l : Layout) (known : (says : Message) × (message_at p ≡ read l says)) (out : List ℕ) where
    abbrev m : Message
    m = message_in p l

    abbrev Replies : ℕ → List ℕ → Type 0
    Replies n o = Wrote (plain_for setup set m.id m.questions) out n o

    same : m ≡ known.0
    same = layout_shows p l known.0 known.1

    parts : Sections p l known.0
    parts = sections p l known.0 known.1

    silent : plain_for setup set m.id m.questions ≡ [] → Replies 0 out
    silent e = (simp e, simp e)

    -- "Only a query of exactly one question is answered."
    pub not-one : (l.questions.count ≡ 1 → ⊥) → Replies 0 out
    not-one h =
        silent
        (ap (λ (x : Message). plain_for setup set x.id x.questions) same
        ∙ none-for known.0.id known.0.questions
        (λ e. h (sym (section_length (question_at p) l.questions.count l.questions.at known.0.questions l.answers.at parts.questions) ∙ e)))

    module _ (one : l.questions.count ≡ 1) (a : Option QuestionAt) (is : a ≡ question_read p l.questions.at) where
      pub unbroken : a ≡ None → Replies 0 out
      unbroken e =
          absurd
          (question-never_malformed p l.questions.count l.questions.at known.0.questions l.answers.at parts.questions (omega (arith, one)) a is e)

      module _ (f : QuestionAt) (found : a ≡ Some f) (e : Expanded) (opened : e ≡ expanded (name_at p f.name)) (bs : List ℕ)
          (part : bs ≡ take f.span.len (drop 0 e.bytes)) where
        module _ (s : Step (question_at p) l.questions.count l.questions.at known.0.questions l.answers.at)
            (k : QuestionHere p l.questions.at s.head s.next) (same-fields : k.fields ≡ f)
            (on : list_from (question_at p) (l.questions.count - 1) f.next ≡ listing s.rest l.answers.at) where
          only : known.0.questions ≡ s.head ∷ []
          only =
              s.list
              ∙ ap (λ (qs : List Question). s.head ∷ qs)
              (done (question_at p) (l.questions.count - 1) f.next s.rest l.answers.at on (omega (arith, one))).0

          bytes : bs ≡ s.head.name
          bytes =
              let there : name_at p f.name ≡ name s.head.name k.end =
              ap (name_at p) (ap (λ (y : QuestionAt). y.name) (sym same-fields) ∙ k.place) ∙ k.named in
              let long : length s.head.name ≡ f.span.len = sym k.span ∙ ap (λ (y : QuestionAt). y.span.len) same-fields in
              part ∙ ap (λ (y : Expanded). take f.span.len y.bytes) (opened ∙ ap expanded there)
              ∙ take_at s.head.name (replicate (255 - length s.head.name) 0) f.span.len long

          shown : question_of bs f.rtype f.class ≡ s.head
          shown =
              let t : f.rtype ≡ s.head.rtype = ap (λ (y : QuestionAt). y.rtype) (sym same-fields) ∙ k.rtype in
              let c : f.class ≡ s.head.class = ap (λ (y : QuestionAt). y.class) (sym same-fields) ∙ k.class in
              λ i. record { name = bytes i; rtype = t i; class = c i }

          is-packet : plain_for setup set m.id m.questions ≡ plain_packet setup set l.id (question_of bs f.rtype f.class)
          is-packet =
              ap (λ (x : Message). plain_for setup set x.id x.questions) same
              ∙ ap (plain_for setup set known.0.id) only
              ∙ λ i. plain_packet setup set (sym parts.id i) (sym shown i)

        pub replied :
            refusal setup out ≡ 0
            → (w : Result (Option ℕ) Refusal) (o : List ℕ) (r : ℕ)
            → (w ≡ answer_to setup out (plain_packet setup set l.id (question_of bs f.rtype f.class)))
            × (o ≡ laid_over (unless_refused (refusal setup out) (plain_packet setup set l.id (question_of bs f.rtype f.class))) out)
            → r ≡ length_of w
            → Replies r o
        replied fine w o r h e =
            let met =
            question-met p l.questions.count l.questions.at known.0.questions l.answers.at parts.questions (omega (arith, one)) a is f found in
            rw (is-packet met.0 met.1 met.2 met.3)
            (wrote setup out (plain_packet setup set l.id (question_of bs f.rtype f.class)) w o r fine h e)
