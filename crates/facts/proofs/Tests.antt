-- The tests on a question or a record, one after the other. Assumes nothing.
use Rattle.std.specs.Prelude.{Some}
use mathlib.Core.Path.{◌≡◌, refl, sym, ap, ◌∙◌}
use mathlib.Core.List.{List}
use mathlib.Core.Bool.{Bool, false, and-false}
use Prim.Native.Nat.{ℕ}
use Rattle.wire.specs.case_folding.Fold.{same_name}
use Rattle.wire.specs.message.Message.{Question}
use lib.ListN.{length}
use Rattle.wire.specs.names.Names.{name_at}
use Rattle.wire.specs.names.Answers.{same_as, name_is}
use Rattle.wire.specs.message.Layout.{bytes_of, question_read}
use Rattle.wire.specs.message.Readable.{whole_read, record_shown}
use Rattle.wire.specs.declared.names.Span.{Span}
use Rattle.wire.specs.declared.message.QuestionAt.{QuestionAt}
use Rattle.wire.specs.declared.message.RecordAt.{RecordAt}
use Rattle.wire.proofs.case_folding.Equal.{same_lengths}
use Rattle.wire.proofs.message.Cursor.{question-fields}
use Rattle.wire.proofs.message.Walk.{record_found}
use Rattle.facts.specs.Found.{Long}
use Rattle.claims.specs.declared.records.Own.{Own}
use Rattle.own.specs.declared.records.Setup.{Setup}
use Rattle.own.specs.records.Records.{own_name}
use Rattle.facts.specs.Questions.{asks_by}
use Rattle.facts.specs.Facts.{type_asks, asks_own}

-- a type that does not ask for a record
pub asks-not : (s : Setup) (o : Own) (q : Question) (takes : Bool) → takes ≡ type_asks s o q.rtype → takes ≡ false → false ≡ asks_own s o q
asks-not s o q takes e f = sym (ap (λ (b : Bool). asks_by (own_name s o) b q) (sym e ∙ f) ∙ and-false (same_name q.name (own_name s o)))

-- a name and its length, of a question and of a record that were found; and one of another length is another name
pub question-long : (p : List ℕ) (at : ℕ) (f : QuestionAt) → question_read p at ≡ Some f → Long p f.name f.span.len
unfolding question_read
question-long p at f is =
    let k = question-fields p at (name_at p at) f is in
    (bytes_of (name_at p at), (k.2.0, (ap (name_at p) k.0 ∙ k.2.1, ap (λ (s : Span). s.len) k.1.1)))

pub record_long : (p : List ℕ) (at : ℕ) (f : RecordAt) → whole_read p at ≡ Some f → Long p f.owner f.span.len
record_long p at f is = let m = record_found p at _ (sym is) f refl in ((record_shown p f).owner, (m.end, (m.owner, m.span)))

pub other_length : (p : List ℕ) (at len : ℕ) (own : List ℕ) → Long p at len → (len ≡ length own → ⊥) → false ≡ name_is p at own
unfolding name_is
other_length p at len own k h =
    sym (ap (same_as own) k.1.1.0 ∙ same_lengths k.0 own (λ e. h (k.1.1.1 ∙ e)))
