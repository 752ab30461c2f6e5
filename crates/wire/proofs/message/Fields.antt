-- What the answer for a name makes of the question or record that it begins. Assumes nothing.
use Rattle.std.specs.Prelude.{None, Option, Some}
use mathlib.Core.Path.{◌≡◌, refl, sym, ap, ◌∙◌}
use mathlib.Core.List.{List}
use mathlib.Core.Bool.{Bool, true, false}
use Prim.Native.Nat.{ℕ, ◌+◌, ◌<◌, ◌≤◌}
use native.Mathlib.Omega.{arith}
use borrow.Author.Tests.{le-leb, lt-leb}
use lib.ListN.{length}
use Rattle.wire.specs.octets.Octets.{word16, word32}
use Rattle.wire.specs.names.Names.{name, malformed, name_at}
use Rattle.wire.specs.names.Answers.{span_of, found_of}
use Rattle.wire.specs.declared.names.Span.{Span}
use Rattle.wire.proofs.names.Use.{as_name, as_malformed}
use Rattle.wire.specs.rdata.Rdata.{Rdata, rdata, unfit, rdata_at}
use Rattle.wire.specs.rdata.Answers.{fits}
use Rattle.wire.specs.message.Message.{ttl_of}
use Rattle.wire.specs.message.Layout.{question_read, record_behind, record_from, record_read, question_at, record_at, with_rdata, bytes_of}
use Rattle.wire.specs.message.Places.{past_item}
use Rattle.wire.specs.declared.message.QuestionAt.{QuestionAt}
use Rattle.wire.specs.declared.message.RecordAt.{RecordAt}

-- a record is what stands behind its owner, and nothing behind a malformed one
pub behind-name : (p : List ℕ) (at : ℕ) (bs : List ℕ) (e : ℕ) → name_at p at ≡ name bs e → record_read p at ≡ record_behind p at (span_of bs e)
unfolding record_read
behind-name p at bs e is = ap (record_from p at) is

pub behind-malformed : (p : List ℕ) (at : ℕ) → name_at p at ≡ malformed → record_read p at ≡ None
unfolding record_read
behind-malformed p at is = ap (record_from p at) is

module _ (p : List ℕ) (at : ℕ) (n : (Option Span)) (h : n ≡ found_of (name_at p at)) where
  module _ (k : n ≡ None) where
    pub question-bad : None ≡ question_read p at
    unfolding question_read
    question-bad = simp (as_malformed (name_at p at) n h k)

    pub record_bad : None ≡ record_read p at
    record_bad = sym (behind-malformed p at (as_malformed (name_at p at) n h k))

  module _ (s : Span) (k : n ≡ Some s) where
    is : name_at p at ≡ name (as_name (name_at p at) n s h k).0 s.end
    is = (as_name (name_at p at) n s h k).1

    whole : span_of (as_name (name_at p at) n s h k).0 s.end ≡ s
    whole = sym (as_name (name_at p at) n s h k).3

    pub question-short : length p < s.end + 4 → None ≡ question_read p at
    unfolding question_read
    question-short l = simp (is, lt-leb _ _ l)

    pub question-found : (t c : ℕ) → t ≡ word16 p s.end → c ≡ word16 p (s.end + 2) → s.end + 4 ≤ length p
        → Some (record { name = at; span = s; rtype = t; class = c; next = s.end + 4 }) ≡ question_read p at
    unfolding question_read
    question-found t c et ec l =
        simp (is, le-leb _ _ l)
        (λ i. Some (record { name = at; span = sym whole i; rtype = et i; class = ec i; next = s.end + 4 }))

    -- the record is read from the owner's end on
    pub record_behind_lem : (a : (Option RecordAt)) → a ≡ record_behind p at s → a ≡ record_read p at
    record_behind_lem a b = b ∙ ap (record_behind p at) (sym whole) ∙ sym (behind-name p at _ _ is)

-- a record behind an owner whose span is known
module _ (p : List ℕ) (at : ℕ) (s : Span) where
  pub behind-short : length p < s.end + 10 → None ≡ record_behind p at s
  behind-short l = simp (lt-leb _ _ l)

  pub behind-over : s.end + 10 ≤ length p → length p < s.end + 10 + word16 p (s.end + 8) → None ≡ record_behind p at s
  behind-over l o = simp (le-leb _ _ l, lt-leb _ _ o)

  pub behind-found : (w t c v u : ℕ) → w ≡ word16 p (s.end + 8) → t ≡ word16 p s.end → c ≡ word16 p (s.end + 2) → v ≡ word32 p (s.end + 4) → u ≡ ttl_of v
      → s.end + 10 ≤ length p → s.end + 10 + w ≤ length p
      → Some (record { owner = at; span = s; rtype = t; class = c; ttl = u; rdata = s.end + 10; rdlength = w; next = s.end + 10 + w }) ≡ record_behind p at s
  behind-found w t c v u ew et ec ev eu l o =
      let o' : s.end + 10 + word16 p (s.end + 8) ≤ length p = omega arith in
      let ttl : u ≡ ttl_of (word32 p (s.end + 4)) = eu ∙ ap ttl_of ev in
      simp (le-leb _ _ l, le-leb _ _ o')
      (λ i. Some (record { owner = at; span = s; rtype = et i; class = ec i; ttl = ttl i; rdata = s.end + 10; rdlength = ew i; next = s.end + 10 + ew i }))

-- past a question, and past a record whose rdata fits
module _ (p : List ℕ) (at : ℕ) where
  pub past_question_bad : (a : (Option QuestionAt)) → a ≡ question_read p at → a ≡ None → None ≡ past_item (question_at p at)
  unfolding question_at
  past_question_bad a h k = rw (sym h ∙ k)

  pub past_question_found : (a : (Option QuestionAt)) (f : QuestionAt) → a ≡ question_read p at → a ≡ Some f → Some f.next ≡ past_item (question_at p at)
  unfolding question_at
  past_question_found a f h k = rw (sym h ∙ k)

  pub past_record_bad : (a : (Option RecordAt)) → a ≡ record_read p at → a ≡ None → None ≡ past_item (record_at p at)
  unfolding record_at
  past_record_bad a h k = rw (sym h ∙ k)

  module _ (a : (Option RecordAt)) (f : RecordAt) (h : a ≡ record_read p at) (k : a ≡ Some f) (v : Bool) (e : v ≡ fits (rdata_at p f)) where
    pub past_record_fits : v ≡ true → Some f.next ≡ past_item (record_at p at)
    unfolding record_at
    past_record_fits t = rw (sym h ∙ k) (go (rdata_at p f) (sym e ∙ t))
      where
        go : (x : Rdata) → fits x ≡ true → Some f.next ≡ past_item (with_rdata (bytes_of (name_at p at)) f x)
        go (rdata d) g = refl
        go unfit g = let z : ◌≡◌ {A = ℕ} 0 1 = cc in absurd (omega arith)

    pub past_record_unfit : v ≡ false → None ≡ past_item (record_at p at)
    unfolding record_at
    past_record_unfit t = rw (sym h ∙ k) (go (rdata_at p f) (sym e ∙ t))
      where
        go : (x : Rdata) → fits x ≡ false → None ≡ past_item (with_rdata (bytes_of (name_at p at)) f x)
        go (rdata d) g = let z : ◌≡◌ {A = ℕ} 0 1 = cc in absurd (omega arith)
        go unfit g = refl
