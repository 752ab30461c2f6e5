-- The round trip of a whole message: the packet that is written for it is read as it, whatever bytes follow. Assumes nothing.
use Prim.Native.Nat.{ℕ, ◌+◌, ◌/◌, ◌%◌, ◌≤◌}
use mathlib.Core.Path.{◌≡◌, refl, ap, ◌∙◌}
use mathlib.Core.List.{List, ◌++◌, append_assoc}
use mathlib.Core.Bool.{true}
use native.Mathlib.Omega.{arith}
use borrow.Author.Tests.{le-ltb}
use lib.ListN.{length, get_or, length-append}
use Rattle.wire.specs.octets.Octets.{word16}
use Rattle.writer.specs.compression.Sentence.{empty}
use Rattle.wire.specs.message.Message.{Question, Record}
use Rattle.wire.specs.message.Layout.{question_at, record_at, listing, list_from, read, plain_header, and_then, message_at}
use Rattle.writer.specs.Items.{Writing, put_record, put_question}
use Rattle.writer.specs.own_packets.Packets.{put_all, header, packet_of}
use Rattle.roundtrip.specs.Writable.{IsRecord, IsQuestion}
use Rattle.roundtrip.specs.Statements.{MessageBack}
use Rattle.roundtrip.proofs.Sound.{Sound, record_sound, question-sound}
use Rattle.roundtrip.proofs.Records.{record_back}
use Rattle.roundtrip.proofs.Questions.{question-back}
use Rattle.roundtrip.proofs.Lists.{More, record_more, question-more, all_sound, all_more, all_back}

-- a message from its sections
sections : (P : List ℕ) (i f nq na nn nr : ℕ) (qs : List Question) (an ns ar : List Record) (a b c d : ℕ) → 12 ≤ length P → length P ≤ 8972 → plain_header f ≡
    true
    → word16 P 0 ≡ i → word16 P 2 ≡ f → word16 P 4 ≡ nq → word16 P 6 ≡ na → word16 P 8 ≡ nn → word16 P 10 ≡ nr
    → list_from (question_at P) nq 12 ≡ listing qs a → list_from (record_at P) na a ≡ listing an b → list_from (record_at P) nn b ≡ listing ns c → list_from
    (record_at P) nr c ≡ listing ar d
    → message_at P
    ≡ read
    (record {
      id = i;
      flags = f;
      questions = record { at = 12; count = nq };
      answers = record { at = a; count = na };
      authorities = record { at = b; count = nn };
      additionals = record { at = c; count = nr };
      end = d;
    }) (record { id = i; flags = f; questions = qs; answers = an; authorities = ns; additionals = ar })
unfolding message_at and_then
sections P i f nq na nn nr qs an ns ar a b c d long most plain ei ef eq ea en er hq ha hn hr =
    let questions : list_from (question_at P) (word16 P 4) 12 ≡ listing qs a = ap (λ (n : ℕ). list_from (question_at P) n 12) eq ∙ hq in
    let answers : list_from (record_at P) (word16 P 6) a ≡ listing an b = ap (λ (n : ℕ). list_from (record_at P) n a) ea ∙ ha in
    let authorities : list_from (record_at P) (word16 P 8) b ≡ listing ns c = ap (λ (n : ℕ). list_from (record_at P) n b) en ∙ hn in
    let additionals : list_from (record_at P) (word16 P 10) c ≡ listing ar d = ap (λ (n : ℕ). list_from (record_at P) n c) er ∙ hr in
    simp (le-ltb (length P) 12 long, le-ltb 8972 (length P) most, ap plain_header ef ∙ plain, questions, answers, authorities, additionals)
    (λ j. read
    (record {
      id = ei j;
      flags = ef j;
      questions = record { at = 12; count = eq j };
      answers = record { at = a; count = ea j };
      authorities = record { at = b; count = en j };
      additionals = record { at = c; count = er j };
      end = d;
    }) (record { id = ei j; flags = ef j; questions = qs; answers = an; authorities = ns; additionals = ar }))

pub message_back : MessageBack
unfolding packet_of
message_back whole m ok post most =
    sections P m.id m.flags (length m.questions) (length m.answers) (length m.authorities) (length m.additionals) m.questions m.answers
    m.authorities m.additionals
    (length w₁.bytes) (length w₂.bytes) (length w₃.bytes) (length w₄.bytes) (omega (arith, ap length from-header, length-append w₀.bytes rest₀))
    most ok.plain
    (word 0 m.id refl refl) (word 2 m.flags refl refl) (word 4 (length m.questions) refl refl) (word 6 (length m.answers) refl refl)
    (word 8 (length m.authorities) refl refl) (word 10 (length m.additionals) refl refl)
    (all_back put_question question_at IsQuestion question-sound question-more question-back ok.questions w₀ s₀ (omega (arith, lengths, small)) P rest₁ to₁)
    (all_back (put_record whole) record_at IsRecord (record_sound whole) (record_more whole) (record_back whole) ok.answers w₁ s₁
    (omega (arith, lengths, small)) P rest₂ to₂)
    (all_back (put_record whole) record_at IsRecord (record_sound whole) (record_more whole) (record_back whole) ok.authorities w₂ s₂
    (omega (arith, lengths, small)) P rest₃ to₃)
    (all_back (put_record whole) record_at IsRecord (record_sound whole) (record_more whole) (record_back whole) ok.additionals w₃ s₃ (omega (arith, small)) P
    post refl)
  where
    w₀ : Writing
    w₀ = header m

    w₁ : Writing
    w₁ = put_all put_question w₀ m.questions

    w₂ : Writing
    w₂ = put_all (put_record whole) w₁ m.answers

    w₃ : Writing
    w₃ = put_all (put_record whole) w₂ m.authorities

    w₄ : Writing
    w₄ = put_all (put_record whole) w₃ m.additionals

    P : List ℕ
    P = w₄.bytes ++ post

    small : length w₄.bytes ≤ 8972
    small = omega (arith, most, length-append w₄.bytes post)

    s₀ : Sound w₀
    s₀ = let g : 12 ≤ 12 = omega arith in empty g

    s₁ : Sound w₁
    s₁ = all_sound put_question question_at IsQuestion question-sound question-more question-back ok.questions w₀ s₀

    s₂ : Sound w₂
    s₂ = all_sound (put_record whole) record_at IsRecord (record_sound whole) (record_more whole) (record_back whole) ok.answers w₁ s₁

    s₃ : Sound w₃
    s₃ = all_sound (put_record whole) record_at IsRecord (record_sound whole) (record_more whole) (record_back whole) ok.authorities w₂ s₂

    m₁ : More w₀ w₁
    m₁ = all_more put_question question_at IsQuestion question-sound question-more question-back w₀ m.questions

    m₂ : More w₁ w₂
    m₂ = all_more (put_record whole) record_at IsRecord (record_sound whole) (record_more whole) (record_back whole) w₁ m.answers

    m₃ : More w₂ w₃
    m₃ = all_more (put_record whole) record_at IsRecord (record_sound whole) (record_more whole) (record_back whole) w₂ m.authorities

    m₄ : More w₃ w₄
    m₄ = all_more (put_record whole) record_at IsRecord (record_sound whole) (record_more whole) (record_back whole) w₃ m.additionals

    rest₃ : List ℕ
    rest₃ = m₄.0 ++ post

    rest₂ : List ℕ
    rest₂ = m₃.0 ++ rest₃

    rest₁ : List ℕ
    rest₁ = m₂.0 ++ rest₂

    rest₀ : List ℕ
    rest₀ = m₁.0 ++ rest₁

    to₃ : P ≡ w₃.bytes ++ rest₃
    to₃ = ap (λ (l : List ℕ). l ++ post) m₄.1 ∙ append_assoc w₃.bytes m₄.0 post

    to₂ : P ≡ w₂.bytes ++ rest₂
    to₂ = to₃ ∙ ap (λ (l : List ℕ). l ++ rest₃) m₃.1 ∙ append_assoc w₂.bytes m₃.0 rest₃

    to₁ : P ≡ w₁.bytes ++ rest₁
    to₁ = to₂ ∙ ap (λ (l : List ℕ). l ++ rest₂) m₂.1 ∙ append_assoc w₁.bytes m₂.0 rest₂

    from-header : P ≡ w₀.bytes ++ rest₀
    from-header = to₁ ∙ ap (λ (l : List ℕ). l ++ rest₁) m₁.1 ∙ append_assoc w₀.bytes m₁.0 rest₁

    lengths : (length w₁.bytes ≤ length w₂.bytes) × (length w₂.bytes ≤ length w₃.bytes) × (length w₃.bytes ≤ length w₄.bytes)
    lengths = (
      omega (arith, ap length m₂.1, length-append w₁.bytes m₂.0),
      omega (arith, ap length m₃.1, length-append w₂.bytes m₃.0),
      omega (arith, ap length m₄.1, length-append w₃.bytes m₄.0),
    )

    word : (i n : ℕ) → get_or (w₀.bytes ++ rest₀) i 0 ≡ n / 256 → get_or (w₀.bytes ++ rest₀) (i + 1) 0 ≡ n % 256 → word16 P i ≡ n
    word i n a b =
        let x : get_or P i 0 ≡ n / 256 = ap (λ (l : List ℕ). get_or l i 0) from-header ∙ a in
        let y : get_or P (i + 1) 0 ≡ n % 256 = ap (λ (l : List ℕ). get_or l (i + 1) 0) from-header ∙ b in
        omega arith
