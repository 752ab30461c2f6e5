-- A question is read back. Assumes nothing.
use Prim.Native.Nat.{ℕ, ◌+◌, ◌≤◌}
use mathlib.Core.Path.{◌≡◌, refl, ap, ◌∙◌}
use mathlib.Core.List.{List, ◌++◌, append_assoc}
use native.Mathlib.Omega.{arith}
use borrow.Author.Tests.{le-leb}
use lib.ListN.{length, drop, length-append}
use lib.Seq.{drop_at}
use Rattle.wire.specs.octets.Octets.{word16}
use Rattle.wire.specs.names.Names.{Reading, name_at}
use Rattle.writer.specs.compression.Compression.{name_bytes}
use Rattle.wire.specs.message.Message.{Question}
use Rattle.wire.specs.message.Layout.{question_from, question_read, item, bytes_of, question_meant, question_at}
use Rattle.writer.specs.Items.{Writing, u16, put_name, put_question}
use Rattle.writer.proofs.Use.{question-low}
use Rattle.roundtrip.specs.Writable.{IsQuestion}
use Rattle.roundtrip.proofs.Names.{word_at, name-here}
use Rattle.roundtrip.proofs.Sound.{Sound}

-- A question is read back, whatever follows it.
pub question-there : (w : Writing) → Sound w → (q : Question) → IsQuestion q → length w.bytes ≤ 16384 → (post : List ℕ)
    → question_at ((put_question w q).bytes ++ post) (length w.bytes) ≡ item q (length (put_question w q).bytes)
unfolding put_name question_at question_read
question-there w sound q ok small post =
    ap (λ (x : Reading). question_meant (bytes_of x) (question_from P (length p) x))
    (ap (λ (R : List ℕ). name_at R (length p)) shape ∙ name-here p w.places (length p) small sound (F ++ post) q.name ok)
    ∙ simp (le-leb (length p₁ + 4) (length P) (omega (arith, parts, length-append (p₁ ++ F) post)))
    (λ i. item (record { name = q.name; rtype = ek i; class = ec i }) (parts i))
  where
    p : List ℕ
    p = w.bytes

    nb : List ℕ
    nb = name_bytes p w.places q.name

    p₁ : List ℕ
    p₁ = p ++ nb

    F : List ℕ
    F = u16 q.rtype ++ u16 q.class

    P : List ℕ
    P = (p₁ ++ F) ++ post

    shape : P ≡ p₁ ++ (F ++ post)
    shape = append_assoc p₁ F post

    parts : length p₁ + 4 ≡ length (p₁ ++ F)
    parts = omega (arith, length-append p₁ F)

    left : drop (length p₁) P ≡ F ++ post
    left = ap (drop (length p₁)) shape ∙ drop_at p₁ (F ++ post) (length p₁) refl

    ek : word16 P (length p₁) ≡ q.rtype
    ek = let z : length p₁ + 0 ≡ length p₁ = omega arith in rw z at (word_at P (F ++ post) (length p₁) left 0 q.rtype refl refl)

    ec : word16 P (length p₁ + 2) ≡ q.class
    ec = word_at P (F ++ post) (length p₁) left 2 q.class refl refl

pub question-back : (w : Writing) → Sound w → (q : Question) → IsQuestion q → length (put_question w q).bytes ≤ 16384 → (post : List ℕ)
    → question_at ((put_question w q).bytes ++ post) (length w.bytes) ≡ item q (length (put_question w q).bytes)
question-back w sound q ok small post = question-there w sound q ok (omega (arith, small, question-low w q)) post
