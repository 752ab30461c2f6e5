-- A record is read back. Assumes nothing.
use Prim.Native.Nat.{ℕ, ◌+◌, ◌/◌, ◌%◌, ◌<◌, ◌≤◌}
use mathlib.Core.Path.{◌≡◌, refl, ap, ap₂, ◌∙◌}
use mathlib.Core.List.{List, ◌++◌, append_assoc}
use mathlib.Core.Bool.{Bool, true}
use native.Mathlib.Omega.{arith}
use borrow.Author.Tests.{le-leb, lt-leb}
use lib.ListN.{length, drop, length-append}
use lib.Seq.{drop_at}
use Rattle.wire.specs.declared.names.Span.{Span}
use Rattle.wire.specs.names.Answers.{span_of}
use Rattle.wire.specs.octets.Octets.{word16, word32}
use Rattle.wire.specs.names.Names.{Reading, name, name_at, is_name}
use Rattle.wire.specs.rdata.Rdata.{rdata, rdata_at}
use Rattle.writer.specs.compression.Compression.{name_bytes, name_places}
use Rattle.writer.specs.compression.Sentence.{Rising}
use Rattle.writer.proofs.compression.Places.{rising_append}
use Rattle.writer.proofs.compression.Written.{written-rising}
use Rattle.wire.specs.message.Message.{Record, ttl_of}
use Rattle.wire.specs.message.Layout.{record_from, record_read, item, bytes_of, with_rdata, record_meant, record_at}
use Rattle.writer.specs.Fit.{form_for, is_shaped}
use Rattle.writer.specs.Items.{Writing, fields, data_bytes, searched, put_name, put_fields, put_record}
use Rattle.writer.proofs.Fitting.{fit_parts}
use Rattle.roundtrip.specs.Writable.{IsRecord}
use Rattle.roundtrip.proofs.Names.{word_at, lying, name-here, data_back}
use Rattle.roundtrip.proofs.Sound.{Sound, searched-rising}

-- a record from its parts
assemble : (P o D : List ℕ) (at E k c t n : ℕ) → name_at P at ≡ name o E → E + 10 + n ≤ length P → word16 P E ≡ k → word16 P (E + 2) ≡ c → word32 P (E + 4) ≡ t
    → t < 2147483648 → word16 P (E + 8) ≡ n → ((u : ℕ) (s : Span) (c t x : ℕ) → name_at P u ≡ name o E → rdata_at P (lying u s k c t (E + 10) n x) ≡ rdata D)
    → record_at P at ≡ item (record { owner = o; rtype = k; class = c; ttl = t; rdata = D }) (E + 10 + n)
unfolding record_at record_read
assemble P o D at E k c t n nm fits ek ec et st en ed =
    let long : E + 10 + word16 P (E + 8) ≤ length P = omega arith in
    let some : E + 10 ≤ length P = omega arith in
    let et' : ttl_of (word32 P (E + 4)) ≡ t = ap ttl_of et ∙ simp (lt-leb 2147483648 t st) in
    ap (λ (x : Reading). record_meant P (bytes_of x) (record_from P at x)) nm ∙ simp
    (le-leb (E + 10) (length P) some, le-leb (E + 10 + word16 P (E + 8)) (length P) long)
    (ap
    (with_rdata o (lying at (span_of o E) (word16 P E) (word16 P (E + 2)) (ttl_of (word32 P (E + 4))) (E + 10) (word16 P (E + 8)) (E + 10 + word16 P (E + 8))))
    (ap₂ (λ (x y : ℕ). rdata_at P (lying at (span_of o E) x (word16 P (E + 2)) (ttl_of (word32 P (E + 4))) (E + 10) y (E + 10 + word16 P (E + 8)))) ek en
    ∙ ed at (span_of o E) (word16 P (E + 2)) (ttl_of (word32 P (E + 4))) (E + 10 + word16 P (E + 8)) nm)
    ∙ λ i. item (record { owner = o; rtype = ek i; class = ec i; ttl = et' i; rdata = D }) (E + 10 + en i))

-- what follows the owner's name
fields_back : (p os : List ℕ) (m : ℕ) → Rising 12 m os → length p ≤ 16384 → (o post : List ℕ) (at k c t : ℕ) (d : List ℕ)
    → is_shaped o k d ≡ true → t < 2147483648
    → name_at (p ++ (fields k c t (length (data_bytes p os (form_for o k d) d)) ++ (data_bytes p os (form_for o k d) d ++ post))) at ≡ name o (length p)
    → record_at (p ++ (fields k c t (length (data_bytes p os (form_for o k d) d)) ++ (data_bytes p os (form_for o k d) d ++ post))) at
    ≡ item (record { owner = o; rtype = k; class = c; ttl = t; rdata = d }) (length p + 10 + length (data_bytes p os (form_for o k d) d))
fields_back p os m low small o post at k c t d ok st nm =
    assemble P o d at (length p) k c t (length D) nm long ek ec et st en (data_back p os m small low o F post refl k d ok)
  where
    D : List ℕ
    D = data_bytes p os (form_for o k d) d

    F : List ℕ
    F = fields k c t (length D)

    P : List ℕ
    P = p ++ (F ++ (D ++ post))

    left : drop (length p) P ≡ F ++ (D ++ post)
    left = drop_at p (F ++ (D ++ post)) (length p) refl

    long : length p + 10 + length D ≤ length P
    long = omega (arith, length-append p (F ++ (D ++ post)), length-append D post)

    ek : word16 P (length p) ≡ k
    ek = let z : length p + 0 ≡ length p = omega arith in rw z at (word_at P (F ++ (D ++ post)) (length p) left 0 k refl refl)

    ec : word16 P (length p + 2) ≡ c
    ec = word_at P (F ++ (D ++ post)) (length p) left 2 c refl refl

    et : word32 P (length p + 4) ≡ t
    et =
        let s : length p + 4 + 2 ≡ length p + 6 = omega arith in
        let a : word16 P (length p + 4) ≡ t / 65536 = word_at P (F ++ (D ++ post)) (length p) left 4 (t / 65536) refl refl in
        let b : word16 P (length p + 6) ≡ t % 65536 = word_at P (F ++ (D ++ post)) (length p) left 6 (t % 65536) refl refl in
        rw s (omega arith)

    en : word16 P (length p + 8) ≡ length D
    en = word_at P (F ++ (D ++ post)) (length p) left 8 (length D) refl refl

-- A record is read back, whatever follows it.
pub record_there : (whole : Bool) (w : Writing) → Sound w → (r : Record) → IsRecord r → length (put_name w r.owner).bytes ≤ 16384 → (post : List ℕ)
    → record_at ((put_record whole w r).bytes ++ post) (length w.bytes) ≡ item r (length (put_record whole w r).bytes)
unfolding put_name put_fields
record_there whole w sound r fit small post =
    ap (λ (P : List ℕ). record_at P (length p)) (append_assoc p₁ (F ++ D) post)
    ∙ fields_back p₁ os₂ (length p₁) (searched-rising whole r.rtype low₁) small r.owner post (length p) r.rtype r.class r.ttl r.rdata ok.1
    ok.3 owner_read
    ∙ ap (item r) total
  where
    ok : (is_name r.owner ≡ true) × (is_shaped r.owner r.rtype r.rdata ≡ true) × (length r.rdata ≤ 65535) × (r.ttl < 2147483648)
    ok = fit_parts r.owner r.rtype r.ttl r.rdata fit

    p : List ℕ
    p = w.bytes

    os : List ℕ
    os = w.places

    nb : List ℕ
    nb = name_bytes p os r.owner

    p₁ : List ℕ
    p₁ = p ++ nb

    os₁ : List ℕ
    os₁ = os ++ name_places p os (length p) r.owner

    os₂ : List ℕ
    os₂ = searched whole r.rtype os₁

    D : List ℕ
    D = data_bytes p₁ os₂ (form_for r.owner r.rtype r.rdata) r.rdata

    F : List ℕ
    F = fields r.rtype r.class r.ttl (length D)

    parts : length (p₁ ++ (F ++ D)) ≡ length p₁ + (10 + length D)
    parts = omega (arith, length-append p₁ (F ++ D))

    total : length p₁ + 10 + length D ≡ length (p₁ ++ (F ++ D))
    total = omega (arith, parts)

    low₁ : Rising 12 (length p₁) os₁
    low₁ = rw (length-append p nb) (rising_append sound (written-rising p os r.owner ok.0 (length p)))

    owner_read : name_at (p₁ ++ (F ++ (D ++ post))) (length p) ≡ name r.owner (length p₁)
    owner_read = name-here p os (length p) (omega (arith, small, length-append p nb)) sound (F ++ (D ++ post)) r.owner ok.0

pub record_back : (whole : Bool) (w : Writing) → Sound w → (r : Record) → IsRecord r → length (put_record whole w r).bytes ≤ 16384 → (post : List ℕ)
    → record_at ((put_record whole w r).bytes ++ post) (length w.bytes) ≡ item r (length (put_record whole w r).bytes)
unfolding put_fields
record_back whole w sound r ok small post =
    let v : Writing = put_name w r.owner in
    let D : List ℕ = data_bytes v.bytes (searched whole r.rtype v.places) (form_for r.owner r.rtype r.rdata) r.rdata in
    record_there whole w sound r ok (omega (arith, small, length-append v.bytes (fields r.rtype r.class r.ttl (length D) ++ D))) post
