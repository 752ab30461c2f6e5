-- In a packet under construction labels start at rising offsets past the header: a name, a record and a question keep it so. Assumes nothing.
use Prim.Native.Nat.{ℕ, ◌+◌, ◌≤◌}
use mathlib.Core.Path.{◌≡◌, refl}
use mathlib.Core.List.{List, [], ◌++◌}
use mathlib.Core.Bool.{Bool, true, false, cond, ◌&&◌}
use native.Mathlib.Omega.{arith}
use lib.Dec.{eqb}
use lib.ListN.{length, take, length-append}
use Rattle.wire.specs.names.Names.{is_name}
use Rattle.writer.specs.compression.Compression.{name_bytes}
use Rattle.writer.specs.compression.Sentence.{Rising, empty}
use Rattle.writer.proofs.compression.Places.{rising_le, rising_from, rising_to, rising_append}
use Rattle.writer.proofs.compression.Written.{written-rising}
use Rattle.wire.specs.message.Message.{Question, Record}
use Rattle.wire.specs.declared.rdata.Form.{Form}
use Rattle.writer.specs.Fit.{form_for, held_name, held_behind, holds_name}
use Rattle.writer.specs.Items.{Writing, u16, fields, data_bytes, data_places, searched, put_bytes, put_name, put_fields, put_record, put_question}
use Rattle.writer.proofs.Fitting.{fit_parts}
use Rattle.writer.proofs.Rdata.{shaped_holds, front_long, target_fits, target-bytes, target-places, plain-bytes, plain-places}
use Rattle.roundtrip.specs.Writable.{IsRecord, IsQuestion}

-- labels start at rising offsets past the header
abbrev pub Sound : Writing → Type 0
Sound w = Rising 12 (length w.bytes) w.places

-- those that are searched rise too
pub searched-rising : (whole : Bool) (k : ℕ) {m n : ℕ} {os : List ℕ} → Rising m n os → Rising m n (searched whole k os)
searched-rising whole k {m} {n} {os} up = go (whole && eqb k 33)
  where
    go : (b : Bool) → Rising m n (cond b [] os)
    go true = empty (rising_le up)
    go false = up

-- the labels in rdata start in the rdata
data_rising : (p os : List ℕ) (at : ℕ) (g : Form) (d : List ℕ) → (g.named ≡ true → holds_name g d ≡ true)
    → Rising at (at + length (data_bytes p os g d)) (data_places p os at g d)
data_rising p os at g d h = go g.named refl
  where
    go : (b : Bool) → g.named ≡ b → Rising at (at + length (data_bytes p os g d)) (data_places p os at g d)
    go true t =
        let n : ℕ = g.before in
        let N : List ℕ = name_bytes p os (held_name g d) in
        rw (target-bytes g d t p os, target-places g d t p os at)
        (rising_from at (omega arith)
        (rising_to (at + length (take n d ++ (N ++ held_behind g d)))
        (omega (arith, length-append (take n d) (N ++ held_behind g d), length-append N (held_behind g d), front_long g d (h t)))
        (written-rising p os (held_name g d) (target_fits g d (h t)).1 (at + n))))
    go false t = let e : at ≤ at + length d = omega arith in rw (plain-bytes g d t p os, plain-places g d t p os at) (empty e)

pub name-sound : (w : Writing) → Sound w → (bs : List ℕ) → is_name bs ≡ true → Sound (put_name w bs)
unfolding put_name
name-sound w sound bs ok =
    rw (length-append w.bytes (name_bytes w.bytes w.places bs)) (rising_append sound (written-rising w.bytes w.places bs ok (length w.bytes)))

fields-sound : (whole : Bool) (w : Writing) → Sound w → (r : Record) → IsRecord r → Sound (put_fields whole w r)
unfolding put_fields
fields-sound whole w sound r ok =
    rising_append sound
    (rising_from (length w.bytes) (omega arith)
    (rising_to (length (w.bytes ++ (F ++ D))) (omega (arith, length-append w.bytes (F ++ D)))
    (data_rising w.bytes os (length w.bytes + 10) g r.rdata (shaped_holds r.owner r.rtype r.rdata (fit_parts _ _ _ _ ok).1))))
  where
    os : List ℕ
    os = searched whole r.rtype w.places

    g : Form
    g = form_for r.owner r.rtype r.rdata

    D : List ℕ
    D = data_bytes w.bytes os g r.rdata

    F : List ℕ
    F = fields r.rtype r.class r.ttl (length D)

pub record_sound : (whole : Bool) (w : Writing) → Sound w → (r : Record) → IsRecord r → Sound (put_record whole w r)
record_sound whole w sound r ok = fields-sound whole (put_name w r.owner) (name-sound w sound r.owner (fit_parts _ _ _ _ ok).0) r ok

bytes_sound : (w : Writing) → Sound w → (bs : List ℕ) → Sound (put_bytes w bs)
bytes_sound w sound bs = rising_to (length (w.bytes ++ bs)) (omega (arith, length-append w.bytes bs)) sound

pub question-sound : (w : Writing) → Sound w → (q : Question) → IsQuestion q → Sound (put_question w q)
question-sound w sound q ok = bytes_sound (put_name w q.name) (name-sound w sound q.name ok) (u16 q.rtype ++ u16 q.class)
