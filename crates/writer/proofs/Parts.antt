-- Records and questions written part by part: a name, ten or four bytes, and rdata. Assumes nothing.
use mathlib.Core.Path.{◌≡◌, refl, sym, ap, ap₂, ◌∙◌}
use mathlib.Core.List.{List, [], ◌++◌, append_assoc}
use mathlib.Core.Bool.{Bool, true, false, cond, ◌&&◌}
use Prim.Native.Nat.{ℕ, ◌+◌, ◌-◌, ◌<◌, ◌≤◌}
use native.Mathlib.Omega.{arith}
use borrow.Author.Tests.{leb-true}
use lib.ListN.{length, take, drop, length-append}
use lib.Seq.{sets, length-sets, length-take-le}
use lib.Dec.{leb, eqb}
use mathlib.Mathlib.Data.Bool.Basic.{and-eq-true-eq-eq-true-and-eq-true as both}
use Rattle.wire.proofs.octets.Sets.{sets-append}
use Rattle.wire.specs.names.Names.{is_name}
use Rattle.writer.specs.compression.Compression.{name_bytes, name_places}
use Rattle.wire.specs.labels.Counted.{labels_in}
use Rattle.writer.proofs.compression.Written.{name-short, places-few}
use Rattle.writer.specs.declared.Spot.{Spot}
use Rattle.writer.specs.Items.{u16, fields, data_bytes, data_places, searched, tried_for, put_name, put_fields, put_record, put_question}
use Rattle.wire.specs.message.Message.{record_of}
use Rattle.wire.specs.declared.rdata.Form.{Form}
use Rattle.writer.specs.Fit.{form_for, holds_name, is_shaped}
use Rattle.writer.specs.Writer.{held_in, spot_of, room_in, question_of, labels_for, name_fits, record_fits, Wrote, Grown}
use Rattle.writer.specs.Writer.{NameReady, DataReady, QuestionReady, RecordReady}
use Rattle.writer.proofs.Fitting.{fit_parts}
use Rattle.writer.proofs.Runs.{sets-swap, take-run, run-rest}
use Rattle.writer.proofs.Rdata.{shaped_holds, data_short, data_few}

-- five runs of two bytes
pub five : (o : List ℕ) (at a b c d e : ℕ) (o₁ o₂ o₃ o₄ o₅ : List ℕ) → o₁ ≡ sets o at (u16 a) → o₂ ≡ sets o₁ (at + 2) (u16 b) → o₃ ≡ sets o₂ (at + 4) (u16 c) →
    o₄ ≡ sets o₃ (at + 6) (u16 d)
    → o₅ ≡ sets o₄ (at + 8) (u16 e) → o₅ ≡ sets o at (u16 a ++ u16 b ++ (u16 c ++ u16 d) ++ u16 e)
five o at a b c d e o₁ o₂ o₃ o₄ o₅ h₁ h₂ h₃ h₄ h₅ =
    let s₂ : o₂ ≡ sets o at (u16 a ++ u16 b) = h₂ ∙ ap (λ (m : List ℕ). sets m (at + 2) (u16 b)) h₁ ∙ sets-append o at (u16 a) (u16 b) in
    let s₃ : o₃ ≡ sets o at (u16 a ++ u16 b ++ u16 c) = h₃ ∙ ap (λ (m : List ℕ). sets m (at + 4) (u16 c)) s₂ ∙ sets-append o at (u16 a ++ u16 b) (u16 c) in
    let s₄ : o₄ ≡ sets o at (u16 a ++ u16 b ++ u16 c ++ u16 d) = h₄ ∙ ap (λ (m : List ℕ). sets m (at + 6) (u16 d)) s₃ ∙ sets-append o at
    (u16 a ++ u16 b ++ u16 c) (u16 d) in
    h₅ ∙ ap (λ (m : List ℕ). sets m (at + 8) (u16 e)) s₄ ∙ sets-append o at (u16 a ++ u16 b ++ u16 c ++ u16 d) (u16 e)

-- the places that are tried are those that are searched, and none besides those noted
tried_searched : (whole : Bool) (rtype count t : ℕ) → t ≡ tried_for whole rtype count → (pl : List ℕ) → take t pl ≡ searched whole rtype (take count pl)
tried_searched whole rtype count t e pl = ap (λ (k : ℕ). take k pl) e ∙ go (whole && eqb rtype 33)
  where
    go : (b : Bool) → take (cond b 0 count) pl ≡ cond b [] (take count pl)
    go true = refl
    go false = refl

tried_few : (whole : Bool) (rtype count t : ℕ) → t ≡ tried_for whole rtype count → t ≤ count
tried_few whole rtype count t e = go (whole && eqb rtype 33) e
  where
    go : (b : Bool) → t ≡ cond b 0 count → t ≤ count
    go true e = omega arith
    go false e = omega arith

-- what fits
pub record NameRoom (at count : ℕ) (name : List ℕ) (more also : ℕ) (o pl : List ℕ) : Type 0 where
  pub named : is_name name ≡ true
  pub room : at + length name + more ≤ length o
  pub small : at + length name ≤ 16384
  pub slots : count + labels_in name + also ≤ length pl

pub name-room : (at count : ℕ) (name : List ℕ) (more also : ℕ) (o pl : List ℕ) → is_name name ≡ true
    → name_fits (room_in o pl at count) name more also ≡ true → NameRoom at count name more also o pl
unfolding name_fits
name-room at count name more also o pl named h =
    let g = (both (leb (at + length name + more) (length o)) (leb (at + length name) 16384 && leb (count + labels_in name + also) (length pl))).0 h in
    let k = (both (leb (at + length name) 16384) (leb (count + labels_in name + also) (length pl))).0 g.1 in
    record { named = named; room = leb-true _ _ g.0; small = leb-true _ _ k.0; slots = leb-true _ _ k.1 }

-- the name in front
module _ (at count : ℕ) (name : List ℕ) (more also : ℕ) (o pl : List ℕ) (nr : NameRoom at count name more also o pl) where
  pub name-ready : NameReady at at count count name o pl
  name-ready = record {
    named = nr.named;
    known_before = omega arith;
    known_small = omega (arith, nr.small);
    tried_noted = omega arith;
    room = omega (arith, nr.room);
    slots = omega (arith, nr.slots);
  }

  abbrev p : List ℕ
  p = take at o

  abbrev os : List ℕ
  os = take count pl

  long : length p ≡ at
  long = length-take-le at o (omega (arith, nr.room))

  moved : name_places p os (length p) name ≡ name_places p os at name
  moved = ap (λ (j : ℕ). name_places p os j name) long

  module _ (a : Spot) (o₁ pl₁ : List ℕ) (w₁ : Wrote (name_bytes p os name) (name_places p os at name) at count o pl a o₁ pl₁) where
    pub first-end : a.end ≤ at + length name
    first-end = omega (arith, w₁.ended, name-short p os name nr.named)

    pub first-low : at ≤ a.end
    first-low = omega (arith, w₁.ended)

    pub first_count : a.count ≤ count + labels_in name
    first_count = omega (arith, w₁.counted, places-few p os name at)

    pub first-length : length o₁ ≡ length o
    first-length = ap length w₁.bytes ∙ length-sets o at (name_bytes p os name)

    pub first-places : length pl₁ ≡ length pl
    first-places = ap length w₁.places ∙ length-sets pl count (name_places p os at name)

    pub first-room : a.end + more ≤ length o₁
    first-room = omega (arith, nr.room, first-end, first-length)

    -- the packet up to the name's end
    first-held : take a.end o₁ ≡ p ++ name_bytes p os name
    first-held = ap₂ take w₁.ended w₁.bytes ∙ take-run o at (name_bytes p os name) (omega (arith, nr.room, name-short p os name nr.named))

    first-noted : take a.count pl₁ ≡ os ++ name_places p os at name
    first-noted = ap₂ take w₁.counted w₁.places ∙ take-run pl count (name_places p os at name) (omega (arith, nr.slots, places-few p os name at))

    first-total : length (p ++ name_bytes p os name) ≡ a.end
    first-total = length-append p (name_bytes p os name) ∙ ap (λ (j : ℕ). j + length (name_bytes p os name)) long ∙ sym w₁.ended

    -- a question: four bytes more
    module _ (k c : ℕ) (o₂ : List ℕ) (w₂ : o₂ ≡ sets o₁ a.end (u16 k)) (enough : 4 ≤ more) where
      pub question-room : a.end + 4 ≤ length o₂
      question-room = omega (arith, first-room, ap length w₂, length-sets o₁ a.end (u16 k))

      pub question-grown : (o₃ : List ℕ) → o₃ ≡ sets o₂ (a.end + 2) (u16 c)
          → Grown (put_question (held_in o pl at count) (question_of name k c)) o pl (spot_of (a.end + 4) a.count) o₃ pl₁
      unfolding put_name
      question-grown o₃ w₃ = record {
        bytes = whole ∙ run-rest o at (nb ++ (u16 k ++ u16 c)) room ∙ ap (λ (x : List ℕ). x ++ drop (length x) o) (sym (append_assoc p nb (u16 k ++ u16 c)));
        places = w₁.places ∙ run-rest pl count np slots ∙ ap (λ (x : List ℕ). x ++ drop (length x) pl) same_spots;
        ended = omega (arith, w₁.ended, length-append (p ++ nb) (u16 k ++ u16 c), length-append p nb, long);
        counted = omega (arith, w₁.counted, ap length same_spots, length-append os np, length-take-le count pl (omega (arith, nr.slots)));
      }
        where
          nb : List ℕ
          nb = name_bytes p os name

          np : List ℕ
          np = name_places p os at name

          whole : o₃ ≡ sets o at (nb ++ (u16 k ++ u16 c))
          whole =
              w₃ ∙ ap (λ (m : List ℕ). sets m (a.end + 2) (u16 c)) w₂ ∙ sets-append o₁ a.end (u16 k) (u16 c)
              ∙ ap₂ (λ (m : List ℕ) (j : ℕ). sets m j (u16 k ++ u16 c)) w₁.bytes w₁.ended ∙ sets-append o at nb (u16 k ++ u16 c)

          room : at + length (nb ++ (u16 k ++ u16 c)) ≤ length o
          room = omega (arith, length-append nb (u16 k ++ u16 c), nr.room, name-short p os name nr.named)

          slots : count + length np ≤ length pl
          slots = omega (arith, nr.slots, places-few p os name at)

          same_spots : os ++ np ≡ os ++ name_places p os (length p) name
          same_spots = ap (λ (x : List ℕ). os ++ x) (sym moved)

    -- a record: ten bytes and the rdata
    module _ (rtype : ℕ) (d : List ℕ) (fits : is_shaped name rtype d ≡ true) (short : length d ≤ 65535) (em : more ≡ 10 + length d)
        (ea : also ≡ labels_for (form_for name rtype d) d) (whole : Bool) (t : ℕ) (et : t ≡ tried_for whole rtype a.count)
        (g : Form) (form_is : g ≡ form_for name rtype d) where
      holds : g.named ≡ true → holds_name g d ≡ true
      holds e =
          ap (λ (y : Form). holds_name y d) form_is ∙ shaped_holds name rtype d fits (sym (ap (λ (y : Form). y.named) form_is) ∙ e)

      few : also ≡ labels_for g d
      few = ea ∙ ap (λ (y : Form). labels_for y d) (sym form_is)

      pub data_ready : DataReady a.end (a.end + 10) a.count t g d o₁ pl₁
      data_ready = record {
        shaped = holds;
        known_before = omega arith;
        known_small = omega (arith, nr.small, first-end);
        tried_noted = tried_few whole rtype a.count t et;
        room = omega (arith, first-room);
        slots = omega (arith, nr.slots, first_count, first-places, few);
      }

      abbrev P : List ℕ
      P = take a.end o₁

      abbrev OS : List ℕ
      OS = take t pl₁

      module _ (b : Spot) (o₂ pl₂ : List ℕ) (w₂ : Wrote (data_bytes P OS g d) (data_places P OS (a.end + 10) g d) (a.end + 10) a.count o₁ pl₁ b o₂
          pl₂) where
        pub second_low : a.end + 10 ≤ b.end
        second_low = omega (arith, w₂.ended)

        pub data_fits : b.end - (a.end + 10) < 65536
        data_fits = omega (arith, w₂.ended, data_short g d holds P OS)

        pub fields-room : a.end + 10 ≤ length o₂
        fields-room = omega (arith, first-room, ap length w₂.bytes, length-sets o₁ (a.end + 10) (data_bytes P OS g d))

        pub record_grown : (class ttl : ℕ) (o₃ : List ℕ) → o₃ ≡ sets o₂ a.end (fields rtype class ttl (b.end - (a.end + 10)))
            → Grown (put_record whole (held_in o pl at count) (record_of name rtype class ttl d)) o pl b o₃ pl₂
        unfolding put_name put_fields
        record_grown class ttl o₃ w₃ = record {
          bytes = run ∙ run-rest o at (nb ++ (F ++ D)) room ∙ ap (λ (x : List ℕ). x ++ drop (length x) o) (sym (append_assoc p nb (F ++ D)));
          places = noted ∙ run-rest pl count (np ++ np₂) slots ∙ ap (λ (x : List ℕ). x ++ drop (length x) pl) (sym (append_assoc os np np₂) ∙ same_spots);
          ended = omega (arith, w₂.ended, ap length same_data, length-append p₁ (F ++ D), first-total);
          counted =
              omega (
                arith,
                w₂.counted,
                ap length same_places,
                w₁.counted,
                length-append (os ++ np) np₂,
                length-append os np,
                length-take-le count pl
                    (omega (arith, nr.slots)),
                ap length same_spots,
              );
        }
          where
            nb : List ℕ
            nb = name_bytes p os name

            np : List ℕ
            np = name_places p os at name

            p₁ : List ℕ
            p₁ = p ++ nb

            os₁ : List ℕ
            os₁ = os ++ name_places p os (length p) name

            os₂ : List ℕ
            os₂ = searched whole rtype os₁

            held : OS ≡ os₂
            held =
                tried_searched whole rtype a.count t et pl₁
                ∙ ap (searched whole rtype) (first-noted ∙ ap (λ (x : List ℕ). os ++ x) (sym moved))

            D : List ℕ
            D = data_bytes p₁ os₂ (form_for name rtype d) d

            same_data : data_bytes P OS g d ≡ D
            same_data = ap₂ (λ (x y : List ℕ). data_bytes x y g d) first-held held ∙ ap (λ (y : Form). data_bytes p₁ os₂ y d) form_is

            np₂ : List ℕ
            np₂ = data_places p₁ os₂ (a.end + 10) (form_for name rtype d) d

            same_places : data_places P OS (a.end + 10) g d ≡ np₂
            same_places =
                ap₂ (λ (x y : List ℕ). data_places x y (a.end + 10) g d) first-held held ∙ ap (λ (y : Form). data_places p₁ os₂ (a.end + 10) y d) form_is

            F : List ℕ
            F = fields rtype class ttl (length D)

            counted-data : b.end - (a.end + 10) ≡ length D
            counted-data = omega (arith, w₂.ended, ap length same_data)

            run : o₃ ≡ sets o at (nb ++ (F ++ D))
            run =
                w₃ ∙ ap₂ (λ (m : List ℕ) (n : ℕ). sets m a.end (fields rtype class ttl n)) (w₂.bytes ∙ ap (sets o₁ (a.end + 10)) same_data) counted-data
                ∙ sets-swap o₁ a.end F (a.end + 10) D (omega arith) ∙ sets-append o₁ a.end F D
                ∙ ap₂ (λ (m : List ℕ) (j : ℕ). sets m j (F ++ D)) w₁.bytes w₁.ended ∙ sets-append o at nb (F ++ D)

            noted : pl₂ ≡ sets pl count (np ++ np₂)
            noted =
                w₂.places ∙ ap (sets pl₁ a.count) same_places ∙ ap₂ (λ (m : List ℕ) (j : ℕ). sets m j np₂) w₁.places w₁.counted ∙ sets-append pl count
                np np₂

            room : at + length (nb ++ (F ++ D)) ≤ length o
            room =
                let held = shaped_holds name rtype d fits in
                omega (arith, length-append nb (F ++ D), nr.room, name-short p os name nr.named, data_short (form_for name rtype d) d held p₁ os₂)

            slots : count + length (np ++ np₂) ≤ length pl
            slots =
                let held = shaped_holds name rtype d fits in
                omega (arith, length-append np np₂, nr.slots, ea, places-few p os name at, data_few (form_for name rtype d) d held p₁ os₂ (a.end + 10))

            same_spots : (os ++ np) ++ np₂ ≡ os₁ ++ data_places p₁ os₂ (length p₁ + 10) (form_for name rtype d) d
            same_spots = ap₂ (λ (x : List ℕ) (j : ℕ). (os ++ x) ++ data_places p₁ os₂ (j + 10) (form_for name rtype d) d) (sym moved) (sym first-total)

-- a record that is fit and has room
pub record RecordRoom (at count : ℕ) (owner : List ℕ) (rtype : ℕ) (d o pl : List ℕ) : Type 0 where
  pub shaped : is_shaped owner rtype d ≡ true
  pub short : length d ≤ 65535
  pub front : NameRoom at count owner (10 + length d) (labels_for (form_for owner rtype d) d) o pl

pub record_room : (at count : ℕ) (owner : List ℕ) (rtype ttl : ℕ) (d o pl : List ℕ) → RecordReady (room_in o pl at count) owner rtype ttl d
    → RecordRoom at count owner rtype d o pl
unfolding record_fits
record_room at count owner rtype ttl d o pl ready =
    let f = fit_parts owner rtype ttl d ready.fit in
    record { shaped = f.1; short = f.2; front = name-room at count owner (10 + length d) (labels_for (form_for owner rtype d) d) o pl f.0 ready.fits }

pub question-front : (at count : ℕ) (name o pl : List ℕ) → QuestionReady (room_in o pl at count) name → NameRoom at count name 4 0 o pl
question-front at count name o pl ready = name-room at count name 4 0 o pl ready.fit ready.fits
