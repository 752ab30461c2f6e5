-- What the general writer says that it has put is read where it was put. Assumes nothing.
use Prim.Native.Nat.{ℕ, ◌≤◌}
use mathlib.Core.Path.{◌≡◌, refl, sym, ap, ap₂, ◌∙◌, subst}
use mathlib.Core.List.{List, [], ◌++◌, append-nil}
use mathlib.Core.Bool.{Bool, true, false}
use native.Mathlib.Omega.{arith}
use lib.ListN.{length, take, length-append, length-take}
use lib.Seq.{length-take-le}
use Rattle.wire.specs.message.Layout.{item, question_at, record_at}
use Rattle.writer.specs.compression.Compression.{name_bytes}
use Rattle.writer.specs.compression.Sentence.{Rising}
use Rattle.writer.proofs.compression.Written.{name-short}
use Rattle.writer.specs.declared.Spot.{Spot}
use Rattle.std.specs.Prelude.{Result, Ok, Err}
use Rattle.writer.specs.declared.Misfit.{Misfit}
use Rattle.writer.specs.Items.{Writing, put_name, put_question, put_record}
use Rattle.writer.specs.Writer.{held_in, spot_of, placed_of, Placing, Grown}
use Rattle.writer.proofs.Use.{is-done, is-grown, held-so}
use Rattle.writer.proofs.Parts.{NameRoom, record_room, question-front}
use Rattle.wire.specs.message.Message.{Question, Record}
use Rattle.wire.specs.message.Layout.{message_at}
use Rattle.writer.specs.own_packets.Packets.{put_all, packet_of, written}
use Rattle.roundtrip.specs.Writable.{IsQuestion, IsRecord, Each, none, one, Writable}
use Rattle.roundtrip.specs.Puts.{Buffers, held, QuestionPut, question_put, RecordPut, record_put, AllPut, no_more, one_more}
use Rattle.roundtrip.specs.Statements.{QuestionPutBack, RecordPutBack, MessagePutBack}
use Rattle.roundtrip.proofs.Whole.{message_back}
use Rattle.roundtrip.proofs.Sound.{Sound}
use Rattle.roundtrip.proofs.Records.{record_there}
use Rattle.roundtrip.proofs.Questions.{question-there}

abbrev spot_in : Result Spot Misfit → Spot
spot_in (Ok spot) = spot
spot_in (Err misfit) = spot_of 0 0

-- only what is fit and has room is put
module _ (fit fits : Bool) (v : Writing) (o pl : List ℕ) (spot : Spot) (o' pl' : List ℕ) (p : Placing fit fits v o pl (Ok spot) o' pl') where
  was_put : (fit ≡ true) × (fits ≡ true)
  was_put = go fit fits p.answer
    where
      go : (a b : Bool) → ◌≡◌ {A = Result Spot Misfit} (Ok spot) (placed_of a b v) → (a ≡ true) × (b ≡ true)
      go true true e = (refl, refl)
      go true false e = let z : ◌≡◌ {A = ℕ} 0 1 = cc in absurd (omega arith)
      go false b e = let z : ◌≡◌ {A = ℕ} 0 1 = cc in absurd (omega arith)

  grown : Grown v o pl spot o' pl'
  grown =
      subst (λ (x : Spot). Grown v o pl x o' pl') (sym (ap spot_in (is-done fit fits v o pl (Ok spot) o' pl' p was_put.0 was_put.1)))
      (is-grown fit fits v o pl (Ok spot) o' pl' p was_put.0 was_put.1)

-- the packet in front of the buffer
module _ (at count : ℕ) (name : List ℕ) (more also : ℕ) (o pl : List ℕ) (room : NameRoom at count name more also o pl) (up : Rising 12 at (take count pl)) where
  long : length (take at o) ≡ at
  long = length-take-le at o (omega (arith, room.room))

  held-sound : Sound (held_in o pl at count)
  held-sound = subst (λ (n : ℕ). Rising 12 n (take count pl)) (sym long) up

  held_small : length (put_name (held_in o pl at count) name).bytes ≤ 16384
  unfolding put_name
  held_small =
      omega (
        arith,
        room.small,
        long,
        length-append (take at o) (name_bytes (take at o) (take count pl) name),
        name-short (take at o) (take count pl) name
            room.named,
      )

pub question-put_back : QuestionPutBack
question-put_back o pl at count q spot o' pl' up p =
    let f = was_put _ _ _ o pl spot o' pl' p in
    let room = question-front at count q.name o pl (record { fit = f.0; fits = f.1 }) in
    ap₂ question_at (grown _ _ _ o pl spot o' pl' p).bytes (sym (long at count q.name 4 0 o pl room up))
    ∙ question-there (held_in o pl at count) (held-sound at count q.name 4 0 o pl room up) q f.0
    (omega (arith, room.small, long at count q.name 4 0 o pl room up)) _
    ∙ ap (item q) (sym (grown _ _ _ o pl spot o' pl' p).ended)

pub record_put_back : RecordPutBack
record_put_back whole o pl at count r spot o' pl' up p =
    let f = was_put _ _ _ o pl spot o' pl' p in
    let room = record_room at count r.owner r.rtype r.ttl r.rdata o pl (record { fit = f.0; fits = f.1 }) in
    ap₂ record_at (grown _ _ _ o pl spot o' pl' p).bytes (sym (long at count r.owner _ _ o pl room.front up))
    ∙ record_there whole (held_in o pl at count) (held-sound at count r.owner _ _ o pl room.front up) r f.0
    (held_small at count r.owner _ _ o pl room.front up) _
    ∙ ap (item r) (sym (grown _ _ _ o pl spot o' pl' p).ended)

-- ---- a message, call by call

question-step : (b : Buffers) (q : Question) (c : Buffers) → QuestionPut b q c → (held c ≡ put_question (held b) q) × IsQuestion q
question-step b q c (question_put spot o pl p) =
    (held-so _ b.out b.places spot o pl (grown _ _ _ b.out b.places spot o pl p), (was_put _ _ _ b.out b.places spot o pl p).0)

record_step : (whole : Bool) (b : Buffers) (r : Record) (c : Buffers) → RecordPut whole b r c → (held c ≡ put_record whole (held b) r) × IsRecord r
record_step whole b r c (record_put spot o pl p) =
    (held-so _ b.out b.places spot o pl (grown _ _ _ b.out b.places spot o pl p), (was_put _ _ _ b.out b.places spot o pl p).0)

module _ {A : Type 0} (put : Writing → A → Writing) (Put : Buffers → A → Buffers → Type 0) (Ok : A → Type 0)
    (step : (b : Buffers) (x : A) (c : Buffers) → Put b x c → (held c ≡ put (held b) x) × Ok x) where
  all-put : {b : Buffers} {xs : List A} {e : Buffers} → AllPut Put b xs e → (held e ≡ put_all put (held b) xs) × Each Ok xs
  all-put no_more = (refl, none)
  all-put (one_more {b = b} {c = c} {x = x} {xs = xs} p rest) =
      let f = step b x c p in
      let g = all-put rest in
      (g.0 ∙ ap (λ (w : Writing). put_all put w xs) f.0, one f.1 g.1)

pub message_put_back : MessagePutBack
unfolding packet_of
message_put_back whole m b e p plain most =
    let qs = all-put put_question QuestionPut IsQuestion question-step p.questions in
    let an = all-put (put_record whole) (RecordPut whole) IsRecord (record_step whole) p.answers in
    let ns = all-put (put_record whole) (RecordPut whole) IsRecord (record_step whole) p.authorities in
    let ar = all-put (put_record whole) (RecordPut whole) IsRecord (record_step whole) p.additionals in
    let put : Writing → List Record → Writing = put_all (put_record whole) in
    let ok : Writable m = record { plain = plain; questions = qs.1; answers = an.1; authorities = ns.1; additionals = ar.1 } in
    let all : held e ≡ written whole m =
    ar.0 ∙ ap (λ (w : Writing). put w m.additionals) (ns.0 ∙ ap (λ (w : Writing). put w m.authorities)
    (an.0 ∙ ap (λ (w : Writing). put w m.answers) (qs.0 ∙ ap (λ (w : Writing). put_all put_question w m.questions) p.headed))) in
    let bytes : take e.at e.out ≡ packet_of whole m ++ [] = ap (λ (w : Writing). w.bytes) all ∙ sym (append-nil (packet_of whole m)) in
    ap message_at bytes ∙ message_back whole m ok [] (omega (arith, most, ap length bytes, length-take e.at e.out))
