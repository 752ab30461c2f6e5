-- The packet of a message is laid out for it, every name cut as the specification's sentence says; and no other packet is. Assumes nothing.
use Prim.Native.Nat.{ℕ, ◌+◌, ◌≤◌}
use mathlib.Core.Path.{◌≡◌, refl, sym, ap, subst, ◌∙◌}
use mathlib.Core.List.{List, ◌++◌}
use mathlib.Core.Bool.{Bool, true, false}
use native.Mathlib.Omega.{arith}
use borrow.Author.Tests.{ltb-true, ltb-false}
use lib.Dec.{ltb}
use lib.ListN.{length, take, drop}
use Rattle.wire.specs.names.Names.{is_name}
use Rattle.wire.proofs.labels.Encoded.{made_of, encode-unique}
use Rattle.wire.specs.declared.rdata.Form.{Form}
use Rattle.wire.specs.message.Message.{Question, Record, Message}
use Rattle.writer.specs.compression.Compression.{name_bytes, name_places, pointer_to}
use Rattle.writer.specs.compression.Sentence.{Rising, empty, Stands, label_bytes, starts_at, Cuts, whole, cut}
use Rattle.writer.proofs.compression.AsSaid.{is_cut}
use Rattle.writer.specs.Fit.{form_for, held_name, held_behind, holds_name}
use Rattle.writer.specs.Items.{Writing, u16, fields, data_bytes, data_places, searched, put_bytes, put_name, put_fields, put_record, put_question}
use Rattle.writer.specs.own_packets.Packets.{put_all, header, written}
use Rattle.writer.proofs.Fitting.{fit_parts}
use Rattle.writer.proofs.Rdata.{shaped_holds, target_fits, target-bytes, target-places, plain-bytes, plain-places}
use Rattle.roundtrip.specs.Writable.{IsRecord, IsQuestion, Each, none, one, Writable}
use Rattle.roundtrip.specs.Composed.{behind, NameLaid, QuestionLaid, question, DataLaid, plain, target, RecordLaid, laid}
use Rattle.roundtrip.specs.Composed.{AllLaid, no_more, one_more, MessageLaid}
use Rattle.roundtrip.specs.Statements.{MessageComposed}
use Rattle.roundtrip.proofs.Sound.{Sound, searched-rising, name-sound, record_sound, question-sound}

-- ---- what is written is laid out so

name-laid : (w : Writing) (os : List ℕ) {n : ℕ} → Rising 12 n os → (at : ℕ) (bs : List ℕ) → is_name bs ≡ true
    → NameLaid w os at bs (name_bytes w.bytes os bs) (name_places w.bytes os at bs)
name-laid w os {n} up at bs ok =
    let m = made_of bs ok in
    record {
      labels = m.0;
      made = m.1.labels;
      spelt = m.2;
      cut = subst (λ (b : List ℕ). Cuts w.bytes os at m.0 (name_bytes w.bytes os b) (name_places w.bytes os at b)) (sym m.2)
          (is_cut w.bytes 12 n os up at m.0 m.1.labels);
    }

data_laid_lem : (uncut : Bool) (w : Writing) → Sound w → (k : ℕ) (g : Form) (d : List ℕ) → (g.named ≡ true → holds_name g d ≡ true)
    → DataLaid uncut w k g d (data_bytes w.bytes (searched uncut k w.places) g d)
    (data_places w.bytes (searched uncut k w.places) (length w.bytes + 10) g d)
data_laid_lem uncut w sound k g d h = go g.named refl
  where
    os : List ℕ
    os = searched uncut k w.places

    go : (b : Bool) → g.named ≡ b → DataLaid uncut w k g d (data_bytes w.bytes os g d) (data_places w.bytes os (length w.bytes + 10) g d)
    go true t =
        let f = target_fits g d (h t) in
        rw (target-bytes g d t w.bytes os, target-places g d t w.bytes os (length w.bytes + 10))
        (target t (name-laid w os (searched-rising uncut k sound) (length w.bytes + 10 + g.before) (held_name g d) f.1))
    go false t = rw (plain-bytes g d t w.bytes os, plain-places g d t w.bytes os (length w.bytes + 10)) (plain t)

record_laid : (uncut : Bool) (w : Writing) → Sound w → (r : Record) → IsRecord r → RecordLaid uncut w r (put_record uncut w r)
unfolding put_name put_fields
record_laid uncut w sound r fit =
    let ok = fit_parts r.owner r.rtype r.ttl r.rdata fit in
    laid (name-laid w w.places sound (length w.bytes) r.owner ok.0)
    (data_laid_lem uncut (put_name w r.owner) (name-sound w sound r.owner ok.0) r.rtype (form_for r.owner r.rtype r.rdata) r.rdata
    (shaped_holds r.owner r.rtype r.rdata ok.1))

question-laid : (w : Writing) → Sound w → (q : Question) → IsQuestion q → QuestionLaid w q (put_question w q)
unfolding put_name
question-laid w sound q ok = question (name-laid w w.places sound (length w.bytes) q.name ok)

module _ {A : Type 0} (put : Writing → A → Writing) (Laid : Writing → A → Writing → Type 0) (Ok : A → Type 0)
    (keeps : (w : Writing) → Sound w → (x : A) → Ok x → Sound (put w x)) (step : (w : Writing) → Sound w → (x : A) → Ok x → Laid w x (put w x)) where
  all : {xs : List A} → Each Ok xs → (w : Writing) → Sound w → Sound (put_all put w xs) × AllLaid Laid w xs (put_all put w xs)
  all none w s = (s, no_more)
  all (one {x} {xs} ok rest) w s = let f = all rest (put w x) (keeps w s x ok) in (f.0, one_more (step w s x ok) f.1)

message_laid : (uncut : Bool) (m : Message) → Writable m → MessageLaid uncut m (written uncut m)
message_laid uncut m ok =
    let start : Sound (header m) = (let g : 12 ≤ 12 = omega arith in empty g) in
    let a = all put_question QuestionLaid IsQuestion question-sound question-laid ok.questions (header m) start in
    let b = all (put_record uncut) (RecordLaid uncut) IsRecord (record_sound uncut) (record_laid uncut) ok.answers _ a.0 in
    let c = all (put_record uncut) (RecordLaid uncut) IsRecord (record_sound uncut) (record_laid uncut) ok.authorities _ b.0 in
    let d = all (put_record uncut) (RecordLaid uncut) IsRecord (record_sound uncut) (record_laid uncut) ok.additionals _ c.0 in
    record { asked = _; answered = _; authorized = _; questions = a.1; answers = b.1; authorities = c.1; additionals = d.1 }

-- ---- and nothing else is

-- the sentence leaves one way to write a name
cuts_unique : {p os : List ℕ} {at : ℕ} {ls : List (List ℕ)} {bs ps bs' ps' : List ℕ} → Cuts p os at ls bs ps → Cuts p os at ls bs' ps' → (bs ≡ bs') × (ps ≡ ps')
cuts_unique (whole n e f) (whole n' e' f') = (e ∙ sym e', f ∙ sym f')
cuts_unique (whole n e f) (cut k o h s l v e' f') = absurd (n k o h s)
cuts_unique (cut k o h s l v e f) (whole n e' f') = absurd (n k o h s)
cuts_unique {p} {os} {at} {ls} {bs} {ps} {bs'} {ps'} (cut k o h s l v e f) (cut k' o' h' s' l' v' e' f') = go (ltb k k') refl (ltb k' k) refl
  where
    go : (a : Bool) → ltb k k' ≡ a → (b : Bool) → ltb k' k ≡ b → (bs ≡ bs') × (ps ≡ ps')
    go true ea b eb = absurd (v' k o (ltb-true k k' ea) s)
    go false ea true eb = absurd (v k' o' (ltb-true k' k eb) s')
    go false ea false eb =
        let x : k' ≤ k = ltb-false k k' ea in
        let y : k ≤ k' = ltb-false k' k eb in
        let i : k ≡ k' = omega arith in
        let lo : o ≤ o' = l o' (subst (λ (j : ℕ). Stands p os (drop j ls) o') (sym i) s') in
        let hi : o' ≤ o = l' o (subst (λ (j : ℕ). Stands p os (drop j ls) o) i s) in
        let q : o ≡ o' = omega arith in
        let same : label_bytes (take k ls) ++ pointer_to o ≡ label_bytes (take k' ls) ++ pointer_to o' = λ j. label_bytes (take (i j) ls) ++ pointer_to (q j) in
        (e ∙ same ∙ sym e', f ∙ ap (λ (j : ℕ). take j (starts_at at ls)) i ∙ sym f')

name-unique : {w : Writing} {os : List ℕ} {at : ℕ} {name bs ps bs' ps' : List ℕ} → NameLaid w os at name bs ps → NameLaid w os at name bs' ps'
    → (bs ≡ bs') × (ps ≡ ps')
name-unique {w} {os} {at} {name} {bs} {ps} x y =
    let e : x.labels ≡ y.labels = encode-unique x.made y.made (sym x.spelt ∙ y.spelt) in
    cuts_unique (subst (λ (ls : List (List ℕ)). Cuts w.bytes os at ls bs ps) e x.cut) y.cut

question-unique : {w : Writing} {q : Question} {v v' : Writing} → QuestionLaid w q v → QuestionLaid w q v' → v ≡ v'
question-unique {w} {q} (question x) (question y) =
    let f = name-unique x y in
    λ i. put_bytes (behind w (f.0 i) (f.1 i)) (u16 q.rtype ++ u16 q.class)

data_unique : {uncut : Bool} {w : Writing} {k : ℕ} {g : Form} {d ds es ds' es' : List ℕ} → DataLaid uncut w k g d ds es → DataLaid uncut w k g d ds' es'
    → (ds ≡ ds') × (es ≡ es')
data_unique (plain t) (plain u) = (refl, refl)
data_unique (plain t) (target u y) = let z : ◌≡◌ {A = ℕ} 0 1 = cc in absurd (omega arith)
data_unique (target t x) (plain u) = let z : ◌≡◌ {A = ℕ} 0 1 = cc in absurd (omega arith)
data_unique {g = g} {d = d} (target t x) (target u y) =
    let f = name-unique x y in
    (ap (λ (b : List ℕ). take g.before d ++ (b ++ held_behind g d)) f.0, f.1)

record_unique : {uncut : Bool} {w : Writing} {r : Record} {v v' : Writing} → RecordLaid uncut w r v → RecordLaid uncut w r v' → v ≡ v'
record_unique {uncut} {w} {r} (laid {bs = bs} {ps = ps} x a) (laid {bs = bs'} {ps = ps'} {ds = ds'} {es = es'} y b) =
    let f = name-unique x y in
    let e : behind w bs ps ≡ behind w bs' ps' = λ i. behind w (f.0 i) (f.1 i) in
    let g = data_unique a (subst (λ (v : Writing). DataLaid uncut v r.rtype (form_for r.owner r.rtype r.rdata) r.rdata ds' es') (sym e) b) in
    λ i. behind (behind w (f.0 i) (f.1 i)) (fields r.rtype r.class r.ttl (length (g.0 i)) ++ g.0 i) (g.1 i)

module _ {A : Type 0} (Laid : Writing → A → Writing → Type 0) (unique : (w : Writing) (x : A) (v v' : Writing) → Laid w x v → Laid w x v' → v ≡ v') where
  all-unique : {w : Writing} {xs : List A} {u u' : Writing} → AllLaid Laid w xs u → AllLaid Laid w xs u' → u ≡ u'
  all-unique no_more no_more = refl
  all-unique {u' = u'} (one_more {w = w} {v = v} {x = x} {xs = xs} a more) (one_more {v = v'} b more') =
      all-unique more (subst (λ (t : Writing). AllLaid Laid t xs u') (sym (unique w x v v' a b)) more')

questions-unique : {w : Writing} {qs : List Question} {u u' : Writing} → AllLaid QuestionLaid w qs u → AllLaid QuestionLaid w qs u' → u ≡ u'
questions-unique a b = all-unique QuestionLaid (λ w q v v' x y. question-unique x y) a b

records-unique : {uncut : Bool} {w : Writing} {rs : List Record} {u u' : Writing} → AllLaid (RecordLaid uncut) w rs u
    → AllLaid (RecordLaid uncut) w rs u' → u ≡ u'
records-unique {uncut} a b = all-unique (RecordLaid uncut) (λ w r v v' x y. record_unique x y) a b

message_unique : (uncut : Bool) (m : Message) (w w' : Writing) → MessageLaid uncut m w → MessageLaid uncut m w' → w ≡ w'
message_unique uncut m w w' x y =
    let a = questions-unique x.questions y.questions in
    let b = records-unique x.answers (subst (λ (v : Writing). AllLaid (RecordLaid uncut) v m.answers y.answered) (sym a) y.answers) in
    let c = records-unique x.authorities
    (subst (λ (v : Writing). AllLaid (RecordLaid uncut) v m.authorities y.authorized) (sym b) y.authorities) in
    records-unique x.additionals (subst (λ (v : Writing). AllLaid (RecordLaid uncut) v m.additionals w') (sym c) y.additionals)

pub composed : MessageComposed
composed uncut m ok = (message_laid uncut m ok, λ w x. message_unique uncut m w (written uncut m) x (message_laid uncut m ok))
