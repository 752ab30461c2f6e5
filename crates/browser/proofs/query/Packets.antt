-- A packet that is composed is the packet of the message: those that fit are those that are listed, and the header is laid over at the end. Assumes nothing.
use mathlib.Core.Path.{◌≡◌, refl, sym, ap, ◌∙◌}
use mathlib.Core.List.{List, [], ◌∷◌, ◌++◌, append-nil, append_assoc}
use mathlib.Core.Bool.{Bool, true, false, cond, ◌&&◌}
use Prim.Native.Nat.{ℕ, ◌≤◌}
use native.Mathlib.Omega.{arith}
use lib.ListN.{length, drop}
use lib.Seq.{drop_at}
use lib.Dec.{ltb, leb}
use Rattle.wire.specs.message.Message.{Question, Record, Message}
use Rattle.writer.specs.compression.Sentence.{empty}
use Rattle.writer.specs.Items.{Writing, put_question, put_record}
use Rattle.writer.specs.own_packets.Packets.{put_all, header, header_bytes, packet_of}
use Rattle.roundtrip.specs.Writable.{Each, none, one, IsRecord, IsQuestion}
use Rattle.roundtrip.proofs.Sound.{Sound, question-sound}
use Rattle.roundtrip.proofs.Lists.{More, record_more, question-more}
use Rattle.browser.specs.query.Query.{query_of, fits, listed, packet_with}
use Rattle.browser.specs.query.Drafts.{no_header, goes_behind, fitted, filled}
use Rattle.browser.proofs.query.Headless.{Alike, records-alike, questions-alike}

-- bytes are only added
all_more : {A : Type 0} (put : Writing → A → Writing) → ((w : Writing) (x : A) → More w (put w x)) → (w : Writing) (xs : List A) → More w (put_all put w xs)
all_more put more w [] = ([], sym (append-nil w.bytes))
all_more put more w (x ∷ xs) =
    let f = more w x in
    let g = all_more put more (put w x) xs in
    (f.0 ++ g.0, g.1 ∙ ap (λ (l : List ℕ). l ++ g.0) f.1 ∙ append_assoc w.bytes f.0 g.0)

all_sound : {A : Type 0} (put : Writing → A → Writing) (Ok : A → Type 0) → ((w : Writing) → Sound w → (x : A) → Ok x → Sound (put w x))
    → {xs : List A} → Each Ok xs → (w : Writing) → Sound w → Sound (put_all put w xs)
all_sound put Ok keeps none w sound = sound
all_sound put Ok keeps (one {x = x} ok rest) w sound = all_sound put Ok keeps rest (put w x) (keeps w sound x ok)

-- one after the other
all_append : {A : Type 0} (put : Writing → A → Writing) (w : Writing) (xs ys : List A) → put_all put w (xs ++ ys) ≡ put_all put (put_all put w xs) ys
all_append put w [] ys = refl
all_append put w (x ∷ xs) ys = all_append put (put w x) xs ys

each_append : {xs ys : List Record} → Each IsRecord xs → Each IsRecord ys → Each IsRecord (xs ++ ys)
each_append none b = b
each_append (one ok a) b = one ok (each_append a b)

module _ (qs : List Question) (asked : Each IsQuestion qs) where
  -- behind no header
  opening : Writing
  opening = put_all put_question no_header qs

  pub opening_sound : Sound (put_all put_question no_header qs)
  opening_sound = let g : 12 ≤ 12 = omega arith in all_sound put_question IsQuestion question-sound asked no_header (empty g)

  module _ (truncated : Bool) (rs : List Record) (ok : Each IsRecord rs) where
    abbrev m : Message
    m = query_of qs truncated rs

    alike : Alike (put_all (put_record false) (put_all put_question no_header qs) rs) (put_all (put_record false) (put_all put_question (header m) qs) rs)
    alike =
        let g : 12 ≤ 12 = omega arith in
        let start : Alike no_header (header m) = record { long = g; size = refl; rest = refl; places = refl } in
        records-alike false ok (put_all put_question no_header qs) (put_all put_question (header m) qs)
        (questions-alike asked no_header (header m) start (empty g)) opening_sound

    -- the packet of the message has the bytes of its header, and then those that are composed
    pub packet_length : length (packet_of false (query_of qs truncated rs)) ≡ length (put_all (put_record false) (put_all put_question no_header qs) rs).bytes
    unfolding packet_of
    packet_length = sym alike.size

    pub packet_bytes_lem : header_bytes 0 (cond truncated 0x200 0) (length qs) (length rs) 0 0 ++ drop 12
        (put_all (put_record false) (put_all put_question no_header qs) rs).bytes
        ≡ packet_of false (query_of qs truncated rs)
    unfolding packet_of
    packet_bytes_lem =
        let q = all_more put_question question-more (header m) qs in
        let r = all_more (put_record false) (record_more false) (put_all put_question (header m) qs) rs in
        let h : List ℕ = header_bytes 0 (cond truncated 0x200 0) (length qs) (length rs) 0 0 in
        let whole : (put_all (put_record false) (put_all put_question (header m) qs) rs).bytes ≡ h ++ (q.0 ++ r.0) =
        r.1 ∙ ap (λ (l : List ℕ). l ++ r.0) q.1 ∙ append_assoc h q.0 r.0 in
        let behind : drop 12 (put_all (put_record false) (put_all put_question (header m) qs) rs).bytes ≡ q.0 ++ r.0 = ap (drop 12) whole
        ∙ drop_at h (q.0 ++ r.0) 12 refl in
        ap (λ (l : List ℕ). h ++ l) (alike.rest ∙ behind) ∙ sym whole

  -- those that are listed behind some are these and those that can be put
  pub listed-fitted : (before : List Record) → Each IsRecord before → {rs : List Record} → Each IsRecord rs
      → listed qs before rs ≡ before ++ fitted (put_all (put_record false) (put_all put_question no_header qs) before) rs
  unfolding listed fitted fits
  listed-fitted before had none = sym (append-nil before)
  listed-fitted before had (one {x = r} {xs = rs} ok rest) = go (leb (length (put_record false w r).bytes) 1452) refl
      (listed-fitted (before ++ (r ∷ [])) (each_append had (one ok none)) rest)
    where
      w : Writing
      w = put_all (put_record false) (put_all put_question no_header qs) before

      size : length (packet_of false (query_of qs false (before ++ (r ∷ [])))) ≡ length (put_record false w r).bytes
      size = packet_length false (before ++ (r ∷ [])) (each_append had (one ok none)) ∙ ap (λ (v : Writing). length v.bytes)
          (all_append (put_record false) (put_all put_question no_header qs) before (r ∷ []))

      go : (t : Bool) → leb (length (put_record false w r).bytes) 1452 ≡ t
          → listed qs (before ++ (r ∷ [])) rs ≡ (before ++ (r ∷ [])) ++ fitted (put_all (put_record false) (put_all put_question no_header qs)
          (before ++ (r ∷ []))) rs
          → cond (fits qs (before ++ (r ∷ []))) (listed qs (before ++ (r ∷ [])) rs) before
          ≡ before ++ cond (goes_behind w r) (r ∷ fitted (put_record false w r) rs) []
      go true e ih =
          let f : leb (length (packet_of false (query_of qs false (before ++ (r ∷ []))))) 1452 ≡ true = ap (λ (n : ℕ). leb n 1452) size ∙ e in
          let g : goes_behind w r ≡ true = ap (λ (c : Bool). c && leb (length (put_record false w r).bytes) 1452) ok ∙ e in
          ap (λ (c : Bool). cond c (listed qs (before ++ (r ∷ [])) rs) before) f ∙ ih ∙ append_assoc before (r ∷ []) _
          ∙ ap (λ (v : Writing). before ++ (r ∷ fitted v rs)) (all_append (put_record false) (put_all put_question no_header qs) before (r ∷ []))
          ∙ ap (λ (c : Bool). before ++ cond c (r ∷ fitted (put_record false w r) rs) []) (sym g)
      go false e ih =
          let f : leb (length (packet_of false (query_of qs false (before ++ (r ∷ []))))) 1452 ≡ false = ap (λ (n : ℕ). leb n 1452) size ∙ e in
          let g : goes_behind w r ≡ false = ap (λ (c : Bool). c && leb (length (put_record false w r).bytes) 1452) ok ∙ e in
          ap (λ (c : Bool). cond c (listed qs (before ++ (r ∷ [])) rs) before) f ∙ sym (append-nil before)
          ∙ ap (λ (c : Bool). before ++ cond c (r ∷ fitted (put_record false w r) rs) []) (sym g)

  pub listed-is : {rs : List Record} → Each IsRecord rs → listed qs [] rs ≡ fitted (put_all put_question no_header qs) rs
  listed-is ok = listed-fitted [] none ok

-- those that are put are among those that were to be
fitted-each : (w : Writing) {rs : List Record} → Each IsRecord rs → Each IsRecord (fitted w rs)
unfolding fitted
fitted-each w none = none
fitted-each w (one {x = r} {xs = rs} ok rest) = go (goes_behind w r) (fitted-each (put_record false w r) rest)
  where
    go : (t : Bool) → Each IsRecord (fitted (put_record false w r) rs) → Each IsRecord (cond t (r ∷ fitted (put_record false w r) rs) [])
    go true ih = one ok ih
    go false ih = none

-- the whole packet, from what is composed
pub packet_is : (qs : List Question) → Each IsQuestion qs → {rs : List Record} → Each IsRecord rs → (k : ℕ) (t : Bool)
    → k ≡ length (fitted (put_all put_question no_header qs) rs) → t ≡ ltb k (length rs)
    → header_bytes 0 (cond t 0x200 0) (length qs) k 0 0 ++ drop 12 (filled (put_all put_question no_header qs) rs).bytes ≡ packet_with qs rs
packet_is qs asked {rs} ok k t count cut =
    let w : Writing = put_all put_question no_header qs in
    let same : listed qs [] rs ≡ fitted w rs = listed-is qs asked ok in
    ap (λ (n : ℕ). header_bytes 0 (cond t 0x200 0) (length qs) n 0 0 ++ drop 12 (filled w rs).bytes) count
    ∙ packet_bytes_lem qs asked t (fitted w rs) (fitted-each w ok)
    ∙ ap (λ (b : Bool). packet_of false (query_of qs b (fitted w rs))) (cut ∙ ap (λ (n : ℕ). ltb n (length rs)) (count ∙ ap length (sym same)))
    ∙ ap (λ (xs : List Record). packet_of false (query_of qs (ltb (length (listed qs [] rs)) (length rs)) xs)) (sym same)
