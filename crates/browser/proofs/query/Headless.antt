-- What stands in the header does not enter into how names are cut: two packets that differ there alone are continued alike. Assumes nothing.
use Rattle.std.proofs.Common.{Option, Some}
use mathlib.Core.Path.{◌≡◌, refl, sym, ap, ◌∙◌}
use mathlib.Core.List.{List, [], ◌∷◌, ◌++◌}
use mathlib.Core.Bool.{Bool, cond, ◌&&◌}
use Prim.Native.Nat.{ℕ, zero, suc, ◌+◌, ◌-◌, ◌*◌, ◌%◌, ◌≤◌}
use native.Mathlib.Omega.{arith}
use lib.ListN.{length, get_or, take, drop, length-append}
use lib.Seq.{get_or-drop, drop-drop, drop-append-le}
use lib.Dec.{ltb, leb, eqb}
use Rattle.wire.specs.name_pieces.Pieces.{piece_at}
use Rattle.wire.specs.declared.name_pieces.Piece.{Piece}
use Rattle.wire.specs.declared.name_pieces.Piece.TheVariants.{Root, Label, Pointer, Bad}
use Rattle.wire.specs.names.Names.{before, ending, read_piece, read_from, from_run, name_at}
use Rattle.wire.proofs.name_pieces.Pieces.{pointer_far}
use Rattle.wire.specs.message.Message.{Question, Record}
use Rattle.wire.specs.declared.rdata.Form.{Form}
use Rattle.wire.specs.labels.Counted.{starts}
use Rattle.writer.specs.declared.compression.Cut.{Cut}
use Rattle.writer.specs.compression.Compression.{is_read, stands_at, place_of, onward, cut_here, cut_from, end_of, name_bytes, name_places}
use Rattle.writer.specs.compression.Sentence.{Rising, empty, next}
use Rattle.writer.specs.Fit.{form_for, held_name, held_behind}
use Rattle.writer.specs.Items.{Writing, u16, fields, data_bytes, data_places, searched, put_name, put_fields, put_record, put_question}
use Rattle.writer.specs.own_packets.Packets.{put_all}
use Rattle.writer.proofs.Fitting.{fit_parts}
use Rattle.roundtrip.specs.Writable.{Each, none, one, IsRecord, IsQuestion}
use Rattle.roundtrip.proofs.Sound.{Sound, name-sound, record_sound, question-sound, searched-rising}

-- ---- reading

module _ (p q : List ℕ) (same_length : length p ≡ length q) (same_rest : drop 12 p ≡ drop 12 q) where
  byte_same : (at : ℕ) → 12 ≤ at → get_or p at 0 ≡ get_or q at 0
  byte_same at far =
      let k : 12 + (at - 12) ≡ at = omega arith in
      ap (λ (j : ℕ). get_or p j 0) (sym k) ∙ sym (get_or-drop 12 p (at - 12) 0) ∙ ap (λ (l : List ℕ). get_or l (at - 12) 0) same_rest
      ∙ get_or-drop 12 q (at - 12) 0 ∙ ap (λ (j : ℕ). get_or q j 0) k

  part_same : (at n : ℕ) → 12 ≤ at → take n (drop at p) ≡ take n (drop at q)
  part_same at n far =
      let k : 12 + (at - 12) ≡ at = omega arith in
      ap (λ (j : ℕ). take n (drop j p)) (sym k) ∙ ap (take n) (sym (drop-drop (at - 12) 12 p)) ∙ ap (λ (l : List ℕ). take n (drop (at - 12) l)) same_rest
      ∙ ap (take n) (drop-drop (at - 12) 12 q) ∙ ap (λ (j : ℕ). take n (drop j q)) k

  -- a piece is told by the packet's length and two bytes
  abbrev piece_of : ℕ → ℕ → ℕ → ℕ → ℕ → ℕ → Piece
  piece_of size x y start at used =
      cond (ltb at size)
      (cond (eqb x 0) Root
      (cond (ltb x 64) (cond (leb (at + 1 + x) size && ltb (used + 1 + x) 255) (Label x) Bad)
      (cond (ltb x 192) Bad
      (cond (ltb (at + 1) size && leb 12 (x % 64 * 256 + y) && ltb (x % 64 * 256 + y) start) (Pointer (x % 64 * 256 + y)) Bad))))
      Bad

  piece_same : (start at used : ℕ) → 12 ≤ at → piece_at p start at used ≡ piece_at q start at used
  unfolding piece_at
  piece_same start at used far =
      let far₁ : 12 ≤ at + 1 = omega arith in
      ap (λ (n : ℕ). piece_of n (get_or p at 0) (get_or p (at + 1) 0) start at used) same_length
      ∙ ap (λ (x : ℕ). piece_of (length q) x (get_or p (at + 1) 0) start at used) (byte_same at far)
      ∙ ap (λ (y : ℕ). piece_of (length q) (get_or q at 0) y start at used) (byte_same (at + 1) far₁)

  from-same : (n start at used : ℕ) → 12 ≤ at → read_from n p start at used ≡ read_from n q start at used
  unfolding read_from
  from-same zero start at used far = refl
  from-same (suc n) start at used far =
      ap (read_piece (read_from n p) p start at used) (piece_same start at used far) ∙ go (from-same n) (piece_at q start at used) refl
    where
      go : ((start at used : ℕ) → 12 ≤ at → read_from n p start at used ≡ read_from n q start at used) → (x : Piece) → piece_at q start at used ≡ x
          → read_piece (read_from n p) p start at used x ≡ read_piece (read_from n q) q start at used x
      go ih Root e = refl
      go ih (Label k) e =
          ap (λ (l : List ℕ). before l (read_from n p start (at + 1 + k) (used + 1 + k))) (part_same at (k + 1) far)
          ∙ ap (before (take (k + 1) (drop at q))) (ih start (at + 1 + k) (used + 1 + k) (omega arith))
      go ih (Pointer t) e = ap (ending (at + 2)) (ih t t used (pointer_far q start at used t e))
      go ih Bad e = refl

  stands_same : (s : List ℕ) (o : ℕ) → 12 ≤ o → stands_at p s o ≡ stands_at q s o
  unfolding stands_at name_at from_run
  stands_same s o far = ap (is_read s) (from-same (o + 256) o o 0 far)

  place_same : (s : List ℕ) {m n : ℕ} {os : List ℕ} → 12 ≤ m → Rising m n os → place_of p s os ≡ place_of q s os
  unfolding place_of
  place_same s far (empty l) = refl
  place_same s far (next {o = o} {os = os} l rest) =
      ap (λ (b : Bool). cond b (Some o) (place_of p s os)) (stands_same s o (omega arith))
      ∙ ap (cond (stands_at q s o) (Some o)) (place_same s (omega arith) rest)

  cut-same : {m n : ℕ} {os : List ℕ} → 12 ≤ m → Rising m n os → (k : ℕ) (bs : List ℕ) → cut_from p os k bs ≡ cut_from q os k bs
  unfolding cut_from
  cut-same far up k [] = refl
  cut-same far up (suc k) (b ∷ bs) = ap onward (cut-same far up k bs)
  cut-same far up zero (zero ∷ bs) = refl
  cut-same {os = os} far up zero (suc n ∷ bs) =
      ap (λ (x : Option ℕ). cut_here x (onward (cut_from p os (suc n) bs))) (place_same (suc n ∷ bs) far up)
      ∙ ap (λ (c : Cut). cut_here (place_of q (suc n ∷ bs) os) (onward c)) (cut-same far up (suc n) bs)

  name-same : {n : ℕ} {os : List ℕ} → Rising 12 n os → (bs : List ℕ) → name_bytes p os bs ≡ name_bytes q os bs
  unfolding name_bytes
  name-same up bs = ap (λ (c : Cut). take c.kept bs ++ end_of c.place) (cut-same (omega arith) up 0 bs)

  places_same : {n : ℕ} {os : List ℕ} → Rising 12 n os → (at : ℕ) (bs : List ℕ) → name_places p os at bs ≡ name_places q os at bs
  unfolding name_places
  places_same up at bs = ap (λ (c : Cut). starts at 0 (take c.kept bs)) (cut-same (omega arith) up 0 bs)

  data_same : {n : ℕ} {os : List ℕ} → Rising 12 n os → (g : Form) (d : List ℕ) → data_bytes p os g d ≡ data_bytes q os g d
  unfolding data_bytes
  data_same up g d = ap (λ (l : List ℕ). cond g.named (take g.before d ++ (l ++ held_behind g d)) d) (name-same up (held_name g d))

  held_same : {n : ℕ} {os : List ℕ} → Rising 12 n os → (at : ℕ) (g : Form) (d : List ℕ) → data_places p os at g d ≡ data_places q os at g d
  unfolding data_places
  held_same up at g d = ap (λ (l : List ℕ). cond g.named l []) (places_same up (at + g.before) (held_name g d))

-- ---- writing

-- two packets that differ in the header alone
pub record Alike (w v : Writing) : Type 0 where
  pub long : 12 ≤ length w.bytes
  pub size : length w.bytes ≡ length v.bytes
  pub rest : drop 12 w.bytes ≡ drop 12 v.bytes
  pub places : w.places ≡ v.places

-- the same bytes and places behind both
behind-alike : (w v : Writing) → Alike w v → (bs cs : List ℕ) → bs ≡ cs → (os us : List ℕ) → os ≡ us
    → Alike (record { bytes = w.bytes ++ bs; places = w.places ++ os }) (record { bytes = v.bytes ++ cs; places = v.places ++ us })
behind-alike w v a bs cs e os us f =
    let lb = length-append w.bytes bs in
    let lc = length-append v.bytes cs in
    let same : length bs ≡ length cs = ap length e in
    let s = a.size in
    let l = a.long in
    let m : 12 ≤ length v.bytes = omega arith in record {
      long = omega arith;
      size = omega arith;
      rest = drop-append-le 12 w.bytes bs l ∙ ap (λ (x : List ℕ). x ++ bs) a.rest ∙ ap (λ (x : List ℕ). drop 12 v.bytes ++ x) e
          ∙ sym (drop-append-le 12 v.bytes cs m);
      places = ap (λ (x : List ℕ). x ++ os) a.places ∙ ap (λ (x : List ℕ). v.places ++ x) f;
    }

module _ (w v : Writing) (a : Alike w v) (sound : Sound w) where
  name-alike : (bs : List ℕ) → Alike (put_name w bs) (put_name v bs)
  unfolding put_name
  name-alike bs =
      behind-alike w v a (name_bytes w.bytes w.places bs) (name_bytes v.bytes v.places bs)
      (name-same w.bytes v.bytes a.size a.rest sound bs ∙ ap (λ (os : List ℕ). name_bytes v.bytes os bs) a.places)
      (name_places w.bytes w.places (length w.bytes) bs) (name_places v.bytes v.places (length v.bytes) bs)
      (places_same w.bytes v.bytes a.size a.rest sound (length w.bytes) bs ∙ ap
      (λ (os : List ℕ). name_places v.bytes os (length w.bytes) bs) a.places
      ∙ ap (λ (n : ℕ). name_places v.bytes v.places n bs) a.size)

  fields-alike : (whole : Bool) (r : Record) → Alike (put_fields whole w r) (put_fields whole v r)
  unfolding put_fields
  fields-alike whole r =
      behind-alike w v a (fields r.rtype r.class r.ttl (length (d w)) ++ d w) (fields r.rtype r.class r.ttl (length (d v)) ++ d v)
      (ap (λ (x : List ℕ). fields r.rtype r.class r.ttl (length x) ++ x) d_same)
      (data_places w.bytes (os w) (length w.bytes + 10) g r.rdata) (data_places v.bytes (os v) (length v.bytes + 10) g r.rdata) p_same
    where
      g : Form
      g = form_for r.owner r.rtype r.rdata

      os : Writing → List ℕ
      os u = searched whole r.rtype u.places

      d : Writing → List ℕ
      d u = data_bytes u.bytes (searched whole r.rtype u.places) g r.rdata

      d_same : d w ≡ d v
      d_same =
          data_same w.bytes v.bytes a.size a.rest (searched-rising whole r.rtype sound) g r.rdata
          ∙ ap (λ (l : List ℕ). data_bytes v.bytes (searched whole r.rtype l) g r.rdata) a.places

      p_same : data_places w.bytes (os w) (length w.bytes + 10) g r.rdata ≡ data_places v.bytes (os v) (length v.bytes + 10) g r.rdata
      p_same =
          held_same w.bytes v.bytes a.size a.rest (searched-rising whole r.rtype sound) (length w.bytes + 10) g r.rdata
          ∙ ap (λ (l : List ℕ). data_places v.bytes (searched whole r.rtype l) (length w.bytes + 10) g r.rdata) a.places
          ∙ ap (λ (n : ℕ). data_places v.bytes (os v) (n + 10) g r.rdata) a.size

  question-alike : (q : Question) → Alike (put_question w q) (put_question v q)
  question-alike q =
      let n = name-alike q.name in
      let b = behind-alike (put_name w q.name) (put_name v q.name) n (u16 q.rtype ++ u16 q.class)
      (u16 q.rtype ++ u16 q.class) refl [] [] refl in record {
        long = b.long;
        size = b.size;
        rest = b.rest;
        places = n.places;
      }

pub record_alike : (whole : Bool) (w v : Writing) → Alike w v → Sound w → (r : Record) → IsRecord r → Alike (put_record whole w r) (put_record whole v r)
record_alike whole w v a sound r ok =
    let named = (fit_parts r.owner r.rtype r.ttl r.rdata ok).0 in
    fields-alike (put_name w r.owner) (put_name v r.owner) (name-alike w v a sound r.owner) (name-sound w sound r.owner named) whole r

pub records-alike : (whole : Bool) {rs : List Record} → Each IsRecord rs → (w v : Writing) → Alike w v → Sound w
    → Alike (put_all (put_record whole) w rs) (put_all (put_record whole) v rs)
records-alike whole none w v a sound = a
records-alike whole (one {x = r} ok rest) w v a sound =
    records-alike whole rest (put_record whole w r) (put_record whole v r) (record_alike whole w v a sound r ok) (record_sound whole w sound r ok)

pub questions-alike : {qs : List Question} → Each IsQuestion qs → (w v : Writing) → Alike w v → Sound w
    → Alike (put_all put_question w qs) (put_all put_question v qs)
questions-alike none w v a sound = a
questions-alike (one {x = q} ok rest) w v a sound =
    questions-alike rest (put_question w q) (put_question v q) (question-alike w v a sound q) (question-sound w sound q ok)
