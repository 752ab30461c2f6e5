-- The question, the known answers one after the other, and the whole draft laid over a buffer. Assumes nothing.
use Rattle.std.specs.Option.{is_some, unwrap_or}
use Rattle.std.proofs.Common.{Err, None, Ok, Option, Result, Some}
use mathlib.Core.Path.{◌≡◌, refl, sym, ap, subst, ◌∙◌}
use mathlib.Core.List.{List, [], ◌∷◌, ◌++◌, map, append_assoc, append-nil}
use mathlib.Core.Bool.{Bool, true, false, cond}
use Prim.Native.Nat.{ℕ, zero, suc, ◌+◌, ◌-◌, ◌≤◌, ◌<◌}
use native.Mathlib.Nat.{zero-add, suc-add}
use native.Mathlib.Omega.{arith}
use native.Mathlib.Numerals.{add-one}
use lib.ListN.{length, get_or, take, drop, replicate, length-append, length-take, length-drop, length-replicate, drop_of_length-le}
use lib.Seq.{length-take-le, sets, sets-eq, length-sets, get_or-take, take-nil}
use lib.Dec.{ltb}
use borrow.Author.Tests.{le-leb}
use Rattle.wire.specs.names.Names.{is_name}
use Rattle.wire.specs.labels.Counted.{labels_in}
use Rattle.wire.specs.message.Message.{Record}
use Rattle.writer.specs.Items.{Writing, put_question, put_record}
use Rattle.writer.specs.Writer.{held_in, room_in, spot_of, question_of, name_fits, question_fits, Placing, Grown}
use Rattle.writer.specs.compression.Sentence.{empty}
use Rattle.writer.specs.declared.Spot.{Spot}
use Rattle.writer.specs.declared.Misfit.{Misfit}
use Rattle.writer.specs.own_packets.Packets.{put_all}
use Rattle.writer.specs.own_packets.Own.{laid_over}
use Rattle.writer.proofs.Use.{is-done, is-grown, question-size, question-count, held-so}
use Rattle.roundtrip.proofs.Sound.{question-sound}
use Rattle.roundtrip.proofs.Lists.{record_more, question-more}
use Rattle.browser.specs.declared.Browser.{Browser}
use Rattle.browser.specs.declared.known_answers.Known.{Known}
use Rattle.browser.specs.declared.known_answers.Plan.{Plan}
use Rattle.browser.specs.declared.query.Draft.{Draft}
use Rattle.browser.specs.service.Service.{service_name}
use Rattle.browser.specs.service.Sound.{Sound}
use Rattle.browser.specs.known_answers.Plans.{no_answer, planned}
use Rattle.browser.specs.query.Drafts.{no_header, questions, opened, goes_behind, fitted, filled, record_in, records_of, draft_count, draft_packet, head_bytes, Composing, Holds, Puts, Composes, Writes}
use Rattle.browser.proofs.service.Names.{service-named}
use Rattle.browser.proofs.query.Filling.{name-few, held-end}

-- ---- the question

pub open_not : (asks : Bool) (b : Browser) (out places : List ℕ) → Holds no_header (spot_of 12 0) out places → asks ≡ false
    → Holds (opened asks b) (spot_of 12 0) out places
unfolding opened
open_not asks b out places h e = subst (λ (t : Bool). Holds (put_all put_question no_header (questions t b)) (spot_of 12 0) out places) (sym e) h

module _ (asks : Bool) (b : Browser) (sound : Sound b) (out places : List ℕ) (h : Holds no_header (spot_of 12 0) out places) (yes : asks ≡ true) (name : List ℕ)
    (is : name ≡ service_name b) (placed : Result Spot Misfit) (out' places' : List ℕ)
    (p : Placing (is_name name) (question_fits (room_in out places 12 0) name) (put_question (held_in out places 12 0) (question_of name 12 1)) out places placed
    out' places') where
  named : is_name name ≡ true
  named = ap is_name is ∙ (service-named b sound.labels).0

  fits : question_fits (room_in out places 12 0) name ≡ true
  unfolding name_fits
  fits =
      let f = name-few name named in
      let a : 12 + length name + 4 ≤ length out = omega (arith, f.0, h.room.sized) in
      let c : 12 + length name ≤ 16384 = omega (arith, f.0) in
      let d : 0 + labels_in name + 0 ≤ length places = omega (arith, f.1, h.room.noted) in
      simp (le-leb _ _ a, le-leb _ _ c, le-leb _ _ d)

  abbrev v : Writing
  v = put_question (held_in out places 12 0) (question_of name 12 1)

  grown : Grown v out places (spot_of (length v.bytes) (length v.places)) out' places'
  grown = is-grown _ _ v out places placed out' places' p named fits

  done : placed ≡ Ok (spot_of (length v.bytes) (length v.places))
  done = is-done _ _ v out places placed out' places' p named fits

  sizes : (length v.bytes ≤ 300) × (length v.places ≤ 300)
  sizes =
      let f = name-few name named in
      let s = question-size (held_in out places 12 0) (question_of name 12 1) named in
      let n = question-count (held_in out places 12 0) (question_of name 12 1) in
      let e = held-end (spot_of 12 0) out places h.room in (omega (arith, f.0), omega (arith, f.1))

  asked-so : v ≡ opened asks b
  unfolding opened
  asked-so =
      ap (λ (w : Writing). put_question w (question_of name 12 1)) h.here ∙ ap (λ (n : List ℕ). put_question no_header (question_of n 12 1)) is
      ∙ ap (λ (t : Bool). put_all put_question no_header (questions t b)) (sym yes)

  pub open_done : (s : Spot) → placed ≡ Ok s → Holds (opened asks b) s out' places'
  open_done s told =
      let same : spot_of (length v.bytes) (length v.places) ≡ s = cc done in
      subst (λ (x : Spot). Holds (opened asks b) x out' places') same held
    where
      here : held_in out' places' (length v.bytes) (length v.places) ≡ v
      here = held-so v out places (spot_of (length v.bytes) (length v.places)) out' places' grown

      held : Holds (opened asks b) (spot_of (length v.bytes) (length v.places)) out' places'
      held =
          let a = length-append v.bytes (drop (length v.bytes) out) in
          let d = length-drop (length v.bytes) out in
          let a' = length-append v.places (drop (length v.places) places) in
          let d' = length-drop (length v.places) places in
          let s₀ = sizes in record {
            here = here ∙ asked-so;
            room = record {
              sized = ap length grown.bytes ∙ a ∙ omega (arith, h.room.sized);
              noted = ap length grown.places ∙ a' ∙ omega (arith, h.room.noted);
              ended = omega arith;
              counted = omega arith;
              rising = rw (ap (λ (x : Writing). x.places) here)
                  (question-sound (held_in out places 12 0) (rw (held-end (spot_of 12 0) out places h.room) h.room.rising) (question_of name 12 1) named);
            };
          }

  pub open_misfit : {A : Type 0} → (m : Misfit) → placed ≡ Err m → A
  open_misfit m told = let z : ◌≡◌ {A = ℕ} 0 1 = cc done in absurd (omega arith)

-- ---- the known answers

abbrev pub records_in : List ℕ → ℕ → List Known → ℕ → List Record
records_in store len ks n = map (record_in store len) (take n ks)

-- those before j are put
pub record Going (store : List ℕ) (w : Writing) (len : ℕ) (ks : List Known) (n : ℕ) (out places : List ℕ) (at : Spot) (j : ℕ) : Type 0 where
  pub low : j ≤ n
  pub size : n ≤ length ks
  pub room : Composing at out places
  pub rest : fitted w (records_in store len ks n) ≡ take j (records_in store len ks n) ++ fitted (held_in out places at.end at.count)
      (drop j (records_in store len ks n))
  pub done : put_all (put_record false) w (take j (records_in store len ks n)) ≡ held_in out places at.end at.count

pub going_start : (store : List ℕ) (len : ℕ) (ks : List Known) (n : ℕ) (out places : List ℕ) (first : Spot) → n ≤ length ks → Composing first out places
    → Going store (held_in out places first.end first.count) len ks n out places first 0
going_start store len ks n out places first m c = record { low = omega arith; size = m; room = c; rest = refl; done = refl }

map-drop : (f : Known → Record) (ks : List Known) (j : ℕ) → j < length ks → drop j (map f ks) ≡ f (get_or ks j no_answer) ∷ drop (suc j) (map f ks)
map-drop f [] j h = absurd (omega arith)
map-drop f (k ∷ ks) zero h = refl
map-drop f (k ∷ ks) (suc j) h = map-drop f ks j (omega arith)

map-take : (f : Known → Record) (ks : List Known) (j : ℕ) → j < length ks → take (suc j) (map f ks) ≡ take j (map f ks) ++ (f (get_or ks j no_answer) ∷ [])
map-take f [] j h = absurd (omega arith)
map-take f (k ∷ ks) zero h = refl
map-take f (k ∷ ks) (suc j) h = ap (λ (l : List Record). f k ∷ l) (map-take f ks j (omega arith))

map-length : (f : Known → Record) (ks : List Known) → length (map f ks) ≡ length ks
map-length f [] = refl
map-length f (k ∷ ks) = ap suc (map-length f ks)

all_append : (w : Writing) (xs ys : List Record) → put_all (put_record false) w (xs ++ ys) ≡ put_all (put_record false) (put_all (put_record false) w xs) ys
all_append w [] ys = refl
all_append w (x ∷ xs) ys = all_append (put_record false w x) xs ys

module _ (store : List ℕ) (w : Writing) (len : ℕ) (ks : List Known) (n : ℕ) (out places : List ℕ) (at : Spot) (j : ℕ)
    (g : Going store w len ks n out places at j) where
  abbrev rs : List Record
  rs = records_in store len ks n

  abbrev u : Writing
  u = held_in out places at.end at.count

  total : length (records_in store len ks n) ≡ n
  total = map-length (record_in store len) (take n ks) ∙ length-take-le n ks g.size

  taken : length (take j (records_in store len ks n)) ≡ j
  taken = let t = total in length-take-le j (records_in store len ks n) (omega (arith, g.low))

  -- nothing more is put
  ends : (s : Spot) (out' places' : List ℕ) → fitted u (drop j rs) ≡ [] → held_in out' places' s.end s.count ≡ u → Composing s out' places'
      → Composes w rs (record { end = s.end; answers = j }) out'
  ends s out' places' none here c =
      let all : fitted w rs ≡ take j rs = g.rest ∙ ap (λ (l : List Record). take j rs ++ l) none ∙ append-nil (take j rs) in
      let bytes : take s.end out' ≡ (filled w rs).bytes =
      ap (λ (x : Writing). x.bytes) (here ∙ sym g.done) ∙ ap (λ (l : List Record). (put_all (put_record false) w l).bytes) (sym all) in record {
        answers = sym (ap length all ∙ taken);
        bytes = bytes;
        ended = sym (ap length (sym bytes) ∙ held-end s out' places' c);
        sized = c.sized;
        most = c.ended;
      }

  pub going_end : n ≤ j → Composes w (records_in store len ks n) (record { end = at.end; answers = n }) out
  unfolding fitted
  going_end h =
      let t = total in
      let past : length rs ≤ j = omega arith in
      let none : drop j rs ≡ [] = drop_of_length-le rs past in
      let all : j ≡ n = omega (arith, g.low) in
      subst (λ (k : ℕ). Composes w rs (record { end = at.end; answers = k }) out) all (ends at out places (ap (fitted u) none) refl g.room)

  module _ (less : j < n) (put : Option Spot) (out' places' : List ℕ) (p : Puts (held_in out places at.end at.count)
      (record_in store len (get_or ks j no_answer)) at put out' places') where
    long : length (take n ks) ≡ n
    long = length-take-le n ks g.size

    same : get_or (take n ks) j no_answer ≡ get_or ks j no_answer
    same = get_or-take n ks j no_answer less

    abbrev r : Record
    r = record_in store len (get_or ks j no_answer)

    next : drop j rs ≡ r ∷ drop (suc j) rs
    next = let l = long in map-drop (record_in store len) (take n ks) j (omega arith) ∙ ap (λ (k : Known). record_in store len k ∷ drop (suc j) rs) same

    one_more : take (suc j) rs ≡ take j rs ++ (r ∷ [])
    one_more = let l = long in map-take (record_in store len) (take n ks) j (omega arith) ∙ ap (λ (k : Known). take j rs ++ (record_in store len k ∷ [])) same

    pub going_stop : put ≡ None → Composes w (records_in store len ks n) (record { end = at.end; answers = j }) out'
    unfolding fitted
    going_stop h =
        let no_more : goes_behind u r ≡ false = sym p.put ∙ ap is_some h in
        ends at out' places'
        (ap (fitted u) next ∙ ap (λ (t : Bool). cond t (r ∷ fitted (put_record false u r) (drop (suc j) rs)) []) no_more)
        (held.here ∙ ap (λ (t : Bool). cond t (put_record false u r) u) no_more) held.room
      where
        held : Holds (cond (goes_behind u r) (put_record false u r) u) at out' places'
        held = subst (λ (x : Option Spot). Holds (cond (goes_behind u r) (put_record false u r) u) (unwrap_or x at) out' places') h p.holds

    pub going_on : (s : Spot) → put ≡ Some s → Going store w len ks n out' places' s (j + 1)
    unfolding fitted
    going_on s h =
        let held : Holds (cond (goes_behind u r) (put_record false u r) u) s out' places' =
        subst (λ (x : Option Spot). Holds (cond (goes_behind u r) (put_record false u r) u) (unwrap_or x at) out' places') h p.holds in
        let yes-more : goes_behind u r ≡ true = sym p.put ∙ ap is_some h in
        let here : held_in out' places' s.end s.count ≡ put_record false u r = held.here
        ∙ ap (λ (t : Bool). cond t (put_record false u r) u) yes-more in
        let now-fitted : fitted u (drop j rs) ≡ r ∷ fitted (put_record false u r) (drop (suc j) rs) =
        ap (fitted u) next ∙ ap (λ (t : Bool). cond t (r ∷ fitted (put_record false u r) (drop (suc j) rs)) []) yes-more in record {
          low = omega arith;
          size = g.size;
          room = held.room;
          rest =
              g.rest ∙ ap (λ (l : List Record). take j rs ++ l) now-fitted ∙ sym (append_assoc (take j rs) (r ∷ [])
              (fitted (put_record false u r) (drop (suc j) rs)))
              ∙ ap (λ (l : List Record). l ++ fitted (put_record false u r) (drop (suc j) rs)) (sym one_more)
              ∙ ap (λ (x : Writing). take (suc j) rs ++ fitted x (drop (suc j) rs)) (sym here)
              ∙ ap (λ (i : ℕ). take i rs ++ fitted (held_in out' places' s.end s.count) (drop i rs)) (sym (add-one j));
          done =
              ap (λ (i : ℕ). put_all (put_record false) w (take i rs)) (add-one j) ∙ ap (put_all (put_record false) w) one_more ∙ all_append w (take j rs) (r ∷ [])
              ∙ ap (λ (x : Writing). put_record false x r) g.done ∙ sym here;
        }

take-of_take : {A : Type 0} (m : ℕ) (l : List A) → take (length (take m l)) l ≡ take m l
take-of_take zero [] = refl
take-of_take zero (x ∷ xs) = refl
take-of_take (suc m) [] = refl
take-of_take {A} (suc m) (x ∷ xs) = ap (λ (l : List A). x ∷ l) (take-of_take m xs)

-- the records of a plan are those of its known answers
pub planned-so : (store : List ℕ) (b : Browser) (p : Plan) (len n : ℕ) → len ≡ length (service_name b) → n ≡ length (planned p)
    → records_in store len p.known n ≡ records_of store b p
planned-so store b p len n l e =
    ap (λ (k : ℕ). map (record_in store k) (take n p.known)) l
    ∙ ap (λ (ks : List Known). map (record_in store (length (service_name b))) ks) (ap (λ (k : ℕ). take k p.known) e ∙ take-of_take p.n p.known)

pub composes_as : (w : Writing) (ps qs : List Record) (d : Draft) (o : List ℕ) → ps ≡ qs → Composes w ps d o → Composes w qs d o
composes_as w ps qs d o e c = subst (λ (l : List Record). Composes w l d o) e c

-- ---- the whole

pub no_packet : Holds no_header (spot_of 12 0) (replicate 2048 0) (replicate 2048 0)
no_packet =
    let g : 12 ≤ 12 = omega arith in record {
      here = refl;
      room = record {
        sized = length-replicate {A = ℕ} 2048 0;
        noted = length-replicate {A = ℕ} 2048 0;
        ended = omega arith;
        counted = omega arith;
        rising = empty g;
      };
    }

more_bytes : (w : Writing) (rs : List Record) → length w.bytes ≤ length (put_all (put_record false) w rs).bytes
more_bytes w [] = omega arith
more_bytes w (r ∷ rs) =
    let f = record_more false w r in
    let a = length-append w.bytes f.0 in
    let e = ap length f.1 in
    let i = more_bytes (put_record false w r) rs in omega arith

pub written : (asks : Bool) (b : Browser) (store : List ℕ) (p : Plan) (out : List ℕ) (first : Spot) (d₁ p₁ : List ℕ) (d : Draft) (d₂ : List ℕ) (n : ℕ)
    (h d₃ out' : List ℕ)
    → 1452 ≤ length out → Holds (opened asks b) first d₁ p₁ → 12 ≤ length (opened asks b).bytes
    → Composes (held_in d₁ p₁ first.end first.count) (records_of store b p) d d₂ → n ≡ length (planned p)
    → h ≡ head_bytes asks d.answers (ltb d.answers n) → d₃ ≡ sets d₂ 0 h → out' ≡ sets out 0 (take d.end d₃) → Writes asks b store p out d out'
unfolding draft_count draft_packet
written asks b store p out first d₁ p₁ d d₂ n h d₃ out' room held low c count head laid sent =
    let w : Writing = opened asks b in
    let rs : List Record = records_of store b p in
    let c' : Composes w rs d d₂ = subst (λ (x : Writing). Composes x rs d d₂) held.here c in
    let head' : h ≡ head_bytes asks (length (fitted w rs)) (ltb (length (fitted w rs)) (length (planned p))) =
    head ∙ ap (λ (k : ℕ). head_bytes asks k (ltb k n)) c'.answers ∙ ap (λ (m : ℕ). head_bytes asks (length (fitted w rs)) (ltb (length (fitted w rs)) m))
    count in
    let twelve : length h ≡ 12 = ap length head' in
    let long : length w.bytes ≤ length (filled w rs).bytes = more_bytes w (fitted w rs) in
    let far : 12 ≤ d.end = let e = c'.ended in omega arith in
    let fits : 0 + length h ≤ length d₂ = let s = c'.sized in omega arith in
    let front : take d.end d₃ ≡ h ++ drop 12 (filled w rs).bytes =
    ap (take d.end) (laid ∙ sets-eq h d₂ 0 fits) ∙ front_of_lem h d₂ d.end twelve far ∙ ap (λ (l : List ℕ). h ++ drop 12 l) c'.bytes in
    let packet : take d.end d₃ ≡ head_bytes asks (length (fitted w rs)) (ltb (length (fitted w rs)) (length (planned p))) ++ drop 12 (filled w rs).bytes =
    front ∙ ap (λ (l : List ℕ). l ++ drop 12 (filled w rs).bytes) head' in
    let size : length d₃ ≡ 2048 = ap length laid ∙ length-sets d₂ 0 h ∙ c'.sized in
    let end_is : length (take d.end d₃) ≡ d.end = let m = c'.most in length-take-le d.end d₃ (omega arith) in record {
      answers = c'.answers;
      ended = sym (ap length (sym packet) ∙ end_is);
      bytes =
          sent ∙ ap (sets out 0) packet ∙ over (head_bytes asks (length (fitted w rs)) (ltb (length (fitted w rs)) (length (planned p))) ++ drop 12
          (filled w rs).bytes) out
          (let e = ap length packet in let m = c'.most in omega arith);
    }
  where
    over : (P o : List ℕ) → length P ≤ length o → sets o 0 P ≡ laid_over P o
    over P o l = sets-eq P o 0 (omega arith) ∙ ap (λ (k : ℕ). P ++ drop k o) (zero-add (length P))

    front_of_lem : (h o : List ℕ) (e : ℕ) → length h ≡ 12 → 12 ≤ e → take e (h ++ drop (0 + length h) o) ≡ h ++ drop 12 (take e o)
    front_of_lem h o e l far =
        ap (λ (k : ℕ). take e (h ++ drop k o)) (zero-add (length h) ∙ l) ∙ ap (λ (k : ℕ). take k (h ++ drop 12 o)) split ∙ take_more h (drop 12 o) (e - 12)
        ∙ ap (λ (x : List ℕ). h ++ x) (swap 12 (e - 12) o ∙ ap (λ (k : ℕ). drop 12 (take k o)) back)
      where
        split : e ≡ length h + (e - 12)
        split = omega arith

        back : 12 + (e - 12) ≡ e
        back = omega arith

        take_more : (xs ys : List ℕ) (k : ℕ) → take (length xs + k) (xs ++ ys) ≡ xs ++ take k ys
        take_more [] ys k = ap (λ (i : ℕ). take i ys) (zero-add k)
        take_more (x ∷ xs) ys k = ap (λ (i : ℕ). take i (x ∷ (xs ++ ys))) (suc-add (length xs) k) ∙ ap (λ (l : List ℕ). x ∷ l) (take_more xs ys k)

        swap : (m k : ℕ) (l : List ℕ) → take k (drop m l) ≡ drop m (take (m + k) l)
        swap zero k l = ap (λ (i : ℕ). take i l) (sym (zero-add k))
        swap (suc m) k [] = take-nil k ∙ sym (ap (drop (suc m)) (take-nil (suc m + k)))
        swap (suc m) k (x ∷ xs) = swap m k xs ∙ ap (λ (i : ℕ). drop (suc m) (take i (x ∷ xs))) (sym (suc-add m k))

pub opened-long : (asks : Bool) (b : Browser) → 12 ≤ length (opened asks b).bytes
unfolding opened
opened-long true b = let f = question-more no_header (question_of (service_name b) 12 1) in let a = length-append (replicate 12 0) f.0 in let e = ap length
    f.1 in omega arith
opened-long false b = omega arith

-- no more are put than there are
fitted-most : (w : Writing) (rs : List Record) → length (fitted w rs) ≤ length rs
unfolding fitted
fitted-most w [] = omega arith
fitted-most w (r ∷ rs) = go (goes_behind w r) (fitted-most (put_record false w r) rs)
  where
    go : (t : Bool) → length (fitted (put_record false w r) rs) ≤ length rs → length (cond t (r ∷ fitted (put_record false w r) rs) []) ≤ suc (length rs)
    go true ih = omega arith
    go false ih = omega arith

pub draft_few : (w : Writing) (store : List ℕ) (b : Browser) (p : Plan) (d : Draft) (o : List ℕ) → length p.known ≡ 121
    → Composes w (records_of store b p) d o → d.answers ≤ 121
draft_few w store b p d o sized c =
    let m = fitted-most w (records_of store b p) in
    let l = map-length (record_in store (length (service_name b))) (planned p) in
    let t = length-take p.n p.known in
    let a = c.answers in omega arith
