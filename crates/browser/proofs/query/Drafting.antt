-- A draft of a plan is the packet of the known answers from a slot on, and stops where it does. Assumes nothing.
use mathlib.Core.Path.{◌≡◌, refl, sym, ap, subst, ◌∙◌}
use mathlib.Core.List.{List, [], ◌∷◌, ◌++◌, map}
use mathlib.Core.Bool.{Bool, true, false, cond}
use Prim.Native.Nat.{ℕ, zero, suc, ◌≤◌, ◌<◌}
use native.Mathlib.Omega.{arith}
use lib.ListN.{length, take, drop, length-take, length-drop, length-append}
use lib.Seq.{take_all, length-take-le}
use lib.Dec.{ltb}
use borrow.Author.Tests.{lt-ltb, ltb-true, ltb-false}
use Rattle.wire.specs.message.Message.{Record}
use Rattle.writer.specs.Items.{Writing, put_question, put_record}
use Rattle.writer.specs.Writer.{question_of}
use Rattle.writer.specs.own_packets.Packets.{put_all, header_bytes}
use Rattle.writer.proofs.Use.{question-size}
use Rattle.roundtrip.specs.Writable.{Each, none, one, IsRecord, IsQuestion}
use Rattle.cache.specs.declared.entries.Entry.{Entry}
use Rattle.browser.specs.declared.Browser.{Browser}
use Rattle.browser.specs.declared.known_answers.Known.{Known}
use Rattle.browser.specs.declared.known_answers.Plan.{Plan}
use Rattle.browser.specs.service.Service.{service_name}
use Rattle.browser.specs.service.Sound.{Sound}
use Rattle.browser.specs.known_answers.Known.{known_from, answers_of}
use Rattle.browser.specs.known_answers.Plans.{empty_plan, plan_from, planned}
use Rattle.browser.specs.query.Query.{listed, first_slot, packet_with, packet_for, stop_for}
use Rattle.browser.specs.query.Drafts.{no_header, questions, opened, fitted, filled, record_in, records_of, slots_of, draft_count, stop_at, draft_stop, head_bytes, draft_packet}
use Rattle.browser.proofs.service.Names.{service-named}
use Rattle.browser.proofs.known_answers.Planning.{knowns_in, knowns_slots, knowns_records, knowns_fit, Filled, filled_none, filled-from}
use Rattle.browser.proofs.query.Packets.{listed-is, packet_is}
use Rattle.browser.proofs.query.Composing.{opened-long}
use Rattle.browser.proofs.query.Limits.{IsPtr, fitted-count, fitted-take, filled-most, first-drop}

map-take : {A B : Type 0} (f : A → B) (n : ℕ) (l : List A) → map f (take n l) ≡ take n (map f l)
map-take f zero [] = refl
map-take f zero (x ∷ xs) = refl
map-take f (suc n) [] = refl
map-take {A} {B} f (suc n) (x ∷ xs) = ap (λ (l : List B). f x ∷ l) (map-take f n xs)

map-long : {A B : Type 0} (f : A → B) (l : List A) → length (map f l) ≡ length l
map-long f [] = refl
map-long f (x ∷ xs) = ap suc (map-long f xs)

all-ptr : (store : List ℕ) (len : ℕ) (ks : List Known) → Each IsPtr (map (record_in store len) ks)
all-ptr store len [] = none
all-ptr store len (k ∷ ks) = one refl (all-ptr store len ks)

-- below 121, a number is below one exactly where it is below the lesser of it and 121
below : (k n m : ℕ) → k < 121 → m ≤ n → (n ≤ 121 → m ≡ n) → (121 < n → m ≡ 121) → ltb k m ≡ ltb k n
below k n m h le small large = go (ltb 121 n) refl
  where
    go : (t : Bool) → ltb 121 n ≡ t → ltb k m ≡ ltb k n
    go true e =
        let l : 121 < n = ltb-true 121 n e in
        let m-is = large l in
        let a : k < m = omega arith in
        let b : k < n = omega arith in lt-ltb k m a ∙ sym (lt-ltb k n b)
    go false e = let l : n ≤ 121 = ltb-false 121 n e in ap (ltb k) (small l)

module _ (asks : Bool) (b : Browser) (sound : Sound b) where
  pub asked : Each IsQuestion (questions asks b)
  asked = go asks
    where
      go : (t : Bool) → Each IsQuestion (questions t b)
      go true = one (service-named b sound.labels).0 none
      go false = none

  one-or_none : cond asks 1 0 ≡ length (questions asks b)
  one-or_none = go asks
    where
      go : (t : Bool) → cond t 1 0 ≡ length (questions t b)
      go true = refl
      go false = refl

  short : length (put_all put_question no_header (questions asks b)).bytes ≤ 1452
  short = go asks
    where
      go : (t : Bool) → length (put_all put_question no_header (questions t b)).bytes ≤ 1452
      go true =
          let n = service-named b sound.labels in
          let s = question-size no_header (question_of (service_name b) 12 1) n.0 in omega (arith, n.1)
      go false = omega arith

  open_long : 12 ≤ length (put_all put_question no_header (questions asks b)).bytes
  unfolding opened
  open_long = opened-long asks b

  module _ (now : ℕ) (store : List ℕ) (es : List Entry) (start : ℕ) where
    abbrev p : Plan
    p = plan_from now store b start (drop start es) empty_plan

    abbrev ks : List Known
    ks = knowns_in now store b start (drop start es)

    abbrev f : Known → Record
    f = record_in store (length (service_name b))

    abbrev w : Writing
    w = put_all put_question no_header (questions asks b)

    filled-p : Filled p (take 121 ks)
    filled-p = filled-from now store b start (drop start es) empty_plan [] filled_none

    records : records_of store b p ≡ take 121 (map f ks)
    records = ap (map f) filled-p.known ∙ map-take f 121 ks

    slots : slots_of (planned p) ≡ take 121 (known_from now store b es start)
    unfolding known_from
    slots = ap slots_of filled-p.known ∙ map-take (λ (k : Known). k.slot) 121 ks ∙ ap (take 121) (knowns_slots now store b start (drop start es))

    answers : map f ks ≡ answers_of now store es (known_from now store b es start)
    unfolding known_from
    answers = knowns_records now store b es start (drop start es) refl

    fit : Each IsRecord (map f ks)
    fit = knowns_fit now store b (service-named b sound.labels).0 start (drop start es)

    pub known-fit : Each IsRecord (answers_of now store es (known_from now store b es start))
    known-fit = subst (λ (rs : List Record). Each IsRecord rs) answers fit

    few : length (fitted w (map f ks)) < 121
    few = let c = fitted-count w (all-ptr store (length (service_name b)) ks) short in let l = header-long in omega arith
      where
        header-long : 12 ≤ length w.bytes
        header-long = open_long

    same_fitted : fitted w (records_of store b p) ≡ fitted w (map f ks)
    same_fitted = ap (fitted w) records ∙ fitted-take 121 w (map f ks) few

    count_is : draft_count asks b store p ≡ length (fitted w (map f ks))
    unfolding draft_count opened
    count_is = ap length same_fitted

    cut-is : ltb (draft_count asks b store p) (length (planned p)) ≡ ltb (draft_count asks b store p) (length (map f ks))
    cut-is =
        let c = count_is in
        let n = map-long f ks in
        let m : length (planned p) ≡ length (take 121 ks) = ap length filled-p.known in
        let t = length-take 121 ks in
        below (draft_count asks b store p) (length (map f ks)) (length (planned p)) (omega (arith, few)) (omega arith)
        (λ l. let q : length ks ≤ 121 = omega arith in let r = take_all 121 ks q in m ∙ ap length r ∙ sym n)
        (λ l. m ∙ length-take-le 121 ks (omega arith))

    pub draft_packet_lem : draft_packet asks b store p ≡ packet_for now store es (questions asks b) (known_from now store b es start)
    unfolding draft_packet opened packet_for
    draft_packet_lem =
        let k : ℕ = draft_count asks b store p in
        let t : Bool = ltb k (length (planned p)) in
        ap (λ (n : ℕ). header_bytes 0 (cond t 0x200 0) n k 0 0 ++ drop 12 (filled w (records_of store b p)).bytes) one-or_none
        ∙ ap (λ (rs : List Record). header_bytes 0 (cond t 0x200 0) (length (questions asks b)) k 0 0 ++ drop 12 (put_all (put_record false) w rs).bytes)
        same_fitted
        ∙ packet_is (questions asks b) asked fit k t count_is cut-is
        ∙ ap (packet_with (questions asks b)) answers

    pub draft_stop_lem : draft_stop asks b store p ≡ stop_for now store es (questions asks b) (known_from now store b es start)
    unfolding stop_at stop_for
    draft_stop_lem =
        let k : ℕ = draft_count asks b store p in
        let c = count_is in
        let less : k < 121 = omega (arith, few) in
        let same : length (listed (questions asks b) [] (answers_of now store es (known_from now store b es start))) ≡ k =
        ap (λ (rs : List Record). length (listed (questions asks b) [] rs)) (sym answers) ∙ ap length (listed-is (questions asks b) asked fit) ∙ sym c in
        ap (λ (l : List ℕ). first_slot (drop k l)) slots ∙ first-drop k 121 (known_from now store b es start) less
        ∙ ap (λ (j : ℕ). first_slot (drop j (known_from now store b es start))) (sym same)

    -- whether there is one
    pub plan_some : p.n ≡ length (take 121 (known_from now store b es start))
    plan_some = filled-p.count ∙ sym (map-long (λ (k : Known). k.slot) (take 121 ks)) ∙ ap length (sym (ap slots_of filled-p.known) ∙ slots)

    pub packet_some : 1 ≤ length (draft_packet asks b store p)
    unfolding draft_packet
    packet_some =
        let k : ℕ = draft_count asks b store p in
        let h : List ℕ = head_bytes asks k (ltb k (length (planned p))) in
        let twelve : length h ≡ 12 = refl in
        let a = length-append h (drop 12 (filled (opened asks b) (records_of store b p)).bytes) in omega arith

    pub packet_most : length (draft_packet asks b store p) ≤ 1452
    unfolding draft_packet opened
    packet_most =
        let k : ℕ = draft_count asks b store p in
        let h : List ℕ = head_bytes asks k (ltb k (length (planned p))) in
        let twelve : length h ≡ 12 = refl in
        let a = length-append h (drop 12 (filled w (records_of store b p)).bytes) in
        let d = length-drop 12 (filled w (records_of store b p)).bytes in
        let m = filled-most w (records_of store b p) short in omega arith
