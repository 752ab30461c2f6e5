-- The packets of a browser are read back as what they list. Assumes nothing.
use mathlib.Core.Path.{◌≡◌, refl, sym, ap, subst, ◌∙◌}
use mathlib.Core.List.{List, [], ◌∷◌, ◌++◌, append-nil, append_assoc}
use mathlib.Core.Bool.{Bool, true, false, cond}
use Prim.Native.Nat.{ℕ, zero, suc, ◌≤◌, ◌<◌}
use native.Mathlib.Omega.{arith}
use lib.ListN.{length, take}
use lib.Dec.{ltb}
use Rattle.wire.specs.message.Message.{Question, Record}
use Rattle.wire.specs.message.Layout.{message_at, plain_header}
use Rattle.writer.specs.own_packets.Packets.{packet_of}
use Rattle.roundtrip.specs.Writable.{Each, none, one, IsRecord, Writable}
use Rattle.roundtrip.proofs.Whole.{message_back}
use Rattle.cache.specs.declared.entries.Entry.{Entry}
use Rattle.browser.specs.declared.Browser.{Browser}
use Rattle.browser.specs.known_answers.Known.{known_from}
use Rattle.browser.specs.query.Query.{fits, listed, packet_for}
use Rattle.browser.specs.query.Drafts.{questions}
use Rattle.browser.specs.query.Says.{known_answers, listed_answers, message_for, QuerySays}
use Rattle.browser.proofs.query.Drafting.{asked, known-fit, draft_packet_lem, packet_most}

-- ---- what is listed

-- those before, and the first of the rest
listed-take : (qs : List Question) (before rs : List Record) → (n : ℕ) × (listed qs before rs ≡ before ++ take n rs)
unfolding listed
listed-take qs before [] = (0, sym (append-nil before))
listed-take qs before (r ∷ rs) = go (fits qs (before ++ (r ∷ []))) (listed-take qs (before ++ (r ∷ [])) rs)
  where
    go : (t : Bool) → (n : ℕ) × (listed qs (before ++ (r ∷ [])) rs ≡ (before ++ (r ∷ [])) ++ take n rs)
        → (n : ℕ) × (cond t (listed qs (before ++ (r ∷ [])) rs) before ≡ before ++ take n (r ∷ rs))
    go true ih = (suc ih.0, ih.1 ∙ append_assoc before (r ∷ []) (take ih.0 rs))
    go false ih = (0, sym (append-nil before))

prefix : (l : List Record) (n : ℕ) (xs : List Record) → xs ≡ take n l → xs ≡ take (length xs) l
prefix [] n xs e = e ∙ nil n ∙ sym (nil (length xs))
  where
    nil : (n : ℕ) → take {A = Record} n [] ≡ []
    nil zero = refl
    nil (suc n) = refl
prefix (x ∷ l) zero xs e = e ∙ ap (λ (k : ℕ). take k (x ∷ l)) (sym (ap length e))
prefix (x ∷ l) (suc n) xs e =
    let inner : take n l ≡ take (length (take n l)) l = prefix l n (take n l) refl in
    e ∙ ap (λ (ys : List Record). x ∷ ys) inner ∙ ap (λ (k : ℕ). take k (x ∷ l)) (sym (ap length e))

-- the first that is not listed would not fit
cut-first : (qs : List Question) (before rs : List Record) → length (listed qs before rs) < length (before ++ rs)
    → fits qs (take (suc (length (listed qs before rs))) (before ++ rs)) ≡ false
unfolding listed
cut-first qs before [] h = absurd (let e = ap length (append-nil before) in omega arith)
cut-first qs before (r ∷ rs) h = go (fits qs (before ++ (r ∷ []))) refl h (cut-first qs (before ++ (r ∷ [])) rs)
  where
    same : (before ++ (r ∷ [])) ++ rs ≡ before ++ (r ∷ rs)
    same = append_assoc before (r ∷ []) rs

    take_more : (xs ys : List Record) (y : Record) → take (suc (length xs)) (xs ++ (y ∷ ys)) ≡ xs ++ (y ∷ [])
    take_more [] ys y = refl
    take_more (x ∷ xs) ys y = ap (λ (l : List Record). x ∷ l) (take_more xs ys y)

    go : (t : Bool) → fits qs (before ++ (r ∷ [])) ≡ t → length (cond t (listed qs (before ++ (r ∷ [])) rs) before) < length (before ++ (r ∷ rs))
        → (length (listed qs (before ++ (r ∷ [])) rs) < length ((before ++ (r ∷ [])) ++ rs)
        → fits qs (take (suc (length (listed qs (before ++ (r ∷ [])) rs))) ((before ++ (r ∷ [])) ++ rs)) ≡ false)
        → fits qs (take (suc (length (cond t (listed qs (before ++ (r ∷ [])) rs) before))) (before ++ (r ∷ rs))) ≡ false
    go true e l ih =
        ap (λ (xs : List Record). fits qs (take (suc (length (listed qs (before ++ (r ∷ [])) rs))) xs)) (sym same) ∙ ih (let m = ap length same in omega arith)
    go false e l ih = ap (fits qs) (take_more before rs r) ∙ e

each_take : (n : ℕ) {rs : List Record} → Each IsRecord rs → Each IsRecord (take n rs)
each_take zero none = none
each_take zero (one ok rest) = none
each_take (suc n) none = none
each_take (suc n) (one ok rest) = one ok (each_take n rest)

plain-flags : (t : Bool) → plain_header (cond t 0x200 0) ≡ true
plain-flags true = refl
plain-flags false = refl

packet_so : (now : ℕ) (store : List ℕ) (es : List Entry) (start : ℕ) (asks : Bool) (b : Browser)
    → packet_of false (message_for asks b now store es start) ≡ packet_for now store es (questions asks b) (known_from now store b es start)
unfolding packet_for
packet_so now store es start asks b = refl

pub query-says : QuerySays
query-says asks b sound now store es start = record {
  reads = ap message_at (sym packet_is) ∙ message_back false (message_for asks b now store es start) writable []
      (let m = most in let a = ap length packet_is in omega arith);
  short = most;
  first = first;
  cut = λ h. cut-first (questions asks b) [] (known_answers b now store es start) h;
}
  where
    rs : List Record
    rs = known_answers b now store es start

    first : listed_answers asks b now store es start ≡ take (length (listed_answers asks b now store es start)) (known_answers b now store es start)
    first =
        let p = listed-take (questions asks b) [] (known_answers b now store es start) in
        prefix (known_answers b now store es start) p.0 (listed_answers asks b now store es start) p.1

    fit : Each IsRecord (listed_answers asks b now store es start)
    fit = subst (λ (l : List Record). Each IsRecord l) (sym first) (each_take (length (listed_answers asks b now store es start))
        (known-fit asks b sound now store es start))

    writable : Writable (message_for asks b now store es start)
    writable = record {
      plain = plain-flags (ltb (length (listed_answers asks b now store es start)) (length (known_answers b now store es start)));
      questions = asked asks b sound;
      answers = fit;
      authorities = none;
      additionals = none;
    }

    packet_is : packet_of false (message_for asks b now store es start) ++ [] ≡ packet_for now store es (questions asks b) (known_from now store b es start)
    packet_is = append-nil (packet_of false (message_for asks b now store es start)) ∙ packet_so now store es start asks b

    most : length (packet_for now store es (questions asks b) (known_from now store b es start)) ≤ 1452
    most = let e = ap length (draft_packet_lem asks b sound now store es start) in let m = packet_most asks b sound now store es start in omega arith
