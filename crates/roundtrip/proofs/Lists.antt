-- Questions and records are read back one after the other. Assumes nothing.
use Prim.Native.Nat.{ℕ, ◌≤◌}
use mathlib.Core.Path.{◌≡◌, refl, sym, ap, ◌∙◌}
use mathlib.Core.List.{List, [], ◌∷◌, ◌++◌, append_assoc, append-nil}
use mathlib.Core.Bool.{Bool}
use native.Mathlib.Omega.{arith}
use lib.ListN.{length, length-append}
use Rattle.writer.specs.compression.Compression.{name_bytes}
use Rattle.wire.specs.message.Message.{Question, Record}
use Rattle.wire.specs.message.Layout.{Item, item, listing, first, and_on, list_from}
use Rattle.writer.specs.Items.{Writing, put_name, put_fields, put_record, put_question}
use Rattle.writer.specs.own_packets.Packets.{put_all}
use Rattle.roundtrip.specs.Writable.{Each, none, one}
use Rattle.roundtrip.proofs.Sound.{Sound}

-- bytes are only added
abbrev pub More : Writing → Writing → Type 0
More v w = (m : List ℕ) × (w.bytes ≡ v.bytes ++ m)

pub record_more : (whole : Bool) (w : Writing) (r : Record) → More w (put_record whole w r)
unfolding put_name put_fields
record_more whole w r = (_, append_assoc w.bytes (name_bytes w.bytes w.places r.owner) _)

pub question-more : (w : Writing) (q : Question) → More w (put_question w q)
unfolding put_name
question-more w q = (_, append_assoc w.bytes (name_bytes w.bytes w.places q.name) _)

-- One law for questions and records: what holds of a part holds of a list of parts.
module _ {A : Type 0} (put : Writing → A → Writing) (read : List ℕ → ℕ → Item A) (Ok : A → Type 0)
    (keeps : (w : Writing) → Sound w → (x : A) → Ok x → Sound (put w x))
    (more : (w : Writing) (x : A) → More w (put w x))
    (back : (w : Writing) → Sound w → (x : A) → Ok x → length (put w x).bytes ≤ 16384 → (post : List ℕ) → read ((put w x).bytes ++ post) (length w.bytes) ≡
    item x (length (put w x).bytes))
  where
    pub all_sound : {xs : List A} → Each Ok xs → (w : Writing) → Sound w → Sound (put_all put w xs)
    all_sound none w sound = sound
    all_sound (one {x = x} {xs = xs} ok rest) w sound = all_sound rest (put w x) (keeps w sound x ok)

    pub all_more : (w : Writing) (xs : List A) → More w (put_all put w xs)
    all_more w [] = ([], sym (append-nil w.bytes))
    all_more w (x ∷ xs) =
        let f = more w x in
        let g = all_more (put w x) xs in
        (f.0 ++ g.0, g.1 ∙ ap (λ (l : List ℕ). l ++ g.0) f.1 ∙ append_assoc w.bytes f.0 g.0)

    pub all_back : {xs : List A} → Each Ok xs → (w : Writing) → Sound w → length (put_all put w xs).bytes ≤ 16384 → (P post : List ℕ) → P ≡ (put_all put w
        xs).bytes ++ post
        → list_from (read P) (length xs) (length w.bytes) ≡ listing xs (length (put_all put w xs).bytes)
    unfolding list_from
    all_back none w sound small P post is = refl
    all_back (one {x = x} {xs = xs} ok rest) w sound small P post is =
        let g = all_more (put w x) xs in
        let same : P ≡ (put w x).bytes ++ (g.0 ++ post) = is ∙ ap (λ (l : List ℕ). l ++ post) g.1 ∙ append_assoc (put w x).bytes g.0 post in
        let here : read P (length w.bytes) ≡ item x (length (put w x).bytes) =
        ap (λ (l : List ℕ). read l (length w.bytes)) same ∙ back w sound x ok (omega (arith, ap length g.1, length-append (put w x).bytes g.0))
        (g.0 ++ post) in
        ap (and_on (list_from (read P) (length xs))) here ∙ ap (first x) (all_back rest (put w x) (keeps w sound x ok) small P post is)
