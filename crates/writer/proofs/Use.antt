-- For callers: what is fit and has room is written, what a question or a record takes at most, and a packet in front of a buffer is held in it.
-- Assumes nothing.
use mathlib.Core.Path.{◌≡◌, refl, sym, ap, ap₂, ◌∙◌}
use mathlib.Core.List.{List, ◌++◌}
use mathlib.Core.Bool.{Bool, true, ◌&&◌}
use Prim.Native.Nat.{ℕ, ◌+◌, ◌≤◌}
use native.Mathlib.Omega.{arith}
use lib.ListN.{length, take, drop, length-append}
use lib.Seq.{take_at}
use Rattle.wire.specs.names.Names.{is_name}
use Rattle.writer.specs.compression.Compression.{name_bytes, name_places}
use Rattle.wire.specs.labels.Counted.{labels_in}
use Rattle.writer.proofs.compression.Written.{name-short, places-few}
use Rattle.wire.specs.message.Message.{Question, Record}
use Rattle.writer.specs.declared.Spot.{Spot}
use Rattle.writer.specs.Items.{Writing, u16, fields, data_bytes, data_places, searched, put_name, put_fields, put_record, put_question}
use Rattle.writer.specs.Fit.{form_for, is_shaped}
use Rattle.writer.specs.Writer.{held_in, spot_of, labels_for, placed_of, bytes_after, places_after, Placing, Grown}
use Rattle.writer.proofs.Rdata.{shaped_holds, data_short, data_few}
use Rattle.std.specs.Prelude.{Result, Ok}
use Rattle.writer.specs.declared.Misfit.{Misfit}

-- what is fit and has room is written
module _ (fit fits : Bool) (v : Writing) (o pl : List ℕ) (r : Result Spot Misfit) (o' pl' : List ℕ) (p : Placing fit fits v o pl r o' pl')
    (u : fit ≡ true) (t : fits ≡ true) where
  pub is-done : r ≡ Ok (spot_of (length v.bytes) (length v.places))
  is-done = p.answer ∙ ap₂ (λ (a b : Bool). placed_of a b v) u t

  pub is-grown : Grown v o pl (spot_of (length v.bytes) (length v.places)) o' pl'
  is-grown = record {
    bytes = p.bytes ∙ ap₂ (λ (a b : Bool). bytes_after (a && b) v o) u t;
    places = p.places ∙ ap₂ (λ (a b : Bool). places_after (a && b) v pl) u t;
    ended = refl;
    counted = refl;
  }

-- a question takes its name whole and four bytes, at most
module _ (w : Writing) (q : Question) where
  pub question-size : is_name q.name ≡ true → length (put_question w q).bytes ≤ length w.bytes + length q.name + 4
  unfolding put_name
  question-size ok =
      omega (
        arith,
        length-append (w.bytes ++ name_bytes w.bytes w.places q.name) (u16 q.rtype ++ u16 q.class),
        length-append w.bytes
            (name_bytes w.bytes w.places q.name),
        name-short w.bytes w.places q.name ok,
      )

  pub question-count : length (put_question w q).places ≤ length w.places + labels_in q.name
  unfolding put_name
  question-count =
      omega (
        arith,
        length-append w.places (name_places w.bytes w.places (length w.bytes) q.name),
        places-few w.bytes w.places q.name
            (length w.bytes),
      )

  pub question-low : length w.bytes ≤ length (put_question w q).bytes
  unfolding put_name
  question-low =
      omega (
        arith,
        length-append (w.bytes ++ name_bytes w.bytes w.places q.name) (u16 q.rtype ++ u16 q.class),
        length-append w.bytes
            (name_bytes w.bytes w.places q.name),
      )

-- what a record takes at most
module _ (whole : Bool) (w : Writing) (r : Record) (named : is_name r.owner ≡ true) (ok : is_shaped r.owner r.rtype r.rdata ≡ true) where
  pub record_size : length (put_record whole w r).bytes ≤ length w.bytes + (length r.owner + 10 + length r.rdata)
  unfolding put_name put_fields
  record_size =
      let p₁ : List ℕ = w.bytes ++ name_bytes w.bytes w.places r.owner in
      let os₁ : List ℕ = w.places ++ name_places w.bytes w.places (length w.bytes) r.owner in
      let os₂ : List ℕ = searched whole r.rtype os₁ in
      let D : List ℕ = data_bytes p₁ os₂ (form_for r.owner r.rtype r.rdata) r.rdata in
      omega (
        arith,
        length-append p₁ (fields r.rtype r.class r.ttl (length D) ++ D),
        length-append w.bytes (name_bytes w.bytes w.places r.owner),
        name-short w.bytes w.places r.owner named,
        data_short (form_for r.owner r.rtype r.rdata) r.rdata (shaped_holds r.owner r.rtype r.rdata ok) p₁ os₂,
      )

  pub record_count : length (put_record whole w r).places ≤ length w.places + (labels_in r.owner + labels_for (form_for r.owner r.rtype r.rdata)
      r.rdata)
  unfolding put_name put_fields
  record_count =
      let p₁ : List ℕ = w.bytes ++ name_bytes w.bytes w.places r.owner in
      let os₁ : List ℕ = w.places ++ name_places w.bytes w.places (length w.bytes) r.owner in
      let os₂ : List ℕ = searched whole r.rtype os₁ in
      omega (
        arith,
        length-append os₁ (data_places p₁ os₂ (length p₁ + 10) (form_for r.owner r.rtype r.rdata) r.rdata),
        length-append w.places
            (name_places w.bytes w.places (length w.bytes) r.owner),
        places-few w.bytes w.places r.owner (length w.bytes),
        data_few (form_for r.owner r.rtype r.rdata) r.rdata (shaped_holds r.owner r.rtype r.rdata ok) p₁ os₂ (length p₁ + 10),
      )

  pub record_low : length w.bytes ≤ length (put_record whole w r).bytes
  unfolding put_name put_fields
  record_low =
      let p₁ : List ℕ = w.bytes ++ name_bytes w.bytes w.places r.owner in
      let os₁ : List ℕ = w.places ++ name_places w.bytes w.places (length w.bytes) r.owner in
      let os₂ : List ℕ = searched whole r.rtype os₁ in
      let D : List ℕ = data_bytes p₁ os₂ (form_for r.owner r.rtype r.rdata) r.rdata in
      omega (
        arith,
        length-append p₁ (fields r.rtype r.class r.ttl (length D) ++ D),
        length-append w.bytes
            (name_bytes w.bytes w.places r.owner),
      )

-- places are only added
pub places-low : (whole : Bool) (w : Writing) (r : Record) → length w.places ≤ length (put_record whole w r).places
unfolding put_name put_fields
places-low whole w r =
    let p₁ : List ℕ = w.bytes ++ name_bytes w.bytes w.places r.owner in
    let os₁ : List ℕ = w.places ++ name_places w.bytes w.places (length w.bytes) r.owner in
    let os₂ : List ℕ = searched whole r.rtype os₁ in
    omega (
      arith,
      length-append os₁ (data_places p₁ os₂ (length p₁ + 10) (form_for r.owner r.rtype r.rdata) r.rdata),
      length-append w.places
          (name_places w.bytes w.places (length w.bytes) r.owner),
    )

-- a packet that stands in front of a buffer is held in it
pub held-so : (v : Writing) (o pl : List ℕ) (r : Spot) (o' pl' : List ℕ) → Grown v o pl r o' pl' → held_in o' pl' r.end r.count ≡ v
held-so v o pl r o' pl' g =
    let a : take r.end o' ≡ v.bytes = ap (take r.end) g.bytes ∙ take_at v.bytes (drop (length v.bytes) o) r.end (sym g.ended) in
    let b : take r.count pl' ≡ v.places = ap (take r.count) g.places ∙ take_at v.places (drop (length v.places) pl) r.count
    (sym g.counted) in
    λ i. record { bytes = a i; places = b i }
