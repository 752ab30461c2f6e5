-- The rdata of a record: how much of it stands in a packet, and the two ways in which it is written. Assumes nothing.
use mathlib.Core.Path.{◌≡◌, refl, sym, ap, ap₂, ◌∙◌}
use mathlib.Core.List.{List, [], ◌++◌}
use mathlib.Core.Bool.{Bool, true, false}
use Prim.Native.Nat.{ℕ, ◌+◌, ◌-◌, ◌≤◌}
use native.Mathlib.Omega.{arith}
use borrow.Author.Tests.{leb-true}
use lib.ListN.{length, take, drop, length-append, length-drop}
use lib.Seq.{sets, length-sets, length-take-le, take_all}
use lib.Dec.{leb}
use mathlib.Mathlib.Data.Bool.Basic.{and-eq-true-eq-eq-true-and-eq-true as both}
use Rattle.wire.proofs.octets.Sets.{sets-append}
use Rattle.wire.specs.names.Names.{is_name}
use Rattle.wire.specs.declared.rdata.Form.{Form}
use Rattle.writer.specs.compression.Compression.{name_bytes, name_places}
use Rattle.wire.specs.labels.Counted.{labels_in}
use Rattle.writer.proofs.compression.Written.{name-short, places-few}
use Rattle.writer.specs.declared.Spot.{Spot}
use Rattle.writer.specs.Items.{data_bytes, data_places}
use Rattle.writer.specs.Fit.{form_for, held_name, held_behind, holds_name, is_shaped}
use Rattle.writer.specs.Writer.{spot_of, labels_for, Wrote, NameReady, DataReady}
use Rattle.writer.proofs.Runs.{take-sets}

-- rdata as its type asks holds a name where its form says so
pub shaped_holds : (owner : List ℕ) (rtype : ℕ) (d : List ℕ) → is_shaped owner rtype d ≡ true → (form_for owner rtype d).named ≡ true
    → holds_name (form_for owner rtype d) d ≡ true
unfolding is_shaped
shaped_holds owner rtype d h t = simp t at h

-- with no byte behind it the name is all that is left
pub held-rest : (g : Form) (d : List ℕ) → g.behind ≡ 0 → held_name g d ≡ drop g.before d
held-rest g d e = take_all (length d - g.behind - g.before) (drop g.before d) (omega (arith, length-drop g.before d))

-- rdata of a form
module _ (g : Form) (d : List ℕ) where
  module _ (t : g.named ≡ true) where
    pub target-labels : labels_for g d ≡ labels_in (held_name g d)
    unfolding labels_for
    target-labels = simp t

    pub target-bytes : (p os : List ℕ) → data_bytes p os g d ≡ take g.before d ++ (name_bytes p os (held_name g d) ++ held_behind g d)
    unfolding data_bytes
    target-bytes p os = simp t

    pub target-places : (p os : List ℕ) (at : ℕ) → data_places p os at g d ≡ name_places p os (at + g.before) (held_name g d)
    unfolding data_places
    target-places p os at = simp t

  module _ (t : g.named ≡ false) where
    pub plain-bytes : (p os : List ℕ) → data_bytes p os g d ≡ d
    unfolding data_bytes
    plain-bytes p os = simp t

    pub plain-places : (p os : List ℕ) (at : ℕ) → data_places p os at g d ≡ []
    unfolding data_places
    plain-places p os at = simp t

  -- the name lies between the bytes
  module _ (h : holds_name g d ≡ true) where
    pub target_fits : (g.before + g.behind ≤ length d) × (is_name (held_name g d) ≡ true)
    target_fits = let f = (both (leb (g.before + g.behind) (length d)) (is_name (held_name g d))).0 h in (leb-true _ _ f.0, f.1)

    pub name-long : length (held_name g d) ≡ length d - g.behind - g.before
    name-long = length-take-le (length d - g.behind - g.before) (drop g.before d) (omega (arith, length-drop g.before d))

    pub behind-long : length (held_behind g d) ≡ g.behind
    behind-long = omega (arith, length-drop (length d - g.behind) d, target_fits.0)

    pub front_long : length (take g.before d) ≡ g.before
    front_long = length-take-le g.before d (omega (arith, target_fits.0))

  -- no more bytes than the rdata whole, and no more places than labels
  module _ (h : g.named ≡ true → holds_name g d ≡ true) (p os : List ℕ) where
    pub data_short : length (data_bytes p os g d) ≤ length d
    data_short = go g.named refl
      where
        go : (b : Bool) → g.named ≡ b → length (data_bytes p os g d) ≤ length d
        go true t =
            let k = h t in
            let f = target_fits k in
            let N : List ℕ = name_bytes p os (held_name g d) in
            omega (
              arith,
              f.0,
              ap length (target-bytes t p os),
              length-append (take g.before d) (N ++ held_behind g d),
              length-append N (held_behind g d),
              name-short p os (held_name g d) f.1,
              name-long k,
              behind-long k,
              front_long k,
            )
        go false t = omega (arith, ap length (plain-bytes t p os))

    pub data_few : (at : ℕ) → length (data_places p os at g d) ≤ labels_for g d
    data_few at = go g.named refl
      where
        go : (b : Bool) → g.named ≡ b → length (data_places p os at g d) ≤ labels_for g d
        go true t = omega (arith, ap length (target-places t p os at), target-labels t, places-few p os (held_name g d) (at + g.before))
        go false t = omega (arith, ap length (plain-places t p os at))

-- the two ways in which rdata is written
module _ (known at count tried : ℕ) (g : Form) (d o pl : List ℕ) (ready : DataReady known at count tried g d o pl) where
  module _ (t : g.named ≡ true) where
    held : holds_name g d ≡ true
    held = ready.shaped t

    pub around_fits : g.before + g.behind ≤ length d
    around_fits = (target_fits g d held).0

    pub behind-fits : g.behind ≤ length d
    behind-fits = omega (arith, around_fits)

    pub front_fits : g.before ≤ length d
    front_fits = omega (arith, around_fits)

    pub name-between : g.before ≤ length d - g.behind
    name-between = omega (arith, around_fits)

    module _ (o₁ : List ℕ) (w₁ : o₁ ≡ sets o at (take g.before d)) where
      pub target-ready : NameReady known (at + g.before) count tried (held_name g d) o₁ pl
      target-ready = record {
        named = (target_fits g d held).1;
        known_before = omega (arith, ready.known_before);
        known_small = ready.known_small;
        tried_noted = ready.tried_noted;
        room = omega (arith, ready.room, around_fits, name-long g d held, ap length w₁, length-sets o at (take g.before d));
        slots = omega (arith, ready.slots, target-labels g d t);
      }

      module _ (r : Spot) (o₂ pl₂ : List ℕ)
          (w : Wrote (name_bytes (take known o₁) (take tried pl) (held_name g d)) (name_places (take known o₁) (take tried pl) (at + g.before) (held_name g d))
          (at + g.before) count o₁ pl r o₂ pl₂) where
        abbrev N : List ℕ
        N = name_bytes (take known o₁) (take tried pl) (held_name g d)

        pub target-end : r.end + g.behind ≤ at + length d
        target-end =
            omega (arith, w.ended, around_fits, name-long g d held, name-short (take known o₁) (take tried pl) (held_name g d) (target_fits g d held).1)

        pub wrote_target : (o₃ : List ℕ) → o₃ ≡ sets o₂ r.end (take (length d - (length d - g.behind)) (drop (length d - g.behind) d))
            → Wrote (data_bytes (take known o) (take tried pl) g d) (data_places (take known o) (take tried pl) at g d) at count o pl
            (spot_of (r.end + g.behind) r.count) o₃ pl₂
        wrote_target o₃ w₃ =
            let n : ℕ = g.before in
            let back : List ℕ = held_behind g d in
            let same : take known o₁ ≡ take known o = ap (take known) w₁ ∙ take-sets known o at (take n d) ready.known_before in
            let nb : N ≡ name_bytes (take known o) (take tried pl) (held_name g d) = ap (λ (p : List ℕ). name_bytes p (take tried pl) (held_name g d)) same in
            let np : name_places (take known o₁) (take tried pl) (at + n) (held_name g d) ≡ data_places (take known o) (take tried pl) at g d =
            ap (λ (p : List ℕ). name_places p (take tried pl) (at + n) (held_name g d)) same ∙ sym (target-places g d t (take known o) (take tried pl) at) in
            let all : take n d ++ (N ++ back) ≡ data_bytes (take known o) (take tried pl) g d =
            ap (λ (l : List ℕ). take n d ++ (l ++ back)) nb ∙ sym (target-bytes g d t (take known o) (take tried pl)) in
            let whole : take (length d - (length d - g.behind)) (drop (length d - g.behind) d) ≡ back =
            take_all (length d - (length d - g.behind)) (drop (length d - g.behind) d) (omega (arith, length-drop (length d - g.behind) d)) in
            let long : n ≡ length (take n d) = sym (front_long g d held) in
            let body : o₃ ≡ sets o at (take n d ++ (N ++ back)) =
            w₃ ∙ ap₂ (λ (k : ℕ) (l : List ℕ). sets o₂ k l) w.ended whole ∙ ap (λ (l : List ℕ). sets l (at + n + length N) back) w.bytes
            ∙ sets-append o₁ (at + n) N back ∙ ap₂ (λ (l : List ℕ) (k : ℕ). sets l (at + k) (N ++ back)) w₁ long ∙ sets-append o at (take n d) (N ++ back) in
            record {
              bytes = body ∙ ap (sets o at) all;
              places = w.places ∙ ap (sets pl count) np;
              ended =
                  omega (arith, w.ended, ap length all, length-append (take n d) (N ++ back), length-append N back, front_long g d held, behind-long g d held);
              counted = w.counted ∙ ap (λ (l : List ℕ). count + length l) np;
            }

  pub wrote_plain : g.named ≡ false → (o₁ : List ℕ) → o₁ ≡ sets o at d
      → Wrote (data_bytes (take known o) (take tried pl) g d) (data_places (take known o) (take tried pl) at g d) at count o pl (spot_of (at + length d) count)
      o₁ pl
  wrote_plain t o₁ w = record {
    bytes = w ∙ ap (sets o at) (sym (plain-bytes g d t (take known o) (take tried pl)));
    places = ap (sets pl count) (sym (plain-places g d t (take known o) (take tried pl) at));
    ended = ap (λ (l : List ℕ). at + length l) (sym (plain-bytes g d t (take known o) (take tried pl)));
    counted = omega (arith, ap length (plain-places g d t (take known o) (take tried pl) at));
  }
