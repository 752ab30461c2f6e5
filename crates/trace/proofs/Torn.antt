-- Theorem: the beginnings of a trace. Reading a beginning of a trace that is read gives its events as far as they are whole, and either no refusal, or one at an
-- offset whose record in the whole trace is missing or cut (so that what a recorder wrote before the power went can be used). Assumes nothing.
use mathlib.Core.Path.{◌≡◌, refl, sym, ap, subst, ◌∙◌}
use mathlib.Core.List.{List, ◌∷◌, ◌++◌}
use mathlib.Core.Bool.{Bool, true, false}
use Prim.Native.Nat.{ℕ, zero, suc, ◌-◌, ◌<◌, ◌≤◌}
use native.Mathlib.Omega.{arith}
use borrow.Author.Tests.{ltb-true, ltb-false}
use lib.ListN.{length}
use lib.Dec.{ltb}
use Rattle.std.specs.Prelude.{Option, Some, None, Ok, Err}
use Rattle.trace.specs.reading.Reading.{Step}
use Rattle.trace.specs.reading.Reading.{step_at}
use Rattle.trace.specs.reading.Events.{Occurrence, occurrence, Reading, within, read_from, reading_of}
use Rattle.trace.specs.declared.reading.Entry.{Entry}
use Rattle.trace.proofs.records.Standing.{never}
use Rattle.trace.proofs.reading.Placed.{placed}
use Rattle.trace.proofs.reading.Begun.{step_end}
use Rattle.trace.proofs.reading.Unrolled.{unroll}
use Rattle.trace.proofs.Written.{ended, is_none}
use Rattle.trace.proofs.Beginnings.{longer}
use Rattle.trace.proofs.Cut.{Missing, further, Seen, whole, torn, event_seen}

-- a beginning `p` of `p ++ more`
module _ (p more : List ℕ) where
  abbrev t : List ℕ
  t = p ++ more

  -- how reading a beginning ends
  pub data Ends (at : ℕ) : Option ℕ → Type 0 where
    complete : Ends at None
    lacking : (o : ℕ) → Missing p more at o → Ends at (Some o)

  pub record Torn (at : ℕ) (x y : Reading) : Type 0 where
    pub later : List Occurrence
    pub events : x.events ++ later ≡ y.events
    pub ends : Ends at x.fault

  ends_before : {a b : ℕ} → a ≤ b → {f : Option ℕ} → Ends b f → Ends a f
  ends_before h complete = complete
  ends_before h (lacking o m) = lacking o (further p more h m)

  from-torn : (n at : ℕ) → length t - at < n → at ≤ length p → (read_from t at).fault ≡ None → Torn at (read_from p at) (read_from t at)
  from-torn zero at h w f = absurd (omega arith)
  from-torn (suc n) at h w f =
      subst (λ (x : Reading). Torn at x (read_from t at)) (sym (unroll p at))
      (subst (Torn at (within p (read_from p) (step_at p at))) (sym (unroll t at))
      (go (step_at t at) refl (sym (ap (λ (x : Reading). x.fault) (unroll t at)) ∙ f) (λ to a b g. from-torn n to a b g)))
    where
      seen : (e : Entry) (s : Step) → Seen p more at e s → at < e.next → e.next ≤ length t → (read_from t e.next).fault ≡ None
          → ((to : ℕ) → length t - to < n → to ≤ length p → (read_from t to).fault ≡ None → Torn to (read_from p to) (read_from t to))
          → Torn at (within p (read_from p) s) (within t (read_from t) (Ok (Some e)))
      seen e s (whole room es same) a r g rest =
          let x = rest e.next (omega arith) room g in
          subst (λ (y : Step). Torn at (within p (read_from p) y) (within t (read_from t) (Ok (Some e)))) (sym es)
          (record {
            later = x.later;
            events = λ i. occurrence e.event (same i) ∷ x.events i;
            ends = ends_before (omega arith) x.ends;
          })
      seen e s (torn o less es m) a r g rest =
          subst (λ (y : Step). Torn at (within p (read_from p) y) (within t (read_from t) (Ok (Some e)))) (sym es)
          (record { later = (within t (read_from t) (Ok (Some e))).events; events = refl; ends = lacking o m })

      over : (y : Reading) → length p ≤ at → Torn at (within p (read_from p) (step_at p at)) y
      over y past =
          subst (λ (s : Step). Torn at (within p (read_from p) s) y) (step_end p at past) (record { later = y.events; events = refl; ends = complete })

      go : (s : Step) → step_at t at ≡ s → (within t (read_from t) s).fault ≡ None
          → ((to : ℕ) → length t - to < n → to ≤ length p → (read_from t to).fault ≡ None → Torn to (read_from p to) (read_from t to))
          → Torn at (within p (read_from p) (step_at p at)) (within t (read_from t) s)
      go (Ok None) es g rest = over _ (let past = ended t at es in omega (arith, longer p more))
      go (Ok (Some e)) es g rest = test (ltb at (length p)) refl
        where
          test : (b : Bool) → ltb at (length p) ≡ b → Torn at (within p (read_from p) (step_at p at)) (within t (read_from t) (Ok (Some e)))
          test true eb =
              let place = placed t at e es in
              seen e (step_at p at) (event_seen p more at e (ltb-true at (length p) eb) es) place.ahead place.room g rest
          test false eb = over _ (ltb-false at (length p) eb)
      go (Err o) es g rest = never (ap is_none g)

-- the theorem, of a beginning `p` of a trace that is read
pub torn_trace : (p more : List ℕ) → (reading_of (p ++ more)).fault ≡ None → Torn p more 0 (reading_of p) (reading_of (p ++ more))
torn_trace p more f = from-torn p more (suc (length (p ++ more) - 0)) 0 (omega arith) (omega arith) f
