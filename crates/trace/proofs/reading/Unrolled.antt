-- The number of events that is read at most never cuts a reading: reading goes on from event to event. Assumes nothing.
use mathlib.Core.Path.{◌≡◌, refl, ap, ◌∙◌}
use mathlib.Core.List.{List, ◌∷◌}
use Prim.Native.Nat.{ℕ, zero, suc, ◌-◌, ◌<◌}
use native.Mathlib.Omega.{arith}
use lib.ListN.{length}
use Rattle.std.specs.Prelude.{Some, None, Ok, Err}
use Rattle.trace.specs.reading.Reading.{Step, refused}
use Rattle.trace.specs.reading.Reading.{step_at}
use Rattle.trace.specs.reading.Events.{Reading, occurrence, data_in, within, at_most, read_from}
use Rattle.trace.specs.declared.reading.Entry.{Entry}
use Rattle.trace.proofs.reading.Placed.{placed}

module _ (p : List ℕ) where
  found_after : (e : Entry) (x y : Reading) → x ≡ y
      → ◌≡◌ {A = Reading} (record { events = occurrence e.event (data_in p e) ∷ x.events; fault = x.fault })
      (record { events = occurrence e.event (data_in p e) ∷ y.events; fault = y.fault })
  found_after e x y q = λ i. record { events = occurrence e.event (data_in p e) ∷ (q i).events; fault = (q i).fault }

  -- the same for any number of events that is great enough
  enough : (n m at : ℕ) → length p - at < n → length p - at < m → at_most n p at ≡ at_most m p at
  unfolding at_most
  enough zero m at hn hm = absurd (omega arith)
  enough (suc n) zero at hn hm = absurd (omega arith)
  enough (suc n) (suc m) at hn hm = go (step_at p at) refl (λ to a b. enough n m to a b)
    where
      go : (s : Step) → step_at p at ≡ s → ((to : ℕ) → length p - to < n → length p - to < m → at_most n p to ≡ at_most m p to)
          → within p (at_most n p) s ≡ within p (at_most m p) s
      go (Ok None) es rest = refl
      go (Ok (Some e)) es rest =
          let known = placed p at e es in
          found_after e (at_most n p e.next) (at_most m p e.next) (rest e.next (omega arith) (omega arith))
      go (Err offset) es rest = refl

  pub unroll : (at : ℕ) → read_from p at ≡ within p (read_from p) (step_at p at)
  unfolding read_from at_most
  unroll at = go (step_at p at) refl
    where
      go : (s : Step) → step_at p at ≡ s → within p (at_most (length p - at) p) s ≡ within p (read_from p) s
      go (Ok None) es = refl
      go (Ok (Some e)) es =
          let known = placed p at e es in
          found_after e (at_most (length p - at) p e.next) (read_from p e.next) (enough (length p - at) (suc (length p - e.next)) e.next (omega arith) (omega arith))
      go (Err offset) es = refl

  module _ (at : ℕ) where
    pub read_on : (e : Entry) → step_at p at ≡ Ok (Some e) → (read_from p at).fault ≡ (read_from p e.next).fault
    read_on e q = ap (λ (x : Reading). x.fault) (unroll at) ∙ ap (λ (s : Step). (within p (read_from p) s).fault) q

    pub read_end : step_at p at ≡ Ok None → (read_from p at).fault ≡ None
    read_end q = ap (λ (x : Reading). x.fault) (unroll at) ∙ ap (λ (s : Step). (within p (read_from p) s).fault) q

    pub read_refused : (o : ℕ) → step_at p at ≡ refused o → (read_from p at).fault ≡ Some o
    read_refused o q = ap (λ (x : Reading). x.fault) (unroll at) ∙ ap (λ (s : Step). (within p (read_from p) s).fault) q
