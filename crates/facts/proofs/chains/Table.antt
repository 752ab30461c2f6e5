-- The table of where chains of pointers end: what it says stays true, and a name goes on alike at the end that is noted. Assumes nothing.
use mathlib.Core.Path.{◌≡◌, refl, sym, ap, ◌∙◌}
use mathlib.Core.List.{List, [], ◌∷◌}
use mathlib.Core.Bool.{Bool, true, false}
use Prim.Native.Nat.{ℕ, zero, suc, ◌<◌, ◌≤◌}
use native.Mathlib.Omega.{arith}
use borrow.Author.Tests.{eqb-true, eqb-false}
use lib.Dec.{eqb}
use lib.ListN.{length, get_or, set, replicate}
use lib.Seq.{get_or-set_same, get_or-set_other}
use Rattle.wire.specs.name_pieces.Pieces.{piece_at}
use Rattle.wire.specs.names.Names.{Reading, name, malformed, ending, from_run}
use Rattle.wire.specs.names.Answers.{Chased, or_later, same_as}
use Rattle.wire.specs.declared.name_pieces.Piece.{Piece}
use Rattle.wire.specs.declared.name_pieces.Piece.TheVariants.{Pointer}
use Rattle.wire.proofs.name_pieces.Pieces.{is_pointer_lem, piece_pointer, pointer_back}
use Rattle.wire.proofs.names.Walked.{chased_on, chased_none}
use Rattle.facts.specs.chains.Chains.{end_of, Ends}

-- what is noted of an offset
past_end : (l : List ℕ) (t : ℕ) → length l ≤ t → get_or l t 0 ≡ 0
past_end [] t h = refl
past_end (x ∷ l) zero h = absurd (omega arith)
past_end (x ∷ l) (suc t) h = past_end l t (omega arith)

-- a chain after a chain
chased_trans : (p : List ℕ) (used a b c : ℕ) → Chased p used a b → Chased p used b c → Chased p used a c
chased_trans p used a b c x y = record { back = omega (arith, x.back, y.back); same = λ e. x.same e ∙ y.same e }

-- what is to be noted of an offset: nothing, or the end of the chain at its pointer's target
pub from-none : (p : List ℕ) (at : ℕ) (used : ℕ) → Chased p used at (or_later 0 at)
from-none p at used = chased_none p used at

module _ (p ends : List ℕ) (h : Ends p ends) (at t : ℕ) (r : Piece) (is : r ≡ piece_at p at at 0) (e : r ≡ Pointer t) where
  pub from_low : end_of ends t < at
  from_low = omega (arith, (h.at t 0).back, pointer_back p at at 0 t (sym is ∙ e))

  pub from-pointer : (v : ℕ) → v ≡ end_of ends t → (used : ℕ) → Chased p used at (or_later v at)
  from-pointer v ev used = go (eqb v 0) refl
    where
      there : piece_at p at at used ≡ Pointer t
      there =
          let k = is_pointer_lem p at at 0 t (sym is ∙ e) in
          piece_pointer p at at used k.0 k.1 k.2 k.3 k.4 ∙ ap Pointer k.5

      chain : Chased p used at v
      chain = rw ev (chased_trans p used at t (end_of ends t) (chased_on p at at used (piece_at p at at used) refl at t there refl (chased_none p used at)) (h.at t used))

      go : (b : Bool) → eqb v 0 ≡ b → Chased p used at (or_later v at)
      go true z = rw z (chased_none p used at)
      go false z = rw z chain

-- one note more
pub note_more : (p ends : List ℕ) (at v : ℕ) → at < length ends → Ends p ends → ((used : ℕ) → Chased p used at (or_later v at)) → Ends p (set ends at v)
unfolding end_of
note_more p ends at v lt h k = record { at = λ t used. go t used (eqb t at) refl }
  where
    go : (t used : ℕ) (b : Bool) → eqb t at ≡ b → Chased p used t (or_later (get_or (set ends at v) t 0) t)
    go t used true e = rw (eqb-true t at e, get_or-set_same ends at v 0 lt) (k used)
    go t used false e = rw (get_or-set_other ends at t v 0 (eqb-false t at e)) (h.at t used)

-- nothing is noted at first, nor in a table without entries
pub note_none : (p : List ℕ) (n : ℕ) → Ends p (replicate n 0)
unfolding end_of
note_none p n = record { at = λ t used. rw (zeros n t) (chased_none p used t) }
  where
    zeros : (n t : ℕ) → ◌≡◌ {A = ℕ} (get_or (replicate n 0) t 0) 0
    zeros zero t = refl
    zeros (suc n) zero = refl
    zeros (suc n) (suc t) = zeros n t

pub no_entries : (p ends : List ℕ) → length ends ≤ 0 → Ends p ends
unfolding end_of
no_entries p ends h = record { at = λ t used. rw (past_end ends t (omega arith)) (chased_none p used t) }

-- a comparison goes on at the end that is noted
same_ending : (q : List ℕ) (e : ℕ) (x : Reading) → same_as q (ending e x) ≡ same_as q x
same_ending q e (name ys d) = refl
same_ending q e malformed = refl

pub goes_on_lem : (p ends : List ℕ) (h : Ends p ends) (q : List ℕ) (t used run : ℕ) → run ≡ end_of ends t
    → (run ≤ t) × (same_as q (from_run p t t used) ≡ same_as q (from_run p run run used))
goes_on_lem p ends h q t used run e =
    let k = h.at t used in (
      omega (arith, k.back),
      sym (same_ending q 0 (from_run p t t used)) ∙ ap (same_as q) (k.same 0) ∙ same_ending q 0 (from_run p (end_of ends t) (end_of ends t) used)
          ∙ ap (λ (n : ℕ). same_as q (from_run p n n used)) (sym e),
    )
