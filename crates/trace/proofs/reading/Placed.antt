-- Where the event lies that stands at an offset: within the trace, with its pieces, and it takes a byte at least. Assumes nothing.
use mathlib.Core.Path.{◌≡◌, refl, subst}
use mathlib.Core.List.{List}
use mathlib.Core.Bool.{Bool, true, false, cond}
use Prim.Native.Nat.{ℕ, zero, suc, ◌+◌, ◌*◌, ◌-◌, ◌<◌, ◌≤◌}
use native.Mathlib.Omega.{arith}
use lib.ListN.{length}
use lib.Dec.{leb}
use Rattle.std.specs.Prelude.{Option, Some, None, Result, Ok, Err}
use Rattle.trace.specs.reading.Reading.{Step, refused}
use Rattle.trace.specs.declared.reading.Refused.{Refused}
use Rattle.claims.specs.declared.holds.Address.{Address}
use Rattle.trace.specs.records.Records.{record_at}
use Rattle.trace.specs.reading.Reading.{is_usual, is_piece, pieces_of, pieces_at, data_step, with_data, alone_step, behind_source, step_with, step_at}
use Rattle.trace.specs.declared.records.Record.{Record}
use Rattle.trace.specs.declared.records.Record.TheVariants as is
use Rattle.trace.specs.declared.reading.Event.{Event}
use Rattle.trace.specs.declared.reading.Entry.{Entry}
use Rattle.trace.proofs.records.Standing.{stand}
use Rattle.trace.proofs.reading.Owed.{piece_whole}

pub record Placed (p : List ℕ) (at : ℕ) (e : Entry) : Type 0 where
  pub ahead : at < e.next
  pub room : e.next ≤ length p
  pub pieces : e.first + 17 * pieces_of e.len ≡ e.next

-- two different answers
pub not-refused : {A T : Type 0} {r : Refused} {x : T} → ◌≡◌ {A = Result T Refused} (Err r) (Ok x) → A
not-refused q = cc

pub not_end : {A : Type 0} {e : Entry} → ◌≡◌ {A = Step} (Ok None) (Ok (Some e)) → A
not_end q = cc

pub same_entry : {d e : Entry} → ◌≡◌ {A = Step} (Ok (Some d)) (Ok (Some e)) → d ≡ e
same_entry q = cc

module _ (p : List ℕ) where
  pub pieces_end : (k at left n : ℕ) → at ≤ length p → pieces_at k p at left ≡ Ok n → (at + 17 * k ≡ n) × (n ≤ length p)
  unfolding pieces_at
  pieces_end zero at left n h e = let same : at ≡ n = cc in (omega arith, omega arith)
  pieces_end (suc k) at left n h e = go (is_piece p at left) refl e (λ w. pieces_end k (at + 17) (left - 16) n w)
    where
      go : (b : Bool) → is_piece p at left ≡ b → cond b (pieces_at k p (at + 17) (left - 16)) (refused at) ≡ Ok n
          → (at + 17 ≤ length p → pieces_at k p (at + 17) (left - 16) ≡ Ok n → (at + 17 + 17 * k ≡ n) × (n ≤ length p))
          → (at + 17 * suc k ≡ n) × (n ≤ length p)
      go true eb q rest = let known = rest (piece_whole p at left eb) q in (omega arith, omega arith)
      go false eb q rest = not-refused q

  module _ (at : ℕ) (e : Entry) where
    alone-placed : (v : Event) (n : ℕ) → at < n → n ≤ length p → alone_step v n ≡ Ok (Some e) → Placed p at e
    alone-placed v n a w q = subst (Placed p at) (same_entry q) (record { ahead = a; room = w; pieces = omega arith })

    data_placed : (v : Event) (first len : ℕ) → at < first → first ≤ length p → with_data p v first len ≡ Ok (Some e) → Placed p at e
    unfolding with_data
    data_placed v first len a w q = go (pieces_at (pieces_of len) p first len) refl q
      where
        go : (x : Result ℕ Refused) → pieces_at (pieces_of len) p first len ≡ x → data_step v first len x ≡ Ok (Some e) → Placed p at e
        go (Ok n) ex qx =
            let known = pieces_end (pieces_of len) first len n w ex in
            subst (Placed p at) (same_entry qx) (record { ahead = omega arith; room = known.1; pieces = known.0 })
        go (Err o) ex qx = not-refused qx

    behind-placed : (to : ℕ) → at < to → (from : Address) (hold : ℕ) (r : Option Record) → record_at p to ≡ r
        → behind_source p to from hold r ≡ Ok (Some e) → Placed p at e
    behind-placed to a from hold (Some (is.Packet time port draw len)) er q = data_placed _ (to + 14) len (omega arith) (stand p to _ er).whole q
    behind-placed to a from hold (Some (is.Tick time)) er q = not-refused q
    behind-placed to a from hold (Some is.Piece) er q = not-refused q
    behind-placed to a from hold (Some (is.Claim last claim state)) er q = not-refused q
    behind-placed to a from hold (Some (is.Source from2 hold2)) er q = not-refused q
    behind-placed to a from hold (Some (is.Stop time)) er q = not-refused q
    behind-placed to a from hold (Some (is.Port time port)) er q = not-refused q
    behind-placed to a from hold (Some (is.Txt time len)) er q = not-refused q
    behind-placed to a from hold None er q = not-refused q

    source_placed : (from : Address) (hold : ℕ) (b : Bool)
        → cond b (refused at) (behind_source p (at + 19) from hold (record_at p (at + 19))) ≡ Ok (Some e) → Placed p at e
    source_placed from hold true q = not-refused q
    source_placed from hold false q = behind-placed (at + 19) (omega arith) from hold (record_at p (at + 19)) refl q

    with-placed : (r : Option Record) → record_at p at ≡ r → step_with p at r ≡ Ok (Some e) → Placed p at e
    with-placed (Some (is.Tick time)) er q = alone-placed _ (at + 9) (omega arith) (stand p at _ er).whole q
    with-placed (Some (is.Packet time port draw len)) er q = data_placed _ (at + 14) len (omega arith) (stand p at _ er).whole q
    with-placed (Some is.Piece) er q = not-refused q
    with-placed (Some (is.Claim last claim state)) er q = alone-placed _ (at + 11) (omega arith) (stand p at _ er).whole q
    with-placed (Some (is.Source from hold)) er q = source_placed from hold (is_usual from hold) q
    with-placed (Some (is.Stop time)) er q = alone-placed _ (at + 9) (omega arith) (stand p at _ er).whole q
    with-placed (Some (is.Port time port)) er q = alone-placed _ (at + 11) (omega arith) (stand p at _ er).whole q
    with-placed (Some (is.Txt time len)) er q = data_placed _ (at + 11) len (omega arith) (stand p at _ er).whole q
    with-placed None er q = not-refused q

    pub placed : step_at p at ≡ Ok (Some e) → Placed p at e
    unfolding step_at
    placed q = go (leb (length p) at) q
      where
        go : (b : Bool) → cond b (Ok None) (step_with p at (record_at p at)) ≡ Ok (Some e) → Placed p at e
        go true qb = not_end qb
        go false qb = with-placed (record_at p at) refl qb
