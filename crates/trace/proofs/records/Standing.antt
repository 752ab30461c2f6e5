-- What is known of a record that was read: its kind, that it is whole, and its numbers. Assumes nothing.
use mathlib.Core.Path.{◌≡◌, refl, sym, ap, subst, ◌∙◌}
use mathlib.Core.List.{List}
use mathlib.Core.Bool.{Bool, true, false, cond, ◌&&◌}
use Prim.Native.Nat.{ℕ, ◌+◌, ◌≤◌}
use native.Mathlib.Omega.{arith}
use borrow.Author.Tests.{leb-true}
use lib.ListN.{length}
use lib.Dec.{leb}
use Rattle.std.specs.Prelude.{Option, Some, None}
use Rattle.std.proofs.lemmas.Option.{none-some, same_Some}
use Rattle.wire.specs.octets.Octets.{byte_at}
use Rattle.trace.specs.records.Records.{size_of, kind_at, fields_at, whole_at, record_at}
use Rattle.trace.specs.declared.records.Kind.{Kind}
use Rattle.trace.specs.declared.records.Kind.TheVariants as kind
use Rattle.trace.specs.declared.records.Record.{Record}
use Rattle.trace.specs.declared.records.Record.TheVariants as is

-- the kind of a record
abbrev pub kind_in : Record → Kind
kind_in (is.Tick time) = kind.Tick
kind_in (is.Packet time port draw len) = kind.Packet
kind_in is.Piece = kind.Piece
kind_in (is.Claim last claim state) = kind.Claim
kind_in (is.Source from hold) = kind.Source
kind_in (is.Stop time) = kind.Stop
kind_in (is.Port time port) = kind.Port
kind_in (is.Txt time len) = kind.Txt

pub never : {A : Type 0} → false ≡ true → A
never e = absurd (let z : ◌≡◌ {A = ℕ} 0 1 = ap (λ (b : Bool). cond b 1 0) e in omega arith)

module _ (p : List ℕ) (at : ℕ) where
  pub record Stand (r : Record) : Type 0 where
    pub kind : kind_at p at ≡ Some (kind_in r)
    pub whole : at + size_of (kind_in r) ≤ length p
    pub fields : fields_at p at (kind_in r) ≡ Some r

  in_range : (b : Bool) (last claim state : ℕ) (r : Record) → cond b (Some (is.Claim last claim state)) None ≡ Some r → kind.Claim ≡ kind_in r
  in_range true last claim state r e = ap kind_in (same_Some _ _ e)
  in_range false last claim state r e = absurd (none-some r e)

  kind_of-fields : (k : Kind) (r : Record) → fields_at p at k ≡ Some r → k ≡ kind_in r
  kind_of-fields kind.Tick r e = ap kind_in (same_Some _ _ e)
  kind_of-fields kind.Packet r e = ap kind_in (same_Some _ _ e)
  kind_of-fields kind.Piece r e = ap kind_in (same_Some _ _ e)
  kind_of-fields kind.Claim r e = in_range (leb (byte_at p (at + 9)) 1 && leb (byte_at p (at + 10)) 4) _ _ _ r e
  kind_of-fields kind.Source r e = ap kind_in (same_Some _ _ e)
  kind_of-fields kind.Stop r e = ap kind_in (same_Some _ _ e)
  kind_of-fields kind.Port r e = ap kind_in (same_Some _ _ e)
  kind_of-fields kind.Txt r e = ap kind_in (same_Some _ _ e)

  of_kind : (k : Kind) → kind_at p at ≡ Some k → (b : Bool) → leb (at + size_of k) (length p) ≡ b → (r : Record)
      → cond b (fields_at p at k) None ≡ Some r → Stand r
  of_kind k ek true eb r e =
      let known : k ≡ kind_in r = kind_of-fields k r e in
      record {
        kind = ek ∙ ap Some known;
        whole = subst (λ (j : Kind). at + size_of j ≤ length p) known (leb-true (at + size_of k) (length p) eb);
        fields = ap (fields_at p at) (sym known) ∙ e;
      }
  of_kind k ek false eb r e = absurd (none-some r e)

  found : (k : Option Kind) → kind_at p at ≡ k → (r : Record) → whole_at p at k ≡ Some r → Stand r
  found (Some k) ek r e = of_kind k ek (leb (at + size_of k) (length p)) refl r e
  found None ek r e = absurd (none-some r e)

  pub stand : (r : Record) → record_at p at ≡ Some r → Stand r
  unfolding record_at
  stand r e = found (kind_at p at) refl r e
