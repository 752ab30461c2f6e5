-- The own records that are known: a flag for each. Assumes nothing.
use mathlib.Core.Path.{◌≡◌, refl, sym, ap, ◌∙◌}
use mathlib.Core.List.{List, [], ◌∷◌}
use mathlib.Core.Bool.{Bool, true, false, ◌||◌, and-false}
use mathlib.Mathlib.Data.Bool.Basic.{or-eq-false-eq-eq-false-and-eq-false as neither}
use lib.Dec.{eqb}
use Prim.Native.Nat.{ℕ, zero, suc, ◌+◌, ◌<◌, ◌≤◌}
use native.Mathlib.Omega.{arith}
use lib.ListN.{get_or, set}
use Rattle.std.proofs.lemmas.List.{get_or-replicate, get_or-set_other, set-get_or}
use Rattle.wire.specs.Lists.{some}
use Rattle.wire.specs.message.Message.{Record}
use Rattle.wire.specs.message.Layout.{record_at}
use Rattle.wire.specs.message.Readable.{readable}
use Rattle.wire.specs.declared.message.Section.{Section}
use Rattle.claims.specs.records.Own.{records, own_type, own_ttl, record_at as own_at}
use Rattle.claims.specs.declared.records.Own.{Own}
use Rattle.claims.proofs.records.Filled.{filled, next_filled}
use Rattle.own.specs.declared.records.Setup.{Setup}
use Rattle.own.specs.records.Records.{own_name, own_rdata}
use Rattle.facts.specs.Types.{some_of}
use Rattle.facts.specs.Facts.{suppresses}

-- a record suppresses an own one
abbrev pub suppresses_own : Setup → Own → Record → Bool
suppresses_own s o = suppresses (own_name s o) (own_type o) (own_rdata s o) (own_ttl o)

-- a record has a type
abbrev pub is_of : ℕ → Record → Bool
is_of rtype r = eqb r.rtype rtype

-- the answers know it
abbrev pub knows : Setup → List Record → Own → Bool
knows s rs o = some (suppresses_own s o) rs

-- the own record of an index, by the parts that were made of it
pub suppresses-own : (s : Setup) (i : ℕ) (o : Own) → o ≡ own_at i
    → (name own : List ℕ) (rtype ttl : ℕ) → name ≡ own_name s o → own ≡ own_rdata s o → rtype ≡ own_type o → ttl ≡ own_ttl o
    → (r : Record) (v : Bool) → v ≡ suppresses name rtype own ttl r → v ≡ suppresses_own s (own_at i) r
suppresses-own s i o e name own rtype ttl n d y t r v h = h ∙ (λ j. suppresses (n j) (y j) (d j) (t j) r) ∙ ap (λ (q : Own). suppresses_own s q r) e

-- its flag, set in an array that the walk over the answers left as it was
pub own_flag : (test : Own → Bool) (i : ℕ) (known flags : List Bool) → known ≡ flags → flags ≡ filled false test i → true ≡ test (own_at i)
    → set known i true ≡ filled false test (i + 1)
own_flag test i known flags k f t = ap (λ (l : List Bool). set l i true) k ∙ next_filled false test i flags true f t

-- and left clear, as all from there on are
clear_from : (test : Own → Bool) (n i : ℕ) → n ≤ i → i < records → get_or (filled false test n) i false ≡ false
unfolding filled
clear_from test zero i h l = get_or-replicate records i false false l
clear_from test (suc n) i h l = get_or-set_other (filled false test n) n i (test (own_at n)) false (λ e. omega arith) ∙ clear_from test n i (omega arith) l

pub own_clear : (test : Own → Bool) (i : ℕ) (known flags : List Bool) → i < records → known ≡ flags → flags ≡ filled false test i → false ≡ test (own_at i)
    → known ≡ filled false test (i + 1)
own_clear test i known flags h k f t =
    k ∙ sym (set-get_or flags i false) ∙ ap (set flags i) (ap (λ (l : List Bool). get_or l i false) f ∙ clear_from test i i (omega arith) h)
    ∙ next_filled false test i flags false f t

-- where no record has its type none suppresses it
none-typed : (s : Setup) (o : Own) (rs : List Record) → some (is_of (own_type o)) rs ≡ false → some (suppresses_own s o) rs ≡ false
unfolding some
none-typed s o [] h = refl
none-typed s o (r ∷ rs) h =
    let k = (neither (is_of (own_type o) r) (some (is_of (own_type o)) rs)).0 h in
    let e : eqb r.rtype (own_type o) ≡ false = k.0 in
    let not-this : suppresses_own s o r ≡ false = simp (e, and-false) in
    ap (λ (b : Bool). b || some (suppresses_own s o) rs) not-this ∙ none-typed s o rs k.1

pub untyped : (s : Setup) (p : List ℕ) (t : Section) (i : ℕ) (o : Own) → o ≡ own_at i → (rtype : ℕ) → rtype ≡ own_type o → some_of rtype p t ≡ false
    → false ≡ knows s (readable (record_at p) t.count t.at) (own_at i)
unfolding some_of
untyped s p t i o e rtype y h =
    sym (none-typed s (own_at i) (readable (record_at p) t.count t.at)
    (ap (λ (n : ℕ). some (is_of n) (readable (record_at p) t.count t.at)) (sym (y ∙ ap own_type e)) ∙ h))
