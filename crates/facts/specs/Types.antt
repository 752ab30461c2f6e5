-- The types that can conflict: where no record of a message has one there is no conflict (`quiet-claim` in proofs/Types.antt). Assumes nothing: these are
-- definitions.
use Rattle.std.specs.Prelude.{ℕ, ◌<◌, ◌≡◌, Bool, false, ◌||◌, List, eqb}
use Rattle.wire.specs.Lists.{some}
use Rattle.wire.specs.message.Message.{Record}
use Rattle.wire.specs.message.Layout.{record_at}
use Rattle.wire.specs.message.Readable.{readable}
use Rattle.wire.specs.declared.message.Section.{Section}
use Rattle.wire.specs.declared.message.Layout.{Layout}

-- the types of the records that are claimed: A, TXT, AAAA and SRV
unfoldable pub can_conflict : ℕ → Bool
can_conflict rtype = eqb rtype 1 || (eqb rtype 16 || (eqb rtype 28 || eqb rtype 33))

abbrev pub type_conflicts : Record → Bool
type_conflicts r = can_conflict r.rtype

-- a record of a section has such a type, and one of any section of records
unfoldable pub some_type : List ℕ → Section → Bool
some_type p s = some type_conflicts (readable (record_at p) s.count s.at)

unfoldable pub may_conflict : List ℕ → Layout → Bool
may_conflict p l = some_type p l.answers || (some_type p l.authorities || some_type p l.additionals)

-- a record of a section has a type
unfoldable pub some_of : ℕ → List ℕ → Section → Bool
some_of rtype p s = some (λ r. eqb r.rtype rtype) (readable (record_at p) s.count s.at)

-- what the answer of a test on the types of a section's records says: if it is no, then each test that the one of the code comes to fails on all of them
abbrev pub Passed : (ℕ → Bool → Type 0) → List ℕ → Section → Bool → Type 0
Passed post p s result =
    (passes : ℕ → Bool) → ((rtype : ℕ) (b : Bool) → rtype < 65536 → post rtype b → b ≡ passes rtype) → result ≡ false
    → some (λ r. passes r.rtype) (readable (record_at p) s.count s.at) ≡ false
