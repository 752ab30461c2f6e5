-- What the tests of names and domains say, from what the code has tested. Assumes nothing.
use mathlib.Core.Path.{◌≡◌, ◌∙◌}
use mathlib.Core.List.{List, [], ◌++◌, append-nil}
use mathlib.Core.Bool.{true, false, ◌&&◌}
use Prim.Native.Nat.{ℕ, ◌<◌, ◌≤◌}
use native.Mathlib.Omega.{arith}
use borrow.Author.Tests.{le-ltb, ltb-true}
use mathlib.Mathlib.Data.Bool.Basic.{and-eq-true-eq-eq-true-and-eq-true as both}
use lib.ListN.{length, take, drop}
use lib.Seq.{take_all}
use lib.Dec.{ltb}
use Rattle.wire.specs.case_folding.Fold.{same_name}
use Rattle.proxy.specs.domains.Under.{starts_at, front_of, is_under}

-- a name that is no longer than a domain does not lie under it
pub under-short : (domain name : List ℕ) → length name ≤ length domain → false ≡ is_under domain name
unfolding is_under
under-short domain name h = simp (le-ltb _ _ h)

-- a name under a domain is longer than it
pub under-longer : (domain name : List ℕ) → is_under domain name ≡ true → length domain < length name
unfolding is_under
under-longer domain name h =
    ltb-true (length domain) (length name)
    ((both (ltb (length domain) (length name)) (starts_at 0 (front_of domain name) name && same_name (drop (front_of domain name) name) domain)).0 h).0

-- a name that lies under no domain, with nothing behind it, is itself
pub joined_alone : (name : List ℕ) → take (length name) name ++ [] ≡ name
joined_alone name = append-nil (take (length name) name) ∙ take_all (length name) name (omega arith)
