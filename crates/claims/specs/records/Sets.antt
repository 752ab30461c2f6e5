-- Sets of own records, for every number of them. Assumes nothing: these are definitions.
use Rattle.std.specs.Prelude.{List, [], ◌∷◌, Bool, true, false, cond, ◌&&◌, ◌||◌, eqb}
use Rattle.claims.specs.records.Own.{all, index_of, claim_for, same_claim, present, carries_data, goes_at_once, has, each, claimed}
use Rattle.claims.specs.declared.records.Claim.{Claim}
use Rattle.claims.specs.declared.records.Own.{Own}
use Rattle.claims.specs.declared.records.Set.{Set}

-- a test holds of some element of a list, and of every one
unfoldable pub some_of : {A : Type 0} → (A → Bool) → List A → Bool
some_of test [] = false
some_of test (x ∷ xs) = test x || some_of test xs

unfoldable pub every_of : {A : Type 0} → (A → Bool) → List A → Bool
every_of test [] = true
every_of test (x ∷ xs) = test x && every_of test xs

-- those elements of a list of which a test holds
unfoldable pub picked : {A : Type 0} → (A → Bool) → List A → List A
picked test [] = []
picked test (x ∷ xs) = cond (test x) (x ∷ picked test xs) (picked test xs)

abbrev pub no_record : Set
no_record = each (λ o. false)

-- one record
unfoldable pub only : Own → Set
only o = each (λ p. eqb (index_of p) (index_of o))

-- a set has some record
unfoldable pub any_of : Set → Bool
any_of set = some_of (λ o. has o set) all

-- the records of a set that go out at once
unfoldable pub at_once : Set → Set
at_once set = each (λ o. goes_at_once o && has o set)

-- the records of a set that carry data: all but NSEC
unfoldable pub with_data : Set → Set
with_data set = each (λ o. carries_data o && has o set)

-- the records that are announced for a claim: those that go with it and carry data
unfoldable pub records_of : Claim → Bool → Set
records_of claim aaaa = each (λ o. same_claim (claim_for o) claim && (carries_data o && present o aaaa))

-- a set has a record that carries data under the claim's name: PTR's owner is the service name
abbrev pub under : Claim → Set → Bool
under claim set = some_of (λ o. has o set) (claimed claim)
