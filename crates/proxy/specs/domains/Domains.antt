-- The two domains of a proxy (specification, 'The proxy'; RFC 8766, 5.2.1 and 5.5.2): one for rich text, one of letters, digits and hyphens.
-- Assumes nothing: these are definitions.
use Rattle.std.specs.Prelude.{ℕ, List, [], ◌∷◌, Bool, not, ◌&&◌, Result, Ok, Err}
use Rattle.wire.specs.case_folding.Fold.{same_name}
use Rattle.wire.specs.names.Names.{is_name}
use Rattle.wire.specs.refusals.Numbers.{first_refusal}
use Rattle.wire.specs.declared.refusals.Refusal.{Refusal}
use Rattle.wire.specs.declared.refusals.Refusal.TheVariants.{Setup}
use Rattle.proxy.specs.domains.Under.{is_under}

pub record Domains : Type 0 where
  pub rich : List ℕ
  pub ldh : List ℕ

abbrev pub domains : List ℕ → List ℕ → Domains
domains rich ldh = record { rich = rich; ldh = ldh }

-- the name "local", with its length byte and its zero byte
abbrev pub local : List ℕ
local = 5 ∷ 108 ∷ 111 ∷ 99 ∷ 97 ∷ 108 ∷ 0 ∷ []

-- neither "is malformed", nor are the two "equal", nor does one lie "under the other"; so neither is the root
unfoldable pub are_domains : Domains → Bool
are_domains d =
    is_name d.rich && (is_name d.ldh && (not (same_name d.rich d.ldh) && (not (is_under d.rich d.ldh) && not (is_under d.ldh d.rich))))

-- "A setup where a domain is malformed, or the two are equal or one lies under the other, gets refusal 7."
abbrev pub setup_tests : Domains → List (Refusal × Bool)
setup_tests d = (Setup, not (are_domains d)) ∷ []

unfoldable pub setup_refusal : Domains → ℕ
setup_refusal d = first_refusal (setup_tests d)

-- what a call answers, unless one of its tests refuses it
abbrev pub unless_refused : {A : Type 0} → Result (Unit {0}) Refusal → Result A Refusal → Result A Refusal
unless_refused (Ok u) answer = answer
unless_refused (Err refusal) answer = Err refusal
