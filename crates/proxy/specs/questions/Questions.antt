-- A unicast question at the proxy (specification, 'The proxy'; RFC 8766, 5.5.1 and 5.4). Assumes nothing: these are definitions.
use Rattle.std.specs.Prelude.{ℕ, List, [], ◌∷◌, Bool, cond, not, ◌&&◌, ◌||◌, eqb, Option, Some, None, Result, Ok}
use Rattle.wire.specs.names.Names.{is_name}
use Rattle.wire.specs.refusals.Numbers.{first_refusal, refused_by}
use Rattle.wire.specs.declared.refusals.Refusal.{Refusal}
use Rattle.wire.specs.declared.refusals.Refusal.TheVariants.{Malformed, Setup, TooLong}
use Rattle.proxy.specs.domains.Under.{is_under, moved, is_overlong, moved_name}
use Rattle.proxy.specs.domains.Domains.{Domains, are_domains, local, unless_refused}
use Rattle.proxy.specs.declared.domains.Moved.{Moved}

-- a name lies under either domain
unfoldable pub is_below : Domains → List ℕ → Bool
is_below d name = is_under d.rich name || is_under d.ldh name

-- "Unicast names under either delegated domain map to "local" for any type"; any other name stays
unfoldable pub inward : Domains → List ℕ → List ℕ
inward d name = cond (is_under d.rich name) (moved d.rich local name) (moved d.ldh local name)

-- SOA (6), NS (2) and DS (43)
unfoldable pub is_apex_type : ℕ → Bool
is_apex_type rtype = eqb rtype 6 || (eqb rtype 2 || eqb rtype 43)

-- "Questions for SOA, NS and DS below either apex, and no others, get a negative answer at once"
unfoldable pub is_negative : Domains → List ℕ → ℕ → Bool
is_negative d name rtype = is_apex_type rtype && is_below d name

-- the refusals of a question: 6 a malformed name, 7, and 13 "tested last", of a question that is not answered at once
abbrev pub question_tests : Domains → List ℕ → ℕ → List (Refusal × Bool)
question_tests d name rtype =
    (Malformed, not (is_name name)) ∷ ((Setup, not (are_domains d)) ∷ ((TooLong, not (is_negative d name rtype) && is_overlong (inward d name)) ∷ []))

unfoldable pub question_refusal : Domains → List ℕ → ℕ → ℕ
question_refusal d name rtype = first_refusal (question_tests d name rtype)

-- what becomes of a question for a name and a type: it is refused, it is answered negatively at once (none), or it is asked on the link by a name
unfoldable pub question_of : Domains → List ℕ → ℕ → Result (Option Moved) Refusal
question_of d name rtype =
    unless_refused (refused_by (question_tests d name rtype)) (Ok (cond (is_negative d name rtype) None (Some (moved_name (inward d name)))))
