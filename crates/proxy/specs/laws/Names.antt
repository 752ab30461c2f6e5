-- What mapping does to names (specification, 'The proxy'; RFC 8766, 5.5). Statements; proved in proofs/laws/Mapping.antt. Assumes nothing.
use Rattle.std.specs.Prelude.{◌≡◌, List, Bool, true, false, ℕ, take, drop}
use Rattle.wire.specs.case_folding.Fold.{same_name}
use Rattle.wire.specs.names.Names.{is_name}
use Rattle.proxy.specs.domains.Under.{front_of, is_under, moved, is_overlong}
use Rattle.proxy.specs.domains.Domains.{Domains, are_domains, local}
use Rattle.proxy.specs.questions.Questions.{is_below, inward}
use Rattle.proxy.specs.records.Records.{outward}

-- `at_most_one`: a name lies under at most one of the two domains
abbrev pub AtMostOne : Type 0
AtMostOne = (d : Domains) → are_domains d ≡ true → (name : List ℕ) → is_name name ≡ true → is_under d.rich name ≡ true → is_under d.ldh name ≡ false

-- `at-apex`: neither domain itself lies under one of the two
abbrev pub AtApex : Type 0
AtApex = (d : Domains) → are_domains d ≡ true → (is_below d d.rich ≡ false) × (is_below d d.ldh ≡ false)

-- `out-and-back`: "A name under "local" mapped out and back is equal again where it fits"; and back it always fits
abbrev pub OutAndBack : Type 0
OutAndBack =
    (d : Domains) → are_domains d ≡ true → (host : Bool) (name : List ℕ) → is_name name ≡ true → is_under local name ≡ true
    → is_overlong (outward d host name) ≡ false → (same_name (inward d (outward d host name)) name ≡ true) × (is_overlong (inward d (outward d host name)) ≡ false)

-- `others-stay`: "others pass unmapped", byte for byte
pub record OthersStay : Type 0 where
  pub out : (d : Domains) (host : Bool) (name : List ℕ) → is_under local name ≡ false → outward d host name ≡ name
  pub back : (d : Domains) (name : List ℕ) → is_below d name ≡ false → inward d name ≡ name

-- `still-names`: a mapped name that fits is well formed
pub record StillNames : Type 0 where
  pub out : (d : Domains) → are_domains d ≡ true → (host : Bool) (name : List ℕ) → is_name name ≡ true → is_overlong (outward d host name) ≡ false → is_name
      (outward d host name) ≡ true
  pub back : (d : Domains) → are_domains d ≡ true → (name : List ℕ) → is_name name ≡ true → is_overlong (inward d name) ≡ false → is_name (inward d name) ≡ true

-- `text-kept`: "text is never re-encoded": of a mapped name the bytes before the domain are the same, and behind them stands the other domain
abbrev pub TextKept : Type 0
TextKept =
    (from to name : List ℕ) → is_under from name ≡ true
    → (take (front_of from name) (moved from to name) ≡ take (front_of from name) name) × (drop (front_of from name) (moved from to name) ≡ to)
