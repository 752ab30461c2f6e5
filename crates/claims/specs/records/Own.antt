-- The own records (specification, 'Own records' and 'Writing a packet'), each rule by cases: a record more is a line more in each of these, and nothing
-- elsewhere. Assumes nothing: these are definitions.
use Rattle.std.specs.Prelude.{ℕ, List, [], ◌∷◌, Bool, true, false, get_or}
use Rattle.claims.specs.declared.records.Claim.{Claim}
use Rattle.claims.specs.declared.records.Claim.TheVariants.{Instance, Host}
use Rattle.claims.specs.declared.records.Own.{Own}
use Rattle.claims.specs.declared.records.Set.{Set}
use Rattle.claims.specs.declared.records.Own.TheVariants.{Ptr, Srv, Txt, A, Aaaa, InstanceNsec, HostNsec}

-- "in the order PTR, SRV, TXT, A, AAAA", then NSEC, "after AAAA, the instance's first"
abbrev pub all : List Own
all = Ptr ∷ Srv ∷ Txt ∷ A ∷ Aaaa ∷ InstanceNsec ∷ HostNsec ∷ []

abbrev pub records : ℕ
records = 7

abbrev pub index_of : Own → ℕ
index_of Ptr = 0
index_of Srv = 1
index_of Txt = 2
index_of A = 3
index_of Aaaa = 4
index_of InstanceNsec = 5
index_of HostNsec = 6

-- the record of an index; past the end, the first
unfoldable pub record_at : ℕ → Own
record_at i = get_or all i Ptr

abbrev pub own_type : Own → ℕ
own_type Ptr = 12
own_type Srv = 33
own_type Txt = 16
own_type A = 1
own_type Aaaa = 28
own_type InstanceNsec = 47
own_type HostNsec = 47

-- "class 0x8001, PTR 1"
abbrev pub own_class : Own → ℕ
own_class Ptr = 1
own_class Srv = 0x8001
own_class Txt = 0x8001
own_class A = 0x8001
own_class Aaaa = 0x8001
own_class InstanceNsec = 0x8001
own_class HostNsec = 0x8001

-- "PTR (.., TTL 4500), SRV (.., TTL 120), TXT (4500), A (120), AAAA (120, ..)"; of NSEC "that of the claim's shorter-lived record, 120"
abbrev pub own_ttl : Own → ℕ
own_ttl Ptr = 4500
own_ttl Srv = 120
own_ttl Txt = 4500
own_ttl A = 120
own_ttl Aaaa = 120
own_ttl InstanceNsec = 120
own_ttl HostNsec = 120

-- "Claims: the instance name with SRV and TXT, the host name with A and AAAA." "(PTR: the instance claim)"
abbrev pub claim_for : Own → Claim
claim_for Ptr = Instance
claim_for Srv = Instance
claim_for Txt = Instance
claim_for A = Host
claim_for Aaaa = Host
claim_for InstanceNsec = Instance
claim_for HostNsec = Host

-- "AAAA (120, may be missing)"
abbrev pub present : Own → Bool → Bool
present Ptr aaaa = true
present Srv aaaa = true
present Txt aaaa = true
present A aaaa = true
present Aaaa aaaa = aaaa
present InstanceNsec aaaa = true
present HostNsec aaaa = true

-- "NSEC never conflicts nor stands in a probe", nor in an announcement: it says which types a name has, and the others carry the data
abbrev pub carries_data : Own → Bool
carries_data Ptr = true
carries_data Srv = true
carries_data Txt = true
carries_data A = true
carries_data Aaaa = true
carries_data InstanceNsec = false
carries_data HostNsec = false

-- "SRV, TXT, A, AAAA go out at once in one packet.", and NSEC "at once"
abbrev pub goes_at_once : Own → Bool
goes_at_once Ptr = false
goes_at_once Srv = true
goes_at_once Txt = true
goes_at_once A = true
goes_at_once Aaaa = true
goes_at_once InstanceNsec = true
goes_at_once HostNsec = true

-- the record is in the set
abbrev pub has : Own → Set → Bool
has Ptr set = set.ptr
has Srv set = set.srv
has Txt set = set.txt
has A set = set.a
has Aaaa set = set.aaaa
has InstanceNsec set = set.instancensec
has HostNsec set = set.hostnsec

-- the set of the records of which a test holds
abbrev pub each : (Own → Bool) → Set
each test = record {
  ptr = test Ptr;
  srv = test Srv;
  txt = test Txt;
  a = test A;
  aaaa = test Aaaa;
  instancensec = test InstanceNsec;
  hostnsec = test HostNsec;
}

-- The records that carry data under a claim's name, with which it is claimed, by rising type: TXT (16) and SRV (33), A (1) and AAAA (28). The first is always there.
abbrev pub first_of : Claim → Own
first_of Instance = Txt
first_of Host = A

abbrev pub second_of : Claim → Own
second_of Instance = Srv
second_of Host = Aaaa

abbrev pub claimed : Claim → List Own
claimed claim = first_of claim ∷ second_of claim ∷ []

abbrev pub same_claim : Claim → Claim → Bool
same_claim Instance Instance = true
same_claim Instance Host = false
same_claim Host Instance = false
same_claim Host Host = true
