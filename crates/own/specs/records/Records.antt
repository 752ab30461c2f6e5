-- The own records of a set-up (specification, 'Own records' and 'Writing a packet'): which of them it has, their owners and their rdata, by cases. Their types,
-- classes and TTLs are in claims/specs/records/Own. Assumes nothing: these are definitions.
use Rattle.std.specs.Prelude.{◌≡◌, ℕ, ◌+◌, ◌-◌, ◌/◌, ◌%◌, ◌≤◌, List, [], ◌∷◌, ◌++◌, Bool, true, false, length, take, replicate}
use Rattle.std.proofs.lemmas.List.Edits.{sets}
use Rattle.wire.specs.labels.Labels.{encode}
use Rattle.claims.specs.records.Own.{present}
use Rattle.claims.specs.declared.records.Own.{Own}
use Rattle.claims.specs.declared.records.Own.TheVariants.{Ptr, Srv, Txt, A, Aaaa, InstanceNsec, HostNsec}
use Rattle.own.specs.records.Setups.{service_labels, instance_labels, host_labels}
use Rattle.own.specs.declared.records.Setup.{Setup}
use Rattle.own.specs.declared.records.OwnBytes.{OwnBytes}

-- a label after its length byte
abbrev pub label_bytes : List ℕ → List ℕ
label_bytes l = length l ∷ l

-- bytes, at most `most` of them, stand in a buffer from `at` to `end`, and nothing else is changed
pub record Laid (at : ℕ) (bs : List ℕ) (most : ℕ) (o : List ℕ) (end : ℕ) (o' : List ℕ) : Type 0 where
  pub ended : end ≡ at + length bs
  pub bytes : o' ≡ sets o at bs
  pub few : length bs ≤ most

-- bytes in front of zeros
abbrev pub own_of : List ℕ → OwnBytes
own_of bs = record { bytes = bs ++ replicate (400 - length bs) 0; len = length bs }

-- what the set-up has: all but AAAA, which "may be missing"
unfoldable pub has_record : Setup → Own → Bool
has_record s o = present o s.hasaaaa

-- the owner: the service for PTR, the instance for SRV and TXT, the host for A and AAAA, and of an NSEC the name that it speaks of
unfoldable pub own_labels : Setup → Own → List (List ℕ)
own_labels s Ptr = service_labels s
own_labels s Srv = instance_labels s
own_labels s Txt = instance_labels s
own_labels s A = host_labels s
own_labels s Aaaa = host_labels s
own_labels s InstanceNsec = instance_labels s
own_labels s HostNsec = host_labels s

unfoldable pub own_name : Setup → Own → List ℕ
own_name s o = encode (own_labels s o)

-- SRV: "priority and weight 0", the port, and the own host as its target
unfoldable pub srv_rdata : Setup → List ℕ
srv_rdata s = 0 ∷ 0 ∷ 0 ∷ 0 ∷ (s.port / 256) ∷ (s.port % 256) ∷ encode (host_labels s)

-- The types that a name has, as an NSEC says it (RFC 4034, 4.1.2): window 0, the number of bytes, and in these a bit for each type, the first byte's top bit
-- for type 0. The instance has TXT (16) and SRV (33); the host A (1), and AAAA (28) where there is one. "ours has no trailing zero bytes"
abbrev pub instance_types : List ℕ
instance_types = 0 ∷ 5 ∷ 0 ∷ 0 ∷ 0x80 ∷ 0 ∷ 0x40 ∷ []

abbrev pub host_types : Bool → List ℕ
host_types true = 0 ∷ 4 ∷ 0x40 ∷ 0 ∷ 0 ∷ 0x08 ∷ []
host_types false = 0 ∷ 1 ∷ 0x40 ∷ []

-- the rdata, names expanded; of an NSEC "next name equal to the owner, one window block"
unfoldable pub own_rdata : Setup → Own → List ℕ
own_rdata s Ptr = encode (instance_labels s)
own_rdata s Srv = srv_rdata s
own_rdata s Txt = take s.txt.len s.txt.bytes
own_rdata s A = s.a
own_rdata s Aaaa = s.aaaa
own_rdata s InstanceNsec = encode (instance_labels s) ++ instance_types
own_rdata s HostNsec = encode (host_labels s) ++ host_types s.hasaaaa
