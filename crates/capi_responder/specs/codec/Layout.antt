-- The layout of a state's bytes: the size of each part, and where the part stands, behind the one before it. The parts of the set-up come first, then
-- those of what changes. Assumes nothing: these are definitions.
use Rattle.std.specs.Prelude.{◌≡◌, refl, ℕ, ◌+◌, ◌*◌}
use Rattle.claims.specs.records.Own.{records}

-- ---- sizes

-- the bytes of a label of an instance or a host, of a service label, and of TXT strings
abbrev pub most_label : ℕ
most_label = 63

abbrev pub most_service : ℕ
most_service = 16

abbrev pub most_txt : ℕ
most_txt = 400

-- each with its length behind it, that of TXT strings in two bytes
abbrev pub label_size : ℕ
label_size = most_label + 1

abbrev pub service_size : ℕ
service_size = most_service + 1

abbrev pub txt_size : ℕ
txt_size = most_txt + 2

abbrev pub protocol_size : ℕ
protocol_size = 4

abbrev pub domain_size : ℕ
domain_size = 5

abbrev pub port_size : ℕ
port_size = 2

abbrev pub a_size : ℕ
a_size = 4

abbrev pub flag_size : ℕ
flag_size = 1

abbrev pub aaaa_size : ℕ
aaaa_size = 16

-- a number of 64 bits; and a case byte with its number: a claim, a last multicast, the reply, the last update
abbrev pub number_size : ℕ
number_size = 8

abbrev pub case_size : ℕ
case_size = 1 + number_size

-- the last multicasts: one for each own record
abbrev pub multicasts_size : ℕ
multicasts_size = records * case_size

-- a set of own records, a flag for each
abbrev pub set_size : ℕ
set_size = records * flag_size

-- a held query: the address that it came from, when it is due, what it asks for and what it knows; and all held queries
abbrev pub hold_size : ℕ
hold_size = 2 * number_size + case_size + 2 * set_size

abbrev pub holds_size : ℕ
holds_size = 4 * hold_size

-- ---- the set-up

abbrev pub instance : ℕ
instance = 0

abbrev pub service : ℕ
service = instance + label_size

abbrev pub protocol : ℕ
protocol = service + service_size

abbrev pub host : ℕ
host = protocol + protocol_size

abbrev pub domain : ℕ
domain = host + label_size

abbrev pub port : ℕ
port = domain + domain_size

abbrev pub txt : ℕ
txt = port + port_size

abbrev pub a : ℕ
a = txt + txt_size

abbrev pub hasaaaa : ℕ
hasaaaa = a + a_size

abbrev pub aaaa : ℕ
aaaa = hasaaaa + flag_size

abbrev pub setup_size : ℕ
setup_size = aaaa + aaaa_size

-- ---- what changes

abbrev pub instance_claim : ℕ
instance_claim = setup_size

abbrev pub host_claim : ℕ
host_claim = instance_claim + case_size

abbrev pub multicasts : ℕ
multicasts = host_claim + case_size

abbrev pub reply : ℕ
reply = multicasts + multicasts_size

abbrev pub updated : ℕ
updated = reply + case_size

abbrev pub holds : ℕ
holds = updated + case_size

abbrev pub draw : ℕ
draw = holds + holds_size

abbrev pub last : ℕ
last = draw + number_size

abbrev pub state_size : ℕ
state_size = last + number_size

-- the last multicast of an own record, by its index
abbrev pub multicast : ℕ → ℕ
multicast i = multicasts + i * case_size

-- the parts of a held query that stands at an offset
abbrev pub low : ℕ → ℕ
low at = at + number_size

abbrev pub due : ℕ → ℕ
due at = low at + number_size

abbrev pub asked : ℕ → ℕ
asked at = due at + case_size

abbrev pub known : ℕ → ℕ
known at = asked at + set_size

-- a held query, by its place
abbrev pub hold : ℕ → ℕ
hold i = holds + i * hold_size

-- the sizes that c/include/kurgashel.h tells its callers
pub header : (setup_size ≡ 579) × (state_size ≡ 850)
header = (refl, refl)
