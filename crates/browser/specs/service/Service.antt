-- The service name that a browser asks for ("for one service name (refusal 7 as in setup)"): its labels and its bytes. Assumes nothing: these are definitions.
use Rattle.std.specs.Prelude.{ℕ, ◌-◌, List, [], ◌∷◌, ◌++◌, Bool, ◌&&◌, length, replicate}
use Rattle.wire.specs.labels.Labels.{encode}
use Rattle.own.specs.declared.records.Service.{Service}
use Rattle.own.specs.records.Setups.{local, service_fits, protocol_fits, domain_fits, service_held, protocol_label}
use Rattle.browser.specs.declared.Browser.{Browser}
use Rattle.browser.specs.declared.service.ServiceName.{ServiceName}

-- "The service label is "_" and 1..15 letters, digits or hyphens, .. The next label is exactly "_tcp" or "_udp", and every own name ends in the label "local"."
unfoldable pub right_labels : Service → List ℕ → List ℕ → Bool
right_labels service protocol domain = service_fits service && (protocol_fits protocol && domain_fits domain)

-- the name's labels, the fixed strings among them, and its bytes
abbrev pub name_labels : Service → List ℕ → List (List ℕ)
name_labels service protocol = service_held service ∷ protocol_label protocol ∷ local ∷ []

unfoldable pub service_name : Browser → List ℕ
service_name b = encode (name_labels b.service b.protocol)

-- a name in front of zeros
abbrev pub name_of : List ℕ → ServiceName
name_of bs = record { bytes = bs ++ replicate (29 - length bs) 0; len = length bs }
