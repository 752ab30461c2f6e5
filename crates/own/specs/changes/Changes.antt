-- Changed data (specification, 'Stops and updates'): "an update of SRV port or TXT". The set-up with the new data, and whether they keep the rules. Assumes
-- nothing: these are definitions.
use Rattle.std.specs.Prelude.{ℕ, Bool, true, ◌&&◌, List, length, replicate, leb}
use Rattle.std.proofs.lemmas.List.Edits.{sets}
use Rattle.wire.specs.rdata.Rdata.{strings_fill}
use Rattle.claims.specs.declared.changes.Change.{Change}
use Rattle.claims.specs.declared.changes.Change.TheVariants.{Port, Txt}
use Rattle.own.specs.declared.records.Strings.{Strings}
use Rattle.own.specs.declared.records.Setup.{Setup}

-- what an update brings: a port, or TXT
pub data NewData : Type 0 where
  new_port : ℕ → NewData
  new_txt : List ℕ → NewData

-- bytes laid over zeros, as far as they go, and how many they are: with more than 400 no set-up keeps the rules
abbrev pub strings_of : List ℕ → Strings
strings_of txt = record { bytes = sets (replicate 400 0) 0 txt; len = length txt }

abbrev pub with_port : Setup → ℕ → Setup
with_port s port = record {
  instance = s.instance;
  service = s.service;
  protocol = s.protocol;
  host = s.host;
  domain = s.domain;
  port = port;
  txt = s.txt;
  a = s.a;
  hasaaaa = s.hasaaaa;
  aaaa = s.aaaa;
}

abbrev pub with_txt : Setup → List ℕ → Setup
with_txt s txt = record {
  instance = s.instance;
  service = s.service;
  protocol = s.protocol;
  host = s.host;
  domain = s.domain;
  port = s.port;
  txt = strings_of txt;
  a = s.a;
  hasaaaa = s.hasaaaa;
  aaaa = s.aaaa;
}

-- the set-up with the new data, and which record they are of
abbrev pub revised : Setup → NewData → Setup
revised s (new_port port) = with_port s port
revised s (new_txt txt) = with_txt s txt

abbrev pub change_of : NewData → Change
change_of (new_port port) = Port
change_of (new_txt txt) = Txt

-- "any that break 01's rules are refusal 7": a port may be any; "TXT is 1..400 bytes of strings that fill it exactly."
unfoldable pub valid_data : NewData → Bool
valid_data (new_port port) = true
valid_data (new_txt txt) = leb 1 (length txt) && (leb (length txt) 400 && strings_fill 0 txt)
