-- A label, a service label and TXT strings, by the bytes of their array and their length. Assumes nothing: these are definitions.
use Rattle.std.specs.Prelude.{ℕ, List}
use Rattle.own.specs.declared.records.Label.{Label}
use Rattle.own.specs.declared.records.Service.{Service}
use Rattle.own.specs.declared.records.Strings.{Strings}

unfoldable pub label_of : List ℕ → ℕ → Label
label_of bytes len = record { bytes = bytes; len = len }

unfoldable pub service_of : List ℕ → ℕ → Service
service_of bytes len = record { bytes = bytes; len = len }

unfoldable pub strings_of : List ℕ → ℕ → Strings
strings_of bytes len = record { bytes = bytes; len = len }
