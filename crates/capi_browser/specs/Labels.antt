-- The labels of a service as they are handed in: what does not fit is kept in a way that the rules of a set-up refuse. Assumes nothing: these are definitions.
use Rattle.std.specs.Prelude.{ℕ, List, cond, length, replicate, eqb}
use Rattle.std.proofs.lemmas.List.Edits.{sets}
use Rattle.own.specs.declared.records.Service.{Service}

-- a service label: its whole length, with the bytes that fit
unfoldable pub service_of : List ℕ → Service
service_of label = record { bytes = sets (replicate 16 0) 0 label; len = length label }

-- a label that has one length: zeros, which are no such label, where it has another
unfoldable pub exactly : ℕ → List ℕ → List ℕ
exactly n label = cond (eqb (length label) n) (sets (replicate n 0) 0 label) (replicate n 0)
