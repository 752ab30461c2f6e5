-- The state after a call, laid over the bytes of the one before it. Assumes nothing: these are definitions.
use Rattle.std.specs.Prelude.{ℕ, ◌+◌, ◌/◌, ◌%◌, ◌≡◌, List, [], ◌∷◌}
use Rattle.std.proofs.lemmas.List.Edits.{sets}
use Rattle.own.specs.declared.records.Setup.{Setup}
use Rattle.responder.specs.declared.State.{State}
use Rattle.capi_responder.specs.codec.Layout as layout
use Rattle.capi_responder.specs.codec.Codec.{decode, with_progress, state_with}

-- the two bytes of a number of 16 bits
abbrev pub low16 : ℕ → List ℕ
low16 n = n / 256 % 256 ∷ n % 256 ∷ []

-- the TXT strings with their length, and the port, where they stand
abbrev pub data_laid : List ℕ → Setup → List ℕ
data_laid b setup = sets (sets (sets b layout.txt setup.txt.bytes) (layout.txt + layout.most_txt) (low16 setup.txt.len)) layout.port (low16 setup.port)

pub record Lays (b : List ℕ) (s : State) (b' : List ℕ) : Type 0 where
  pub bytes : b' ≡ with_progress (data_laid b s.setup) s.progress
  pub says : decode b' ≡ state_with (data_laid b s.setup) s.progress
