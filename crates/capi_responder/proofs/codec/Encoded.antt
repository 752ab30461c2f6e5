-- The round trip of a whole state: what `encode` gives reads as the state. Assumes nothing.
use mathlib.Core.Path.{◌≡◌}
use Rattle.responder.specs.declared.State.{State}
use Rattle.capi_responder.specs.codec.Parts.{setup_at}
use Rattle.capi_responder.specs.codec.Codec.{decode, encode, setup_bytes, SetupFits, ProgressFits}
use Rattle.capi_responder.proofs.codec.Lengths.{length-setup}
use Rattle.capi_responder.proofs.codec.Stands.{whole}
use Rattle.capi_responder.proofs.codec.Round.{setup_read}
use Rattle.capi_responder.proofs.codec.Whole.{state_read}

pub round_trip : (s : State) → SetupFits s.setup → ProgressFits s.progress → decode (encode s) ≡ s
unfolding encode
round_trip s f g =
    let e : setup_at (setup_bytes s.setup) ≡ s.setup = setup_read s.setup f (whole (setup_bytes s.setup)) in
    rw e at (state_read (setup_bytes s.setup) s.progress (length-setup s.setup f) g)
