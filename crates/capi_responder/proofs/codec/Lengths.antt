-- How many bytes the parts of a state take. Assumes nothing.
use mathlib.Core.Path.{◌≡◌, refl}
use Prim.Native.Nat.{◌+◌}
use native.Mathlib.Omega.{arith}
use lib.ListN.{length, length-append}
use Rattle.own.specs.declared.records.Label.{Label}
use Rattle.own.specs.declared.records.Service.{Service}
use Rattle.own.specs.declared.records.Strings.{Strings}
use Rattle.own.specs.declared.records.Setup.{Setup}
use Rattle.claims.specs.declared.Progress.{Progress}
use Rattle.capi_responder.specs.codec.Numbers.{bytes64}
use Rattle.capi_responder.specs.codec.Layout as layout
use Rattle.capi_responder.specs.codec.Codec.{label_bytes, service_bytes, strings_bytes, setup_bytes, last_bytes, multicasts_bytes, progress_bytes, SetupFits}
use Rattle.capi_responder.specs.codec.Codec.{set_bytes, hold_bytes, holds_bytes}

pub length_label : (l : Label) → length l.bytes ≡ layout.most_label → length (label_bytes l) ≡ layout.label_size
length_label l e = simp length-append (omega arith)

pub length-service : (l : Service) → length l.bytes ≡ layout.most_service → length (service_bytes l) ≡ layout.service_size
length-service l e = simp length-append (omega arith)

pub length-strings : (t : Strings) → length t.bytes ≡ layout.most_txt → length (strings_bytes t) ≡ layout.txt_size
length-strings t e = simp length-append (omega arith)

pub length-setup : (s : Setup) → SetupFits s → length (setup_bytes s) ≡ layout.setup_size
unfolding setup_bytes
length-setup s h = simp length-append (omega arith)

pub length-progress : (progress : Progress) → layout.setup_size + length (progress_bytes progress) ≡ layout.state_size
unfolding progress_bytes multicasts_bytes last_bytes holds_bytes hold_bytes set_bytes bytes64
length-progress progress = refl
