-- The round trip, part by part: the bytes of a part read as that part, wherever they stand. Assumes nothing.
use mathlib.Core.Path.{◌≡◌, refl, ap, ◌∙◌}
use mathlib.Core.List.{List, [], ◌∷◌}
use Prim.Native.Nat.{ℕ, ◌+◌}
use lib.ListN.{length}
use Rattle.own.specs.declared.records.Label.{Label}
use Rattle.own.specs.declared.records.Service.{Service}
use Rattle.own.specs.declared.records.Strings.{Strings}
use Rattle.own.specs.declared.records.Setup.{Setup}
use Rattle.claims.specs.declared.ClaimState.{ClaimState}
use Rattle.claims.specs.declared.ClaimState.TheVariants.{Waiting, Probing1, Probing2, Probing3, Deferred, Announced, Held, Lost}
use Rattle.claims.specs.declared.Progress.{Progress}
use Rattle.capi_responder.specs.codec.Numbers.{word64, bytes64, Fits64}
use Rattle.capi_responder.specs.codec.Layout as layout
use Rattle.capi_responder.specs.codec.Parts.{label_at, service_at, strings_at, setup_at, claim_of, claim_at, progress_at}
use Rattle.capi_responder.specs.codec.Codec.{claim_tag, claim_due, claim_bytes, when_bytes, last_bytes, multicasts_bytes, set_bytes, hold_bytes, holds_bytes, progress_bytes, ProgressFits}
use Rattle.capi_responder.specs.codec.Codec.{label_bytes, service_bytes, bytes16, strings_bytes, flag_byte, setup_bytes, SetupFits}
use Rattle.capi_responder.proofs.codec.Lengths.{length_label, length-service, length-strings}
use Rattle.capi_responder.proofs.codec.Stands.{Stands, front, behind, part_read, byte_read, flag_read, word16-read, number_read, case_read, when_read}
use Rattle.capi_responder.proofs.codec.Multicast.{multicasts-read}
use Rattle.capi_responder.proofs.codec.Held.{holds_read}

-- ---- the set-up

module _ {b : List ℕ} {at : ℕ} where
  label-read : (l : Label) → length l.bytes ≡ layout.most_label → Stands b at (label_bytes l) → label_at b at ≡ l
  unfolding label_at
  label-read l e s = λ i. record {
    bytes = part_read l.bytes _ e (front _ _ s) i;
    len = byte_read l.len [] (behind l.bytes _ s _ e) i;
  }

  service-read : (l : Service) → length l.bytes ≡ layout.most_service → Stands b at (service_bytes l) → service_at b at ≡ l
  unfolding service_at
  service-read l e s = λ i. record {
    bytes = part_read l.bytes _ e (front _ _ s) i;
    len = byte_read l.len [] (behind l.bytes _ s _ e) i;
  }

  pub strings-read : (t : Strings) → length t.bytes ≡ layout.most_txt → Stands b at (strings_bytes t) → strings_at b at ≡ t
  unfolding strings_at
  strings-read t e s = λ i. record {
    bytes = part_read t.bytes _ e (front _ _ s) i;
    len = word16-read t.len (behind t.bytes _ s _ e) i;
  }

pub setup_read : {b : List ℕ} (s : Setup) → SetupFits s → Stands b layout.instance (setup_bytes s) → setup_at b ≡ s
unfolding setup_at setup_bytes
setup_read {b} s h instance =
    let service = behind (label_bytes s.instance) _ instance layout.label_size (length_label s.instance h.instance) in
    let protocol = behind (service_bytes s.service) _ service layout.service_size (length-service s.service h.service) in
    let host = behind s.protocol _ protocol layout.protocol_size h.protocol in
    let domain = behind (label_bytes s.host) _ host layout.label_size (length_label s.host h.host) in
    let port = behind s.domain _ domain layout.domain_size h.domain in
    let txt = behind (bytes16 s.port) _ port layout.port_size refl in
    let a = behind (strings_bytes s.txt) _ txt layout.txt_size (length-strings s.txt h.txt) in
    let hasaaaa = behind s.a _ a layout.a_size h.a in
    let aaaa = behind (flag_byte s.hasaaaa ∷ []) _ hasaaaa layout.flag_size refl in
    λ i. record {
      instance = label-read s.instance h.instance (front _ _ instance) i;
      service = service-read s.service h.service (front _ _ service) i;
      protocol = part_read s.protocol _ h.protocol (front _ _ protocol) i;
      host = label-read s.host h.host (front _ _ host) i;
      domain = part_read s.domain _ h.domain (front _ _ domain) i;
      port = word16-read s.port (front _ _ port) i;
      txt = strings-read s.txt h.txt (front _ _ txt) i;
      a = part_read s.a _ h.a (front _ _ a) i;
      hasaaaa = flag_read s.hasaaaa _ hasaaaa i;
      aaaa = part_read s.aaaa _ h.aaaa aaaa i;
    }

-- ---- what changes

claim_read : {b : List ℕ} {at : ℕ} (c : ClaimState) → Fits64 (claim_due c) → Stands b at (claim_bytes c) → claim_at b at ≡ c
unfolding claim_at
claim_read {b} {at} c h s =
    ap (λ (t : ℕ). claim_of t (word64 b (at + 1))) (byte_read (claim_tag c) _ s) ∙ ap (claim_of (claim_tag c)) (case_read (claim_tag c) _ h s) ∙ back c
  where
    back : (d : ClaimState) → claim_of (claim_tag d) (claim_due d) ≡ d
    back (Waiting due) = refl
    back (Probing1 due) = refl
    back (Probing2 due) = refl
    back (Probing3 due) = refl
    back (Deferred due) = refl
    back (Announced due) = refl
    back Held = refl
    back Lost = refl

module _ {b : List ℕ} where
  pub progress_read : (progress : Progress) → ProgressFits progress → Stands b layout.instance_claim (progress_bytes progress) → progress_at b ≡ progress
  unfolding progress_at progress_bytes multicasts_bytes last_bytes holds_bytes hold_bytes set_bytes bytes64
  progress_read progress h instance =
      let host = behind (claim_bytes progress.instance) _ instance layout.case_size refl in
      let sent = behind (claim_bytes progress.host) _ host layout.case_size refl in
      let reply = behind (multicasts_bytes progress.sent) _ sent layout.multicasts_size refl in
      let updated = behind (when_bytes progress.reply) _ reply layout.case_size refl in
      let holds = behind (when_bytes progress.updated) _ updated layout.case_size refl in
      let draw = behind (holds_bytes progress.holds) _ holds layout.holds_size refl in
      let last = behind (bytes64 progress.draw) _ draw layout.number_size refl in
      λ i. record {
        instance = claim_read progress.instance h.instance (front _ _ instance) i;
        host = claim_read progress.host h.host (front _ _ host) i;
        sent = multicasts-read progress.sent h.sent (front _ _ sent) i;
        reply = when_read progress.reply h.reply (front _ _ reply) i;
        holds = holds_read progress.holds h.holds (front _ _ holds) i;
        updated = when_read progress.updated h.updated (front _ _ updated) i;
        draw = number_read progress.draw h.draw (front _ _ draw) i;
        last = number_read progress.last h.last last i;
      }
