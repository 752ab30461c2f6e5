use mathlib.Core.Path.{◌≡◌, refl, ◌∙◌}
use mathlib.Core.Bool.{◌&&◌}
use borrow.Author.Tests.{eq-eqb, ne_eqb}
use lib.Dec.{eqb}
use lib.ListN.{length}
use Rattle.own.specs.records.Setups.{label_fits, instance_fits, service_fits, protocol_fits, domain_fits, txt_fits, valid_setup}
use Rattle.capi_responder.specs.codec.Layout as layout
use Rattle.capi_responder.specs.codec.Parts.{part_at, label_at, service_at, strings_at, setup_at}
use Rattle.capi_responder.specs.setup_test.Held.{label_of, service_of, strings_of}
use Rattle.capi_responder.proofs.idle.Tests.{on, off}
use Rattle.capi_responder.proofs.setup_test.InPlace.{txt-read, whole}
use Rattle.capi_responder.proofs.setup_test.keeps_rules.Goals as goal
use Rattle.capi_responder.proofs.setup_test.keeps_rules.Goals.{then-b-eq-STATE_SIZE, else-b-eq-STATE_SIZE}
use Rattle.capi_responder.proofs.setup_test.keeps_rules.Goals.{then-instance_fits, else-instance_fits}
use Rattle.capi_responder.proofs.setup_test.keeps_rules.Goals.{then-service_fits, else-service_fits}
use Rattle.capi_responder.proofs.setup_test.keeps_rules.Goals.{then-protocol_fits, else-protocol_fits}
use Rattle.capi_responder.proofs.setup_test.keeps_rules.Goals.{then-label_fits, else-label_fits}

pub returns-then-same_bytes : goal.returns-then-same_bytes
unfolding setup_at label_at service_at strings_at label_of service_of strings_of domain_fits valid_setup
returns-then-same_bytes c =
    let b = c.args.b.now in
    let long = eqb (length b) layout.state_size in
    let instance = instance_fits (label_at b layout.instance) in
    let service = service_fits (service_at b layout.service) in
    let protocol = protocol_fits (part_at b layout.protocol layout.protocol_size) in
    let host = label_fits (label_at b layout.host) in
    let domain = domain_fits (part_at b layout.domain layout.domain_size) in
    let txt = txt_fits (strings_at b layout.txt) in
    let v1 : c.if-b-eq-STATE_SIZE.value ≡ (long && instance) = elim c.if-b-eq-STATE_SIZE.branch [
      | then-b-eq-STATE_SIZE w ↦ on refl (eq-eqb _ layout.state_size w.if-b-eq-STATE_SIZE.true) w.value-is w.instance_fits.ensures
      | else-b-eq-STATE_SIZE w ↦ off instance refl (ne_eqb _ layout.state_size w.if-b-eq-STATE_SIZE.false) w.value-is
    ] in
    let v2 : c.if-instance_fits.value ≡ ((long && instance) && service) = elim c.if-instance_fits.branch [
      | then-instance_fits w ↦ on v1 w.if-instance_fits.true w.value-is w.service_fits.ensures
      | else-instance_fits w ↦ off service v1 w.if-instance_fits.false w.value-is
    ] in
    let v3 : c.if-service_fits.value ≡ (((long && instance) && service) && protocol) = elim c.if-service_fits.branch [
      | then-service_fits w ↦ on v2 w.if-service_fits.true w.value-is w.protocol_fits.ensures
      | else-service_fits w ↦ off protocol v2 w.if-service_fits.false w.value-is
    ] in
    let v4 : c.if-protocol_fits.value ≡ ((((long && instance) && service) && protocol) && host) = elim c.if-protocol_fits.branch [
      | then-protocol_fits w ↦ on v3 w.if-protocol_fits.true w.value-is w.label_fits.ensures
      | else-protocol_fits w ↦ off host v3 w.if-protocol_fits.false w.value-is
    ] in
    let v5 : c.if-label_fits.value ≡ (((((long && instance) && service) && protocol) && host) && domain) = elim c.if-label_fits.branch [
      | then-label_fits w ↦ on v4 w.if-label_fits.true w.value-is w.same_bytes.ensures
      | else-label_fits w ↦ off domain v4 w.if-label_fits.false w.value-is
    ] in
    on v5 c.if-same_bytes.true refl (txt-read b _ _ c.be16.ensures c.txt_fits.ensures) ∙ whole b instance service protocol host domain txt

pub returns-else-same_bytes : goal.returns-else-same_bytes
unfolding setup_at label_at service_at strings_at label_of service_of strings_of domain_fits valid_setup
returns-else-same_bytes c =
    let b = c.args.b.now in
    let long = eqb (length b) layout.state_size in
    let instance = instance_fits (label_at b layout.instance) in
    let service = service_fits (service_at b layout.service) in
    let protocol = protocol_fits (part_at b layout.protocol layout.protocol_size) in
    let host = label_fits (label_at b layout.host) in
    let domain = domain_fits (part_at b layout.domain layout.domain_size) in
    let txt = txt_fits (strings_at b layout.txt) in
    let v1 : c.if-b-eq-STATE_SIZE.value ≡ (long && instance) = elim c.if-b-eq-STATE_SIZE.branch [
      | then-b-eq-STATE_SIZE w ↦ on refl (eq-eqb _ layout.state_size w.if-b-eq-STATE_SIZE.true) w.value-is w.instance_fits.ensures
      | else-b-eq-STATE_SIZE w ↦ off instance refl (ne_eqb _ layout.state_size w.if-b-eq-STATE_SIZE.false) w.value-is
    ] in
    let v2 : c.if-instance_fits.value ≡ ((long && instance) && service) = elim c.if-instance_fits.branch [
      | then-instance_fits w ↦ on v1 w.if-instance_fits.true w.value-is w.service_fits.ensures
      | else-instance_fits w ↦ off service v1 w.if-instance_fits.false w.value-is
    ] in
    let v3 : c.if-service_fits.value ≡ (((long && instance) && service) && protocol) = elim c.if-service_fits.branch [
      | then-service_fits w ↦ on v2 w.if-service_fits.true w.value-is w.protocol_fits.ensures
      | else-service_fits w ↦ off protocol v2 w.if-service_fits.false w.value-is
    ] in
    let v4 : c.if-protocol_fits.value ≡ ((((long && instance) && service) && protocol) && host) = elim c.if-protocol_fits.branch [
      | then-protocol_fits w ↦ on v3 w.if-protocol_fits.true w.value-is w.label_fits.ensures
      | else-protocol_fits w ↦ off host v3 w.if-protocol_fits.false w.value-is
    ] in
    let v5 : c.if-label_fits.value ≡ (((((long && instance) && service) && protocol) && host) && domain) = elim c.if-label_fits.branch [
      | then-label_fits w ↦ on v4 w.if-label_fits.true w.value-is w.same_bytes.ensures
      | else-label_fits w ↦ off domain v4 w.if-label_fits.false w.value-is
    ] in
    off txt v5 c.if-same_bytes.false refl ∙ whole b instance service protocol host domain txt
