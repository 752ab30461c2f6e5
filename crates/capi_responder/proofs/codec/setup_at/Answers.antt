use Rattle.capi_responder.specs.codec.Parts.{setup_at}
use Rattle.capi_responder.proofs.codec.setup_at.Goals as goal

pub returns : goal.returns
unfolding setup_at
returns c = λ i. record {
  instance = c.label_at.ensures i;
  service = c.service_at.ensures i;
  protocol = c.fill.ensures i;
  host = c.label_at-2.ensures i;
  domain = c.fill-2.ensures i;
  port = c.be16.ensures i;
  txt = c.strings_at.ensures i;
  a = c.fill-3.ensures i;
  hasaaaa = c.flag.ensures i;
  aaaa = c.fill-4.ensures i;
}
