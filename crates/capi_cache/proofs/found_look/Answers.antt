use mathlib.Core.Bool.{true}
use Rattle.capi_cache.proofs.found_look.Goals as goal

pub returns : goal.returns
returns c = λ i. record {
  refusal = 0;
  found = true;
  slot = (c.met_at-met.ensures i).slot;
  name_labels = (c.met_at-met.ensures i).labels;
  name_first_label = (c.met_at-met.ensures i).first;
}
