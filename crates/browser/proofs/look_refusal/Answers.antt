use mathlib.Core.Path.{ap, ◌∙◌}
use lib.ListN.{length}
use Rattle.wire.specs.refusals.Numbers.{number_in}
use Rattle.wire.proofs.refusals.Tests.{number_by}
use Rattle.browser.specs.Steps.{look_tests_with, look_refusal_with, tick_tests_with, tick_refusal_with}
use Rattle.browser.proofs.look_refusal.Goals as goal

pub returns : goal.returns
unfolding look_tests_with look_refusal_with tick_refusal_with
returns c = record {
  answer = c.tick_refusal.ensures;
  number = ap number_in c.tick_refusal.ensures ∙ number_by (tick_tests_with c.args.entries c.args.n (length c.args.store.now) c.args.b c.args.time 1452);
}
