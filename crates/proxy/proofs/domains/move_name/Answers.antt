use Rattle.proxy.proofs.domains.Tests.{under-longer, joined_alone}
use Rattle.proxy.specs.domains.Under.{moved, moved_of}
use mathlib.Core.Path.{sym, ap, ◌∙◌}
use native.Mathlib.Omega.{arith}
use Rattle.proxy.proofs.domains.move_name.Goals as goal

pub overflow_sub-name : goal.overflow_sub-name
overflow_sub-name c = omega (arith, under-longer _ _ (sym c.is_under.ensures ∙ c.if-is_under.true))

pub returns-else-is_under : goal.returns-else-is_under
unfolding moved
returns-else-is_under c =
    c.joined-else-is_under.ensures ∙ ap moved_of (joined_alone c.args.name.now) ∙ sym (simp (sym c.is_under.ensures ∙ c.if-is_under.false))
