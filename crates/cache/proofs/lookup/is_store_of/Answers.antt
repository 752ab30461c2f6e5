use Rattle.std.proofs.Common.{sym, ◌∙◌, arith}
use Rattle.std.proofs.lemmas.Grind.{common_steps}
use Rattle.std.proofs.lemmas.Bool.Decides.{nat_tests}
use Rattle.cache.proofs.lookup.Refusing.{size_most}
use Rattle.cache.specs.entries.Cache.{is_store_of}
use Rattle.cache.proofs.lookup.is_store_of.Goals as goal

pub returns-then-is_size : goal.returns-then-is_size
unfolding is_store_of
returns-then-is_size c = grind (arith, common_steps, nat_tests)

pub returns-else-is_size : goal.returns-else-is_size
unfolding is_store_of
returns-else-is_size c = grind (arith, common_steps, nat_tests)

pub overflow_mul-result : goal.overflow_mul-result
overflow_mul-result c = let l = size_most _ (sym c.is_size.ensures ∙ c.if-is_size.true) in omega (arith, l)
