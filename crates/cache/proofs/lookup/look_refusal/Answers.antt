use mathlib.Core.Path.{sym, ◌∙◌}
use native.Mathlib.Omega.{arith}
use Rattle.cache.proofs.lookup.Looking.{look-entries, look-store, look-name, look-passes}
use Rattle.cache.proofs.lookup.look_refusal.Goals as goal

pub returns-then-entries-ne0 : goal.returns-then-entries-ne0
returns-then-entries-ne0 c = look-entries c.args.entries c.args.n c.args.store.now c.args.name.now (omega arith)

pub returns-then-not-is_store_of : goal.returns-then-not-is_store_of
returns-then-not-is_store_of c = look-store c.args.entries c.args.n c.args.store.now c.args.name.now (omega arith) (sym c.is_store_of.ensures ∙ c.if-not-is_store_of.true)

pub returns-then-not-is_name : goal.returns-then-not-is_name
returns-then-not-is_name c = look-name c.args.entries c.args.n c.args.store.now c.args.name.now (omega arith) (sym c.is_store_of.ensures ∙ c.if-not-is_store_of.false) (sym c.is_name.ensures ∙ c.if-not-is_name.true)

pub returns : goal.returns
returns c = look-passes c.args.entries c.args.n c.args.store.now c.args.name.now (omega arith) (sym c.is_store_of.ensures ∙ c.if-not-is_store_of.false) (sym c.is_name.ensures ∙ c.if-not-is_name.false)
