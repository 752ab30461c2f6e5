use mathlib.Core.Path.{ap, ◌∙◌}
use Prim.Native.Nat.{ℕ, ◌+◌, ◌<◌}
use native.Mathlib.Omega.{arith}
use Rattle.claims.specs.records.Own.{records}
use Rattle.claims.proofs.records.Sets.{index_low}
use Rattle.capi_responder.specs.codec.Parts.{flag_at}
use Rattle.capi_responder.proofs.codec.set_flag.Goals as goal

pub overflow_add-at : goal.overflow_add-at
overflow_add-at c = let h : c.index_of.result < records = rw c.index_of.ensures (index_low c.args.o) in omega arith

pub returns : goal.returns
returns c = let a = c.args in
    c.flag.ensures ∙ ap (λ (k : ℕ). flag_at a.b.now (a.at + k)) c.index_of.ensures
