use mathlib.Core.Path.{ap, ◌∙◌}
use mathlib.Core.List.{List}
use mathlib.Core.Bool.{false}
use Prim.Native.Nat.{ℕ}
use Rattle.wire.specs.message.Readable.{message_in}
use Rattle.own.specs.records.Records.{own_name}
use Rattle.facts.specs.probe.Probe.{is_probe}
use Rattle.facts.proofs.Owned.{own_part}
use Rattle.facts.proofs.query_to.Goals as goal

pub returns : goal.returns
returns c = let a = c.args in
    let n = c.part.ensures.bytes ∙ own_part _ _ c.own_name-name.ensures ∙ ap (own_name a.setup)
    c.first_of.ensures in
    let b = c.probe_by.ensures ∙ ap (λ (x : List ℕ). is_probe x (message_in a.p.now a.l)) n in
    λ i. record { probe = b i; later = c.theirs_later.ensures i; conflict = false }
