use mathlib.Core.Path.{sym, ap, ◌∙◌}
use Prim.Native.Nat.{ℕ, ◌+◌, ◌-◌}
use native.Mathlib.Nat.{sub-zero}
use native.Mathlib.Omega.{arith}
use Rattle.wire.specs.Lists.{some}
use Rattle.wire.specs.message.Message.{Record}
use Rattle.wire.specs.message.Layout.{record_at}
use Rattle.wire.proofs.message.Walk.{readable-none}
use Rattle.facts.proofs.Steps.{one_less, some-none, stopped, stepped, record_behind_lem}
use Rattle.facts.proofs.some_passes.Goals as goal

pub loop-seen-init : goal.loop-seen-init
loop-seen-init g c = rw (sub-zero c.args.s.count) (λ passes h f. f)

pub returns-then-p-end : goal.returns-then-p-end
returns-then-p-end g c = λ passes h e.
    let l = c.loop-seen in
    l.invariant passes h (stopped (record_at _) (λ (r : Record). passes r.rtype) (c.args.s.count - l._seen) l.here
    (λ x next is. omega (arith, (record_behind_lem _ l.here _ c.past_labels-end.ensures x next is).0)))

pub loop-seen-preserved : goal.loop-seen-preserved
loop-seen-preserved g c = rw (one_less c.args.s.count c.loop-seen._seen) (λ passes h f.
    let l = c.loop-seen in
    let end = c.past_labels-end.result in
    let type = c.be16 in
    let saw = record_behind_lem _ l.here _ c.past_labels-end.ensures in
    l.invariant passes h (stepped (record_at _) (λ (r : Record). passes r.rtype) (c.args.s.count - l._seen) l.here (passes type.result) _
    (λ x next is. let k = saw x next is in (ap passes (k.1 ∙ sym type.ensures), k.2 ∙ ap (λ (n : ℕ). end + 10 + n) (sym c.be16-in-loop-seen.ensures)))
    (sym (h type.result c.test.result (omega arith) c.test.ensures) ∙ c.if-test.false) f))

pub returns : goal.returns
returns g c = λ passes h e.
    let l = c.loop-seen in
    l.invariant passes h (ap (some (λ (r : Record). passes r.rtype)) (readable-none (record_at _) (c.args.s.count - l._seen) l.here (omega arith))
    ∙ some-none (λ (r : Record). passes r.rtype))
