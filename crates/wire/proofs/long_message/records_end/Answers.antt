use Prim.Native.Nat.{ℕ}
use mathlib.Core.Path.{sym, ap, ◌∙◌}
use native.Mathlib.Omega.{arith}
use Rattle.wire.specs.message.Layout.{list_from, record_at}
use Rattle.wire.specs.message.Places.{past_list}
use Rattle.wire.proofs.message.Ends.{list_none, ends_next, ends_bad}
use Rattle.wire.proofs.long_message.records_end.Goals as goal

pub loop-read-init : goal.loop-read-init
loop-read-init c = (ap (λ (n : ℕ). past_list (list_from (record_at c.args.p.now) n c.args.at)) (omega arith), c.requires.noted)

pub past_record-requires : goal.past_record-requires
past_record-requires c = record { p_len_bound = omega arith; noted = c.loop-read.invariant.1 }

pub returns-in_err-here : goal.returns-in_err-here
returns-in_err-here c = record { answer = c.from_residual.ensures ∙ sym (c.loop-read.invariant.0 ∙ ends_bad (record_at c.args.p.now) _ _ _ (omega arith) c.past_record.ensures.answer c.in_err-here.was); notes = c.past_record.ensures.notes }

pub loop-read-preserved : goal.loop-read-preserved
loop-read-preserved c = (
  c.loop-read.invariant.0 ∙ ends_next (record_at c.args.p.now) _ _ _ (omega arith) c.past_record.ensures.answer _ c.in_ok-here.was ∙ ap (λ (n : ℕ). past_list (list_from (record_at c.args.p.now) n c.in_ok-here.here)) (omega arith),
  c.past_record.ensures.notes,
)

pub returns : goal.returns
returns c = record { answer = sym (c.loop-read.invariant.0 ∙ ap past_list (list_none (record_at c.args.p.now) _ _ (omega arith))); notes = c.loop-read.invariant.1 }
