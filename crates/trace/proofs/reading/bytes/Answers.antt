use Rattle.std.proofs.Common.{sym, ap, ◌∙◌, arith}
use Rattle.std.specs.Prelude.{length, Ok}
use lib.Seq.{sets}
use Rattle.trace.specs.reading.Reading.{Step}
use Rattle.trace.specs.reading.Events.{data_of}
use Rattle.trace.proofs.reading.Placed.{placed}
use Rattle.trace.proofs.reading.Gathered.{length-data}
use Rattle.trace.proofs.reading.bytes.Goals as goal

pub gather-requires : goal.gather-requires
gather-requires c = let e = c.in-Ok-Some in
    let known = placed c.args.trace.now c.args.at e.entry (sym c.next.ensures ∙ e.is ∙ ap Ok e.field-0-is) in omega arith

pub returns-in-Ok-Some : goal.returns-in-Ok-Some
returns-in-Ok-Some c = let a = c.args in
    let e = c.in-Ok-Some in
    let q = sym c.next.ensures ∙ e.is ∙ ap Ok e.field-0-is in
    let known = placed a.trace.now a.at e.entry q in
    record {
      len = sym (ap (λ (s : Step). length (data_of a.trace.now s)) q ∙ length-data a.trace.now _ _ (omega arith));
      out = c.gather.ensures ∙ ap (λ (s : Step). sets a.out.now 0 (data_of a.trace.now s)) (sym q);
    }

pub returns-in-Ok-None : goal.returns-in-Ok-None
returns-in-Ok-None c = let a = c.args in
    let q = sym c.next.ensures ∙ c.in-Ok-None.is ∙ ap Ok c.in-Ok-None.field-0-is in
    record { len = sym (ap (λ (s : Step). length (data_of a.trace.now s)) q); out = ap (λ (s : Step). sets a.out.now 0 (data_of a.trace.now s)) (sym q) }

pub returns-in-Err : goal.returns-in-Err
returns-in-Err c = let a = c.args in
    let q = sym c.next.ensures ∙ c.in-Err.is in
    record { len = sym (ap (λ (s : Step). length (data_of a.trace.now s)) q); out = ap (λ (s : Step). sets a.out.now 0 (data_of a.trace.now s)) (sym q) }
