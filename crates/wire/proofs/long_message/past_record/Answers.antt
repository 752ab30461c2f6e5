use native.Mathlib.Omega.{arith}
use mathlib.Core.Path.{refl, ◌∙◌}
use Rattle.wire.proofs.long_message.Rdata.{no_record_lem, record_short, record_over_lem, record_fits_lem, record_unfit}
use Rattle.wire.proofs.long_message.past_record.Goals as goal

pub returns-then-p-end : goal.returns-then-p-end
returns-then-p-end c = record { answer = record_short _ _ _ c.past_name.ensures.answer _ c.in_ok-end.was (omega arith); notes = c.past_name.ensures.notes }

pub returns-then-p-rdata : goal.returns-then-p-rdata
returns-then-p-rdata c = record { answer = record_over_lem _ _ _ c.past_name.ensures.answer _ c.in_ok-end.was (omega arith) (omega arith); notes = c.past_name.ensures.notes }

pub fits_noted-requires : goal.fits_noted-requires
fits_noted-requires c = record { p_len_bound = omega arith; rdlength_in_bounds = omega arith; noted = c.past_name.ensures.notes }

pub returns-then-fits_noted : goal.returns-then-fits_noted
returns-then-fits_noted c = record { answer = record_fits_lem _ _ _ c.past_name.ensures.answer _ c.in_ok-end.was (omega arith) _ refl c.be16.ensures refl c.be16-rdlength.ensures (omega arith) _ c.fits_noted.ensures.answer c.if-fits_noted.true; notes = c.fits_noted.ensures.notes }

pub returns-else-fits_noted : goal.returns-else-fits_noted
returns-else-fits_noted c = record { answer = record_unfit _ _ _ c.past_name.ensures.answer _ c.in_ok-end.was (omega arith) _ refl c.be16.ensures refl c.be16-rdlength.ensures (omega arith) _ c.fits_noted.ensures.answer c.if-fits_noted.false; notes = c.fits_noted.ensures.notes }

pub returns-in_err-end : goal.returns-in_err-end
returns-in_err-end c = record { answer = c.from_residual.ensures ∙ no_record_lem _ _ _ c.past_name.ensures.answer c.in_err-end.was; notes = c.past_name.ensures.notes }
