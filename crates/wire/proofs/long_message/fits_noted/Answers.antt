use native.Mathlib.Omega.{arith}
use mathlib.Core.Path.{◌∙◌}
use Rattle.wire.proofs.long_message.Rdata.{fits_ptr, fits-srv, srv_short, fits-a, fits-aaaa, fits-txt, fits-other}
use Rattle.wire.proofs.long_message.fits_noted.Goals as goal

pub returns-then-f-eq-PTR : goal.returns-then-f-eq-PTR
returns-then-f-eq-PTR c = record { answer = c.ends_at.ensures.answer ∙ fits_ptr _ _ (omega arith) (omega arith); notes = c.ends_at.ensures.notes }

pub returns-then-f-lt6 : goal.returns-then-f-lt6
returns-then-f-lt6 c = record { answer = srv_short _ _ (omega arith) (omega arith) (omega arith); notes = c.requires.noted }

pub returns-then-f-eq-SRV : goal.returns-then-f-eq-SRV
returns-then-f-eq-SRV c = record { answer = c.ends_at-then-f-eq-SRV.ensures.answer ∙ fits-srv _ _ (omega arith) (omega arith) (omega arith); notes = c.ends_at-then-f-eq-SRV.ensures.notes }

pub returns-then-f-eq-A : goal.returns-then-f-eq-A
returns-then-f-eq-A c = record { answer = fits-a _ _ (omega arith) (omega arith); notes = c.requires.noted }

pub returns-then-f-eq-AAAA : goal.returns-then-f-eq-AAAA
returns-then-f-eq-AAAA c = record { answer = fits-aaaa _ _ (omega arith) (omega arith); notes = c.requires.noted }

pub returns-then-f-eq-TXT : goal.returns-then-f-eq-TXT
returns-then-f-eq-TXT c = record { answer = fits-txt _ _ c.requires.rdlength_in_bounds (omega arith) _ c.strings_fill.ensures; notes = c.requires.noted }

pub returns : goal.returns
returns c = record { answer = fits-other _ _ (omega arith) (λ e. omega arith) (λ e. omega arith) (λ e. omega arith) (λ e. omega arith) (λ e. omega arith); notes = c.requires.noted }
