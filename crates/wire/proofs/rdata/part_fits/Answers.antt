use native.Mathlib.Omega.{arith}
use mathlib.Core.Path.{refl, ◌∙◌}
use borrow.Author.Tests.{not-true, not-false}
use Rattle.wire.proofs.rdata.Parts.{address-long, fits_name, srv_named}
use Rattle.wire.proofs.rdata.Fits.{in_a, in_txt_lem, in_aaaa, in_srv, in_other, in_form}
use Rattle.wire.proofs.rdata.Forms.{in_typed}
use Rattle.wire.proofs.rdata.part_fits.Goals as goal

pub returns-then-f-eq-A : goal.returns-then-f-eq-A
returns-then-f-eq-A c = address-long 1 4 refl c.args.d.now (λ e. omega arith) _ c.address_in.ensures.bytes ∙ in_a _ _ _ (omega arith)

pub returns-then-f-eq-TXT : goal.returns-then-f-eq-TXT
returns-then-f-eq-TXT c = in_txt_lem _ _ _ (omega arith) _ c.strings_fill.ensures

pub returns-then-f-eq-AAAA : goal.returns-then-f-eq-AAAA
returns-then-f-eq-AAAA c = address-long 28 16 refl c.args.d.now (λ e. omega arith) _ c.address_in-then-f-eq-AAAA.ensures.bytes ∙ in_aaaa _ _ _ (omega arith)

pub returns-then-f-eq-SRV : goal.returns-then-f-eq-SRV
returns-then-f-eq-SRV c = in_srv _ _ _ (omega arith) _ (c.is_some.ensures ∙ srv_named _ _ _ _ c.srv_in.ensures ∙ fits_name _ _ _ _ _ (omega arith) _ refl)

pub returns-then-not-held : goal.returns-then-not-held
returns-then-not-held c = in_other _ _ _ _ (in_typed _ _ _ (λ e. omega arith) _ c.form_of-held.ensures) (λ e. omega arith) (λ e. omega arith) (λ e. omega arith) (not-true _ c.if-not-held.true)

pub returns : goal.returns
returns c = in_form _ _ _ _ (in_typed _ _ _ (λ e. omega arith) _ c.form_of-held.ensures) (not-false _ c.if-not-held.false) _ (c.is_some-2.ensures ∙ fits_name _ _ _ _ _ (omega arith) _ c.name_in.ensures)
