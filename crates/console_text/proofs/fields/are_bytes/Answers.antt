use mathlib.Core.Path.{ap, ◌∙◌}
use Rattle.console_text.specs.hex.Bytes.{is_bytes}
use Rattle.console_text.specs.fields.Forms.{are_bytes_at}
use Rattle.console_text.proofs.fields.are_bytes.Goals as goal

pub returns : goal.returns
unfolding are_bytes_at
returns c = c.is_bytes.ensures ∙ ap is_bytes c.field.ensures
