use Rattle.std.proofs.Common.{◌≡◌, ◌∙◌, ℕ, Option, Some, None, refl, ap}
use Rattle.std.specs.Option.{unwrap_or}
use Rattle.console_text.specs.lines.Numbers.{number_of}
use Rattle.console_text.specs.fields.Numbers.{value_of, number_at}
use Rattle.console_text.proofs.fields.number.Goals as goal

told : (o : Option ℕ) → unwrap_or o 0 ≡ value_of o
told None = refl
told (Some n) = refl

pub returns : goal.returns
unfolding number_at
returns c = c.unwrap_or.ensures ∙ told c.number.result ∙ ap value_of (c.number.ensures ∙ ap number_of c.field.ensures)
