use Rattle.std.proofs.Common.{◌≡◌, ◌∙◌, ℕ, Option, Some, None, refl, ap}
use Rattle.std.specs.Option.{is_some}
use Rattle.console_text.specs.lines.Numbers.{number_of}
use Rattle.console_text.specs.fields.Numbers.{is_value, is_number_at}
use Rattle.console_text.proofs.fields.is_number.Goals as goal

told : (o : Option ℕ) → is_some o ≡ is_value o
told None = refl
told (Some n) = refl

pub returns : goal.returns
unfolding is_number_at
returns c = c.is_some.ensures ∙ told c.number.result ∙ ap is_value (c.number.ensures ∙ ap number_of c.field.ensures)
