use Rattle.std.proofs.Common.{◌≡◌, ◌∙◌, ℕ, ◌<◌, ◌≤◌, Option, Some, None, cond, ltb, arith, lt-ltb, le-ltb}
use Rattle.std.specs.Option.{SomeIff, unwrap_or}
use Rattle.console_text.proofs.hex.Hex.{value_told}
use Rattle.console_text.proofs.hex.value.Goals as goal

read : (o : Option ℕ) (n : ℕ) → SomeIff o (n < 16) n → unwrap_or o 0 ≡ cond (ltb n 16) n 0
read None n h = let k : 16 ≤ n = omega (arith, h) in simp (le-ltb n 16 k)
read (Some x) n h = simp (lt-ltb n 16 h.0) h.1

pub returns : goal.returns
returns c = c.unwrap_or.ensures ∙ read c.to_digit.result _ c.to_digit.ensures.value ∙ value_told c.args.b
