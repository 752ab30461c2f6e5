-- The value of a hex digit, in the library's words. Assumes nothing.
use Rattle.std.proofs.Common.{◌≡◌, ℕ, ◌%◌, cond, ltb, arith}
use Rattle.std.proofs.lemmas.Bool.Decides.{nat_tests}
use Rattle.std.specs.Char.{digit_value, is_ascii_hexdigit}
use Rattle.console_text.specs.hex.Bytes.{hex_value, is_hex}

module _ (b : ℕ) where
  pub hex_told : is_ascii_hexdigit b ≡ is_hex b
  unfolding hex_value
  hex_told = grind (arith, nat_tests)

  pub value_told : cond (ltb (digit_value b) 16) (digit_value b) 0 ≡ hex_value b % 16
  unfolding hex_value
  value_told = grind (arith, nat_tests)
