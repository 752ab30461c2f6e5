use Rattle.std.proofs.Common.{◌≡◌, ◌∙◌, ℕ, ◌<◌, ◌≤◌, Result, Ok, Err, cond, ltb, ap, arith, lt-ltb, le-ltb}
use Rattle.std.specs.Result.{OkIff, result_unwrap_or}
use Rattle.console_text.specs.fields.Numbers.{number16_at}
use Rattle.console_text.proofs.fields.number_of_16.Goals as goal

told : {E : Type 0} (n : ℕ) (r : Result ℕ E) → OkIff r (n < 65536) n → result_unwrap_or r 0 ≡ cond (ltb 65535 n) 0 n
told n (Ok x) h = let k : n ≤ 65535 = omega (arith, h.0) in simp (le-ltb 65535 n k) h.1
told n (Err e) h = let k : 65535 < n = omega (arith, h) in simp (lt-ltb 65535 n k)

pub returns : goal.returns
unfolding number16_at
returns c = c.unwrap_or.ensures ∙ told c.number.result _ c.try_from.ensures ∙ ap (λ n. cond (ltb 65535 n) 0 n) c.number.ensures
