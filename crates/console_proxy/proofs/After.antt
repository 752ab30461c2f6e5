-- The proxy's domains after a line, from what the code has tested. Assumes nothing.
use mathlib.Core.Path.{◌≡◌, sym, ap, ◌∙◌}
use mathlib.Core.List.{List}
use mathlib.Core.Bool.{true}
use Prim.Native.Nat.{ℕ}
use Rattle.console_text.specs.fields.Forms.{bytes_in}
use Rattle.console_proxy.specs.Lines.{domains_of, is_proxy, after_proxy}
use Rattle.console_proxy.specs.declared.Domains.{Domains}

-- a `proxy`, from its fields
pub is-proxy : (line : List ℕ) (held : Domains) → is_proxy line ≡ true → (rich ldh : List ℕ) → rich ≡ bytes_in 20000 line 1 → ldh ≡ bytes_in 20000 line 2
    → (r : Domains) → r ≡ domains_of rich ldh held → r ≡ after_proxy line held
unfolding after_proxy
is-proxy line held h rich ldh a b r e =
    e ∙ ap (λ (x : List ℕ). domains_of x ldh held) a ∙ ap (λ (x : List ℕ). domains_of (bytes_in 20000 line 1) x held) b ∙ sym (simp h)
