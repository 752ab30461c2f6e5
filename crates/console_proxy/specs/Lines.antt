-- What a line makes of the console's proxy: `proxy RICH LDH` puts two other domains in the place of those held, and every other line leaves them.
-- Assumes nothing: these are definitions.
use Rattle.std.specs.Prelude.{ℕ, List, [], ◌∷◌, Bool, cond, ◌&&◌, ◌||◌, length, replicate, eqb}
use Rattle.std.proofs.lemmas.List.Edits.{sets}
use Rattle.wire.specs.expansion.Equal.{same_bytes}
use Rattle.proxy.specs.domains.Domains.{domains, setup_refusal}
use Rattle.console_text.specs.fields.Forms.{has_arguments, is_word, are_bytes_at, bytes_in}
use Rattle.console_proxy.specs.declared.Domain.{Domain}
use Rattle.console_proxy.specs.declared.Domains.{Domains}

-- the words `proxy`, `question`, `answer` and `cached`
abbrev pub proxy_word : List ℕ
proxy_word = 112 ∷ 114 ∷ 111 ∷ 120 ∷ 121 ∷ []

abbrev pub question_word : List ℕ
question_word = 113 ∷ 117 ∷ 101 ∷ 115 ∷ 116 ∷ 105 ∷ 111 ∷ 110 ∷ []

abbrev pub answer_word : List ℕ
answer_word = 97 ∷ 110 ∷ 115 ∷ 119 ∷ 101 ∷ 114 ∷ []

abbrev pub cached_word : List ℕ
cached_word = 99 ∷ 97 ∷ 99 ∷ 104 ∷ 101 ∷ 100 ∷ []

-- a word is one of these calls
unfoldable pub is_proxy_call : List ℕ → Bool
is_proxy_call word = same_bytes word proxy_word || (same_bytes word question_word || (same_bytes word answer_word || same_bytes word cached_word))

-- bytes as a domain that is held
abbrev pub domain_of : List ℕ → Domain
domain_of bs = record { len = length bs; bytes = sets (replicate 255 0) 0 bs }

abbrev pub both : List ℕ → List ℕ → Domains
both rich ldh = record { rich = domain_of rich; ldh = domain_of ldh }

-- before the first set-up: no bytes, which are no domain
unfoldable pub no_domains : Domains
no_domains = both [] []

-- an accepted set-up replaces the domains, a refused one changes nothing
unfoldable pub domains_of : List ℕ → List ℕ → Domains → Domains
domains_of rich ldh held = cond (eqb (setup_refusal (domains rich ldh)) 0) (both rich ldh) held

-- the form `proxy RICH LDH`
unfoldable pub is_proxy : List ℕ → Bool
is_proxy line = has_arguments line 2 && (are_bytes_at line 1 && are_bytes_at line 2)

-- after a `proxy`; a field has at most 20,000 bytes, as many as the longest line spells
unfoldable pub after_proxy : List ℕ → Domains → Domains
after_proxy line held = cond (is_proxy line) (domains_of (bytes_in 20000 line 1) (bytes_in 20000 line 2) held) held

-- the domains after a line, by its first word
unfoldable pub domains_after : List ℕ → Domains → Domains
domains_after line held = cond (is_word proxy_word line) (after_proxy line held) held
