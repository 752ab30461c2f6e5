-- UTF-8 by the grammar of RFC 3629, section 4, and what a screen can show said by it. Assumes nothing: these are definitions.
use Rattle.std.specs.Prelude.{ℕ, ◌≤◌, ◌<◌, ◌≡◌, true, List, [], ◌∷◌, ◌++◌}
use Rattle.own.specs.utf8.Utf8.{is_shown}

-- %xLOW-HIGH
abbrev pub Range : ℕ → ℕ → ℕ → Type 0
Range low high b = (low ≤ b) × (b ≤ high)

-- UTF8-tail = %x80-BF
abbrev pub Tail : ℕ → Type 0
Tail b = Range 0x80 0xBF b

-- UTF8-char = UTF8-1 / UTF8-2 / UTF8-3 / UTF8-4
pub data Character : List ℕ → Type 0 where
  -- UTF8-1 = %x00-7F
  one : {a : ℕ} → Range 0x00 0x7F a → Character (a ∷ [])
  -- UTF8-2 = %xC2-DF UTF8-tail
  two : {a b : ℕ} → Range 0xC2 0xDF a → Tail b → Character (a ∷ b ∷ [])
  -- UTF8-3 = %xE0 %xA0-BF UTF8-tail / %xE1-EC 2( UTF8-tail ) / %xED %x80-9F UTF8-tail / %xEE-EF 2( UTF8-tail )
  three_E0 : {b c : ℕ} → Range 0xA0 0xBF b → Tail c → Character (0xE0 ∷ b ∷ c ∷ [])
  three_E1 : {a b c : ℕ} → Range 0xE1 0xEC a → Tail b → Tail c → Character (a ∷ b ∷ c ∷ [])
  three_ED : {b c : ℕ} → Range 0x80 0x9F b → Tail c → Character (0xED ∷ b ∷ c ∷ [])
  three_EE : {a b c : ℕ} → Range 0xEE 0xEF a → Tail b → Tail c → Character (a ∷ b ∷ c ∷ [])
  -- UTF8-4 = %xF0 %x90-BF 2( UTF8-tail ) / %xF1-F3 3( UTF8-tail ) / %xF4 %x80-8F 2( UTF8-tail )
  four_F0 : {b c d : ℕ} → Range 0x90 0xBF b → Tail c → Tail d → Character (0xF0 ∷ b ∷ c ∷ d ∷ [])
  four_F1 : {a b c d : ℕ} → Range 0xF1 0xF3 a → Tail b → Tail c → Tail d → Character (a ∷ b ∷ c ∷ d ∷ [])
  four_F4 : {b c d : ℕ} → Range 0x80 0x8F b → Tail c → Tail d → Character (0xF4 ∷ b ∷ c ∷ d ∷ [])

-- UTF8-octets = *( UTF8-char )
pub data Octets : List ℕ → Type 0 where
  none : Octets []
  next : {char rest : List ℕ} → Character char → Octets rest → Octets (char ++ rest)

-- "no byte 0x00..0x1F or 0x7F"
pub data NoControl : List ℕ → Type 0 where
  nothing : NoControl []
  byte : {b : ℕ} {bs : List ℕ} → 0x1F < b → (b ≡ 0x7F → ⊥) → NoControl bs → NoControl (b ∷ bs)

-- What a screen can show is exactly the UTF-8 of RFC 3629 that has no control byte.
pub record ShownExactly (s : List ℕ) : Type 0 where
  pub only : is_shown s ≡ true → Octets s × NoControl s
  pub all : Octets s → NoControl s → is_shown s ≡ true
