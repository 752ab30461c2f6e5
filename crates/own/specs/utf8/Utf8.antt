-- Bytes that a screen can show (specification, 'Own records': "valid UTF-8 by RFC 3629 (no overlong form, no surrogate, nothing past U+10FFFF) and has no
-- byte 0x00..0x1F or 0x7F"), read from the left, byte by byte. Assumes nothing: these are definitions.
use Rattle.std.specs.Prelude.{ℕ, ◌-◌, List, [], ◌∷◌, Bool, true, cond, ◌&&◌, ◌||◌, leb, ltb, eqb}
use Rattle.own.specs.declared.utf8.Next.{Next}

-- so many continuation bytes, of which the next lies between the bounds
abbrev pub owing : ℕ → ℕ → ℕ → Next
owing owed low high = record { owed = owed; low = low; high = high }

-- between two bounds
unfoldable pub within : ℕ → ℕ → ℕ → Bool
within low high b = leb low b && leb b high

-- a character's first byte: one of ASCII that is no control byte, or one of RFC 3629's that others follow
unfoldable pub starts : ℕ → Bool
starts b = within 0x20 0x7E b || within 0xC2 0xF4 b

-- what follows a first byte (RFC 3629, 4): its form has two, three or four bytes, and after E0, ED, F0 and F4 the second is bounded further
unfoldable pub following : ℕ → Next
following b =
    cond (ltb b 0x80) (owing 0 0x80 0xBF)
    (cond (ltb b 0xE0) (owing 1 0x80 0xBF)
    (cond (eqb b 0xE0) (owing 2 0xA0 0xBF)
    (cond (eqb b 0xED) (owing 2 0x80 0x9F)
    (cond (ltb b 0xF0) (owing 2 0x80 0xBF)
    (cond (eqb b 0xF0) (owing 3 0x90 0xBF)
    (cond (eqb b 0xF4) (owing 3 0x80 0x8F)
    (owing 3 0x80 0xBF)))))))

-- whether a byte may stand here, and what is owed behind it
unfoldable pub may_stand : Next → ℕ → Bool
may_stand next b = cond (eqb next.owed 0) (starts b) (within next.low next.high b)

unfoldable pub behind : Next → ℕ → Next
behind next b = cond (eqb next.owed 0) (following b) (owing (next.owed - 1) 0x80 0xBF)

-- every byte may stand where it does, and nothing is owed at the end
unfoldable pub shown_from : Next → List ℕ → Bool
shown_from next [] = eqb next.owed 0
shown_from next (b ∷ bs) = may_stand next b && shown_from (behind next b) bs

unfoldable pub is_shown : List ℕ → Bool
is_shown s = shown_from (owing 0 0x80 0xBF) s

-- characters of one byte alone, which need no more than this
unfoldable pub all_plain : List ℕ → Bool
all_plain [] = true
all_plain (b ∷ bs) = within 0x20 0x7E b && all_plain bs
