-- Numbers of 64 bits in a state's bytes, most significant byte first, as in a packet. Assumes nothing: these are definitions.
use Rattle.std.specs.Prelude.{ℕ, zero, suc, ◌+◌, ◌*◌, ◌/◌, ◌%◌, ◌<◌, List, [], ◌∷◌}
use Rattle.wire.specs.octets.Octets.{word32}

-- a number of 64 bits
abbrev pub Fits64 : ℕ → Type 0
Fits64 n = n < 18446744073709551616

-- the number whose eight bytes stand at `at`
abbrev pub word64 : List ℕ → ℕ → ℕ
word64 b at = word32 b at * 4294967296 + word32 b (at + 4)

-- a number without its last `k` bytes
abbrev pub without : ℕ → ℕ → ℕ
without zero n = n
without (suc k) n = without k n / 256

-- the eight bytes of a number
unfoldable pub bytes64 : ℕ → List ℕ
bytes64 n =
    without 7 n % 256
    ∷ without 6 n % 256
    ∷ without 5 n % 256
    ∷ without 4 n % 256
    ∷ without 3 n % 256
    ∷ without 2 n % 256
    ∷ without 1 n % 256
    ∷ n % 256
    ∷ []
