-- Numbers of 64 bits in a trace, most significant byte first, as in a packet. Assumes nothing: these are definitions.
use Rattle.std.specs.Prelude.{ℕ, zero, suc, ◌+◌, ◌*◌, ◌/◌, ◌%◌, List, [], ◌∷◌}
use Rattle.wire.specs.octets.Octets.{word32}

-- the number whose eight bytes stand at `at`
abbrev pub word64 : List ℕ → ℕ → ℕ
word64 p at = word32 p at * 4294967296 + word32 p (at + 4)

-- a number without its last `k` bytes
abbrev pub without : ℕ → ℕ → ℕ
without zero n = n
without (suc k) n = without k n / 256

-- the eight bytes of a number
unfoldable pub bytes64 : ℕ → List ℕ
bytes64 n =
    without 7 n % 256
    ∷ without 6 n % 256
    ∷ without 5 n % 256
    ∷ without 4 n % 256
    ∷ without 3 n % 256
    ∷ without 2 n % 256
    ∷ without 1 n % 256
    ∷ n % 256
    ∷ []

-- the two bytes of a number of 16 bits
abbrev pub bytes16 : ℕ → List ℕ
bytes16 n = n / 256 ∷ n % 256 ∷ []
