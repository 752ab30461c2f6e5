-- The eight bytes of a number, as the library writes them. Assumes nothing.
use Rattle.std.proofs.Common.{◌≡◌, ℕ, ◌/◌, ◌%◌, arith}
use Rattle.std.specs.Prelude.{[], ◌∷◌}
use Rattle.std.specs.Int.{to_be_bytes}
use mir.Syntax.{w64}
use Rattle.capi_responder.specs.codec.Numbers.{without, bytes64}

-- a number without some bytes, divided at once
pub same_bytes : (n : ℕ) → to_be_bytes w64 n ≡ bytes64 n
unfolding bytes64
same_bytes n =
    let d7 : n / 72057594037927936 % 256 ≡ without 7 n % 256 = omega arith in
    let d6 : n / 281474976710656 % 256 ≡ without 6 n % 256 = omega arith in
    let d5 : n / 1099511627776 % 256 ≡ without 5 n % 256 = omega arith in
    let d4 : n / 4294967296 % 256 ≡ without 4 n % 256 = omega arith in
    let d3 : n / 16777216 % 256 ≡ without 3 n % 256 = omega arith in
    let d2 : n / 65536 % 256 ≡ without 2 n % 256 = omega arith in
    let d1 : n / 256 % 256 ≡ without 1 n % 256 = omega arith in
    λ i. d7 i ∷ d6 i ∷ d5 i ∷ d4 i ∷ d3 i ∷ d2 i ∷ d1 i ∷ n % 256 ∷ []
