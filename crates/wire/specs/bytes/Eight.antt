-- Eight bytes at once. Assumes nothing: these are definitions.
use Rattle.std.specs.Prelude.{ℕ, ◌+◌, ◌*◌, List, get_or}

-- the eight bytes at an offset as one number, the first counting least
abbrev pub eight_at : List ℕ → ℕ → ℕ
eight_at s i = get_or s i 0 + (get_or s (i + 1) 0 + (get_or s (i + 2) 0 + (get_or s (i + 3) 0 + (get_or s (i + 4) 0 + (get_or s (i + 5) 0 + (get_or s (i + 6) 0 + (get_or s (i + 7) 0) * 256) * 256) * 256) * 256) * 256) * 256) * 256
