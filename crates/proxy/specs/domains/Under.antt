-- When a name lies under a domain, and the same name under another domain (specification, 'The proxy'; RFC 8766, 5.5). Names are lists of bytes,
-- uncompressed. Assumes nothing: these are definitions.
use Rattle.std.specs.Prelude.{ℕ, zero, suc, ◌-◌, List, [], ◌∷◌, ◌++◌, Bool, false, cond, ◌&&◌, length, take, drop, replicate, ltb, eqb, Option, Some, None}
use Rattle.std.proofs.lemmas.List.Edits.{sets}
use Rattle.wire.specs.case_folding.Fold.{same_name}
use Rattle.proxy.specs.declared.domains.Moved.{Moved}

-- a label, or the zero byte, starts at an offset of a name; `k` bytes of a label are still to come
unfoldable pub starts_at : ℕ → ℕ → List ℕ → Bool
starts_at k zero bs = eqb k 0
starts_at k (suc at) [] = false
starts_at zero (suc at) (b ∷ bs) = starts_at b at bs
starts_at (suc k) (suc at) (b ∷ bs) = starts_at k at bs

-- how many bytes of a name stand before its last ones, of which there are as many as a domain has
abbrev pub front_of : List ℕ → List ℕ → ℕ
front_of domain name = length name - length domain

-- "Under" is strict, by whole labels, letters folded: some labels stand before the domain's
unfoldable pub is_under : List ℕ → List ℕ → Bool
is_under domain name = ltb (length domain) (length name) && (starts_at 0 (front_of domain name) name && same_name (drop (front_of domain name) name) domain)

-- the name with `to` in place of the domain `from`; a name that does not lie under `from` stays
unfoldable pub moved : List ℕ → List ℕ → List ℕ → List ℕ
moved from to name = cond (is_under from name) (take (front_of from name) name ++ to) name

-- "A mapped name over 255 bytes"
abbrev pub is_overlong : List ℕ → Bool
is_overlong name = ltb 255 (length name)

-- bytes at the start of a buffer of `n` zeros
abbrev pub laid : ℕ → List ℕ → List ℕ
laid n bs = sets (replicate n 0) 0 bs

-- a name in a buffer of 255 bytes
abbrev pub moved_name : List ℕ → Moved
moved_name name = record { len = length name; bytes = laid 255 name }

-- the answer of `move_name`: of a name that is too long nothing
abbrev pub moved_of : List ℕ → Option Moved
moved_of name = cond (is_overlong name) None (Some (moved_name name))
