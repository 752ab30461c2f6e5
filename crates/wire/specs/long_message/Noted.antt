-- What is noted while a long message is read: of the names to which pointers lead, how long they are. Assumes nothing: these are definitions.
use Rattle.std.specs.Prelude.{ℕ, ◌≡◌, ◌⊎◌, Bool, false, List, length, get_or, eqb, None, Option, Some}
use Rattle.wire.specs.names.Names.{Reading, name, malformed, name_at}

-- how long a name is, uncompressed; 0 where it is malformed
abbrev pub length_of : Reading → ℕ
length_of (name bs e) = length bs
length_of malformed = 0

-- of each offset of the packet `p` there is noted 0, or how long the name there is
pub record Noted (p noted : List ℕ) : Type 0 where
  pub at : (t : ℕ) → (get_or noted t 0 ≡ 0) ⊎ (get_or noted t 0 ≡ length_of (name_at p t))

-- where a name ends in place
abbrev pub past_name : Reading → Option ℕ
past_name (name bs e) = Some e
past_name malformed = None

-- a name that ends at an offset
abbrev pub ends_at : ℕ → Reading → Bool
ends_at end (name bs e) = eqb e end
ends_at end malformed = false
