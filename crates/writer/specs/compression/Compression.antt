-- How a name is written into a packet (specification, 'Writing a packet'): "Every name .. is cut at its longest suffix of whole labels that stands
-- earlier byte for byte in a name of the packet .., pointers there followed, and points to the smallest such offset; the root alone is never
-- pointed to." A packet is the list of its bytes, a name that of its uncompressed ones. Assumes nothing: these are definitions.
use Rattle.std.specs.Prelude.{ℕ, zero, suc, ◌+◌, ◌/◌, ◌%◌, List, [], ◌∷◌, ◌++◌, Bool, false, cond, take, Option, Some, None}
use Rattle.wire.specs.labels.Counted.{starts}
use Rattle.wire.specs.names.Names.{Reading, name, malformed, name_at}
use Rattle.wire.specs.expansion.Equal.{same_bytes}
use Rattle.writer.specs.declared.compression.Cut.{Cut}

-- what is read is the name of these bytes, byte for byte
abbrev pub is_read : List ℕ → Reading → Bool
is_read s (name bs e) = same_bytes bs s
is_read s malformed = false

-- the name of the bytes `s` stands at an offset of the packet `p`, pointers there followed
unfoldable pub stands_at : List ℕ → List ℕ → ℕ → Bool
stands_at p s o = is_read s (name_at p o)

-- The first of some offsets at which a name stands. The offsets are those at which labels of the packet's names start, rising: so the suffix is
-- found in names alone, at the start of a label, and at the smallest offset.
unfoldable pub place_of : List ℕ → List ℕ → List ℕ → Option ℕ
place_of p s [] = None
place_of p s (o ∷ os) = cond (stands_at p s o) (Some o) (place_of p s os)

-- one byte more is kept
abbrev pub onward : Cut → Cut
onward c = record { kept = suc c.kept; place = c.place }

-- the name is cut here, if it stands somewhere from here on
abbrev pub cut_here : Option ℕ → Cut → Cut
cut_here (Some o) later = record { kept = 0; place = Some o }
cut_here None later = later

-- Where a name is cut, `k` bytes of a label still to come: before each label what is left of the name is looked for, the longest suffix first;
-- before the zero byte nothing is, so the root alone is never pointed to.
unfoldable pub cut_from : List ℕ → List ℕ → ℕ → List ℕ → Cut
cut_from p os k [] = record { kept = 0; place = None }
cut_from p os (suc k) (b ∷ bs) = onward (cut_from p os k bs)
cut_from p os zero (zero ∷ bs) = record { kept = 0; place = None }
cut_from p os zero (suc n ∷ bs) = cut_here (place_of p (suc n ∷ bs) os) (onward (cut_from p os (suc n) bs))

abbrev pub cut_of : List ℕ → List ℕ → List ℕ → Cut
cut_of p os bs = cut_from p os 0 bs

-- a pointer to an offset: two bits set, and 14 bits
abbrev pub pointer_to : ℕ → List ℕ
pointer_to o = (192 + o / 256) ∷ (o % 256) ∷ []

-- what follows the bytes that are kept: a pointer, or the zero byte
abbrev pub end_of : Option ℕ → List ℕ
end_of (Some o) = pointer_to o
end_of None = 0 ∷ []

-- the bytes of a name, where the packet before it is `p`, and labels of its names start at the offsets `os`
unfoldable pub name_bytes : List ℕ → List ℕ → List ℕ → List ℕ
name_bytes p os bs = take (cut_of p os bs).kept bs ++ end_of (cut_of p os bs).place

-- the offsets at which its own labels start, where the name is written at `at`
unfoldable pub name_places : List ℕ → List ℕ → ℕ → List ℕ → List ℕ
name_places p os at bs = starts at 0 (take (cut_of p os bs).kept bs)
