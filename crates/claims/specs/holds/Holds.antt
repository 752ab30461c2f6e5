-- Held queries (specification, 'Held queries'): "Hold up to four such queries, by source address". Assumes nothing: these are definitions.
use Rattle.std.specs.Prelude.{ℕ, Bool, true, false, cond, not, ◌&&◌, ◌||◌, List, [], ◌∷◌, map, eqb, Option, Some, None}
use Rattle.claims.specs.records.Own.{has, each}
use Rattle.claims.specs.records.Sets.{some_of, picked, no_record}
use Rattle.claims.specs.declared.records.Set.{Set}
use Rattle.claims.specs.declared.holds.Address.{Address}
use Rattle.claims.specs.declared.holds.Hold.{Hold}
use Rattle.claims.specs.declared.holds.Place.{Place}
use Rattle.claims.specs.declared.holds.Place.TheVariants.{First, Second, Third, Fourth}
use Rattle.claims.specs.declared.holds.Holds.{Holds}

-- a place with a due time is taken, one without is free
abbrev pub is_due_time : Option ℕ → Bool
is_due_time None = false
is_due_time (Some due) = true

abbrev pub is_taken : Hold → Bool
is_taken h = is_due_time h.due

abbrev pub no_hold : Hold
no_hold = record { from = record { high = 0; low = 0 }; due = None; asked = no_record; known = no_record }

abbrev pub no_holds : Holds
no_holds = record { first = no_hold; second = no_hold; third = no_hold; fourth = no_hold }

-- "up to four"
abbrev pub places : List Place
places = First ∷ Second ∷ Third ∷ Fourth ∷ []

abbrev pub hold_at : Place → Holds → Hold
hold_at First holds = holds.first
hold_at Second holds = holds.second
hold_at Third holds = holds.third
hold_at Fourth holds = holds.fourth

abbrev pub with_hold : Place → Hold → Holds → Holds
with_hold First h holds = record { first = h; second = holds.second; third = holds.third; fourth = holds.fourth }
with_hold Second h holds = record { first = holds.first; second = h; third = holds.third; fourth = holds.fourth }
with_hold Third h holds = record { first = holds.first; second = holds.second; third = h; fourth = holds.fourth }
with_hold Fourth h holds = record { first = holds.first; second = holds.second; third = holds.third; fourth = h }

-- the four places in their order, and the held queries in order of arrival
abbrev pub slots : Holds → List Hold
slots holds = map (λ place. hold_at place holds) places

unfoldable pub held_of : Holds → List Hold
held_of holds = picked is_taken (slots holds)

-- "by source address"
abbrev pub same_address : Address → Address → Bool
same_address a b = eqb a.high b.high && eqb a.low b.low

-- a query from the address is held there
abbrev pub is_from : Address → Hold → Bool
is_from from h = is_taken h && same_address h.from from

unfoldable pub some_from : Address → Holds → Bool
some_from from holds = some_of (is_from from) (slots holds)

-- "fewer than four are"
unfoldable pub some_free : Holds → Bool
some_free holds = some_of (λ h. not (is_taken h)) (slots holds)

-- the records of either set
unfoldable pub union : Set → Set → Set
union a b = each (λ o. has o a || has o b)

-- "add the Answer records of later queries from that address"
unfoldable pub knowing : Address → Set → Hold → Hold
knowing from known h =
    cond (is_from from h) (record { from = h.from; due = h.due; asked = h.asked; known = union h.known known }) h

unfoldable pub knowing_all : Address → Set → Holds → Holds
knowing_all from known holds = record {
  first = knowing from known holds.first;
  second = knowing from known holds.second;
  third = knowing from known holds.third;
  fourth = knowing from known holds.fourth;
}

-- One query more, behind those that are held: the first free place goes, those behind it move up, and the new one takes the last. Where four are held, nothing
-- changes.
unfoldable pub queued : Hold → Holds → Holds
queued new holds =
    cond (is_taken holds.first)
    (cond (is_taken holds.second)
    (cond (is_taken holds.third)
    (cond (is_taken holds.fourth) holds (record { first = holds.first; second = holds.second; third = holds.third; fourth = new }))
    (record { first = holds.first; second = holds.second; third = holds.fourth; fourth = new }))
    (record { first = holds.first; second = holds.third; third = holds.fourth; fourth = new }))
    (record { first = holds.second; second = holds.third; third = holds.fourth; fourth = new })

-- "none twice for one address"
unfoldable pub once_per_address : List Hold → Bool
once_per_address [] = true
once_per_address (h ∷ hs) = not (some_of (λ g. same_address g.from h.from) hs) && once_per_address hs
