-- Times and how long ago they are (specification, 'What the dock does'): "Time is in milliseconds, 64 bits, at most 2^62. A kept time ahead of now counts as
-- 0 ms ago." Assumes nothing: these are definitions.
use Rattle.std.specs.Prelude.{ℕ, ◌+◌, ◌-◌, Bool, true, false, cond, map, leb, ltb, get_or, Option, Some, None}
use Rattle.claims.specs.records.Own.{all, index_of, has}
use Rattle.claims.specs.declared.records.Own.{Own}
use Rattle.claims.specs.declared.records.Set.{Set}
use Rattle.claims.specs.declared.Multicast.{Multicast}
use Rattle.claims.specs.declared.Multicasts.{Multicasts}

-- 2^62, the last time that a call may carry; 2^62 + 1,000, the last that such a call may set; and 2^62 + 2,000, the last that a state may
-- keep
abbrev pub last_time : ℕ
last_time = 4611686018427387904

abbrev pub last_due : ℕ
last_due = 4611686018427388904

abbrev pub last_kept : ℕ
last_kept = 4611686018427389904

-- The gaps, in ms: "each due 250 ms after the last was sent"; a second announcement after 1,000; a deferral of 1,000; and "multicast less than 1,000 ms ago, 250 ms if
-- the query is a probe for its claim", by which a name is defended
abbrev pub probe_gap : ℕ
probe_gap = 250

abbrev pub announcement_gap : ℕ
announcement_gap = 1000

abbrev pub deferral : ℕ
deferral = 1000

abbrev pub multicast_gap : ℕ
multicast_gap = 1000

abbrev pub defence_gap : ℕ
defence_gap = 250

-- The time `ms` after `now`. A sum past 64 bits stays at the last number; no call that is accepted has one (`after-exact`).
unfoldable pub after_ms : ℕ → ℕ → ℕ
after_ms now ms = cond (leb (now + ms) 18446744073709551615) (now + ms) 18446744073709551615

-- How many ms ago a kept time is: the difference of two naturals is 0 where the kept time is ahead.
abbrev pub age : ℕ → ℕ → ℕ
age time now = now - time

-- a time that may be there has come
abbrev pub due_by : Option ℕ → ℕ → Bool
due_by None now = false
due_by (Some time) now = leb time now

-- a time, where there is one, is at most `most`
abbrev pub at_most : ℕ → Option ℕ → Bool
at_most most None = true
at_most most (Some time) = leb time most

-- "multicast less than .. ms ago"
abbrev pub recently : Option ℕ → ℕ → ℕ → Bool
recently None now gap = false
recently (Some time) now gap = ltb (age time now) gap

-- the last multicast of each record
abbrev pub last_of : Option ℕ → Multicast
last_of last = record { last = last }

abbrev pub each_last : (Own → Option ℕ) → Multicasts
each_last last = record { of = map (λ o. last_of (last o)) all }

abbrev pub never_sent : Multicasts
never_sent = each_last (λ o. None)

-- when the record was last multicast
abbrev pub sent_of : Own → Multicasts → Option ℕ
sent_of o sent = (get_or sent.of (index_of o) (last_of None)).last

-- the last multicast of a record after a packet of time `now`, with the record in it or not
abbrev pub marked : Bool → Option ℕ → ℕ → Option ℕ
marked went last now = cond went (Some now) last

unfoldable pub marked_all : Set → Multicasts → ℕ → Multicasts
marked_all set sent now = each_last (λ o. marked (has o set) (sent_of o sent) now)
