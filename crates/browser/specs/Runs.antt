-- Runs of packets and ticks: a packet is taken by the cache, a tick is the browser's; refused ones too. Assumes nothing: these are definitions.
use Rattle.std.specs.Prelude.{ℕ, List, [], ◌∷◌}
use Rattle.cache.specs.declared.entries.Entry.{Entry}
use Rattle.cache.specs.entries.Cache.{take_in}
use Rattle.browser.specs.declared.Browser.{Browser}
use Rattle.browser.specs.Calls.{tick_of}

-- a packet from a port, or a tick with a buffer of so many bytes, at a time
pub data Event : Type 0 where
  packet : ℕ → ℕ → List ℕ → Event
  tick : ℕ → ℕ → Event

-- a cache and the browser that looks into it
pub record State : Type 0 where
  pub entries : List Entry
  pub store : List ℕ
  pub browser : Browser

abbrev pub after : State → Event → State
after s (packet now port p) = record {
  entries = (take_in now s.entries s.store port p).entries;
  store = (take_in now s.entries s.store port p).store;
  browser = s.browser;
}
after s (tick now room) = record { entries = s.entries; store = s.store; browser = (tick_of s.browser now s.entries s.store room).browser }

abbrev pub after_all : State → List Event → State
after_all s [] = s
after_all s (e ∷ es) = after_all (after s e) es
