-- What the list promises: "State what the list shows after any run of packets and ticks: exactly the live PTR targets under that name, each once, case folded,
-- lowest entry first and spelled as there." Statements; proved in proofs/list/Exact.antt. Assumes nothing.
use Rattle.std.specs.Prelude.{ℕ, ◌≤◌, ◌<◌, ◌≡◌, true, List, length, get_or}
use Rattle.wire.specs.case_folding.Fold.{same_name}
use Rattle.writer.specs.compression.Sentence.{Among, Rising}
use Rattle.cache.specs.declared.entries.Entry.{Entry}
use Rattle.cache.specs.entries.Entries.{blank, rdata_held}
use Rattle.browser.specs.declared.Browser.{Browser}
use Rattle.browser.specs.list.Listing.{is_shown, list_in}
use Rattle.browser.specs.Runs.{Event, State, after_all}

-- the target in a slot, spelled as there
abbrev pub target_at : List ℕ → List Entry → ℕ → List ℕ
target_at store es i = rdata_held store i (get_or es i blank)

-- the target in slot j is listed, letters folded, and by no higher slot
pub record Lists (now : ℕ) (store : List ℕ) (b : Browser) (es : List Entry) (j : ℕ) : Type 0 where
  pub slot : ℕ
  pub among : Among slot (list_in now store b es)
  pub low : slot ≤ j
  pub same : same_name (target_at store es slot) (target_at store es j) ≡ true

pub record Shows (now : ℕ) (store : List ℕ) (b : Browser) (es : List Entry) : Type 0 where
  -- only live, well-formed PTR entries of the name are listed
  pub sound : (i : ℕ) → Among i (list_in now store b es) → (i < length es) × (is_shown now store b i (get_or es i blank) ≡ true)
  -- and the target of each of them is
  pub complete : (j : ℕ) → j < length es → is_shown now store b j (get_or es j blank) ≡ true → Lists now store b es j
  -- "each once, case folded"
  pub once : (i j : ℕ) → Among i (list_in now store b es) → Among j (list_in now store b es) → same_name (target_at store es i) (target_at store es j) ≡ true → i ≡ j
  -- in entry order
  pub ordered : Rising 0 (length es) (list_in now store b es)

-- `list-exact`: at any time after any run, from any table, store and browser
abbrev pub ListExact : Type 0
ListExact = (s : State) (run : List Event) (now : ℕ) → let t : State = after_all s run in
    Shows now t.store s.browser t.entries × (list_in now t.store t.browser t.entries ≡ list_in now t.store s.browser t.entries)
