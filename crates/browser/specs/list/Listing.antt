-- What the list shows: "exactly the live PTR targets under that name, each once, case folded, lowest entry first and spelled as there. Entries whose target is
-- malformed count nowhere." A function of table, store, name and time. Assumes nothing: these are definitions.
use Rattle.std.specs.Prelude.{ℕ, zero, suc, ◌-◌, List, [], ◌∷◌, map, Bool, cond, not, ◌&&◌, length, get_or, take, Option, Some, None}
use Rattle.wire.specs.names.Names.{is_name}
use Rattle.wire.specs.case_folding.Fold.{same_name}
use Rattle.cache.specs.declared.entries.Entry.{Entry}
use Rattle.cache.specs.entries.Entries.{blank, live_of, rdata_held}
use Rattle.cache.specs.laws.Counts.{any_from}
use Rattle.browser.specs.declared.Browser.{Browser}
use Rattle.browser.specs.service.Service.{service_name}

-- a live PTR (12) entry of the name, whose target is well formed: its rdata is exactly one uncompressed name
unfoldable pub is_shown : ℕ → List ℕ → Browser → ℕ → Entry → Bool
is_shown now store b i e = live_of now store (service_name b) 12 i e && is_name (rdata_held store i e)

-- the entry d in slot j shows the target of the entry e in slot i, letters folded
unfoldable pub shows_too : ℕ → List ℕ → Browser → ℕ → Entry → ℕ → Entry → Bool
shows_too now store b i e j d = is_shown now store b j d && same_name (rdata_held store j d) (rdata_held store i e)

-- slot i is listed: its entry is shown, and no lower entry shows its target
unfoldable pub is_listed : ℕ → List ℕ → Browser → List Entry → ℕ → Bool
is_listed now store b es i =
    is_shown now store b i (get_or es i blank) && not (any_from (shows_too now store b i (get_or es i blank)) 0 (take i es))

-- of n slots from slot i on: the first that passes a test, and all that do
unfoldable pub first_of : (ℕ → Bool) → ℕ → ℕ → Option ℕ
first_of test i zero = None
first_of test i (suc n) = cond (test i) (Some i) (first_of test (suc i) n)

unfoldable pub all_of : (ℕ → Bool) → ℕ → ℕ → List ℕ
all_of test i zero = []
all_of test i (suc n) = cond (test i) (i ∷ all_of test (suc i) n) (all_of test (suc i) n)

-- the lowest listed slot from a slot on
unfoldable pub listed_from : ℕ → List ℕ → Browser → List Entry → ℕ → Option ℕ
listed_from now store b es from = first_of (is_listed now store b es) from (length es - from)

-- the whole list: its slots, and the targets in them, spelled as there
unfoldable pub list_in : ℕ → List ℕ → Browser → List Entry → List ℕ
list_in now store b es = all_of (is_listed now store b es) 0 (length es)

abbrev pub targets_in : ℕ → List ℕ → Browser → List Entry → List (List ℕ)
targets_in now store b es = map (λ (i : ℕ). rdata_held store i (get_or es i blank)) (list_in now store b es)
