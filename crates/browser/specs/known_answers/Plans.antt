-- The known answers that a packet may take, as a pass over the table gathers them. Assumes nothing: these are definitions.
use Rattle.std.specs.Prelude.{ℕ, suc, ◌+◌, List, [], ◌∷◌, cond, ◌&&◌, ltb, take, set, replicate}
use Rattle.cache.specs.declared.entries.Entry.{Entry}
use Rattle.browser.specs.declared.Browser.{Browser}
use Rattle.browser.specs.declared.known_answers.Known.{Known}
use Rattle.browser.specs.declared.known_answers.Plan.{Plan}
use Rattle.browser.specs.known_answers.Known.{is_known, shown_ttl}

abbrev pub no_answer : Known
no_answer = record { slot = 0; len = 0; ttl = 0 }

unfoldable pub empty_plan : Plan
empty_plan = record { known = replicate 121 no_answer; n = 0 }

-- the known answer in slot i
abbrev pub known_of : ℕ → ℕ → Entry → Known
known_of now i e = record { slot = i; len = e.rdata; ttl = shown_ttl now e }

-- a plan with the entry in slot i, if it is a known answer and there is room for it
unfoldable pub plan_with : ℕ → List ℕ → Browser → ℕ → Entry → Plan → Plan
plan_with now store b i e p =
    cond (ltb p.n 121 && is_known now store b i e) (record { known = set p.known p.n (known_of now i e); n = p.n + 1 }) p

-- with some entries, the first of which is in slot i
unfoldable pub plan_from : ℕ → List ℕ → Browser → ℕ → List Entry → Plan → Plan
plan_from now store b i [] p = p
plan_from now store b i (e ∷ es) p = plan_from now store b (suc i) es (plan_with now store b i e p)

-- the plan of some slots of a table
abbrev pub planned : Plan → List Known
planned p = take p.n p.known
