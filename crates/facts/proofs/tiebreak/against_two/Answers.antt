use mathlib.Core.Path.{sym, ◌∙◌}
use Rattle.facts.proofs.tiebreak.Turns.{two_decided, second_verdict}
use Rattle.facts.proofs.tiebreak.against_two.Goals as goal

pub count_under-c-requires : goal.count_under-c-requires
count_under-c-requires c = record { ends = c.requires.ends; whole = c.requires.whole }

pub count_under-d-requires : goal.count_under-d-requires
count_under-d-requires c = record { ends = c.requires.ends; whole = c.requires.whole }

pub returns-then-is_ne : goal.returns-then-is_ne
returns-then-is_ne c = two_decided _ _ _ c.count_under-c.ensures _ c.place-first.ensures _ c.requires.own2_value (sym c.is_ne.ensures ∙ c.if-is_ne.true)

pub returns : goal.returns
returns c = second_verdict _ _ _ c.count_under-c.ensures _ c.place-first.ensures _ c.requires.own2_value (sym c.is_ne.ensures ∙ c.if-is_ne.false) _
    c.count_under-d.ensures _ c.place.ensures _ c.past_own.ensures _ c.then.ensures
