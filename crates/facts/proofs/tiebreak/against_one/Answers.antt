use Rattle.facts.proofs.tiebreak.Turns.{one_verdict}
use Rattle.facts.proofs.tiebreak.against_one.Goals as goal

pub returns : goal.returns
returns c = one_verdict _ _ _ c.count_under-c.ensures _ c.place.ensures _ c.past_own.ensures _ c.then.ensures
