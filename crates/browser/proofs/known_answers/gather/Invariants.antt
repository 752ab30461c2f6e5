use Rattle.std.proofs.Common.{◌≡◌, drop}
use Rattle.browser.specs.known_answers.Plans.{empty_plan, plan_from}
use Rattle.browser.proofs.known_answers.gather.Given as goal

-- what the entries from i on add to the plan is what all add
abbrev pub invariant-loop-i : goal.invariant-loop-i
invariant-loop-i l =
    plan_from l.time l.store l.b l.i (drop l.i l.table) l.plan ≡ plan_from l.time l.store l.b l.fn.from (drop l.fn.from l.table) empty_plan
