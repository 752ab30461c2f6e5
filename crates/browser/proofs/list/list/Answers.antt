use Rattle.std.proofs.Common.{◌≡◌, ◌<◌, ◌≤◌, length, refl, sym, ap, ◌∙◌, arith}
use Rattle.std.specs.Prelude.{Some, None}
use Rattle.std.proofs.lemmas.Result.{err_from_is_err_and}
use Rattle.wire.specs.refusals.Numbers.{number_in, refused_by}
use Rattle.cache.specs.entries.Cache.{entries_refusal}
use Rattle.browser.specs.list.Listing.{is_listed, listed_from}
use Rattle.browser.specs.Steps.{look_tests_with}
use Rattle.browser.proofs.Refusing.{list_refused, list_given, list-number}
use Rattle.browser.proofs.list.Turns.{first-here, first_on, first-end}
use Rattle.browser.proofs.list.list.Goals as goal

pub returns-in_err-look_refusal : goal.returns-in_err-look_refusal
returns-in_err-look_refusal c =
    let tested : c.look_refusal.result ≡ refused_by (look_tests_with (entries_refusal c.args.time c.args.table.now) (length c.args.table.now) (length c.args.store.now) c.args.b c.args.time) =
    cc (c.look_refusal.ensures.answer, c.table_refusal-entries.ensures) in
    let p = err_from_is_err_and c.from_residual.result c.from_residual.ensures.1 in
    let answer = list_refused c.args.b c.args.time c.args.table.now c.args.store.now tested c.args.from c.in_err-look_refusal.was in
    rw (p.1, p.2) (record { answer = answer; number = ap number_in answer ∙ list-number c.args.b c.args.time c.args.table.now c.args.store.now c.args.from })

pub loop-i-init : goal.loop-i-init
unfolding listed_from
loop-i-init c = refl

pub returns-then-is_listed : goal.returns-then-is_listed
returns-then-is_listed c =
    let tested : c.look_refusal.result ≡ refused_by (look_tests_with (entries_refusal c.args.time c.args.table.now) (length c.args.table.now) (length c.args.store.now) c.args.b c.args.time) =
    cc (c.look_refusal.ensures.answer, c.table_refusal-entries.ensures) in
    let less : c.loop-i.i < length c.args.table.now = omega (arith) in
    let answer = list_given c.args.b c.args.time c.args.table.now c.args.store.now tested c.args.from c.in_ok-look_refusal.was (Some c.loop-i.i)
    (c.loop-i.invariant ∙ first-here (is_listed c.args.time c.args.store.now c.args.b c.args.table.now) c.loop-i.i (length c.args.table.now) less (sym c.if-is_listed.ensures)) in
    record { answer = answer; number = ap number_in answer ∙ list-number c.args.b c.args.time c.args.table.now c.args.store.now c.args.from }

pub loop-i-preserved : goal.loop-i-preserved
loop-i-preserved c =
    let less : c.loop-i.i < length c.args.table.now = omega (arith) in
    c.loop-i.invariant
    ∙ first_on (is_listed c.args.time c.args.store.now c.args.b c.args.table.now) c.loop-i.i (length c.args.table.now) less (sym c.if-is_listed.ensures)

pub returns : goal.returns
returns c =
    let tested : c.look_refusal.result ≡ refused_by (look_tests_with (entries_refusal c.args.time c.args.table.now) (length c.args.table.now) (length c.args.store.now) c.args.b c.args.time) =
    cc (c.look_refusal.ensures.answer, c.table_refusal-entries.ensures) in
    let over : length c.args.table.now ≤ c.loop-i.i = omega (arith) in
    let answer = list_given c.args.b c.args.time c.args.table.now c.args.store.now tested c.args.from c.in_ok-look_refusal.was None
    (c.loop-i.invariant ∙ first-end (is_listed c.args.time c.args.store.now c.args.b c.args.table.now) c.loop-i.i (length c.args.table.now) over) in
    record { answer = answer; number = ap number_in answer ∙ list-number c.args.b c.args.time c.args.table.now c.args.store.now c.args.from }
