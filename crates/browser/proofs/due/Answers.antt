use Rattle.std.proofs.Common.{◌≡◌, length, ap, ◌∙◌}
use Rattle.std.specs.Prelude.{Ok}
use Rattle.std.proofs.lemmas.Result.{err_from_is_err_and}
use Rattle.wire.specs.refusals.Numbers.{number_in, refused_by}
use Rattle.cache.specs.entries.Cache.{entries_refusal}
use Rattle.browser.specs.Steps.{look_tests_with, due_with}
use Rattle.browser.proofs.Refusing.{look-taken, due-refused, due-given, due-number}
use Rattle.browser.proofs.due.Goals as goal

pub returns-in_err-look_refusal : goal.returns-in_err-look_refusal
returns-in_err-look_refusal c =
    let tested : c.look_refusal.result ≡ refused_by (look_tests_with (entries_refusal c.args.time c.args.table.now) (length c.args.table.now) (length c.args.store.now) c.args.b c.args.time) =
    cc (c.look_refusal.ensures.answer, c.table_refusal-entries.ensures) in
    let p = err_from_is_err_and c.from_residual.result c.from_residual.ensures.1 in
    let answer = due-refused c.args.b c.args.time c.args.table.now c.args.store.now tested c.in_err-look_refusal.was in
    rw (p.1, p.2) (record { answer = answer; number = ap number_in answer ∙ due-number c.args.b c.args.time c.args.table.now c.args.store.now })

pub next_query-requires : goal.next_query-requires
next_query-requires c =
    let tested : c.look_refusal.result ≡ refused_by (look_tests_with (entries_refusal c.args.time c.args.table.now) (length c.args.table.now) (length c.args.store.now) c.args.b c.args.time) =
    cc (c.look_refusal.ensures.answer, c.table_refusal-entries.ensures) in
    (look-taken c.args.b c.args.time c.args.table.now c.args.store.now tested c.in_ok-look_refusal.was).sound

pub returns : goal.returns
returns c =
    let tested : c.look_refusal.result ≡ refused_by (look_tests_with (entries_refusal c.args.time c.args.table.now) (length c.args.table.now) (length c.args.store.now) c.args.b c.args.time) =
    cc (c.look_refusal.ensures.answer, c.table_refusal-entries.ensures) in
    let answer = ap Ok (c.due_at.ensures ∙ ap (due_with c.args.b c.args.time) c.next_query.ensures)
    ∙ due-given c.args.b c.args.time c.args.table.now c.args.store.now tested c.in_ok-look_refusal.was in
    record { answer = answer; number = ap number_in answer ∙ due-number c.args.b c.args.time c.args.table.now c.args.store.now }
