use Rattle.std.proofs.Common.{◌≡◌, ℕ, length, drop, sym, ap, ap₂, subst, ◌∙◌}
use Rattle.wire.specs.refusals.Numbers.{refused_by}
use Rattle.cache.specs.entries.Cache.{entries_refusal}
use Rattle.writer.specs.own_packets.Own.{laid_over}
use Rattle.browser.specs.declared.Ticked.{Ticked}
use Rattle.browser.specs.declared.known_answers.Plan.{Plan}
use Rattle.browser.specs.known_answers.Plans.{empty_plan, plan_from}
use Rattle.browser.specs.Calls.{Ticks}
use Rattle.browser.specs.Steps.{tick_tests_with, asked_start, ended_tick, ended_packet}
use Rattle.browser.proofs.Refusing.{tick-none, tick-taken}
use Rattle.browser.proofs.Ticking.{tick-refused, tick-done}
use Rattle.browser.proofs.tick.Goals as goal

pub returns-in-Err : goal.returns-in-Err
returns-in-Err c =
    let tested : c.tick_refusal.result ≡ refused_by (tick_tests_with (entries_refusal c.args.time c.args.table.now) (length c.args.table.now) (length c.args.store.now) c.args.b c.args.time (length c.args.out.now)) =
    cc (c.tick_refusal.ensures, c.table_refusal-entries.ensures) in
    subst (λ (r : Ticked). Ticks c.args.b c.args.time c.args.table.now c.args.store.now c.args.out.now r c.args.out.now)
    (sym c.refused_tick.ensures)
    (tick-refused c.args.b c.args.time c.args.table.now c.args.store.now c.args.out.now tested c.in-Err.is)

pub next_query-next-requires : goal.next_query-next-requires
next_query-next-requires c =
    let tested : c.tick_refusal.result ≡ refused_by (tick_tests_with (entries_refusal c.args.time c.args.table.now) (length c.args.table.now) (length c.args.store.now) c.args.b c.args.time (length c.args.out.now)) =
    cc (c.tick_refusal.ensures, c.table_refusal-entries.ensures) in
    (tick-taken c.args.b c.args.time c.args.table.now c.args.store.now (length c.args.out.now) tested c.in_default.is).sound

pub finish-requires : goal.finish-requires
finish-requires c =
    let tested : c.tick_refusal.result ≡ refused_by (tick_tests_with (entries_refusal c.args.time c.args.table.now) (length c.args.table.now) (length c.args.store.now) c.args.b c.args.time (length c.args.out.now)) =
    cc (c.tick_refusal.ensures, c.table_refusal-entries.ensures) in
    let p = tick-taken c.args.b c.args.time c.args.table.now c.args.store.now (length c.args.out.now) tested c.in_default.is in
    (p.sound, p.space)

pub returns : goal.returns
returns c =
    let tested : c.tick_refusal.result ≡ refused_by (tick_tests_with (entries_refusal c.args.time c.args.table.now) (length c.args.table.now) (length c.args.store.now) c.args.b c.args.time (length c.args.out.now)) =
    cc (c.tick_refusal.ensures, c.table_refusal-entries.ensures) in
    let gathered : ℕ → Plan = λ (k : ℕ). plan_from c.args.time c.args.store.now c.args.b k (drop k c.args.table.now) empty_plan in
    let owed = c.gather-owed.ensures ∙ ap gathered c.owed_start.ensures in
    let next = c.next_query-next.ensures in
    let known = c.gather-known.ensures ∙ ap gathered (c.asked_start.ensures ∙ ap₂ (λ (p : Plan) (t : ℕ). asked_start p.n t c.args.time) owed next) in
    let none = tick-none c.args.b c.args.time c.args.table.now c.args.store.now (length c.args.out.now) tested c.in_default.is in
    let ticked = tick-done c.args.b c.args.time c.args.table.now c.args.store.now c.args.out.now none in record {
      answers = c.finish.ensures.answers ∙ (λ i. ended_tick c.args.b c.args.store.now c.args.time (next i) (owed i) (known i)) ∙ ticked.answers;
      writes = c.finish.ensures.writes ∙ (λ i. laid_over (ended_packet c.args.b c.args.store.now c.args.time (next i) (owed i) (known i)) c.args.out.now) ∙ ticked.writes;
    }
