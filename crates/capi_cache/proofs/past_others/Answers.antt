use Rattle.std.proofs.Common.{◌≡◌, false, length, get_or, sym, arith, ◌+◌}
use borrow.Author.Tests.{leb-true}
use Rattle.cache.specs.entries.Entries.{blank}
use Rattle.capi_cache.specs.Types.{type_among}
use Rattle.capi_cache.proofs.Types.{passed_four}
use Rattle.capi_cache.proofs.past_others.Goals as goal

pub loop-h-preserved : goal.loop-h-preserved
loop-h-preserved c =
    let four = leb-true (c.loop-h.i + 4) (length c.args.table.now) (sym c.loop-h-test.ensures) in
    let none : type_among c.args.h.at.rtype (get_or c.args.table.now c.loop-h.i blank) (get_or c.args.table.now (c.loop-h.i + 1) blank) (get_or c.args.table.now (c.loop-h.i + 2) blank) (get_or c.args.table.now (c.loop-h.i + 3) blank) ≡ false =
    cc (c.entry_at-a.ensures, c.entry_at-b.ensures, c.entry_at-c.ensures, c.entry_at-d.ensures, c.if-is_type_among.ensures) in
    passed_four c.args.h.at.rtype c.args.table.now c.args.from c.loop-h.i (omega (arith, four)) none c.loop-h.invariant
