use Rattle.std.proofs.Common.{◌≡◌, Bool, ◌&&◌, not, get_or, ap, ap₂, ◌∙◌, arith}
use Rattle.cache.specs.declared.entries.Entry.{Entry}
use Rattle.cache.specs.entries.Entries.{blank}
use Rattle.browser.specs.list.Listing.{is_shown, shows_too}
use Rattle.browser.proofs.list.Turns.{listed_to, listed_start, listed-on, listed-end}
use Rattle.browser.proofs.list.is_listed.Goals as goal

pub loop-j-init : goal.loop-j-init
loop-j-init c = (
  c.is_shown-listed.ensures
      ∙ ap (is_shown c.args.time c.args.store.now c.args.b c.args.i) c.entry_or_blank-e.ensures
      ∙ listed_start c.args.time c.args.store.now c.args.b c.args.table.now c.args.i,
  omega arith,
)

pub loop-j-preserved : goal.loop-j-preserved
loop-j-preserved c = (
  c.stays_listed-listed.ensures
      ∙ ap₂ (λ (t : Bool) (e : Entry). t && not (shows_too c.args.time c.args.store.now c.args.b c.args.i e c.loop-j.j c.entry_or_blank-d.result)) c.loop-j.invariant.0 c.entry_or_blank-e.ensures
      ∙ ap (λ (d : Entry). listed_to c.args.time c.args.store.now c.args.b c.args.table.now c.args.i c.loop-j.j && not (shows_too c.args.time c.args.store.now c.args.b c.args.i (get_or c.args.table.now c.args.i blank) c.loop-j.j d)) c.entry_or_blank-d.ensures
      ∙ listed-on c.args.time c.args.store.now c.args.b c.args.table.now c.args.i c.loop-j.j,
  omega arith,
)

pub returns : goal.returns
returns c =
    let same : c.loop-j.j ≡ c.args.i = omega arith in
    c.loop-j.invariant.0
    ∙ ap (listed_to c.args.time c.args.store.now c.args.b c.args.table.now c.args.i) same
    ∙ listed-end c.args.time c.args.store.now c.args.b c.args.table.now c.args.i
