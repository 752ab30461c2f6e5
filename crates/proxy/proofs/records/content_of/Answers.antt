use Rattle.proxy.proofs.records.Contents.{before-is, content_good}
use Rattle.proxy.specs.domains.Domains.{domains}
use lib.Seq.{length-take-le}
use borrow.Author.Tests.{not-false}
use mathlib.Core.Path.{sym}
use Rattle.proxy.proofs.records.content_of.Goals as goal

pub slice_bounds-put-end-2 : goal.slice_bounds-put-end-2
slice_bounds-put-end-2 c = let a = c.args in
    sym (length-take-le _ _ (before-is (domains a.rich.now a.ldh.now) a.rtype a.rdata.now _ c.form_of-form.ensures (not-false _ c.if-not-form.false) c.requires _
    c.part-target.ensures.bytes _ c.in_ok-moved.ensures))

pub returns : goal.returns
returns c = let a = c.args in
    content_good (domains a.rich.now a.ldh.now) a.rtype a.rdata.now _ c.form_of-form.ensures (not-false _ c.if-not-form.false) c.requires _
    c.part-target.ensures.bytes _ c.in_ok-moved.ensures _ _ c.put.ensures c.put-2.ensures
