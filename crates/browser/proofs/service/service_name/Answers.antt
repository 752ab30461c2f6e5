use mathlib.Core.Path.{sym, ◌∙◌}
use native.Mathlib.Omega.{arith}
use lib.Seq.{length-take-le}
use Rattle.browser.proofs.service.Names.{min-lesser, name-built}
use Rattle.browser.proofs.service.service_name.Goals as goal

pub overflow_cast-bytes : goal.overflow_cast-bytes
overflow_cast-bytes c = record { fits = omega (arith, c.min-len.ensures) }

pub slice_bounds-label-end : goal.slice_bounds-label-end
slice_bounds-label-end c = omega (arith, c.min-len.ensures, c.well_formed.0.1.1.0.1.1.0.1.0.1)

pub slice_bounds-put-end-2 : goal.slice_bounds-put-end-2
slice_bounds-put-end-2 c = sym (length-take-le _ c.args.b.service.bytes
    (omega (arith, c.min-len.ensures, c.well_formed.0.1.1.0.1.1.0.1.0.1)))

pub overflow_add-len : goal.overflow_add-len
overflow_add-len c = record {
  fits = omega (
    arith,
    c.min-len.ensures,
  );
}

pub overflow_add-result : goal.overflow_add-result
overflow_add-result c = record {
  fits = omega (
    arith,
    c.min-len.ensures,
  );
}

pub returns : goal.returns
returns c = name-built c.args.b _ _ _ _
    c.well_formed.0.1.1.0.1.1.0.1.0.1
    (c.min-len.ensures ∙ min-lesser c.args.b.service.len 16)
    c.ending-behind.ensures c.put.ensures
    c.put-2.ensures
