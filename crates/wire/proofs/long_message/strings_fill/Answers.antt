use Rattle.std.proofs.Common.{rules}
use native.Mathlib.Omega.{arith}
use mathlib.Core.Path.{refl, sym, ap, ◌∙◌}
use Prim.Native.Nat.{ℕ}
use lib.ListN.{drop}
use Rattle.wire.specs.rdata.Rdata.{strings_fill}
use Rattle.wire.proofs.rdata.Strings.{string_fits, string_over, strings-end}
use Rattle.wire.proofs.rdata.Parts.{found_there, ends_there, cut-there}
use Rattle.wire.proofs.long_message.strings_fill.Goals as goal

pub loop-s-init : goal.loop-s-init
loop-s-init c = (search rules, refl)

pub loop-s-smaller : goal.loop-s-smaller
loop-s-smaller c = let f = found_there _ _ _ (sym c.string_at.ensures ∙ c.in-Found.is) in omega (arith, f.0, f.1, f.2)

pub loop-s-preserved : goal.loop-s-preserved
loop-s-preserved c = let f = found_there _ _ _ (sym c.string_at.ensures ∙ c.in-Found.is) in
    (omega (arith, f.1, f.2), string_fits _ c.loop-s.at _ f.0 refl c.loop-s.invariant.1 f.1 ∙ ap (λ (n : ℕ). strings_fill 0 (drop n c.args.d.now)) (sym f.2))

pub returns-in-End : goal.returns-in-End
returns-in-End c = strings-end _ _ (ends_there _ _ (sym c.string_at.ensures ∙ c.in-End.is)) c.loop-s.invariant.1

pub returns-in-Malformed : goal.returns-in-Malformed
returns-in-Malformed c = let f = cut-there _ _ (sym c.string_at.ensures ∙ c.in-Malformed.is) in
    string_over _ c.loop-s.at _ f.0 refl c.loop-s.invariant.1 f.1
