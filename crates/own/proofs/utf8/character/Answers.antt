use mathlib.Core.Path.{sym, ◌∙◌}
use native.Mathlib.Omega.{arith}
use lib.ListN.{get_or}
use Rattle.own.proofs.utf8.Bytes.{within-true, follows-2, follows-3, follows-4, follows-E0, follows-ED, follows-F0, follows-F4}
use Rattle.own.proofs.utf8.Characters.{owed_by, alone, unstarted, led}
use Rattle.own.proofs.utf8.character.Goals as goal

pub with_owed-requires : goal.with_owed-requires
with_owed-requires c = let e = owed_by c.owes.ensures in (omega arith, omega arith, omega arith)

pub returns-then-is_within : goal.returns-then-is_within
returns-then-is_within c = let a = c.args in
    let r = within-true 0xE1 0xEC (get_or a.s.now a.i 0) (sym c.is_within.ensures ∙ c.if-is_within.true) in
    led a.s.now a.i (omega arith) _ (omega (arith, r.0), omega (arith, r.1)) (follows-3 (get_or a.s.now a.i 0) (omega (arith, r.0)) (λ e. omega (arith, r.0)) (λ e. omega (arith, r.1)) (omega (arith, r.1)) ∙ sym c.owes.ensures) c.with_owed.ensures

pub returns-then-is_within-2 : goal.returns-then-is_within-2
returns-then-is_within-2 c = let a = c.args in
    (omega arith, alone a.s.now a.i (omega arith) (sym c.is_within-2.ensures ∙ c.if-is_within-2.true))

pub returns-then-not-is_within : goal.returns-then-not-is_within
returns-then-not-is_within c = let a = c.args in (
  omega arith,
  unstarted a.s.now a.i (omega arith) (sym c.is_within-2.ensures ∙ c.if-is_within-2.false) (sym c.is_within-3.ensures ∙ c.if-not-is_within.true),
)

pub with_owed-requires-then-b-lt224 : goal.with_owed-requires-then-b-lt224
with_owed-requires-then-b-lt224 c = let e = owed_by c.owes-then-b-lt224.ensures in (omega arith, omega arith, omega arith)

pub returns-then-b-lt224 : goal.returns-then-b-lt224
returns-then-b-lt224 c = let a = c.args in
    let r = within-true 0xC2 0xF4 (get_or a.s.now a.i 0) (sym c.is_within-3.ensures ∙ c.if-not-is_within.false) in
    led a.s.now a.i (omega arith) _ (omega (arith, r.0), omega (arith, r.1)) (follows-2 (get_or a.s.now a.i 0) (omega (arith, r.0)) (omega arith) ∙ sym c.owes-then-b-lt224.ensures) c.with_owed-then-b-lt224.ensures

pub with_owed-requires-then-b : goal.with_owed-requires-then-b
with_owed-requires-then-b c = let e = owed_by c.owes-then-b.ensures in (omega arith, omega arith, omega arith)

pub returns-then-b : goal.returns-then-b
returns-then-b c = let a = c.args in
    let r = within-true 0xC2 0xF4 (get_or a.s.now a.i 0) (sym c.is_within-3.ensures ∙ c.if-not-is_within.false) in
    led a.s.now a.i (omega arith) _ (omega (arith, r.0), omega (arith, r.1)) (follows-E0 (get_or a.s.now a.i 0) c.if-b.true ∙ sym c.owes-then-b.ensures) c.with_owed-then-b.ensures

pub with_owed-requires-then-b-2 : goal.with_owed-requires-then-b-2
with_owed-requires-then-b-2 c = let e = owed_by c.owes-then-b-2.ensures in (omega arith, omega arith, omega arith)

pub returns-then-b-2 : goal.returns-then-b-2
returns-then-b-2 c = let a = c.args in
    let r = within-true 0xC2 0xF4 (get_or a.s.now a.i 0) (sym c.is_within-3.ensures ∙ c.if-not-is_within.false) in
    led a.s.now a.i (omega arith) _ (omega (arith, r.0), omega (arith, r.1)) (follows-ED (get_or a.s.now a.i 0) c.if-b-2.true ∙ sym c.owes-then-b-2.ensures) c.with_owed-then-b-2.ensures

pub with_owed-requires-then-b-lt240 : goal.with_owed-requires-then-b-lt240
with_owed-requires-then-b-lt240 c = let e = owed_by c.owes-then-b-lt240.ensures in (omega arith, omega arith, omega arith)

pub returns-then-b-lt240 : goal.returns-then-b-lt240
returns-then-b-lt240 c = let a = c.args in
    let r = within-true 0xC2 0xF4 (get_or a.s.now a.i 0) (sym c.is_within-3.ensures ∙ c.if-not-is_within.false) in
    led a.s.now a.i (omega arith) _ (omega (arith, r.0), omega (arith, r.1)) (follows-3 (get_or a.s.now a.i 0) (omega arith) (λ e. omega arith) (λ e. omega arith) (omega arith) ∙ sym c.owes-then-b-lt240.ensures) c.with_owed-then-b-lt240.ensures

pub with_owed-requires-then-b-3 : goal.with_owed-requires-then-b-3
with_owed-requires-then-b-3 c = let e = owed_by c.owes-then-b-3.ensures in (omega arith, omega arith, omega arith)

pub returns-then-b-3 : goal.returns-then-b-3
returns-then-b-3 c = let a = c.args in
    let r = within-true 0xC2 0xF4 (get_or a.s.now a.i 0) (sym c.is_within-3.ensures ∙ c.if-not-is_within.false) in
    led a.s.now a.i (omega arith) _ (omega (arith, r.0), omega (arith, r.1)) (follows-F0 (get_or a.s.now a.i 0) c.if-b-3.true ∙ sym c.owes-then-b-3.ensures) c.with_owed-then-b-3.ensures

pub with_owed-requires-then-b-4 : goal.with_owed-requires-then-b-4
with_owed-requires-then-b-4 c = let e = owed_by c.owes-then-b-4.ensures in (omega arith, omega arith, omega arith)

pub returns-then-b-4 : goal.returns-then-b-4
returns-then-b-4 c = let a = c.args in
    let r = within-true 0xC2 0xF4 (get_or a.s.now a.i 0) (sym c.is_within-3.ensures ∙ c.if-not-is_within.false) in
    led a.s.now a.i (omega arith) _ (omega (arith, r.0), omega (arith, r.1)) (follows-F4 (get_or a.s.now a.i 0) c.if-b-4.true ∙ sym c.owes-then-b-4.ensures) c.with_owed-then-b-4.ensures

pub with_owed-requires-2 : goal.with_owed-requires-2
with_owed-requires-2 c = let e = owed_by c.owes-2.ensures in (omega arith, omega arith, omega arith)

pub returns : goal.returns
returns c = let a = c.args in
    let r = within-true 0xC2 0xF4 (get_or a.s.now a.i 0) (sym c.is_within-3.ensures ∙ c.if-not-is_within.false) in
    led a.s.now a.i (omega arith) _ (omega (arith, r.0), omega (arith, r.1)) (follows-4 (get_or a.s.now a.i 0) (omega arith) (λ e. omega arith) (λ e. omega arith) ∙ sym c.owes-2.ensures) c.with_owed-2.ensures
