-- `digits` tells what a row of digits is worth. The digits passed are worth `worth`, and with the rest behind them what the whole is worth.
use Prim.Native.Nat.{ℕ, ◌+◌, ◌*◌, ◌^◌}
use mathlib.Core.Path.{◌≡◌, sym, ap, ◌∙◌}
use native.Mathlib.Omega.{arith}
use lib.ListN.{get_or}
use borrow.Author.Tests.{eqb-true, eqb-false}
use Rattle.std.specs.Prelude.{Some}
use Rattle.console.specs.Numbers.{digit_of, up_to}
use Rattle.console.proofs.NumberLaws.{one_more, no_digit, high_digit, no_more, one_too_many, no_digits, some_digits, then_some_is}
use Rattle.console.proofs.numerals.digits.Goals as goal
use Rattle.console.proofs.numerals.digits.Goals.{In_ok-d}

-- the digit that the loop has come to
read : (c : In_ok-d) → digit_of (get_or c.args.text.now c.loop-c.c-index 0) ≡ Some c.in_ok-d.d
read c = sym c.digit.ensures ∙ c.in_ok-d.was

pub returns-then-is_empty : goal.returns-then-is_empty
returns-then-is_empty c = sym (no_digits _ _ (eqb-true _ _ (sym c.is_empty.ensures ∙ c.if-is_empty.true)))

pub loop-c-init : goal.loop-c-init
loop-c-init c = sym (some_digits _ _ (eqb-false _ _ (sym c.is_empty.ensures ∙ c.if-is_empty.false)))

pub returns-in_err-d : goal.returns-in_err-d
returns-in_err-d c = c.from_residual.ensures ∙ sym (ap (up_to (2 ^ 63)) (no_digit _ _ _ _ c.loop-c-test.true (sym c.digit.ensures ∙ c.in_err-d.was))) ∙ c.loop-c.invariant

pub returns-then-base-d : goal.returns-then-base-d
returns-then-base-d c =
    sym (ap (up_to (2 ^ 63)) (high_digit _ _ _ _ c.loop-c-test.true _ (read (goal.at.returns-then-base-d c).In_ok-d) c.if-base-d.true)) ∙ c.loop-c.invariant

pub returns-in_err-checked_mul : goal.returns-in_err-checked_mul
returns-in_err-checked_mul c =
    let h = c.in_err-checked_mul.ensures in
    c.from_residual-in_err-checked_mul.ensures
    ∙ one_too_many _ _ _ _ _ c.loop-c-test.true (read (goal.at.returns-in_err-checked_mul c).In_ok-d) c.if-base-d.false (omega (arith, h))
    ∙ c.loop-c.invariant

pub returns-in_err-worth : goal.returns-in_err-worth
returns-in_err-worth c =
    let h = c.in_err-worth.ensures in
    let m : c.in_ok-checked_mul.field-0 ≡ c.loop-c.worth * c.args.base = c.in_ok-checked_mul.ensures.1 in
    c.from_residual-in_err-worth.ensures
    ∙ one_too_many _ _ _ _ _ c.loop-c-test.true (read (goal.at.returns-in_err-worth c).In_ok-d) c.if-base-d.false (omega (arith, h, m))
    ∙ c.loop-c.invariant

pub loop-c-preserved : goal.loop-c-preserved
loop-c-preserved c =
    let m : c.in_ok-checked_mul.field-0 ≡ c.loop-c.worth * c.args.base = c.in_ok-checked_mul.ensures.1 in
    let w : c.in_ok-worth.worth ≡ c.loop-c.worth * c.args.base + c.in_ok-d.d = c.in_ok-worth.ensures.1 ∙ ap (λ (n : ℕ). n + c.in_ok-d.d) m in
    rw w (ap (up_to (2 ^ 63)) (one_more _ _ _ _ c.loop-c-test.true _ (read (goal.at.loop-c-preserved c).In_ok-d) c.if-base-d.false) ∙ c.loop-c.invariant)

pub returns : goal.returns
returns c = c.then_some.ensures ∙ then_some_is _ _ ∙ sym (ap (up_to (2 ^ 63)) (no_more _ _ _ _ c.loop-c-test.false)) ∙ c.loop-c.invariant
