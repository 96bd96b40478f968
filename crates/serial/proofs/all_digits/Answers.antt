-- `serial::all_digits` meets its contract: the loop gathers one test for each byte passed.
use mathlib.Core.Path.{◌≡◌, sym}
use native.Mathlib.Omega.{arith}
use lib.ListN.{length, get_or}
use Rattle.std.proofs.Common.{rules, tests}
use Rattle.serial.specs.Serials.{is_digit, digits_ok}
use Rattle.serial.proofs.Every.{every_none, every_step}
use Rattle.serial.proofs.all_digits.Goals as goal

pub loop-k-init : goal.loop-k-init
loop-k-init c = sym (every_none _)

pub loop-k-preserved : goal.loop-k-preserved
loop-k-preserved c =
    let d : c.is_ascii_digit-ok.result ≡ is_digit (get_or c.args.text.now c.loop-k.k 0) = search (rules, tests) in
    rw (c.loop-k.invariant, d) (sym (every_step _ _))

pub returns : goal.returns
unfolding digits_ok
returns c =
    let e : c.loop-k.k ≡ length c.args.text.now = omega arith in
    rw e at c.loop-k.invariant
