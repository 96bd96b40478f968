-- `Section::distinct` meets its contract: j entries have no serial of an entry before them; i entries differ from entry j.
use mathlib.Core.Path.{◌≡◌, sym, ap, ◌∙◌}
use mathlib.Core.Bool.{not}
use native.Mathlib.Omega.{arith}
use Rattle.serial.proofs.Every.{every_none, every_more, every_fails}
use Rattle.section.specs.Sections.{same, serial_at, fresh, distinct}
use Rattle.section.proofs.Section.distinct.Goals as goal
use Rattle.section.proofs.Section.distinct.Goals.{After-same_serial}

-- what the comparison says of the two serials
compared : (c : After-same_serial) → c.same_serial.result ≡ same (serial_at c.args.b.now c.args.self c.loop-i.i) (serial_at c.args.b.now c.args.self c.loop-j.j)
compared c = rw (c.serial.ensures, c.serial-serial.ensures) at c.same_serial.ensures

pub loop-j-init : goal.loop-j-init
loop-j-init c = every_none _

pub loop-i-init : goal.loop-i-init
loop-i-init c = every_none _

pub returns-then-same_serial : goal.returns-then-same_serial
unfolding distinct fresh
returns-then-same_serial c =
    sym (every_fails _ _ _ c.loop-j-test.true (every_fails _ _ _ c.loop-i-test.true (ap not (sym (compared (goal.at.returns-then-same_serial c).After-same_serial) ∙ c.if-same_serial.true))))

pub loop-i-preserved : goal.loop-i-preserved
loop-i-preserved c = every_more _ _ c.loop-i.invariant (ap not (sym (compared (goal.at.loop-i-preserved c).After-same_serial) ∙ c.if-same_serial.false))

pub loop-j-preserved : goal.loop-j-preserved
unfolding fresh
loop-j-preserved c =
    let e : c.loop-i.i ≡ c.loop-j.j = omega arith in
    every_more _ _ c.loop-j.invariant (rw e at c.loop-i.invariant)

pub returns : goal.returns
unfolding distinct
returns c =
    let e : c.loop-j.j ≡ c.args.self.count = omega arith in
    sym (rw e at c.loop-j.invariant)
