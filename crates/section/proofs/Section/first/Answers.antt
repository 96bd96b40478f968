-- `Section::first` meets its contract: none of k entries has the serial.
use mathlib.Core.Path.{◌≡◌, sym, ap, ◌∙◌}
use mathlib.Core.Bool.{not}
use native.Mathlib.Omega.{arith}
use borrow.Author.Tests.{lt-ltb, le-ltb}
use Rattle.serial.proofs.Every.{every_none, every_more, first_at, first_none}
use Rattle.section.specs.Sections.{same, serial_at, first_of, entry_of, first_found}
use Rattle.section.proofs.Section.first.Goals as goal
use Rattle.section.proofs.Section.first.Goals.{After-same_serial}

-- what the comparison says of the two serials
compared : (c : After-same_serial) → c.same_serial.result ≡ same (serial_at c.args.b.now c.args.self c.loop-k.k) c.args.key.now
compared c = rw c.serial.ensures at c.same_serial.ensures

pub loop-k-init : goal.loop-k-init
loop-k-init c = every_none _

pub returns-then-same_serial : goal.returns-then-same_serial
unfolding first_found first_of entry_of
returns-then-same_serial c =
    let here = first_at _ _ c.loop-k.k c.loop-k-test.true c.loop-k.invariant (sym (compared (goal.at.returns-then-same_serial c).After-same_serial) ∙ c.if-same_serial.true) in
    simp (here, lt-ltb _ _ c.loop-k-test.true)

pub loop-k-preserved : goal.loop-k-preserved
loop-k-preserved c = every_more _ _ c.loop-k.invariant (ap not (sym (compared (goal.at.loop-k-preserved c).After-same_serial) ∙ c.if-same_serial.false))

pub returns : goal.returns
unfolding first_found first_of entry_of
returns c =
    let n = c.args.self.count in
    let e : c.loop-k.k ≡ n = omega arith in
    let none = first_none _ n (rw e at c.loop-k.invariant) in
    simp (none, le-ltb n n (omega arith))
