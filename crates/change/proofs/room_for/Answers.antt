-- `change::room_for` meets its contract.
use mathlib.Core.Path.{◌≡◌, sym, ◌∙◌}
use mathlib.Core.Bool.{false}
use borrow.Author.Tests.{lt-ltb, le-ltb, lt-leb, le-leb}
use Rattle.section.specs.Sections.{has}
use Rattle.change.specs.Change.{room_for}
use Rattle.change.proofs.room_for.Goals as goal
use Rattle.change.proofs.room_for.Goals.{Else-has}

pub returns-then-has : goal.returns-then-has
unfolding room_for
returns-then-has c = simp (sym c.has.ensures ∙ c.if-has.true)

new : (c : Else-has) → has c.args.b.now c.args.s c.args.text.now ≡ false
new c = sym c.has.ensures ∙ c.if-has.false

pub returns-then-limit-s : goal.returns-then-limit-s
unfolding room_for
returns-then-limit-s c = simp (new (goal.at.returns-then-limit-s c).Else-has, le-ltb _ _ c.if-limit-s.true)

pub returns-then-room-longer : goal.returns-then-room-longer
unfolding room_for
returns-then-room-longer c = simp (new (goal.at.returns-then-room-longer c).Else-has, lt-ltb _ _ c.if-limit-s.false, lt-leb _ _ c.if-room-longer.true)

pub returns : goal.returns
unfolding room_for
returns c = simp (new (goal.at.returns c).Else-has, lt-ltb _ _ c.if-limit-s.false, le-leb _ _ c.if-room-longer.false)
