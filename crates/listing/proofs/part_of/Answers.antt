-- `listing::part_of` meets its contract.
use mathlib.Core.Path.{sym}
use native.Mathlib.Nat.{sub_self}
use Rattle.serial.proofs.Places.{lent, part_past, part_rest}
use Rattle.listing.proofs.part_of.Goals as goal

pub returns-then-len-at : goal.returns-then-len-at
returns-then-len-at c = rw sub_self (sym (part_past c.args.b.now c.args.at c.args.n c.if-len-at.true))

pub returns-then-len-at-2 : goal.returns-then-len-at-2
returns-then-len-at-2 c =
    let a = c.args in
    part_rest a.b.now a.at a.n c.if-len-at-2.true

pub returns : goal.returns
returns c = lent _ _ _
