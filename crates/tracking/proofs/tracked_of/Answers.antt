-- `tracked_of` meets its contract.
use Rattle.std.proofs.Common.{◌<◌, ◌≡◌, sym, ◌∙◌, arith, rules, length, get_or, pos}
use mir.Facts.{to_z-of_z}
use mir.Syntax.{w32}
use mir.Val.{SFits}
use lib.ListN.{get_or-eq_default}
use Rattle.address.specs.Addresses.{place_of}
use Rattle.address.proofs.Rows.{row_there, row_missing}
use Rattle.tracking.specs.Tracking.{tracked}
use Rattle.tracking.proofs.tracked_of.Goals as goal

pub returns-in-Some : goal.returns-in-Some
unfolding tracked
returns-in-Some c =
    let a = c.args in
    let h : SFits w32 (get_or a.seven c.in-Some.k (pos 0)) = search rules in
    let k : (place_of a.word ≡ c.in-Some.k) × (c.in-Some.k < 7) = row_there 7 (place_of a.word) c.in-Some.k (sym c.place_of.ensures ∙ c.in-Some.is) in
    rw (to_z-of_z h, k.0)

pub returns-in-None : goal.returns-in-None
unfolding tracked
returns-in-None c =
    let a = c.args in
    let l : length a.seven ≡ 7 = search rules in
    let far = row_missing 7 (place_of a.word) (sym c.place_of.ensures ∙ c.in-None.is) in
    sym (get_or-eq_default a.seven (pos 0) (omega arith))
