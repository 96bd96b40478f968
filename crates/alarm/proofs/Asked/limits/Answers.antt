-- `limits` meets its contract.
use native.Mathlib.Omega.{arith}
use mir.Facts.{to_z-of_z}
use mir.Syntax.{w64}
use mir.Val.{SFits}
use borrow.Author.Rules.{rules}
use Rattle.sample.proofs.Tests.{both_of}
use Rattle.alarm.specs.Starting.{asked_ok, limits_of}
use Rattle.alarm.proofs.Starts.{InLimits, numbers_in}
use Rattle.alarm.proofs.Asked.limits.Goals as goal
use Rattle.alarm.proofs.Asked.limits.Goals.{Start}

ranges : (c : Start) → InLimits c.args.self.w c.args.self.vsag c.args.self.vsurge
unfolding asked_ok
ranges c = let q = c.args.self in numbers_in q.w q.vsag q.vsurge (both_of _ _ c.requires).0

pub overflow_cast-result : goal.overflow_cast-result
overflow_cast-result c =
    let f : SFits w64 c.args.self.w = search rules in
    let h = (ranges (goal.at.overflow_cast-result c).Start).w in
    rw (to_z-of_z f) (h.0, record { fits = omega (arith, h.2) })

pub overflow_cast-result-2 : goal.overflow_cast-result-2
overflow_cast-result-2 c =
    let f : SFits w64 c.args.self.vsag = search rules in
    let h = (ranges (goal.at.overflow_cast-result-2 c).Start).vsag in
    rw (to_z-of_z f) (h.0, record { fits = omega (arith, h.2) })

pub overflow_cast-result-3 : goal.overflow_cast-result-3
overflow_cast-result-3 c =
    let f : SFits w64 c.args.self.vsurge = search rules in
    let h = (ranges (goal.at.overflow_cast-result-3 c).Start).vsurge in
    rw (to_z-of_z f) (h.0, record { fits = omega (arith, h.2) })

pub returns : goal.returns
unfolding limits_of
returns c =
    let w : SFits w64 c.args.self.w = search rules in
    let vsag : SFits w64 c.args.self.vsag = search rules in
    let vsurge : SFits w64 c.args.self.vsurge = search rules in
    let sticky : SFits w64 c.args.self.sticky = search rules in
    rw (c.named_by.ensures, to_z-of_z w, to_z-of_z vsag, to_z-of_z vsurge, to_z-of_z sticky)
