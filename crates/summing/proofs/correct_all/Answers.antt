-- `correct_all` meets its contract.
use Prim.Native.Nat.{ℕ}
use native.Mathlib.Omega.{arith}
use mathlib.Core.Path.{◌≡◌, sym, ap, ◌∙◌}
use mathlib.Core.Bool.{Bool, true, false, ◌&&◌}
use lib.IntN.{ℤ}
use mir.Syntax.{w32, w64}
use mir.Val.{SFits, to_z, of_z}
use mir.Facts.{to_z-of_z}
use Rattle.number.proofs.Fits.{answer}
use Rattle.range.specs.Range.{in24, outside24}
use Rattle.range.proofs.Ranges.{in24_in, clipped_own, in_fits}
use Rattle.sample.specs.Sample.{scaled}
use Rattle.sample.proofs.Tests.{both_of}
use Rattle.summing.specs.Inside.{one_more, clipped_each, three_of}
use borrow.Author.Rules.{rules}
use Rattle.summing.proofs.correct_all.Goals as goal
use Rattle.summing.proofs.correct_all.Goals.{After-scale-x, After-scale-y, After-scale-z}

-- the values before clipping
x_is : (c : After-scale-x) → let a = c.args in to_z w64 (of_z w64 c.scale-x.result) ≡ scaled a.v a.p.voffs a.p.vgain
x_is c =
    let h : SFits w32 c.args.p.voffs = search rules in
    let k : SFits w32 c.args.p.vgain = search rules in
    answer w64 c.scale-x.type_inv (c.scale-x.ensures ∙ rw (to_z-of_z c.ranges.v, to_z-of_z h, to_z-of_z k))

y_is : (c : After-scale-y) → let a = c.args in to_z w64 (of_z w64 c.scale-y.result) ≡ scaled a.s1 a.p.ioffs a.p.igain
y_is c =
    let h : SFits w32 c.args.p.ioffs = search rules in
    let k : SFits w32 c.args.p.igain = search rules in
    answer w64 c.scale-y.type_inv (c.scale-y.ensures ∙ rw (to_z-of_z c.ranges.s1, to_z-of_z h, to_z-of_z k))

z_is : (c : After-scale-z) → let a = c.args in to_z w64 (of_z w64 c.scale-z.result) ≡ scaled a.s3 a.p.ioffs a.p.igain
z_is c =
    let h : SFits w32 c.args.p.ioffs = search rules in
    let k : SFits w32 c.args.p.igain = search rules in
    answer w64 c.scale-z.type_inv (c.scale-z.ensures ∙ rw (to_z-of_z c.ranges.s3, to_z-of_z h, to_z-of_z k))

-- the range holds all three
all_held : {a b d : Bool} (x y z : ℤ) → a ≡ in24 x → b ≡ in24 y → d ≡ in24 z → a && b && d ≡ true → in24 x && in24 y && in24 z ≡ true
all_held x y z e f g h = rw (sym e, sym f, sym g) h

-- then nothing is clipped or counted
none_more : (n : ℕ) → n ≡ one_more n false false false
unfolding one_more
none_more n = omega arith

as_it_is : (n : ℕ) (x y z : ℤ) → in24 x && in24 y && in24 z ≡ true → record { v = x; s1 = y; s3 = z; clips = n } ≡ clipped_each n x y z
unfolding clipped_each outside24
as_it_is n x y z e =
    let h = both_of (in24 x && in24 y) (in24 z) e in
    let k = both_of (in24 x) (in24 y) h.0 in
    rw (clipped_own x (in24_in x k.0), clipped_own y (in24_in y k.1), clipped_own z (in24_in z h.1), k.0, k.1, h.1) (ap (λ (m : ℕ). record { v = x; s1 = y; s3 = z; clips = m }) (none_more n))

held_fits : (x : ℤ) (b d : Bool) → in24 x && b && d ≡ true → SFits w32 x
held_fits x b d e = in_fits (in24_in x (both_of _ _ (both_of _ _ e).0).0)

pub overflow_cast-result : goal.overflow_cast-result
overflow_cast-result c =
    let q = goal.at.overflow_cast-result c in
    let x = x_is q.After-scale-x in
    let held = all_held _ _ _ (c.holds.ensures ∙ ap in24 x) (c.holds-2.ensures ∙ ap in24 (y_is q.After-scale-y)) (c.holds-3.ensures ∙ ap in24 (z_is q.After-scale-z)) c.if-holds.true in
    rw x (held_fits _ _ _ held)

pub returns-then-holds : goal.returns-then-holds
unfolding three_of
returns-then-holds c =
    let q = goal.at.returns-then-holds c in
    let x = x_is q.After-scale-x in
    let y = y_is q.After-scale-y in
    let z = z_is q.After-scale-z in
    let held = all_held _ _ _ (c.holds.ensures ∙ ap in24 x) (c.holds-2.ensures ∙ ap in24 y) (c.holds-3.ensures ∙ ap in24 z) c.if-holds.true in
    rw (x, y, z, to_z-of_z (held_fits _ _ _ held)) (as_it_is _ _ _ _ held)

pub returns : goal.returns
unfolding three_of
returns c =
    let q = goal.at.returns c in
    c.clip_each.ensures ∙ rw (x_is q.After-scale-x, y_is q.After-scale-y, z_is q.After-scale-z)
