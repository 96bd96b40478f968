-- `take` meets its contract.
use Rattle.summing.specs.declared.Probe.{Probe}
use Rattle.summing.specs.declared.Three.{Three}
use Rattle.summing.specs.Inside.{mixed_both, taken_into}
use Rattle.sample.specs.declared.Inputs.{Inputs}
use Rattle.source.proofs.Blends.{blended_in}
use Rattle.source.specs.Sources.{blended}
use Rattle.range.proofs.Ranges.{in_fits, in_mag}
use lib.IntN.{ℤ}
use borrow.Author.Rules.{rules, sfits_of}
use mir.Facts.{to_z-of_z}
use mir.Val.{SFits}
use mir.Syntax.{w32}
use mathlib.Core.Path.{◌≡◌, ◌∙◌}
use Rattle.summing.proofs.take.Goals as goal
use Rattle.summing.proofs.take.Goals.{After-blend-ia, After-blend-ib, Start}

-- the inputs as they are mixed
abbrev mixed_of : Probe → Three → ℤ → ℤ → Inputs
mixed_of p x old1 old3 = mixed_both p (record { s1 = x.s1; s3 = x.s3 }) (record { s1 = old1; s3 = old3 })

-- both sources' currents
a_is : (c : After-blend-ia) →
    let a = c.args in
    c.blend-ia.result ≡ (let y = mixed_of a.p a.x a.old1 a.old3 in blended a.p.a y.s1 y.s3)
a_is c =
    let h : SFits w32 c.mix_both-y.result.s1 = search rules in
    let k : SFits w32 c.mix_both-y.result.s3 = search rules in
    c.blend-ia.ensures ∙ rw (to_z-of_z h, to_z-of_z k, c.mix_both-y.ensures, to_z-of_z c.ranges.old1, to_z-of_z c.ranges.old3)

b_is : (c : After-blend-ib) →
    let a = c.args in
    c.blend-ib.result ≡ (let y = mixed_of a.p a.x a.old1 a.old3 in blended a.p.b y.s1 y.s3)
b_is c =
    let h : SFits w32 c.mix_both-y.result.s1 = search rules in
    let k : SFits w32 c.mix_both-y.result.s3 = search rules in
    c.blend-ib.ensures ∙ rw (to_z-of_z h, to_z-of_z k, c.mix_both-y.ensures, to_z-of_z c.ranges.old1, to_z-of_z c.ranges.old3)

a_fits : (c : After-blend-ia) → SFits w32 c.blend-ia.result
a_fits c = sfits_of c.blend-ia.type_inv

b_fits : (c : After-blend-ib) → SFits w32 c.blend-ib.result
b_fits c = sfits_of c.blend-ib.type_inv

v_fits : (c : Start) → SFits w32 c.args.x.v
v_fits c = in_fits (in_mag _ c.requires.2.v)

pub add-requires : goal.add-requires
add-requires c = (
  c.requires.0,
  rw (to_z-of_z (v_fits (goal.at.add-requires c).Start)) c.requires.2.v,
  rw (to_z-of_z (a_fits (goal.at.add-requires c).After-blend-ia), a_is (goal.at.add-requires c).After-blend-ia) (blended_in _ _ _),
  rw (to_z-of_z (b_fits (goal.at.add-requires c).After-blend-ib), b_is (goal.at.add-requires c).After-blend-ib) (blended_in _ _ _),
)

pub returns : goal.returns
unfolding taken_into
returns c =
    c.add.ensures ∙ rw (to_z-of_z (v_fits (goal.at.returns c).Start), to_z-of_z (a_fits (goal.at.returns c).After-blend-ia), a_is (goal.at.returns c).After-blend-ia, to_z-of_z (b_fits (goal.at.returns c).After-blend-ib), b_is (goal.at.returns c).After-blend-ib)
