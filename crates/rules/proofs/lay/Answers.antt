-- `lay` meets its contract.
use borrow.Author.Rules.{sfits_of}
use native.Mathlib.Omega.{arith}
use Prim.Native.Nat.{◌≤◌}
use mir.Syntax.{w32}
use mir.Val.{SFits}
use mir.Facts.{to_z-of_z}
use Rattle.rules.specs.Source.{six}
use Rattle.rules.proofs.Bounds.{apparent_most, crest_most, small_fits, read_small}
use Rattle.rules.proofs.lay.Goals as goal
use Rattle.rules.proofs.lay.Goals.{After-apparent-s, After-crest-c}

s_most : (c : After-apparent-s) → c.apparent-s.result ≤ 8388607
s_most c =
    let a = c.args in
    rw c.apparent-s.ensures (apparent_most a.v a.i c.requires.0 c.requires.1)

pub overflow_cast-s : goal.overflow_cast-s
overflow_cast-s c = record { fits = omega (arith, s_most c) }

c_most : (c : After-crest-c) → c.crest-c.result ≤ 8388607
c_most c =
    let a = c.args in
    rw c.crest-c.ensures (crest_most a.peak a.i)

pub overflow_cast-result-3 : goal.overflow_cast-result-3
overflow_cast-result-3 c = small_fits (s_most (goal.at.overflow_cast-result-3 c).After-apparent-s)

pub overflow_cast-result-4 : goal.overflow_cast-result-4
overflow_cast-result-4 c = small_fits (c_most c)

pub returns : goal.returns
unfolding six
returns c =
    let start = c.before.before.before in
    let a = start.args in
    let f : SFits w32 c.factor-f.result = sfits_of c.factor-f.type_inv in
    rw (
      read_small a.i start.requires.1,
      read_small a.peak start.requires.2,
      to_z-of_z start.ranges.p,
      read_small c.apparent-s.result (s_most (goal.at.returns c).After-apparent-s),
      to_z-of_z f,
      read_small c.crest-c.result (c_most c),
      c.crest-c.ensures,
      c.factor-f.ensures,
      to_z-of_z start.ranges.p,
      c.apparent-s.ensures,
    )
