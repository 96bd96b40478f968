-- `Section::lies` meets its contract.
use native.Mathlib.Omega.{arith}
use lib.ListN.{length}
use borrow.Author.Tests.{lt-leb, le-leb}
use Rattle.section.specs.Sections.{end_of, lies}
use Rattle.section.proofs.Sections.{rows_fit}
use Rattle.section.proofs.Section.lies.Goals as goal
use Rattle.section.proofs.Section.lies.Goals.{then-self-lt13-via-then-self-lt13, then-self-lt13-via-else-self-lt13+then-b-self}

pub returns-then-self-lt13 : goal.returns-then-self-lt13
unfolding lies
returns-then-self-lt13 c =
    let a = c.args in
    elim c.then-self-lt13.branch [
      | then-self-lt13-via-then-self-lt13 w ↦ simp (lt-leb _ _ w.if-self-lt13.true)
      | then-self-lt13-via-else-self-lt13+then-b-self w ↦ simp (le-leb _ _ w.if-self-lt13.false, lt-leb (end_of a.self) (length a.b.now) (omega (arith, w.if-b-self.true)))
    ]

pub returns : goal.returns
unfolding lies
returns c =
    let a = c.args in
    let wide = c.if-self-lt13.false in
    simp (le-leb _ _ wide) (rows_fit (length a.b.now) a.self.base a.self.size a.self.count wide c.if-b-self.false)
