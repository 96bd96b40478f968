-- One signed number for each answer: the value where it is accepted, and else the number of the refusal, negated.
use Rattle.std.specs.Prelude.{cond, ℤ, pos, neg_ℤ, eqb}
use Rattle.book.specs.Answers.{Answer}

unfoldable pub signed : Answer → ℤ
signed a = cond (eqb a.number 0) (pos a.value) (neg_ℤ (pos a.number))
