-- A reader's `next` meets its contract.
use mathlib.Core.Path.{◌≡◌, ap, ◌∙◌}
use Prim.Native.Nat.{◌+◌, ◌*◌, ◌≤◌}
use native.Mathlib.Omega.{arith}
use lib.Dec.{eqb}
use borrow.Author.Rules.{rules}
use Rattle.section.specs.Sections.{end_of}
use Rattle.book.specs.Book.{cards, withdrawn}
use Rattle.section.specs.declared.Section.{Section}
use Rattle.reader.specs.declared.Kind.TheVariants.{Card, Withdrawn}
use Rattle.reader.specs.Walk.{Step, past_count}
use Rattle.reader.proofs.Steps.{at_card, at_serial, at_end, past_up}
use Rattle.reader.proofs.Ahead.{goes_on}
use Rattle.reader.proofs.ReaderIterator.next.Goals as goal
use Rattle.reader.proofs.ReaderIterator.next.Goals.{After-past_count-self}

-- where both sections end
ends : (c : After-past_count-self) → 2 + c.cards-cards.result.count * 37 ≡ end_of (cards c.args.self.now.book.now)
ends c = ap (λ (s : Section). 2 + s.count * 37) c.cards-cards.ensures.0

ends_2 : (c : After-past_count-self) →
    let w = c.withdrawn-withdrawn.result in
    w.base + w.count * 13 ≡ end_of (withdrawn c.args.self.now.book.now)
ends_2 c = ap (λ (s : Section). s.base + s.count * 13) c.withdrawn-withdrawn.ensures.0

from : (c : After-past_count-self) → c.past_count-self.result ≡ past_count c.args.self.now.place (end_of (cards c.args.self.now.book.now))
from c = c.past_count-self.ensures ∙ ap (past_count c.args.self.now.place) (ends c)

-- the count is passed over forward
up : (c : After-past_count-self) → c.args.self.now.place ≤ c.past_count-self.result
up c = rw c.past_count-self.ensures (past_up (eqb c.args.self.now.place (2 + c.cards-cards.result.count * 37)) c.args.self.now.place)

pub returns-then-self-cards_end-clause-steps : goal.returns-then-self-cards_end-clause-steps
returns-then-self-cards_end-clause-steps c =
    let p = (goal.at.returns-then-self-cards_end-clause-steps c).After-past_count-self in
    let r = c.args.self.now in
    let e = c.pass.ensures in
    let s = at_card r.book.now r.place (rw (from p, ends p) at c.if-self-cards_end.true) in
    (e.0, rw (from p) at e.1 ∙ ap (λ (x : Step). x.found) s, rw (from p) at e.2 ∙ ap (λ (x : Step). x.next) s)

pub returns-then-self-cards_end-clause-goes : goal.returns-then-self-cards_end-clause-goes
returns-then-self-cards_end-clause-goes c =
    let p = (goal.at.returns-then-self-cards_end-clause-goes c).After-past_count-self in
    let e = c.pass.ensures in
    goes_on Card 37 c.past_count-self.result c.args.self.now c.pass.new.self c.pass.result (omega arith) e.0 (up p) e.1 e.2

pub returns-then-self-end-clause-steps : goal.returns-then-self-end-clause-steps
returns-then-self-end-clause-steps c =
    let p = (goal.at.returns-then-self-end-clause-steps c).After-past_count-self in
    let r = c.args.self.now in
    let e = c.pass-then-self-end.ensures in
    let s = at_serial r.book.now r.place (rw (from p, ends p) at c.if-self-cards_end.false) (rw (from p, ends_2 p) at c.if-self-end.true) in
    (e.0, rw (from p) at e.1 ∙ ap (λ (x : Step). x.found) s, rw (from p) at e.2 ∙ ap (λ (x : Step). x.next) s)

pub returns-then-self-end-clause-goes : goal.returns-then-self-end-clause-goes
returns-then-self-end-clause-goes c =
    let p = (goal.at.returns-then-self-end-clause-goes c).After-past_count-self in
    let e = c.pass-then-self-end.ensures in
    goes_on Withdrawn 13 c.past_count-self.result c.args.self.now c.pass-then-self-end.new.self c.pass-then-self-end.result (omega arith) e.0 (up p) e.1 e.2

pub returns-clause-steps : goal.returns-clause-steps
returns-clause-steps c =
    let p = (goal.at.returns-clause-steps c).After-past_count-self in
    let r = c.args.self.now in
    let s = at_end r.book.now r.place (rw (from p, ends p) at c.if-self-cards_end.false) (rw (from p, ends_2 p) at c.if-self-end.false) in
    (search rules, ap (λ (x : Step). x.found) s, from p ∙ ap (λ (x : Step). x.next) s)
