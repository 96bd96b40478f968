-- `said_lines` puts what is said.
use native.Mathlib.Omega.{arith}
use mir.Syntax.{w64}
use mir.Val.{SFits}
use mir.Facts.{to_z-of_z}
use Rattle.serial.specs.Ascii.{ascii}
use Rattle.console.specs.Answers.{ok_line, said_text}
use borrow.Author.Rules.{rules}
use Rattle.console.proofs.answers.said_lines.Goals as goal
use Rattle.console.proofs.answers.said_lines.Goals.{In-Value}

fits : (c : In-Value) → SFits w64 c.in-Value.x
fits c = search rules

pub returns-in-Unread : goal.returns-in-Unread
unfolding said_text
returns-in-Unread c = (rw c.in-Unread.is c.unread_line.ensures.0, omega (arith, c.unread_line.ensures.1))

pub returns-in-Done : goal.returns-in-Done
unfolding said_text ok_line ascii
returns-in-Done c = (rw c.in-Done.is c.put.ensures.0, omega (arith, c.put.ensures.1))

pub returns-in-Value : goal.returns-in-Value
unfolding said_text
returns-in-Value c = (rw c.in-Value.is (rw (to_z-of_z (fits (goal.at.returns-in-Value c).In-Value)) at c.value_line.ensures.0), omega (arith, c.value_line.ensures.1))

pub returns-in-Held : goal.returns-in-Held
unfolding said_text
returns-in-Held c = (rw c.in-Held.is c.held_line.ensures.0, omega (arith, c.held_line.ensures.1))

pub returns-in-Polled : goal.returns-in-Polled
unfolding said_text
returns-in-Polled c = (rw c.in-Polled.is c.reply_line.ensures.0, omega (arith, c.reply_line.ensures.1))

pub returns-in-Cards : goal.returns-in-Cards
unfolding said_text
returns-in-Cards c = (rw c.in-Cards.is c.cards_line.ensures.0, omega (arith, c.cards_line.ensures.1))

pub returns-in-Help : goal.returns-in-Help
unfolding said_text
returns-in-Help c = (rw c.in-Help.is c.help_lines.ensures.0, omega (arith, c.help_lines.ensures.1))
