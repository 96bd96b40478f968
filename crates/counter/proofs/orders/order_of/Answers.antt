-- `counter::orders::order_of` meets its contract.
use Rattle.serial.specs.Ascii.{ascii}
use Rattle.counter.specs.Orders.{order_of}
use borrow.Author.Rules.{rules}
use Rattle.counter.proofs.orders.order_of.Goals as goal

pub returns-then-same_text-words : goal.returns-then-same_text-words
unfolding order_of ascii
returns-then-same_text-words c = search rules

pub returns-then-same_text-words-2 : goal.returns-then-same_text-words-2
unfolding order_of ascii
returns-then-same_text-words-2 c = search rules

pub returns-then-same_text-words-3 : goal.returns-then-same_text-words-3
unfolding order_of ascii
returns-then-same_text-words-3 c = search rules

pub returns-then-same_text-words-4 : goal.returns-then-same_text-words-4
unfolding order_of ascii
returns-then-same_text-words-4 c = search rules

pub returns-then-same_text-words-5 : goal.returns-then-same_text-words-5
unfolding order_of ascii
returns-then-same_text-words-5 c = search rules

pub returns-then-same_text-words-6 : goal.returns-then-same_text-words-6
unfolding order_of ascii
returns-then-same_text-words-6 c = search rules

pub returns : goal.returns
unfolding order_of ascii
returns c = search rules
