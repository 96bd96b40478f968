-- Each public contract decides its outcome: of two results that it allows, each is the other.
use mathlib.Core.Path.{refl, sym, ◌∙◌}
use Rattle.promise.specs.Determined.{Decided}
use Rattle.book.proofs.cards.Kinds as cards-k
use Rattle.book.proofs.cards.Reads as cards
use Rattle.book.proofs.withdrawn.Kinds as withdrawn-k
use Rattle.book.proofs.withdrawn.Reads as withdrawn
use Rattle.book.proofs.is_book.Kinds as is-book-k
use Rattle.book.proofs.is_book.Reads as is-book

pub cards_decided : Decided 1 cards-k.ps cards-k.r cards.Pre cards.Post
cards_decided = record { always = λ κs a. tt; determined = λ κs a p z z' ws ws' q q'. (q.0 ∙ sym q'.0, refl) }

pub withdrawn_decided : Decided 1 withdrawn-k.ps withdrawn-k.r withdrawn.Pre withdrawn.Post
withdrawn_decided = record { always = λ κs a. tt; determined = λ κs a p z z' ws ws' q q'. (q.0 ∙ sym q'.0, refl) }

pub is_book_decided : Decided 1 is-book-k.ps is-book-k.r is-book.Pre is-book.Post
is_book_decided = record { always = λ κs a. tt; determined = λ κs a p z z' ws ws' q q'. (q ∙ sym q', refl) }
