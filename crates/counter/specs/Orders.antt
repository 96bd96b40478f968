-- The orders: BOOK find LABEL, BOOK add LABEL F1 .. F8, BOOK withdraw LABEL, BOOK list, BOOK check, BOOK new.
use Rattle.std.specs.Prelude.{ℕ, cond, ◌&&◌, List, eqb}
use Rattle.serial.specs.Ascii.{ascii}
use Rattle.serial.specs.Texts.{same_text}
use Rattle.counter.specs.declared.orders.Order.{Order}
use Rattle.counter.specs.declared.orders.Order.TheVariants.{Find, Add, Withdraw, List as Listing, Check, New, Unread}

-- the order of a word, where there are so many words in all: the program's name, BOOK and the order's own among them
unfoldable pub order_of : List ℕ → ℕ → Order
order_of w words =
    cond (same_text w (ascii "find") && eqb words 4) Find
    (cond (same_text w (ascii "add") && eqb words 12) Add
    (cond (same_text w (ascii "withdraw") && eqb words 4) Withdraw
    (cond (same_text w (ascii "list") && eqb words 3) Listing
    (cond (same_text w (ascii "check") && eqb words 3) Check
    (cond (same_text w (ascii "new") && eqb words 3) New Unread)))))
