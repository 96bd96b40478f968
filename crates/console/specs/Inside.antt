-- What the console's own functions hand each other. No step's definition rests on it.
use Rattle.std.specs.Prelude.{ℕ, ◌≤◌, ◌≡◌, true, false, cond, List, [], ◌∷◌, ℤ, Result, Ok, Err, length, take, drop}
use Rattle.std.specs.Borrow.{Bor}
use Rattle.serial.specs.Texts.{same_text}
use Rattle.address.specs.declared.WordAddr.{WordAddr}
use Rattle.address.specs.Addresses.{word_addr}
use Rattle.console.specs.declared.unread.Why.{Why}
use Rattle.console.specs.declared.words.Word.{Word}
use Rattle.console.specs.declared.words.Word.TheVariants.{Other}
use Rattle.console.specs.Items.{row_of, samples}
use Rattle.console.specs.Unread.{slice_stopped}
use Rattle.console.specs.Turns.{nth, barred}

-- the word of the first entry of a table whose letters an item is
unfoldable pub word_in : List (Bor (List ℕ) × Word) → List ℕ → Word
word_in [] item = Other
word_in (e ∷ es) item = cond (same_text e.0.now item) e.1 (word_in es item)

-- a slice's samples stand at the start of a buffer, and behind its bar the text goes on
pub record Ended (count : ℕ) (rest : List ℕ) (room : ℕ) (text : List ℕ) (buffer : List ℤ) : Type 0 where
  pub barred : barred (drop (row_of (samples room) text).bytes text) ≡ true
  pub values : take count buffer ≡ (row_of (samples room) text).values
  pub behind : rest ≡ drop 2 (drop (row_of (samples room) text).bytes text)
  pub fits : count ≤ length buffer

-- or there is no bar behind them
pub record Stopped (why : Why) (room : ℕ) (text : List ℕ) : Type 0 where
  pub unbarred : barred (drop (row_of (samples room) text).bytes text) ≡ false
  pub reason : why ≡ slice_stopped room (length (row_of (samples room) text).values) (drop (row_of (samples room) text).bytes text)

abbrev pub Sliced : Result (ℕ × Bor (List ℕ)) Why → ℕ → List ℕ → List ℤ → Type 0
Sliced (Ok s) room text buffer = Ended s.0 s.1.now room text buffer
Sliced (Err why) room text buffer = Stopped why room text

-- the words that a start tracks: its third number to its eighth
abbrev pub slots_of : List ℤ → List WordAddr
slots_of x = word_addr (nth x 2) ∷ word_addr (nth x 3) ∷ word_addr (nth x 4) ∷ word_addr (nth x 5) ∷ word_addr (nth x 6) ∷ word_addr (nth x 7) ∷ []
