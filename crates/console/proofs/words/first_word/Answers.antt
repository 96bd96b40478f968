-- `first_word` finds the word that an item is.
use Rattle.serial.specs.Ascii.{ascii}
use Rattle.console.specs.Words.{letters_of, word_of}
use Rattle.console.specs.Inside.{word_in}
use Rattle.console.proofs.words.first_word.Goals as goal

pub returns : goal.returns
unfolding word_of letters_of word_in ascii
returns c = c.word_in.ensures
