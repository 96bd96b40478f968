-- The buffer in which a listing is made: a text put into it, and what the lines of the entries ask of it.
use Rattle.std.specs.Prelude.{ℕ, ◌+◌, ◌≤◌, ◌≡◌, true, List, length}
use Rattle.serial.specs.Places.{put}
use Rattle.book.specs.Book.{well_formed}

-- a text was put into the buffer at a place, and at is the place after it
pub record Made (before after : List ℕ) (from at : ℕ) (text : List ℕ) : Type 0 where
  pub line : after ≡ put before from text
  pub place : at ≡ from + length text

-- the book is well formed, the buffer has room for the longest listing, and no more than the first line stands in it
pub record Open (b out : List ℕ) (from : ℕ) : Type 0 where
  pub formed : well_formed b ≡ true
  pub wide : length out ≡ 205852
  pub first : from ≤ 28
