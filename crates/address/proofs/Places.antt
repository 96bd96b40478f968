-- The row of a table that a search finds, and numbers as addresses.
use Rattle.std.proofs.Common.{ℕ, ◌*◌, ◌<◌, ◌≡◌, refl, sym, ap, Bool, cond, eqb, Option, Result, Ok, Err, List, map, length, ℤ, pos, negsuc, arith}
use Rattle.std.specs.Result.{OkIff, result_unwrap_or}
use Rattle.std.specs.Int.{FitsUnsignedBits}
use Rattle.std.specs.List.{position_or_len}
use Rattle.std.proofs.lemmas.List.Recursion.{is_position_or_len}
use Rattle.std.proofs.lemmas.Bool.{lt-leb, le-leb}
use lib.IntN.{nat_abs}
use Rattle.address.specs.Addresses.{position, row_in, words, rows, byte_of, place_of, register_of, trackable, untracked, byte_addr, word_addr}

-- the place of a number in a table, as std counts it
position_is : (w : ℕ) (xs : List ℕ) → position w xs ≡ position_or_len (λ y. eqb y w) xs
unfolding position
position_is w xs = is_position_or_len (position w) (λ y. eqb y w) refl (λ x xs. ap (cond (eqb x w) 0) (omega arith)) xs

thrice_is : (b : ℕ) (xs : List ℕ) → position b (map (λ w. 3 * w) xs) ≡ position_or_len (λ y. eqb (3 * y) b) xs
unfolding position
thrice_is b xs = is_position_or_len (λ l. position b (map (λ w. 3 * w) l)) (λ y. eqb (3 * y) b) refl (λ x xs. ap (cond (eqb (3 * x) b) 0) (omega arith)) xs

-- what std's search of a list is, as a row of the table
abbrev pub found : (ℕ → Bool) → List ℕ → Option ℕ
found test xs = row_in (length xs) (position_or_len test xs)

pub word_found : (w : ℕ) → found (λ y. eqb y w) trackable ≡ row_in 7 (place_of (record { 0 = w }))
unfolding place_of trackable
word_found w = ap (row_in 7) (sym (position_is w trackable))

pub byte_found : (b : ℕ) → found (λ y. eqb (3 * y) b) words ≡ row_in rows (register_of (record { 0 = b }))
unfolding register_of byte_of words trackable untracked
byte_found b = ap (row_in rows) (sym (thrice_is b words))

-- ---- numbers as addresses
pub byte_at : {E : Type 0} (x : ℤ) (r : Result ℕ E) → OkIff r (FitsUnsignedBits 64 x) (nat_abs x) → nat_abs x < 18446744073709551616 → record { 0 = result_unwrap_or r 18446744073709551615 } ≡ byte_addr x
unfolding byte_addr
byte_at (pos n) (Ok m) h l = rw h.1
byte_at (pos n) (Err e) h l = absurd (h l)
byte_at (negsuc n) (Ok m) h l = absurd h.0
byte_at (negsuc n) (Err e) h l = refl

pub word_at : {E : Type 0} (x : ℤ) (r : Result ℕ E) → OkIff r (FitsUnsignedBits 32 x) (nat_abs x) → record { 0 = result_unwrap_or r 4294967295 } ≡ word_addr x
unfolding word_addr
word_at (pos n) (Ok m) h = rw (h.1, le-leb n 4294967295 (omega (arith, h.0)))
word_at (pos n) (Err e) h = rw (lt-leb n 4294967295 (omega (arith, h)))
word_at (negsuc n) (Ok m) h = absurd h.0
word_at (negsuc n) (Err e) h = refl
