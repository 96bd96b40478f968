-- What the counter makes of the signed numbers of crate stock, and of a card that it looks up.
use Rattle.std.specs.Prelude.{ℕ, ◌+◌, cond, List, ℤ, pos, negsuc, eqb, Result, Ok, Err, unwrap_or}
use Rattle.refusal.specs.declared.Refusal.{Refusal}
use Rattle.refusal.specs.declared.Refusal.TheVariants.{Malformed}
use Rattle.refusal.specs.Numbers.{number_of, numbered}
use Rattle.card.specs.Cards.{is_card, fields_at}
use Rattle.book.specs.Answers.{Answer, accepted, refused}
use Rattle.lookup.specs.Lookup.{lookup_of, card_part}

-- the refusal with a number; where none has it, which stock never gives, the book counts as not well formed
abbrev pub refusal_of : ℕ → Refusal
refusal_of n = unwrap_or (numbered n) Malformed

-- the answer that a signed number gives
unfoldable pub answered_of : ℤ → Answer
answered_of (pos n) = accepted n
answered_of (negsuc n) = refused (number_of (refusal_of (n + 1)))

-- the eight fields of the card c
unfoldable pub fields_of : List ℕ → Result (List ℤ) Refusal
fields_of c = cond (is_card c) (Ok (fields_at c)) (Err Malformed)

-- the eight fields of the card that lookup finds, or its refusal
unfoldable pub found_fields : List ℕ → List ℕ → Result (List ℤ) Refusal
found_fields b t = cond (eqb (lookup_of b t).number 0) (Ok (fields_at (card_part b t))) (Err (refusal_of (lookup_of b t).number))
