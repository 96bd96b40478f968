-- A history of closes: the interval number, and minima and maxima, over all intervals that closed one after another.
use Rattle.std.specs.Prelude.{◌≡◌, ℕ, ◌%◌, ◌^◌, ◌<◌, Bool, true, false, ◌⊎◌, List, [], ◌∷◌, ◌++◌, length, ℤ, pos, ◌≤ℤ◌, slice_index_or}
use Rattle.card.specs.declared.Card.{Card}
use Rattle.sample.specs.declared.Sums.{Sums}
use Rattle.address.specs.Slots.{off}
use Rattle.interval.specs.declared.Settings.{Settings}
use Rattle.interval.specs.declared.Closed.{Closed}
use Rattle.tracking.specs.Tracking.{tracked}
use Rattle.interval.specs.Close.{seven_of, closed_of, none_closed}

-- z closed next after `old`, of some card, sums and number of samples; `first` at the module's first close
pub record ClosedNext (t : Settings) (first : Bool) (old z : Closed) : Type 0 where
  pub card : Card
  pub sums : Sums
  pub samples : ℕ
  pub is : z ≡ closed_of first t card sums samples old

-- intervals that closed one after another, the first of them after `old`
abbrev pub ClosedInTurn : Settings → Bool → Closed → List Closed → Type 0
ClosedInTurn t first old [] = Unit {0}
ClosedInTurn t first old (z ∷ zs) = ClosedNext t first old z × ClosedInTurn t false z zs

-- what holds of every interval of a list, and of one of them
abbrev pub AllOf : (Closed → Type 0) → List Closed → Type 0
AllOf P [] = Unit {0}
AllOf P (z ∷ zs) = P z × AllOf P zs

abbrev pub OneOf : (Closed → Type 0) → List Closed → Type 0
OneOf P [] = ⊥
OneOf P (z ∷ zs) = P z ⊎ OneOf P zs

-- m is the least, or the greatest, of the values that f gives the intervals of a list
pub record Least (f : Closed → ℤ) (m : ℤ) (zs : List Closed) : Type 0 where
  pub none_less : AllOf (λ z. m ≤ℤ f z) zs
  pub one_is : OneOf (λ z. m ≡ f z) zs

pub record Greatest (f : Closed → ℤ) (m : ℤ) (zs : List Closed) : Type 0 where
  pub none_greater : AllOf (λ z. f z ≤ℤ m) zs
  pub one_is : OneOf (λ z. m ≡ f z) zs

-- what slot k (from 0) tracks of a closed interval: the register of the word that the slot names; 0 if the slot is off
abbrev pub value_of : Settings → ℕ → Closed → ℤ
value_of t k z = tracked (slice_index_or t.track k off) (seven_of z.regs.vrms z.regs.a.figures)

-- the interval z, when `zs` have closed, of which it is the last: its number is their count, after 4,294,967,295 comes 0;
-- for each of the six slots MIN is the least and MAX the greatest of all their values
pub record Followed (t : Settings) (zs : List Closed) (z : Closed) : Type 0 where
  pub number : z.number ≡ length zs % 2 ^ 32
  pub low : (k : ℕ) → k < 6 → Least (value_of t k) (slice_index_or z.regs.ends.low k (pos 0)) zs
  pub high : (k : ℕ) → k < 6 → Greatest (value_of t k) (slice_index_or z.regs.ends.high k (pos 0)) zs

-- so it is of each interval z of a history, with all that closed before it
abbrev pub EachFollowed : Settings → List Closed → Type 0
EachFollowed t zs = (before : List Closed) (z : Closed) (after : List Closed) → zs ≡ before ++ (z ∷ after) → Followed t (before ++ (z ∷ [])) z

-- for any intervals that closed one after another from a fresh module
abbrev pub ClosesFollowed : Type 0
ClosesFollowed = (t : Settings) (zs : List Closed) → ClosedInTurn t true none_closed zs → EachFollowed t zs
