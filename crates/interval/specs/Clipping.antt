-- Clipped samples (document 02, A2 and A5): what an interval's three counts say, over the list of its own raw samples.
use Rattle.std.specs.Prelude.{ℕ, suc, ◌≤◌, List, [], ◌∷◌, length}
use Rattle.card.specs.declared.Card.{Card}
use Rattle.sample.specs.Fields.{voffs, ioffs, vgain, igain}
use Rattle.sample.specs.Sample.{Beyond}
use Rattle.sample.specs.Sums.{Sample}
use Rattle.interval.specs.declared.Closed.{Closed}

-- n of the samples are so, and the others are not
pub data HowMany (So : Sample → Type 0) : List Sample → ℕ → Type 0 where
  no_more : HowMany So [] 0
  this : {x : Sample} {xs : List Sample} {n : ℕ} → So x → HowMany So xs n → HowMany So (x ∷ xs) (suc n)
  not_this : {x : Sample} {xs : List Sample} {n : ℕ} → (So x → ⊥) → HowMany So xs n → HowMany So (x ∷ xs) n

-- the interval z has these raw samples, worked by card c: each count is of those that the card brings beyond the 24-bit range, and so at most as
-- many as there are. The raw inputs before the first sample have no part in it, nor has any interval before, nor what the sources are made of
pub record ClippedBy (c : Card) (xs : List Sample) (z : Closed) : Type 0 where
  pub voltages : HowMany (λ x. Beyond x.0 (voffs c) (vgain c)) xs z.clips.v
  pub of_s1 : HowMany (λ x. Beyond x.1.s1 (ioffs c) (igain c)) xs z.clips.s1
  pub of_s3 : HowMany (λ x. Beyond x.1.s3 (ioffs c) (igain c)) xs z.clips.s3
  pub v_most : z.clips.v ≤ length xs
  pub s1_most : z.clips.s1 ≤ length xs
  pub s3_most : z.clips.s3 ≤ length xs
