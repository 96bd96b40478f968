-- An interval's counts are of those of its own samples that the card brings beyond the range.
use Rattle.std.proofs.Common.{◌≡◌, ℕ, ◌+◌, ◌≤◌, Bool, true, false, List, [], ◌∷◌, length, ℤ, refl, subst, arith}
use Rattle.card.specs.declared.Card.{Card}
use Rattle.sample.specs.declared.Inputs.{Inputs}
use Rattle.sample.specs.Fields.{voffs, ioffs, vgain, igain}
use Rattle.sample.specs.Sample.{was_clipped, Beyond, voltage_clipped, input_clipped}
use Rattle.sample.specs.Sums.{Sample, one_if}
use Rattle.sample.proofs.Rooms.{one_most}
use Rattle.sample.proofs.Clipped.{clipped_beyond, unclipped_within}
use Rattle.interval.specs.declared.Settings.{Settings}
use Rattle.interval.specs.declared.Closed.{Closed}
use Rattle.interval.specs.Whole.{total, clips_of, sums_of, interval_of}
use Rattle.interval.specs.Close.{closed_of}
use Rattle.interval.specs.Clipping.{HowMany, no_more, this, not_this, ClippedBy}

-- f is a sample's raw voltage, or one of its raw inputs
module _ (f : Sample → ℤ) (offset gain : ℤ) where
  abbrev So : Sample → Type 0
  So x = Beyond (f x) offset gain

  abbrev test : Sample → Bool
  test x = was_clipped (f x) offset gain

  abbrev many : List Sample → ℕ
  many xs = total (λ (x : Sample). one_if (test x)) xs

  how_many : (xs : List Sample) → HowMany So xs (many xs)
  unfolding total
  how_many [] = no_more
  how_many (x ∷ xs) = by (test x) refl (how_many xs)
    where
      by : (b : Bool) → test x ≡ b → HowMany So xs (many xs) → HowMany So (x ∷ xs) (one_if b + many xs)
      by true e h = subst (HowMany So (x ∷ xs)) (omega arith) (this (clipped_beyond (f x) offset gain e) h)
      by false e h = subst (HowMany So (x ∷ xs)) (omega arith) (not_this (unclipped_within (f x) offset gain e) h)

  at_most : (xs : List Sample) → many xs ≤ length xs
  unfolding total
  at_most [] = omega arith
  at_most (x ∷ xs) = omega (arith, one_most (test x), at_most xs)

pub clipped_by : (first : Bool) (t : Settings) (c : Card) (before : Inputs) (xs : List Sample) (old : Closed) → ClippedBy c xs (interval_of first t c before xs old)
unfolding interval_of closed_of sums_of clips_of voltage_clipped input_clipped
clipped_by first t c before xs old =
    let v : Sample → ℤ = λ x. x.0 in
    let s1 : Sample → ℤ = λ x. x.1.s1 in
    let s3 : Sample → ℤ = λ x. x.1.s3 in
    record {
      voltages = how_many v (voffs c) (vgain c) xs;
      of_s1 = how_many s1 (ioffs c) (igain c) xs;
      of_s3 = how_many s3 (ioffs c) (igain c) xs;
      v_most = at_most v (voffs c) (vgain c) xs;
      s1_most = at_most s1 (ioffs c) (igain c) xs;
      s3_most = at_most s3 (ioffs c) (igain c) xs;
    }
