-- What squelching does: which interval is squelched, what its figures are then, and P of one that is not.
use Prim.Native.Nat.{ℕ, ◌*◌, ◌-◌, ◌/◌, ◌≤◌, ◌<◌}
use mathlib.Core.Path.{◌≡◌, ap, subst}
use mathlib.Core.Bool.{true, false}
use mathlib.Core.List.{[], ◌∷◌}
use native.Mathlib.Omega.{arith}
use lib.IntN.{pos}
use borrow.Author.Tests.{lt-ltb, le-ltb}
use Rattle.range.specs.Range.{capped}
use Rattle.root.specs.Root.{Root}
use Rattle.root.proofs.Roots.{root_of_lem}
use Rattle.card.specs.declared.Card.{Card}
use Rattle.sample.specs.declared.Flow.{Flow}
use Rattle.sample.specs.Fields.{irmsoffs, squelch, poffs}
use Rattle.rules.specs.Rules.{rms, below_squelch, active_of, apparent_of, factor_of, crest_of}
use Rattle.rules.specs.Source.{current_root, is_squelched, irms_of, watt_of, ipeak_of, six, figures_of}

module _ (c : Card) (f : Flow) (n : ℕ) where
  -- the root, however it is found
  root_is : (r : ℕ) → Root (f.ii / n - irmsoffs c * irmsoffs c) r → capped r ≡ current_root c f n
  unfolding current_root rms
  root_is r h = ap (λ (x : ℕ). capped x) (root_of_lem.only (f.ii / n - irmsoffs c * irmsoffs c) r h)

  pub below_squelch_lem : (r : ℕ) → Root (f.ii / n - irmsoffs c * irmsoffs c) r → capped r < squelch c → is_squelched c f n ≡ true
  unfolding is_squelched below_squelch
  below_squelch_lem r h k = lt-ltb (current_root c f n) (squelch c) (subst (λ (x : ℕ). x < squelch c) (root_is r h) k)

  pub not_below_squelch : (r : ℕ) → Root (f.ii / n - irmsoffs c * irmsoffs c) r → squelch c ≤ capped r → is_squelched c f n ≡ false
  unfolding is_squelched below_squelch
  not_below_squelch r h k = le-ltb (current_root c f n) (squelch c) (subst (λ (x : ℕ). squelch c ≤ x) (root_is r h) k)

  -- nothing of the current is left but IPEAK
  pub squelched_figures : (v : ℕ) → is_squelched c f n ≡ true → figures_of c v f n ≡ pos 0 ∷ pos (ipeak_of f) ∷ pos 0 ∷ pos 0 ∷ pos 0 ∷ pos 0 ∷ []
  unfolding figures_of six irms_of watt_of apparent_of factor_of crest_of
  squelched_figures v h =
      let s : v * 0 / 8388608 ≡ 0 = omega arith in
      rw (h, s)

  pub squelched_watt : is_squelched c f n ≡ true → watt_of c f n ≡ pos 0
  unfolding watt_of
  squelched_watt h = rw h

  pub watt_left : is_squelched c f n ≡ false → watt_of c f n ≡ active_of f.vi n (poffs c)
  unfolding watt_of
  watt_left h = rw h
