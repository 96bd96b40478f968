-- The energy of an interval joins the record of its sign's direction, and none where P is 0.
use Rattle.std.proofs.Common.{◌≡◌, ℕ, true, false, get_or, ℤ, pos, negsuc, sym, arith, le-ltb}
use lib.Signed.{lt_z}
use Rattle.card.specs.declared.Card.{Card}
use Rattle.sample.specs.declared.Flow.{Flow}
use Rattle.rules.specs.Source.{figures_of, watt_of}
use Rattle.rules.proofs.Places.{watt_at}
use Rattle.energy.specs.Energies.{advanced, joined_by, amount_of, plus_after, minus_after}
use Rattle.interval.specs.declared.Source.{Source}
use Rattle.interval.specs.Close.{with_plus, with_minus, source_after}

-- a number is not on both sides of 0
not_below : (p : ℤ) → lt_z (pos 0) p ≡ true → lt_z p (pos 0) ≡ false
not_below (pos n) h = le-ltb n 0 (omega arith)
not_below (negsuc n) h = sym h

module _ (c : Card) (v : ℕ) (f : Flow) (n b : ℕ) (old : Source) where
  -- P where it stands among the figures
  abbrev pub shown : ℤ
  shown = get_or (figures_of c v f n) 2 (pos 0)

  -- the source with the interval's figures, before its energy is counted
  abbrev pub figured : Source
  figured = record { figures = figures_of c v f n; plus = old.plus; minus = old.minus }

  pub joins_plus : lt_z (pos 0) shown ≡ true → with_plus figured (advanced old.plus (amount_of shown n) b) ≡ source_after c v f n b old
  unfolding with_plus source_after plus_after minus_after joined_by
  joins_plus h =
      let k : lt_z (pos 0) (watt_of c f n) ≡ true = rw (watt_at c v f n) at h in
      simp (watt_at c v f n, k, not_below (watt_of c f n) k)

  pub joins_minus : lt_z (pos 0) shown ≡ false → lt_z shown (pos 0) ≡ true → with_minus figured (advanced old.minus (amount_of shown n) b) ≡ source_after c v f n b old
  unfolding with_minus source_after plus_after minus_after joined_by
  joins_minus h k =
      let h' : lt_z (pos 0) (watt_of c f n) ≡ false = rw (watt_at c v f n) at h in
      let k' : lt_z (watt_of c f n) (pos 0) ≡ true = rw (watt_at c v f n) at k in
      simp (watt_at c v f n, h', k')

  pub joins_none : lt_z (pos 0) shown ≡ false → lt_z shown (pos 0) ≡ false → figured ≡ source_after c v f n b old
  unfolding source_after plus_after minus_after joined_by
  joins_none h k =
      let h' : lt_z (pos 0) (watt_of c f n) ≡ false = rw (watt_at c v f n) at h in
      let k' : lt_z (watt_of c f n) (pos 0) ≡ false = rw (watt_at c v f n) at k in
      simp (h', k')
