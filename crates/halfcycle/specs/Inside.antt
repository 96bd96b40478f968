-- What this crate's own functions do: the loop over the voltages of one card. No public contract rests on it.
use Rattle.std.specs.Prelude.{ℕ, ◌+◌, ◌*◌, ◌≤◌, ◌<◌, min, max, ◌≡◌, Bool, true, false, cond, ◌&&◌, List, [], ◌∷◌, ltb, ℤ, pos, get_or, set, length}
use Rattle.sample.specs.Sample.{every24, corrected}
use Rattle.card.specs.declared.Card.{Card}
use Rattle.sample.specs.Fields.{voffs, vgain}
use Rattle.alarm.specs.declared.Limits.{Limits}
use Rattle.alarm.specs.declared.Watch.{Watch}
use Rattle.halfcycle.specs.declared.Levels.{Levels}
use Rattle.halfcycle.specs.declared.Track.{Track}
use Rattle.halfcycle.specs.declared.Sweep.{Sweep}
use Rattle.alarm.specs.Alarms.{next_place, slid_sum}
use Rattle.halfcycle.specs.Passing.{squares}

-- what the loop keeps, and the places of the voltages
pub record Swing : Type 0 where
  pub sweep : Sweep
  pub volts : List ℤ

abbrev pub swing : Sweep → List ℤ → Swing
swing s volts = record { sweep = s; volts = volts }

-- a voltage has taken the place of the oldest, of w
unfoldable pub moved_by : ℕ → Sweep → ℤ → ℤ → Sweep
moved_by w t newest oldest =
    let sum = slid_sum t.sum newest oldest in record { at = next_place w t.at; sum = sum; least = min sum t.least; most = max sum t.most }

unfoldable pub swept : Track → Swing → ℤ → Swing
swept p q raw =
    let x = corrected raw p.voffs p.vgain in
    let t = q.sweep in
    record { sweep = moved_by p.w t x (get_or q.volts t.at (pos 0)); volts = set q.volts t.at x }

unfoldable pub swept_all : Track → Swing → List ℤ → Swing
swept_all p q [] = q
swept_all p q (v ∷ vs) = swept_all p (swept p q v) vs

-- the sum is that of the voltages, and the oldest stands among the w
pub record Kept (w at sum : ℕ) (volts : List ℤ) : Type 0 where
  pub w_most : w ≤ 512
  pub at_less : at < w
  pub long : length volts ≡ 512
  pub all24 : every24 volts ≡ true
  pub sum_is : sum ≡ squares volts

-- ---- one stretch of voltages, with what it is compared with

-- the levels are in range, so that W times their squares fit 64 bits
pub record Ranged (t : Limits) : Type 0 where
  pub w : t.w ≤ 512
  pub vsag : t.vsag ≤ 8388607
  pub vsurge : t.vsurge ≤ 8388607

-- what the sum is compared with where W were seen; else, and where a level is off, what no sum is below or above
unfoldable pub levels_of : Limits → Bool → Levels
levels_of t full = record {
  low = cond full (t.w * (t.vsag * t.vsag)) 0;
  high = cond (full && ltb 0 t.vsurge) (t.w * (t.vsurge * t.vsurge)) 18446744073709551615;
}

unfoldable pub track_of : Card → ℕ → Track
track_of c w = record { voffs = voffs c; vgain = vgain c; w = w }

-- what `watch_sound` says
pub record Good (a : Watch) (volts : List ℤ) : Type 0 where
  pub ranged : Ranged a.limits
  pub seen : a.seen ≤ a.limits.w
  pub kept : Kept a.limits.w a.at a.sum volts

-- of n voltages W were seen after each, or after none
pub record Uniform (full : Bool) (a : Watch) (n : ℕ) : Type 0 where
  pub each : full ≡ true → a.limits.w ≤ a.seen + 1
  pub none : full ≡ false → a.seen + n < a.limits.w
