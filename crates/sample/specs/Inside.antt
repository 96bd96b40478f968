-- What functions that add samples are told: sums that cannot pass 64 bits, and a card whose PHASE is in its range. No public contract rests on it.
use Rattle.std.specs.Prelude.{ℕ, ◌+◌, ◌*◌, ◌^◌, ◌≤◌, nat_abs, T}
use Rattle.std.specs.Int.Signed.{non_neg}
use Rattle.card.specs.declared.Card.{Card}
use Rattle.sample.specs.declared.Flow.{Flow}
use Rattle.sample.specs.declared.Clips.{Clips}
use Rattle.sample.specs.declared.Sums.{Sums}
use Rattle.sample.specs.Fields.{field}

-- sums of at most k samples
pub record Flowing (f : Flow) (k : ℕ) : Type 0 where
  pub ii : f.ii ≤ k * 2 ^ 46
  pub vi : nat_abs f.vi ≤ k * 2 ^ 46

-- no more than k were clipped
pub record Few (c : Clips) (k : ℕ) : Type 0 where
  pub v : c.v ≤ k
  pub s1 : c.s1 ≤ k
  pub s3 : c.s3 ≤ k

pub record Room (s : Sums) (k : ℕ) : Type 0 where
  pub vv : s.vv ≤ k * 2 ^ 46
  pub a : Flowing s.a k
  pub b : Flowing s.b k
  pub clips : Few s.clips k

-- k samples more may be added
pub record Spare (s : Sums) (k : ℕ) : Type 0 where
  pub had : ℕ
  pub few : had + k ≤ 4096
  pub room : Room s had

-- the card's PHASE is in its range
pub record Phased (c : Card) : Type 0 where
  pub low : T (non_neg (field c 5))
  pub high : nat_abs (field c 5) ≤ 4095
