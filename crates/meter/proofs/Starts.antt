-- The ways through a start, and that a fresh meter is sound.
use Prim.Native.Nat.{ℕ, ◌≤◌}
use mathlib.Core.Path.{◌≡◌, refl, sym, ap}
use mathlib.Core.Bool.{Bool, true, false, cond, ◌&&◌, true≢false}
use mathlib.Core.List.{List}
use lib.Dec.{T, leb, lit≤}
use lib.IntN.{ℤ, pos, negsuc, nat_abs}
use lib.Signed.{le_z, non_neg}
use borrow.Author.Tests.{leb-true}
use Rattle.steps.specs.Answers.{OrRefusal, refused, accepted}
use Rattle.address.specs.declared.WordAddr.{WordAddr}
use Rattle.address.specs.Slots.{every_slot}
use Rattle.meter.proofs.Sound.{Sound}
use Rattle.sample.specs.Inside.{Phased}
use Rattle.meter.specs.Starting.{numbers_ok, config_ok, no_card, fresh_of, starting}
use Rattle.meter.specs.declared.Meter.{Meter}

-- a fresh module is sound
no_card_phased : Phased no_card
no_card_phased = record { low = tt; high = lit≤ tt }

pub fresh_sound : (n b : ℕ) (track : List WordAddr) (config : ℕ) → 1 ≤ n → n ≤ 4096 → Sound (fresh_of n b track config)
unfolding fresh_of
fresh_sound n b track config n1 n2 = record {
  n_most = n2;
  taken_most = n1;
  room = record {
    vv = lit≤ tt;
    a = record { ii = lit≤ tt; vi = lit≤ tt };
    b = record { ii = lit≤ tt; vi = lit≤ tt };
    clips = record { v = lit≤ tt; s1 = lit≤ tt; s3 = lit≤ tt };
  };
  waiting = no_card_phased;
  force = no_card_phased;
}

-- ---- the ways through a start
abbrev pub made : Bool → ℤ → ℤ → List WordAddr → ℤ → OrRefusal Meter
made t n b track config = cond t (accepted (fresh_of (nat_abs n) (nat_abs b) track (nat_abs config))) (refused 7)

pub start_by : (t : Bool) (n b : ℤ) (track : List WordAddr) (config : ℤ) → (numbers_ok n b && every_slot track && config_ok config) ≡ t → made t n b track config ≡ starting n b track config
unfolding starting
start_by t n b track config e = ap (λ (t : Bool). made t n b track config) (sym e)

-- the numbers of a start that is taken
both_of : (s t : Bool) → s && t ≡ true → (s ≡ true) × (t ≡ true)
both_of true t e = (refl, e)
both_of false t e = absurd (true≢false (sym e))

between : (z : ℤ) (m : ℕ) → le_z (pos 1) z ≡ true → le_z z (pos m) ≡ true → T (non_neg z) × (1 ≤ nat_abs z) × (nat_abs z ≤ m)
between (pos n) m d e = (tt, leb-true 1 n d, leb-true n m e)
between (negsuc n) m d e = absurd (true≢false (sym d))

pub numbers_in : (n b : ℤ) → numbers_ok n b ≡ true → (T (non_neg n) × (1 ≤ nat_abs n) × (nat_abs n ≤ 4096)) × (T (non_neg b) × (1 ≤ nat_abs b) × (nat_abs b ≤ 281474976710655))
unfolding numbers_ok
numbers_in n b e =
    let c3 : _ = both_of _ _ e in
    let c2 : _ = both_of _ _ c3.0 in
    let c1 : _ = both_of _ _ c2.0 in
    (between n 4096 c1.0 c1.1, between b 281474976710655 c2.1 c3.1)

pub config_in : (config : ℤ) → config_ok config ≡ true → T (non_neg config) × (nat_abs config ≤ 255)
unfolding config_ok
config_in (pos n) e = (tt, leb-true n 255 (both_of (leb 0 n) (leb n 255) e).1)
config_in (negsuc n) e = absurd (true≢false (sym e))
