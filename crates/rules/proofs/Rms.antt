-- VRMS and IRMS are roots of mean squares.
use Prim.Native.Nat.{ℕ, ◌*◌, ◌-◌, ◌/◌, min}
use mathlib.Core.Path.{◌≡◌, ap}
use native.Mathlib.Omega.{arith}
use lib.IntN.{pos}
use borrow.Author.Tests.{lt-ltb, le-ltb}
use Rattle.root.specs.Root.{root_of}
use Rattle.root.proofs.Roots.{root_of_lem}
use Rattle.card.specs.declared.Card.{Card}
use Rattle.sample.specs.declared.Flow.{Flow}
use Rattle.sample.specs.Fields.{irmsoffs, squelch}
use Rattle.rules.specs.Rules.{rms, below_squelch}
use Rattle.rules.specs.Source.{vrms_of, current_root, is_squelched, irms_of}
use Rattle.rules.specs.Rms.{RootShown, RootSquelched}

-- of the sum of n voltage squares
pub vrms_root : (vv n : ℕ) → RootShown (vv / n) (pos (vrms_of vv n))
unfolding vrms_of rms
vrms_root vv n =
    let e : vv / n - 0 ≡ vv / n = omega arith in
    record { root = root_of (vv / n); is = root_of_lem.is (vv / n); capped_is = ap (λ (x : ℕ). pos (min (root_of x) 8388607)) e }

-- of the sum of n current squares, by a card
pub irms_root : (c : Card) (f : Flow) (n : ℕ) → RootSquelched (f.ii / n - irmsoffs c * irmsoffs c) (squelch c) (pos (irms_of c f n))
unfolding irms_of is_squelched current_root rms below_squelch
irms_root c f n =
    let x = f.ii / n - irmsoffs c * irmsoffs c in
    record {
      root = root_of x;
      is = root_of_lem.is x;
      less = λ h. rw (lt-ltb (min (root_of x) 8388607) (squelch c) h);
      not_less = λ h. rw (le-ltb (min (root_of x) 8388607) (squelch c) h);
    }
