-- Laws of the packet's frame: what is one has at least 3 bytes.
use Prim.Native.Nat.{ℕ, ◌≤◌}
use mathlib.Core.Path.{◌≡◌, refl, sym, subst}
use mathlib.Core.Bool.{Bool, true, false, cond, ◌||◌, not, true≢false}
use mathlib.Core.List.{List}
use native.Mathlib.Omega.{arith}
use lib.Dec.{eqb, ltb}
use lib.ListN.{length, get_or}
use borrow.Author.Tests.{ltb-false}
use Rattle.packet.specs.declared.Ending.{Ending}
use Rattle.packet.specs.declared.Ending.TheVariants.{Whole, Fails, Unanswered}
use Rattle.packet.specs.Codes.{header}
use Rattle.packet.specs.Packets.{count_in, no_packet, judged}

-- of four tests none holds
none_of : (a b c d : Bool) → a || b || c || d ≡ false → (a ≡ false) × (c ≡ false) × (d ≡ false)
none_of false false false false e = (e, e, e)
none_of true b c d e = absurd (true≢false (e_true b c d e))
  where
    e_true : (b c d : Bool) → true || b || c || d ≡ false → true ≡ false
    e_true true true d e = e
    e_true true false d e = e
    e_true false true d e = e
    e_true false false d e = e
none_of false true c d e = absurd (true≢false e)
none_of false false true d e = absurd (true≢false e)
none_of false false false true e = absurd (true≢false e)

pub record Framed (p : List ℕ) : Type 0 where
  pub two : 2 ≤ length p
  pub three : 3 ≤ count_in p
  pub all : count_in p ≤ length p

pub framed : (p : List ℕ) → no_packet p ≡ false → Framed p
unfolding no_packet
framed p e =
    let q = none_of (ltb (length p) 2) (not (eqb (get_or p 0 0) header)) (ltb (count_in p) 3) (ltb (length p) (count_in p)) e in
    record { two = ltb-false _ _ q.0; three = ltb-false _ _ q.1; all = ltb-false _ _ q.2 }

-- a packet that is whole is none of those that have no reply
abbrev Answered : Ending → Type 0
Answered Whole = Unit {0}
Answered (Fails c) = Unit {0}
Answered Unanswered = ⊥

answered : (none : Bool) (e : Ending) → Answered (cond none Unanswered e) → none ≡ false
answered true e h = absurd h
answered false e h = refl

pub whole_long : (p : List ℕ) → judged p ≡ Whole → 3 ≤ length p
unfolding judged
whole_long p e = let f = framed p (answered (no_packet p) _ (subst Answered (sym e) tt)) in omega (arith, f.three, f.all)
