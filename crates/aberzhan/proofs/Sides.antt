-- Laws of the ports: a step at one of them, and one that no port takes.
use Prim.Native.Nat.{ℕ, zero, suc}
use mathlib.Core.Path.{◌≡◌, refl, ap, ◌∙◌}
use mathlib.Core.Option.{Option, none, some}
use lib.IntN.{ℤ, pos, negsuc}
use Rattle.steps.specs.Answers.{OrRefusal, refused, accepted}
use Rattle.steps.specs.Port.{Port, port0, port1}
use Rattle.aberzhan.specs.declared.Port.{Port as Named}
use Rattle.aberzhan.specs.declared.Port.TheVariants.{Zero, One}
use Rattle.aberzhan.specs.Module.{port_at, at_port}
use Rattle.aberzhan.specs.Inside.{named, side_of}

-- what the code finds of a number
abbrev pub found : Option Port → OrRefusal Named
found o = at_port o (refused 8) (λ p. accepted (named p))

named_back : (p : Port) → side_of (named p) ≡ p
named_back port0 = refl
named_back port1 = refl

-- a port's number: the step is done there
pub a_port : {B : Type 0} (o : Option Port) (k : Named) (refusing : B) (act : Port → B) → accepted k ≡ found o → act (side_of k) ≡ at_port o refusing act
a_port none k refusing act e = absurd cc
a_port (some p) k refusing act e = let s : k ≡ named p = cc in ap act (ap side_of s ∙ named_back p)

-- any other: 8
pub no_port : {B : Type 0} (o : Option Port) (n : ℕ) (f : ℕ → B) (act : Port → B) → refused n ≡ found o → f n ≡ at_port o (f 8) act
no_port none n f act e = let s : n ≡ 8 = cc in ap f s
no_port (some p) n f act e = absurd cc

-- 0 and 1 name their ports, and no other number names one
pub found_0 : accepted Zero ≡ found (port_at (pos 0))
unfolding port_at
found_0 = refl

pub found_1 : accepted One ≡ found (port_at (pos 1))
unfolding port_at
found_1 = refl

pub found_none : (p : ℤ) → (p ≡ pos 0 → ⊥) → (p ≡ pos 1 → ⊥) → refused 8 ≡ found (port_at p)
unfolding port_at
found_none (pos zero) a b = absurd (a refl)
found_none (pos (suc zero)) a b = absurd (b refl)
found_none (pos (suc (suc n))) a b = refl
found_none (negsuc n) a b = refl
