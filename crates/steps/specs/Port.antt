-- The two ports, and what there is one of for each.
use Rattle.std.specs.Prelude.{ℕ, zero, suc}
use Rattle.std.proofs.Math.Option.{Option, none, some}

pub data Port : Type 0 where
  port0 port1 : Port

-- "Ports are 0 and 1": any other number names none.
abbrev pub port_of : ℕ → Option Port
port_of zero = some port0
port_of (suc zero) = some port1
port_of (suc (suc n)) = none

pub record PerPort (A : Type 0) : Type 0 where
  pub on0 : A
  pub on1 : A

-- the port's own
abbrev pub on : {A : Type 0} → PerPort A → Port → A
on t port0 = t.on0
on t port1 = t.on1

-- the port's own replaced, the other port's kept
abbrev pub put_on : {A : Type 0} → Port → A → PerPort A → PerPort A
put_on port0 a t = record { on0 = a; on1 = t.on1 }
put_on port1 a t = record { on0 = t.on0; on1 = a }

abbrev pub on_both : {A : Type 0} → A → PerPort A
on_both a = record { on0 = a; on1 = a }

-- the one if the two ports are the same, else the other
abbrev pub if_same {ℓ} : {A : Type ℓ} → Port → Port → A → A → A
if_same port0 port0 a b = a
if_same port0 port1 a b = b
if_same port1 port0 a b = b
if_same port1 port1 a b = a
