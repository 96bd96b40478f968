-- The commands of a packet, in their order: which registers they read, and what decides the reply.
use Rattle.std.specs.Prelude.{ℕ, zero, suc, ◌+◌, ◌-◌, ◌*◌, ◌/◌, ◌%◌, Bool, true, false, cond, ◌&&◌, ◌||◌, List, [], ◌∷◌, ◌++◌, eqb, leb, ltb, length, get_or}
use Rattle.packet.specs.declared.Device.{Device}
use Rattle.packet.specs.declared.Command.{Command}
use Rattle.packet.specs.declared.Command.TheVariants.{Goes, Reads, Stops}
use Rattle.packet.specs.declared.Ending.{Ending}
use Rattle.packet.specs.declared.Ending.TheVariants.{Whole, Fails, Unanswered}
use Rattle.packet.specs.Codes.{negative, not_implemented}
use Rattle.packet.specs.Packets.{judged, commands_in}

abbrev pub within : ℕ → ℕ → ℕ → Bool
within low high c = leb low c && leb c high

-- ---- one command c, with the bytes behind it

-- how many bytes behind it are its own: 2 of A3; 1 of A1, A2, CF and E0. (Of a register write none is looked at: it is refused in any case.)
unfoldable pub parameters : ℕ → ℕ
parameters c =
    cond (eqb c 0xA3) 2
    (cond (eqb c 0xA1 || eqb c 0xA2 || eqb c 0xCF || eqb c 0xE0) 1
    0)

-- it selects a target: C0 to CE the target 0 to 14, CF the one whose number stands behind it (without its number CF selects none: it lacks a parameter)
unfoldable pub selects : ℕ → List ℕ → Bool
selects c behind = within 0xC0 0xCE c || (eqb c 0xCF && ltb 0 (length behind))

unfoldable pub target_of : ℕ → List ℕ → ℕ
target_of c behind = cond (eqb c 0xCF) (get_or behind 0 0) (c - 0xC0)

-- target 1 is this device, and 0 none; any other number makes it another device's packet
unfoldable pub selecting : Device → ℕ → Command
selecting d target =
    cond (eqb target 1) (Goes (record { selected = true; pointer = d.pointer }))
    (cond (eqb target 0) (Goes (record { selected = false; pointer = d.pointer }))
    (Stops Unanswered))

-- 0 to 9F, A4 to BF, F0 to FF
unfoldable pub not_used : ℕ → Bool
not_used c = ltb c 0xA0 || within 0xA4 0xBF c || leb 0xF0 c

-- the pointer after A0: 0; A1: its bits 7:0 are new; A2: its bits 15:8; A3: both, low byte first
unfoldable pub pointed : ℕ → ℕ → List ℕ → ℕ
pointed c pointer behind =
    cond (eqb c 0xA0) 0
    (cond (eqb c 0xA1) (pointer / 256 * 256 + get_or behind 0 0)
    (cond (eqb c 0xA2) (get_or behind 0 0 * 256 + pointer % 256)
    (get_or behind 1 0 * 256 + get_or behind 0 0)))

-- how many bytes E0 to EF read
unfoldable pub bytes_read : ℕ → List ℕ → ℕ
bytes_read c behind = cond (eqb c 0xE0) (get_or behind 0 0) (c - 0xE0)

-- whole registers alone are read; the pointer, of 16 bits, moves on behind them
unfoldable pub reading : Device → ℕ → Command
reading d n =
    cond (eqb (n % 3) 0) (Reads (n / 3) (record { selected = d.selected; pointer = (d.pointer + n) % 65536 }))
    (Stops (Fails negative))

-- of this device while it is selected, by the first line that fits: A0 to A3 set the pointer, D0 to DF are register writes, and E0 to EF are left
unfoldable pub while_selected : Device → ℕ → List ℕ → Command
while_selected d c behind =
    cond (not_used c) (Stops (Fails not_implemented))
    (cond (ltb (length behind) (parameters c)) (Stops (Fails negative))
    (cond (within 0xA0 0xA3 c) (Goes (record { selected = d.selected; pointer = pointed c d.pointer behind }))
    (cond (within 0xD0 0xDF c) (Stops (Fails negative))
    (reading d (bytes_read c behind)))))

unfoldable pub command_of : Device → ℕ → List ℕ → Command
command_of d c behind =
    cond (selects c behind) (selecting d (target_of c behind))
    (cond d.selected (while_selected d c behind)
    (Stops Unanswered))

-- ---- all of them

-- what a packet asks for: the byte addresses of the registers that its commands read, all of them or those before the one that stops it
pub record Asked : Type 0 where
  pub registers : List ℕ
  pub ending : Ending

-- n registers, one behind the other (past 65,535 within a read, where no register stands)
unfoldable pub registers_from : ℕ → ℕ → List ℕ
registers_from pointer zero = []
registers_from pointer (suc n) = pointer ∷ registers_from (pointer + 3) n

abbrev pub nothing_read : Ending → Asked
nothing_read e = record { registers = []; ending = e }

abbrev pub with_registers : List ℕ → Asked → Asked
with_registers read r = record { registers = read ++ r.registers; ending = r.ending }

abbrev pub follow : Device → Command → (Device → Asked) → Asked
follow d (Goes next) rest = rest next
follow d (Reads n next) rest = with_registers (registers_from d.pointer n) (rest next)
follow d (Stops e) rest = nothing_read e

-- of these bytes the first `skip` are parameters of the command before them
unfoldable pub asked_from : List ℕ → ℕ → Device → Asked
asked_from [] skip d = nothing_read Whole
asked_from (c ∷ cs) (suc skip) d = asked_from cs skip d
asked_from (c ∷ cs) zero d = follow d (command_of d c cs) (asked_from cs (parameters c))

-- when a packet comes this device is selected and the pointer is 0: nothing is left of the packet before
abbrev pub at_first : Device
at_first = record { selected = true; pointer = 0 }

abbrev pub asked_if : Ending → List ℕ → Asked
asked_if Whole p = asked_from (commands_in p) 0 at_first
asked_if (Fails code) p = nothing_read (Fails code)
asked_if Unanswered p = nothing_read Unanswered

unfoldable pub asked_by : List ℕ → Asked
asked_by p = asked_if (judged p) p
