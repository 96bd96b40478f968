-- What a read answers from a hold: the register table's rule.
use Rattle.std.specs.Prelude.{ℕ, ◌-◌, ◌%◌, Bool, cond, ◌&&◌, List, [], ◌∷◌, ◌++◌, eqb, leb, ltb, ℤ, pos, get_or}
use Rattle.steps.specs.Answers.{OrRefusal, refused, accepted}
use Rattle.address.specs.declared.WordAddr.{WordAddr}
use Rattle.address.specs.declared.ByteAddr.{ByteAddr}
use Rattle.interval.specs.declared.Source.{Source}
use Rattle.interval.specs.declared.Registers.{Registers}
use Rattle.address.specs.Addresses.{rows, register_of}
use Rattle.address.specs.Slots.{off}
use Rattle.port.specs.declared.Held.{Held}

-- the eight registers of a source: its six figures, and its counts of energy taken in and given back
unfoldable pub shown_of : Source → List ℤ
shown_of s = s.figures ++ (pos s.plus.count ∷ pos s.minus.count ∷ [])

-- all registers in the table's order: VRMS, IA's eight, IB's eight, MIN1 to MIN6, MAX1 to MAX6
unfoldable pub registers : Registers → List ℤ
registers r = r.vrms ∷ (shown_of r.a ++ (shown_of r.b ++ (r.ends.low ++ r.ends.high)))

-- the register at place k of the table is the MIN or MAX of a slot that is off: MIN1 has place 17, MAX1 place 23
unfoldable pub slot_off : List WordAddr → ℕ → Bool
slot_off track k = leb 17 k && eqb (get_or track ((k - 17) % 6) off).0 0

-- read byte address: 15, 16, 17
unfoldable pub look : Held → ByteAddr → OrRefusal ℤ
look h a =
    let k = register_of a in
    cond h.any
    (cond (ltb k rows)
    (cond (slot_off h.track k) (refused 17)
    (accepted (get_or (registers h.closed.regs) k (pos 0))))
    (refused 16))
    (refused 15)
