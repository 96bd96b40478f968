-- Voltages of a block, one after another, with the card in force and, from some place on, the one that came into force behind it.
use Rattle.std.specs.Prelude.{ℕ, ◌+◌, Bool, cond, ◌&&◌, Option, Some, None, List, [], ◌∷◌, eqb, leb, ltb, ℤ, take, drop}
use Rattle.number.specs.Sign.{square_of}
use Rattle.card.specs.declared.Card.{Card}
use Rattle.sample.specs.Sample.{every24}
use Rattle.alarm.specs.declared.Watch.{Watch}
use Rattle.alarm.specs.Alarms.{Watching, seen_with}

-- raw voltages of one card
unfoldable pub seen_all : Card → Watching → List ℤ → Watching
seen_all c q [] = q
seen_all c q (v ∷ vs) = seen_all c (seen_with c q v) vs

-- the first `turn` of them with one card, the others with the next
unfoldable pub seen_by : Card → Card → ℕ → Watching → List ℤ → Watching
seen_by c next turn q vs = seen_all next (seen_all c q (take turn vs)) (drop turn vs)

-- the sum of the squares
unfoldable pub squares : List ℤ → ℕ
squares [] = 0
squares (v ∷ vs) = square_of v + squares vs

-- the sum that is kept is that of the voltages, and no number can overflow. Whatever a start and steps make is so
unfoldable pub watch_sound : Watching → Bool
watch_sound q =
    let a = q.watch in
    let t = a.limits in
    leb t.w 512 && ltb a.at t.w && leb a.seen t.w && leb t.vsag 8388607 && leb t.vsurge 8388607
    && (every24 q.volts && eqb a.sum (squares q.volts))

-- a watch that is not sound, which no steps make, stays as it came
unfoldable pub passed_by : Card → Card → ℕ → Watching → List ℤ → Watching
passed_by c next turn q vs = cond (watch_sound q) (seen_by c next turn q vs) q

-- the watch behind them, if it is sound
unfoldable pub pass_of : Card → Card → ℕ → Watching → List ℤ → Option Watch
pass_of c next turn q vs = cond (watch_sound q) (Some (passed_by c next turn q vs).watch) None

unfoldable pub volts_after : Card → Card → ℕ → Watching → List ℤ → List ℤ
volts_after c next turn q vs = (passed_by c next turn q vs).volts
