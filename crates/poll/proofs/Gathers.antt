-- Laws of a packet's commands, one after another: what is gathered behind each.
use Prim.Native.Nat.{ℕ, zero, suc, ◌+◌, ◌/◌, ◌%◌, ◌<◌, ◌≤◌}
use lib.Dec.{eqb, ltb}
use mathlib.Core.Path.{◌≡◌, refl, ap, ◌∙◌}
use mathlib.Core.Bool.{Bool, true, false, cond}
use mathlib.Core.List.{List, [], ◌∷◌, ◌++◌}
use lib.IntN.{ℤ}
use lib.ListN.{length, get_or, drop, drop_of_length-le}
use lib.Seq.{drop-cons, drop-drop}
use native.Mathlib.Numerals.{add-one}
use Rattle.std.specs.Prelude.{Result, Ok, Err}
use Rattle.std.specs.Result.{IsErrAnd}
use Rattle.steps.specs.Answers.{OrRefusal, refused, accepted}
use Rattle.packet.specs.declared.Device.{Device}
use Rattle.packet.specs.declared.Command.{Command}
use Rattle.packet.specs.declared.Command.TheVariants.{Goes, Reads, Stops}
use Rattle.packet.specs.declared.Ending.{Ending}
use Rattle.packet.specs.declared.Ending.TheVariants.{Whole, Fails, Unanswered}
use Rattle.packet.specs.Codes.{negative, not_implemented}
use Rattle.packet.specs.Commands.{Asked, within, parameters, selects, target_of, selecting, not_used, pointed, bytes_read, reading, while_selected, command_of, registers_from, follow, asked_from}
use Rattle.poll.specs.declared.Gathered.{Gathered}
use Rattle.poll.specs.declared.Walked.{Walked}
use Rattle.poll.specs.Inside.{taken_if, read_into, left_for, walked, ended_by, gathers}

-- what `?` hands on is the ending that it found
pub handed_on : {A : Type 0} (r : Result A Ending) (e : Ending) → IsErrAnd r (λ x. x ≡ e) → r ≡ Err e
handed_on (Ok a) e h = absurd h
handed_on (Err x) e h = ap Err h

-- parameters are passed over
skipped : (cs : List ℕ) (k : ℕ) (l : Device) → asked_from cs k l ≡ asked_from (drop k cs) 0 l
unfolding asked_from
skipped [] zero l = refl
skipped [] (suc k) l = refl
skipped (c ∷ cs) zero l = refl
skipped (c ∷ cs) (suc k) l = skipped cs k l

-- no command stops a packet as whole
abbrev Stopping : Command → Type 0
Stopping (Goes next) = Unit {0}
Stopping (Reads n next) = Unit {0}
Stopping (Stops Whole) = ⊥
Stopping (Stops (Fails c)) = Unit {0}
Stopping (Stops Unanswered) = Unit {0}

record Stoppable (k : Command) : Type 0 where
  is : Stopping k

goes : (d : Device) → Stoppable (Goes d)
goes d = record { is = tt }

reads : (n : ℕ) (d : Device) → Stoppable (Reads n d)
reads n d = record { is = tt }

fails : (c : ℕ) → Stoppable (Stops (Fails c))
fails c = record { is = tt }

silent : Stoppable (Stops Unanswered)
silent = record { is = tt }

either : (t : Bool) {j k : Command} → Stoppable j → Stoppable k → Stoppable (cond t j k)
either true a b = a
either false a b = b

select : (d : Device) (n : ℕ) → Stoppable (selecting d n)
unfolding selecting
select d n =
    either (eqb n 1) (goes (record { selected = true; pointer = d.pointer })) (either (eqb n 0) (goes (record { selected = false; pointer = d.pointer })) silent)

read : (d : Device) (n : ℕ) → Stoppable (reading d n)
unfolding reading
read d n = either (eqb (n % 3) 0) (reads (n / 3) (record { selected = d.selected; pointer = (d.pointer + n) % 65536 })) (fails negative)

selected : (d : Device) (c : ℕ) (behind : List ℕ) → Stoppable (while_selected d c behind)
unfolding while_selected
selected d c behind =
    either (not_used c) (fails not_implemented)
    (either (ltb (length behind) (parameters c)) (fails negative)
    (either (within 0xA0 0xA3 c) (goes (record { selected = d.selected; pointer = pointed c d.pointer behind }))
    (either (within 0xD0 0xDF c) (fails negative)
    (read d (bytes_read c behind)))))

stoppable : (d : Device) (c : ℕ) (behind : List ℕ) → Stoppable (command_of d c behind)
unfolding command_of
stoppable d c behind = either (selects c behind) (select d (target_of c behind)) (either d.selected (selected d c behind) silent)

module _ (look : ℕ → OrRefusal ℤ) where
  -- ---- registers behind others
  abbrev onward : Result Gathered Ending → List ℕ → Result Gathered Ending
  onward (Ok g) ys = read_into look ys g
  onward (Err e) ys = Err e

  onward_by : (q : OrRefusal ℤ) (g : Gathered) (f f' : Gathered → Result Gathered Ending) (ys : List ℕ) → ((g : Gathered) → f g ≡ onward (f' g) ys) →
      taken_if q g f ≡ onward (taken_if q g f') ys
  onward_by (refused n) g f f' ys e = refl
  onward_by (accepted v) g f f' ys e = e _

  read_more : (xs ys : List ℕ) (g : Gathered) → read_into look (xs ++ ys) g ≡ onward (read_into look xs g) ys
  unfolding read_into
  read_more [] ys g = refl
  read_more (a ∷ xs) ys g = onward_by (look a) g (read_into look (xs ++ ys)) (read_into look xs) ys (read_more xs ys)

  -- ---- one command
  reads_over : (r : Result Gathered Ending) (next : Device) (ys : List ℕ) (e x : Ending) → left_for next r ≡ Err e → ended_by (onward r ys) x ≡ Err e
  reads_over (Ok g) next ys e x h = absurd cc
  reads_over (Err f) next ys e x h = let s : f ≡ e = cc in ap Err s

  stops_over : (g : Gathered) (f e : Ending) → Stopping (Stops f) → f ≡ e → ended_by (Ok g) f ≡ Err e
  stops_over g Whole e s h = absurd s
  stops_over g (Fails c) e s h = ap Err h
  stops_over g Unanswered e s h = ap Err h

  pub walk_over : (l : Device) (g : Gathered) (k : Command) (rest : Device → Asked) (e : Ending) → Stopping k → walked look l g k ≡ Err e → gathers look g (follow l k rest) ≡ Err e
  unfolding walked gathers read_into
  walk_over l g (Goes next) rest e s h = absurd cc
  walk_over l g (Reads n next) rest e s h =
      ap (λ (r : Result Gathered Ending). ended_by r (rest next).ending) (read_more (registers_from l.pointer n) (rest next).registers g)
      ∙ reads_over (read_into look (registers_from l.pointer n) g) next (rest next).registers e (rest next).ending h
  walk_over l g (Stops f) rest e s h = let q : f ≡ e = cc in stops_over g f e s q

  reads_on : (r : Result Gathered Ending) (next : Device) (rest : Device → Asked) (w : Walked) → left_for next r ≡ Ok w →
      ended_by (onward r (rest next).registers) (rest next).ending ≡ gathers look w.gathered (rest w.device)
  unfolding gathers
  reads_on (Ok g) next rest w h =
      let s : ◌≡◌ {A = Walked} (record { device = next; gathered = g }) w = cc in ap (λ (w : Walked). gathers look w.gathered (rest w.device)) s
  reads_on (Err f) next rest w h = absurd cc

  pub walk_on : (l : Device) (g : Gathered) (k : Command) (rest : Device → Asked) (w : Walked) → walked look l g k ≡ Ok w →
      gathers look g (follow l k rest) ≡ gathers look w.gathered (rest w.device)
  unfolding walked gathers
  walk_on l g (Goes next) rest w h =
      let s : ◌≡◌ {A = Walked} (record { device = next; gathered = g }) w = cc in ap (λ (w : Walked). gathers look w.gathered (rest w.device)) s
  walk_on l g (Reads n next) rest w h =
      ap (λ (r : Result Gathered Ending). ended_by r (rest next).ending) (read_more (registers_from l.pointer n) (rest next).registers g)
      ∙ reads_on (read_into look (registers_from l.pointer n) g) next rest w h
  walk_on l g (Stops f) rest w h = absurd cc

  -- ---- a turn of the loop, at place `at` of the commands
  module _ (cs : List ℕ) (at : ℕ) (i : at < length cs) (l : Device) (g : Gathered) where
    abbrev c : ℕ
    c = get_or cs at 0

    abbrev command : Command
    command = command_of l c (drop (at + 1) cs)

    asked_here : asked_from (drop at cs) 0 l ≡ follow l command (asked_from (drop (at + 1) cs) (parameters c))
    unfolding asked_from
    asked_here = rw (drop-cons cs at 0 i, add-one at) refl

    pub turn_over : (e : Ending) → walked look l g command ≡ Err e → gathers look g (asked_from (drop at cs) 0 l) ≡ Err e
    turn_over e h = ap (gathers look g) asked_here ∙ walk_over l g command (asked_from (drop (at + 1) cs) (parameters c)) e (stoppable l c (drop (at + 1) cs)).is h

    pub turn_on : (w : Walked) → walked look l g command ≡ Ok w →
        gathers look g (asked_from (drop at cs) 0 l) ≡ gathers look w.gathered (asked_from (drop (at + 1 + parameters c) cs) 0 w.device)
    turn_on w h =
        ap (gathers look g) asked_here
        ∙ walk_on l g command (asked_from (drop (at + 1) cs) (parameters c)) w h
        ∙ ap (gathers look w.gathered) (skipped (drop (at + 1) cs) (parameters c) w.device)
        ∙ ap (λ (r : List ℕ). gathers look w.gathered (asked_from r 0 w.device)) (drop-drop (parameters c) (at + 1) cs)

  -- behind the last command
  pub turn_last : (cs : List ℕ) (at : ℕ) (l : Device) (g : Gathered) → length cs ≤ at → gathers look g (asked_from (drop at cs) 0 l) ≡ Ok g
  unfolding gathers read_into asked_from
  turn_last cs at l g i = rw (drop_of_length-le cs {i = at} i) refl
