-- `stock::read::put_digits` meets its contract.
use Prim.Native.Nat.{ℕ, ◌+◌, ◌-◌, ◌≤◌}
use mathlib.Core.Path.{◌≡◌, sym, ap, ◌∙◌}
use mathlib.Core.Bool.{Bool, true, ◌&&◌}
use native.Mathlib.Omega.{arith}
use lib.Dec.{leb}
use lib.ListN.{length, take, drop, get_or}
use borrow.Author.Tests.{le-leb, lt-leb}
use Rattle.serial.specs.Places.{put_within}
use Rattle.serial.specs.Serials.{holds_serial, text_of}
use Rattle.serial.proofs.Places.{put_fits}
use Rattle.book.specs.Answers.{accepted}
use Rattle.stock.proofs.Reading.{no_serial, no_digits_room, serial_read, twelve, text_length}
use Rattle.stock.proofs.read.put_digits.Goals as goal
use Rattle.stock.proofs.read.put_digits.Goals.{then-entry-lt13-via-then-entry-lt13, then-entry-lt13-via-else-entry-lt13+then-not-holds_serial, Else-not-holds_serial}

pub returns-then-entry-lt13 : goal.returns-then-entry-lt13
returns-then-entry-lt13 c =
    let e = c.args.entry.now in
    elim c.then-entry-lt13.branch [
      | then-entry-lt13-via-then-entry-lt13 w ↦ no_serial _ _ (ap (λ (t : Bool). t && holds_serial e) (lt-leb 13 (length e) w.if-entry-lt13.true))
      | then-entry-lt13-via-else-entry-lt13+then-not-holds_serial w ↦
          no_serial _ _ (ap (λ (t : Bool). t && holds_serial e) (le-leb 13 (length e) w.if-entry-lt13.false) ∙ sym w.holds_serial.ensures ∙ w.if-not-holds_serial.true)
    ]

-- what is known of the entry from here on
holds : (c : Else-not-holds_serial) → holds_serial c.args.entry.now ≡ true
holds c = sym c.holds_serial.ensures ∙ c.if-not-holds_serial.false

right : (c : Else-not-holds_serial) → let e = c.args.entry.now in (leb 13 (length e) && holds_serial e) ≡ true
right c =
    let e = c.args.entry.now in
    ap (λ (t : Bool). t && holds_serial e) (le-leb 13 (length e) (omega arith)) ∙ holds c

digits : (c : Else-not-holds_serial) → let e = c.args.entry.now in length (text_of e) ≡ get_or e 0 0
digits c = text_length _ (omega arith) (twelve _ (holds c))

pub returns-then-text-n : goal.returns-then-text-n
returns-then-text-n c = no_digits_room _ _ (right (goal.at.returns-then-text-n c).Else-not-holds_serial) (omega (arith, digits (goal.at.returns-then-text-n c).Else-not-holds_serial))

pub slice_bounds-put_at-end : goal.slice_bounds-put_at-end
slice_bounds-put_at-end c = omega (arith, twelve _ (holds (goal.at.slice_bounds-put_at-end c).Else-not-holds_serial))

pub returns : goal.returns
unfolding text_of
returns c =
    let e = c.args.entry.now in
    let old = c.args.text.now in
    let h = (goal.at.returns c).Else-not-holds_serial in
    let n : c.from-n.result + 1 - 1 ≡ get_or e 0 0 = omega arith in
    let m : c.from-n.result ≡ length (text_of e) = omega (arith, digits h) in
    let l : length (text_of e) ≤ length old = omega (arith, digits h) in
    let r = serial_read e old (right h) l in (
      ap accepted m ∙ r.0,
      c.put_at.ensures ∙ ap (λ (k : ℕ). put_within old 0 (take k (drop 1 e))) n ∙ put_fits old (text_of e) 0 (omega arith) ∙ r.1,
    )
