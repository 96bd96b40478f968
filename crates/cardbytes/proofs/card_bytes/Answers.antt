-- `cardbytes::card_bytes` meets its contract: after the serial, three bytes for each field passed.
use Prim.Native.Nat.{ℕ, ◌+◌, ◌*◌}
use mathlib.Core.Path.{◌≡◌, sym, ap, ◌∙◌}
use mathlib.Core.List.{List, ◌++◌, append-nil}
use native.Mathlib.Omega.{arith}
use lib.IntN.{pos}
use lib.ListN.{length, get_or, take, replicate}
use mir.Syntax.{w64}
use mir.Val.{SFits}
use mir.Facts.{to_z-of_z}
use Rattle.serial.specs.Places.{put}
use Rattle.serial.proofs.Places.{put_fits, front_put}
use Rattle.serial.specs.Serials.{serial_bytes}
use Rattle.card.specs.Cards.{bits24, three_bytes, fields_bytes}
use Rattle.cardbytes.proofs.Cards.{fields_turn, fields_done}
use borrow.Author.Rules.{rules}
use Rattle.cardbytes.proofs.card_bytes.Goals as goal
use Rattle.cardbytes.proofs.card_bytes.Goals.{After-put_at, After-put_at-in-loop-i}

-- the serial's bytes come first
front : (c : After-put_at) → take 13 c.put_at.new.b ≡ serial_bytes c.args.serial
front c =
    let h = c.bytes-head.result in
    let n : length h ≡ 13 = search rules in
    let m : 0 + length h ≡ 13 = omega arith in
    rw (c.put_at.ensures ∙ put_fits (replicate 37 0) h 0 (omega arith)) (ap (λ (k : ℕ). take k (put (replicate 37 0) 0 h)) (sym m) ∙ front_put (replicate 37 0) h 0 (omega arith)) ∙ c.bytes-head.ensures

-- a field's three bytes at their place
written : (c : After-put_at-in-loop-i)
    → c.put_at-in-loop-i.new.b ≡ put c.loop-i.c (13 + 3 * c.loop-i.i)
    (three_bytes (bits24 (get_or c.args.fields c.loop-i.i (pos 0))))
written c =
    let z : length c.field_bytes-three.result ≡ 3 = search rules in
    let s : SFits w64 (get_or c.args.fields c.loop-i.i (pos 0)) = search rules in
    c.put_at-in-loop-i.ensures ∙ put_fits c.loop-i.c c.field_bytes-three.result (13 + 3 * c.loop-i.i) (omega (arith, z)) ∙ ap (put _ _) (rw (to_z-of_z s) at c.field_bytes-three.ensures)

pub loop-i-init : goal.loop-i-init
unfolding fields_bytes
loop-i-init c = (search rules, sym (append-nil _))

pub loop-i-preserved : goal.loop-i-preserved
loop-i-preserved c =
    let f = c.args.fields in
    (search rules, fields_turn (take 13 c.put_at.new.b) c.loop-i.c c.put_at-in-loop-i.new.b f c.loop-i.i (search rules) (omega arith) c.loop-i.invariant.1 (written (goal.at.loop-i-preserved c).After-put_at-in-loop-i))

pub returns : goal.returns
returns c =
    let e : c.loop-i.i ≡ 8 = omega arith in
    let a = c.args in
    fields_done a.serial c.loop-i.c a.fields (search rules) c.loop-i.invariant.0
    ((rw e at c.loop-i.invariant.1) ∙ ap (λ (r : List ℕ). r ++ fields_bytes (take 8 a.fields)) (front (goal.at.returns c).After-put_at))
