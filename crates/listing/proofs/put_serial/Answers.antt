-- `listing::put_serial` meets its contract.
use Prim.Native.Nat.{◌≤◌}
use mathlib.Core.List.{[], ◌∷◌, ◌++◌}
use native.Mathlib.Omega.{arith}
use lib.ListN.{length, length-append}
use Rattle.serial.specs.Serials.{text_of}
use Rattle.listing.specs.Lines.{serial_text}
use Rattle.listing.proofs.Lines.{made_more, text_short}
use Rattle.listing.proofs.put_serial.Goals as goal
use Rattle.listing.proofs.put_serial.Goals.{After-text_of}

short : (c : After-text_of) → length c.text_of.result.now ≤ 13
short c = rw c.text_of.ensures (text_short c.args.e.now 13 c.requires.0)

pub put_text-end-requires : goal.put_text-end-requires
put_text-end-requires c = omega (arith, c.put_text-at.ensures.0.place, short c, c.requires.1)

pub put_text-requires : goal.put_text-requires
put_text-requires c =
    omega (arith, c.put_text-end.ensures.0.place, c.put_text-at.ensures.0.place, short (goal.at.put_text-requires c).After-text_of, c.requires.1)

pub returns : goal.returns
unfolding serial_text
returns c =
    let l = c.args.out.now in
    let e = c.put_text-at.ensures in
    let f = rw c.text_of.ensures at c.put_text-end.ensures in
    let g = c.put_text.ensures in
    let text = text_of c.args.e.now in
    let n = text_short c.args.e.now 13 c.requires.0 in (
      made_more l c.put_text-end.new.out c.put_text.new.out c.args.from c.put_text-end.result c.put_text.result ((87 ∷ 32 ∷ []) ++ text) (10 ∷ [])
          (made_more l c.put_text-at.new.out c.put_text-end.new.out c.args.from c.put_text-at.result c.put_text-end.result (87 ∷ 32 ∷ []) text e.0 f.0
          (omega (arith, e.1, n, c.requires.1)))
          g.0 (omega (arith, e.1, n, c.requires.1, length-append (87 ∷ 32 ∷ []) text)),
      omega (arith, g.0.place, f.0.place, e.0.place, n),
    )
