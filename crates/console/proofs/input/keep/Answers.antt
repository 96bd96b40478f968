-- `keep` keeps as many bytes as the line's buffer has room for.
use Prim.Native.Nat.{◌+◌, ◌≤◌}
use mathlib.Core.Path.{◌≡◌, sym, ◌∙◌}
use native.Mathlib.Omega.{arith}
use lib.ListN.{length, take}
use lib.Seq.{length-take-le}
use Rattle.serial.proofs.Places.{put_fits}
use Rattle.console.proofs.SessionLaws.{keeps}
use Rattle.console.proofs.input.keep.Goals as goal
use Rattle.console.proofs.input.keep.Goals.{After-min-n}

-- as many as there are
long : (c : After-min-n) → length (take c.min-n.result c.args.part.now) ≡ c.min-n.result
long c = length-take-le c.min-n.result c.args.part.now (omega (arith, c.min-n.ensures))

pub slice_bounds-put_at-end : goal.slice_bounds-put_at-end
slice_bounds-put_at-end c = sym (long (goal.at.slice_bounds-put_at-end c).After-min-n)

pub returns : goal.returns
returns c =
    let line = c.args.line.now in
    let part = c.args.part.now in
    let k = c.args.kept in
    let n = c.min-n.result in
    let l = long (goal.at.returns c).After-min-n in
    let room : k + length (take n part) ≤ length line = omega (arith, l, c.min-n.ensures, c.requires) in
    record {
      line_after = rw (c.put_at.ensures ∙ put_fits line (take n part) k room) (keeps line part k n c.requires c.min-n.ensures);
      upper_bound = omega (arith, l, room);
    }
