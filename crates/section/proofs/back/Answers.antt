-- `section::back` meets its contract.
use mathlib.Core.Path.{ap, ◌∙◌}
use Prim.Native.Nat.{ℕ, ◌-◌}
use lib.ListN.{length, drop}
use mir.Syntax.{w64}
use Rattle.std.specs.Int.{from_le_bytes}
use Rattle.section.specs.Inside.{back}
use Rattle.section.proofs.back.Goals as goal

pub returns : goal.returns
unfolding back
returns c =
    let chunk = rw c.unwrap.ensures at c.last_chunk.ensures.cases in
    c.from_le_bytes.ensures ∙ ap (from_le_bytes w64) (chunk.1.same ∙ ap (λ (n : ℕ). drop (n - 8) c.args.serial.now) c.told-serial)
