-- `section::front` meets its contract.
use mathlib.Core.Path.{ap, ◌∙◌}
use mir.Syntax.{w64}
use Rattle.std.specs.Int.{from_le_bytes}
use Rattle.section.specs.Inside.{front}
use Rattle.section.proofs.front.Goals as goal

pub returns : goal.returns
unfolding front
returns c =
    let chunk = rw c.unwrap.ensures at c.first_chunk.ensures.cases in
    c.from_le_bytes.ensures ∙ ap (from_le_bytes w64) chunk.same
