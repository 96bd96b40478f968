-- `typed::sized` meets its contract.
use mathlib.Core.Path.{refl, sym, ◌∙◌}
use mir.Syntax.{w64}
use mir.Facts.{to_z-of_z}
use Rattle.typed.specs.Values.{sized_value}
use Rattle.typed.proofs.sized.Goals as goal

pub returns-then-is_numeral : goal.returns-then-is_numeral
unfolding sized_value
returns-then-is_numeral c =
    rw (to_z-of_z {w = w64} {z = c.signed.result} (record { sfits = c.signed.type_inv }), c.signed.ensures, c.size_of.ensures.0, sym c.is_numeral.ensures ∙ c.if-is_numeral.true) refl

pub returns-else-is_numeral : goal.returns-else-is_numeral
unfolding sized_value
returns-else-is_numeral c = rw (sym c.is_numeral.ensures ∙ c.if-is_numeral.false) refl
