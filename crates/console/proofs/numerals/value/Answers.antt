-- `value` tells what a text is worth as a number.
use mathlib.Core.Path.{◌≡◌, sym, ◌∙◌}
use mathlib.Core.List.{[], ◌∷◌}
use mathlib.Core.Bool.{true, false}
use Rattle.console.specs.Texts.{begins_with}
use Rattle.console.specs.Numbers.{value_of}
use Rattle.console.proofs.TextLaws.{begins_is}
use Rattle.console.proofs.numerals.value.Goals as goal

pub returns-in-Some : goal.returns-in-Some
unfolding value_of
returns-in-Some c =
    let e = c.in-Some.ensures.cases in
    let hex : begins_with (48 ∷ 120 ∷ []) c.args.text.now ≡ true = sym (begins_is _ _) ∙ e.0 in
    simp (hex, c.plus.ensures, c.digits.ensures, e.1)

pub returns-in-Some-strip_prefix : goal.returns-in-Some-strip_prefix
unfolding value_of
returns-in-Some-strip_prefix c =
    let e = c.in-Some-strip_prefix.ensures.cases in
    let hex : begins_with (48 ∷ 120 ∷ []) c.args.text.now ≡ false = sym (begins_is _ _) ∙ c.in_default.ensures.cases in
    let below : begins_with (45 ∷ []) c.args.text.now ≡ true = sym (begins_is _ _) ∙ e.0 in
    simp (hex, below, c.minus.ensures, c.digits-in-Some-strip_prefix.ensures, e.1)

pub returns : goal.returns
unfolding value_of
returns c =
    let hex : begins_with (48 ∷ 120 ∷ []) c.args.text.now ≡ false = sym (begins_is _ _) ∙ c.in_default.ensures.cases in
    let below : begins_with (45 ∷ []) c.args.text.now ≡ false = sym (begins_is _ _) ∙ c.in_default-strip_prefix.ensures.cases in
    simp (hex, below, c.plus-2.ensures, c.digits-2.ensures)
