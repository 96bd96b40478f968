-- Each public contract decides its outcome: of two results that it allows, each is the other.
use mathlib.Core.Path.{refl, sym, ◌∙◌}
use Rattle.promise.specs.Determined.{Decided}
use Rattle.typed.proofs.value_of.Kinds as value-of-k
use Rattle.typed.proofs.value_of.Reads as value_of_lem

pub value_of_decided : Decided 1 value-of-k.ps value-of-k.r value_of_lem.Pre value_of_lem.Post
value_of_decided = record { always = λ κs a. tt; determined = λ κs a p z z' ws ws' q q'. (q ∙ sym q', refl) }
