-- Each public contract decides its outcome: of two results that it allows, each is the other.
use mathlib.Core.Path.{refl, sym, ◌∙◌}
use Rattle.promise.specs.Determined.{Decided}
use Rattle.source.proofs.multipliers_in.Kinds as multipliers-in-k
use Rattle.source.proofs.multipliers_in.Reads as multipliers-in
use Rattle.source.proofs.blend.Kinds as blend-k
use Rattle.source.proofs.blend.Reads as blend

pub multipliers_in_decided : Decided 0 multipliers-in-k.ps multipliers-in-k.r multipliers-in.Pre multipliers-in.Post
multipliers_in_decided = record { always = λ κs a. tt; determined = λ κs a p z z' ws ws' q q'. (q ∙ sym q', refl) }

pub blend_decided : Decided 0 blend-k.ps blend-k.r blend.Pre blend.Post
blend_decided = record { always = λ κs a. tt; determined = λ κs a p z z' ws ws' q q'. (q ∙ sym q', refl) }
