-- Each public contract decides its outcome: of two results that it allows, each is the other.
use mathlib.Core.Path.{refl, sym, ◌∙◌}
use Rattle.promise.specs.Determined.{Decided}
use Rattle.tracking.proofs.Ends.follow.Kinds as follow-k
use Rattle.tracking.proofs.Ends.follow.Reads as follow

pub follow_decided : Decided 0 follow-k.ps follow-k.r follow.Pre follow.Post
follow_decided = record { always = λ κs a. tt; determined = λ κs a p z z' ws ws' q q'. (q ∙ sym q', refl) }
