-- The public contract decides its outcome: of two results and two contents of the lent buffer that it allows, each is the other.
use mathlib.Core.Path.{sym, ◌∙◌}
use Rattle.promise.specs.Determined.{Decided}
use Rattle.listing.proofs.whole.Kinds as whole-k
use Rattle.listing.proofs.whole.Reads as whole

-- the lent buffer: what is left in it is the last value of its parameter
pub whole_decided : Decided 2 whole-k.ps whole-k.r whole.Pre whole.Post
whole_decided = record { always = λ κs a. tt; determined = λ κs a p z z' ws ws' q q'. (q.0.0 ∙ sym q'.0.0, λ i. (tt, ((q.0.1 ∙ sym q'.0.1) i, tt))) }
