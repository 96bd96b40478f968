-- Each public contract decides its outcome: of two results that it allows, each is the other.
use mathlib.Core.Path.{refl, sym, ◌∙◌}
use Rattle.promise.specs.Determined.{Decided}
use Rattle.summing.proofs.with_samples.Kinds as with-samples-k
use Rattle.summing.proofs.with_samples.Reads as with-samples

pub with_samples_decided : Decided 3 with-samples-k.ps with-samples-k.r with-samples.Pre with-samples.Post
with_samples_decided = record { always = λ κs a. tt; determined = λ κs a p z z' ws ws' q q'. (q ∙ sym q', refl) }
