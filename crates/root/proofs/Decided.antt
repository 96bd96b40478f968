-- Each public contract decides its outcome: of two results that it allows, each is the other.
use mathlib.Core.Path.{refl, sym, ◌∙◌}
use Rattle.promise.specs.Determined.{Decided}
use Rattle.root.proofs.root.Kinds as root-k
use Rattle.root.proofs.root.Reads as root

pub root_decided : Decided 0 root-k.ps root-k.r root.Pre root.Post
root_decided = record { always = λ κs a. tt; determined = λ κs a p z z' ws ws' q q'. (q ∙ sym q', refl) }
