-- Each public contract decides its outcome: of two results that it allows, each is the other.
use Rattle.std.proofs.Common.{sym, refl, ◌∙◌}
use Rattle.promise.specs.Determined.{Decided}
use Rattle.interval.proofs.Closed.none.Kinds as none-k
use Rattle.interval.proofs.Closed.none.Reads as none
use Rattle.interval.proofs.Closed.next.Kinds as next-k
use Rattle.interval.proofs.Closed.next.Reads as next

pub none_decided : Decided 0 none-k.ps none-k.r none.Pre none.Post
none_decided = record { always = λ κs a. tt; determined = λ κs a p z z' ws ws' q q'. (q ∙ sym q', refl) }

pub next_decided : Decided 0 next-k.ps next-k.r next.Pre next.Post
next_decided = record { always = λ κs a. tt; determined = λ κs a p z z' ws ws' q q'. (q ∙ sym q', refl) }
