-- The public contract decides its outcome: of two results that it allows, each is the other, and so of what the lent array holds.
use mathlib.Core.Path.{sym, ◌∙◌}
use Rattle.promise.specs.Determined.{Decided}
use Rattle.halfcycle.proofs.pass.Kinds as pass-k
use Rattle.halfcycle.proofs.pass.Reads as pass

-- the lent array: what is left in it is `ws.1.0`
pub pass_decided : Decided 2 pass-k.ps pass-k.r pass.Pre pass.Post
pass_decided = record { always = λ κs a. tt; determined = λ κs a p z z' ws ws' q q'. (q.0 ∙ sym q'.0, λ i. (tt, ((q.1 ∙ sym q'.1) i, (tt, (tt, (tt, (tt, tt))))))) }
