-- Each public contract decides its outcome: of two results that it allows, each is the other.
use mathlib.Core.Path.{refl, sym, ◌∙◌}
use Rattle.promise.specs.Determined.{Decided}
use Rattle.packet.proofs.sum_of.Kinds as sum-of-k
use Rattle.packet.proofs.sum_of.Reads as sum_of
use Rattle.packet.proofs.judge.Kinds as judge-k
use Rattle.packet.proofs.judge.Reads as judge
use Rattle.packet.proofs.parameters.Kinds as parameters-k
use Rattle.packet.proofs.parameters.Reads as parameters
use Rattle.packet.proofs.obey.Kinds as obey-k
use Rattle.packet.proofs.obey.Reads as obey

pub sum_of_decided : Decided 1 sum-of-k.ps sum-of-k.r sum_of.Pre sum_of.Post
sum_of_decided = record { always = λ κs a. tt; determined = λ κs a p z z' ws ws' q q'. (q ∙ sym q', refl) }

pub judge_decided : Decided 1 judge-k.ps judge-k.r judge.Pre judge.Post
judge_decided = record { always = λ κs a. tt; determined = λ κs a p z z' ws ws' q q'. (q ∙ sym q', refl) }

pub parameters_decided : Decided 0 parameters-k.ps parameters-k.r parameters.Pre parameters.Post
parameters_decided = record { always = λ κs a. tt; determined = λ κs a p z z' ws ws' q q'. (q ∙ sym q', refl) }

pub obey_decided : Decided 1 obey-k.ps obey-k.r obey.Pre obey.Post
obey_decided = record { always = λ κs a. tt; determined = λ κs a p z z' ws ws' q q'. (q ∙ sym q', refl) }
