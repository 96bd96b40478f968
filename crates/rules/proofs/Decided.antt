-- Each public contract decides its outcome: of two results that it allows, each is the other.
use mathlib.Core.Path.{refl, sym, ◌∙◌}
use Rattle.promise.specs.Determined.{Decided}
use Rattle.rules.proofs.vrms.Kinds as vrms-k
use Rattle.rules.proofs.vrms.Reads as vrms
use Rattle.rules.proofs.figures.Kinds as figures-k
use Rattle.rules.proofs.figures.Reads as figures

pub vrms_decided : Decided 0 vrms-k.ps vrms-k.r vrms.Pre vrms.Post
vrms_decided = record { always = λ κs a. tt; determined = λ κs a p z z' ws ws' q q'. (q ∙ sym q', refl) }

pub figures_decided : Decided 0 figures-k.ps figures-k.r figures.Pre figures.Post
figures_decided = record { always = λ κs a. tt; determined = λ κs a p z z' ws ws' q q'. (q ∙ sym q', refl) }
