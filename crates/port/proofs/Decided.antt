-- Each public contract decides its outcome: of two results that it allows, each is the other.
use mathlib.Core.Path.{refl, sym, ◌∙◌}
use Rattle.promise.specs.Determined.{Decided}
use Rattle.steps.proofs.Answers.{same_answer}
use Rattle.port.proofs.Held.nothing.Kinds as nothing-k
use Rattle.port.proofs.Held.nothing.Reads as nothing
use Rattle.port.proofs.Held.copy.Kinds as copy-k
use Rattle.port.proofs.Held.copy.Reads as copy
use Rattle.port.proofs.Held.look.Kinds as look-k
use Rattle.port.proofs.Held.look.Reads as look

pub nothing_decided : Decided 0 nothing-k.ps nothing-k.r nothing.Pre nothing.Post
nothing_decided = record { always = λ κs a. tt; determined = λ κs a p z z' ws ws' q q'. (q ∙ sym q', refl) }

pub copy_decided : Decided 0 copy-k.ps copy-k.r copy.Pre copy.Post
copy_decided = record { always = λ κs a. tt; determined = λ κs a p z z' ws ws' q q'. (same_answer _ _ (q ∙ sym q'), refl) }

pub look_decided : Decided 0 look-k.ps look-k.r look.Pre look.Post
look_decided = record { always = λ κs a. tt; determined = λ κs a p z z' ws ws' q q'. (same_answer _ _ (q ∙ sym q'), refl) }
