-- Each public contract decides its outcome: of two results that it allows, each is the other.
use mathlib.Core.Path.{refl, sym, ◌∙◌}
use Rattle.promise.specs.Determined.{Decided}
use Rattle.names.proofs.field.Kinds as field-k
use Rattle.names.proofs.field.Reads as field
use Rattle.names.proofs.register.Kinds as register-k
use Rattle.names.proofs.register.Reads as register

pub field_decided : Decided 1 field-k.ps field-k.r field.Pre field.Post
field_decided = record { always = λ κs a. tt; determined = λ κs a p z z' ws ws' q q'. (q ∙ sym q', refl) }

pub register_decided : Decided 1 register-k.ps register-k.r register.Pre register.Post
register_decided = record { always = λ κs a. tt; determined = λ κs a p z z' ws ws' q q'. (q ∙ sym q', refl) }
