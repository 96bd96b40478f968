-- Each public contract decides its outcome: of two results that it allows, each is the other.
use mathlib.Core.Path.{refl, sym, ◌∙◌}
use Rattle.promise.specs.Determined.{Decided}
use Rattle.card.proofs.field_in_range.Kinds as field-in-range-k
use Rattle.card.proofs.field_in_range.Reads as field-in-range
use Rattle.card.proofs.values_fit.Kinds as values-fit-k
use Rattle.card.proofs.values_fit.Reads as values-fit
use Rattle.card.proofs.Card.of.Kinds as card-of-k
use Rattle.card.proofs.Card.of.Reads as card-of
use Rattle.card.proofs.is_card.Kinds as is-card-k
use Rattle.card.proofs.is_card.Reads as is-card

pub field_in_range_decided : Decided 0 field-in-range-k.ps field-in-range-k.r field-in-range.Pre field-in-range.Post
field_in_range_decided = record { always = λ κs a. tt; determined = λ κs a p z z' ws ws' q q'. (q ∙ sym q', refl) }

pub values_fit_decided : Decided 0 values-fit-k.ps values-fit-k.r values-fit.Pre values-fit.Post
values_fit_decided = record { always = λ κs a. tt; determined = λ κs a p z z' ws ws' q q'. (q ∙ sym q', refl) }

pub card_of_decided : Decided 1 card-of-k.ps card-of-k.r card-of.Pre card-of.Post
card_of_decided = record { always = λ κs a. tt; determined = λ κs a p z z' ws ws' q q'. (q ∙ sym q', refl) }

pub is_card_decided : Decided 1 is-card-k.ps is-card-k.r is-card.Pre is-card.Post
is_card_decided = record { always = λ κs a. tt; determined = λ κs a p z z' ws ws' q q'. (q ∙ sym q', refl) }
