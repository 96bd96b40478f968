-- Each public contract decides its outcome: of two results that it allows, each is the other.
use mathlib.Core.Path.{refl, sym, ◌∙◌}
use Rattle.promise.specs.Determined.{Decided}
use Rattle.cardbytes.proofs.card_bytes.Kinds as card-bytes-k
use Rattle.cardbytes.proofs.card_bytes.Reads as card-bytes
use Rattle.cardbytes.proofs.field_bytes.Kinds as field-bytes-k
use Rattle.cardbytes.proofs.field_bytes.Reads as field-bytes

pub card_bytes_decided : Decided 0 card-bytes-k.ps card-bytes-k.r card-bytes.Pre card-bytes.Post
card_bytes_decided = record { always = λ κs a. tt; determined = λ κs a p z z' ws ws' q q'. (q ∙ sym q', refl) }

pub field_bytes_decided : Decided 0 field-bytes-k.ps field-bytes-k.r field-bytes.Pre field-bytes.Post
field_bytes_decided = record { always = λ κs a. tt; determined = λ κs a p z z' ws ws' q q'. (q ∙ sym q', refl) }
