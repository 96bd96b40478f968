-- Each public contract decides its outcome: of two results that it allows, each is the other.
use mathlib.Core.Path.{refl, sym, ◌∙◌}
use Rattle.promise.specs.Determined.{Decided}
use Rattle.number.proofs.size.Kinds as size-k
use Rattle.number.proofs.size.Reads as size
use Rattle.number.proofs.lessen.Kinds as lessen-k
use Rattle.number.proofs.lessen.Reads as lessen
use Rattle.number.proofs.toward_zero.Kinds as toward-zero-k
use Rattle.number.proofs.toward_zero.Reads as toward_zero
use Rattle.number.proofs.floor_div.Kinds as floor-div-k
use Rattle.number.proofs.floor_div.Reads as floor-div
use Rattle.number.proofs.square.Kinds as square-k
use Rattle.number.proofs.square.Reads as square
use Rattle.number.proofs.product.Kinds as product-k
use Rattle.number.proofs.product.Reads as product

pub size_decided : Decided 0 size-k.ps size-k.r size.Pre size.Post
size_decided = record { always = λ κs a. tt; determined = λ κs a p z z' ws ws' q q'. (q ∙ sym q', refl) }

pub lessen_decided : Decided 0 lessen-k.ps lessen-k.r lessen.Pre lessen.Post
lessen_decided = record { always = λ κs a. tt; determined = λ κs a p z z' ws ws' q q'. (q ∙ sym q', refl) }

pub toward_zero_decided : Decided 0 toward-zero-k.ps toward-zero-k.r toward_zero.Pre toward_zero.Post
toward_zero_decided = record { always = λ κs a. tt; determined = λ κs a p z z' ws ws' q q'. (q ∙ sym q', refl) }

pub floor_div_decided : Decided 0 floor-div-k.ps floor-div-k.r floor-div.Pre floor-div.Post
floor_div_decided = record { always = λ κs a. tt; determined = λ κs a p z z' ws ws' q q'. (q ∙ sym q', refl) }

pub square_decided : Decided 0 square-k.ps square-k.r square.Pre square.Post
square_decided = record { always = λ κs a. tt; determined = λ κs a p z z' ws ws' q q'. (q ∙ sym q', refl) }

pub product_decided : Decided 0 product-k.ps product-k.r product.Pre product.Post
product_decided = record { always = λ κs a. tt; determined = λ κs a p z z' ws ws' q q'. (q ∙ sym q', refl) }
