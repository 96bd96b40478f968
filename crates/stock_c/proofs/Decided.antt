-- Each public contract decides its outcome: of two results and two contents of each lent buffer that it allows, each is the other.
use mathlib.Core.Path.{refl, sym, ◌∙◌}
use Rattle.promise.specs.Determined.{Decided}
use Rattle.stock_c.proofs.stock_lookup.Kinds as stock-lookup-k
use Rattle.stock_c.proofs.stock_lookup.Reads as stock-lookup
use Rattle.stock_c.proofs.stock_add.Kinds as stock-add-k
use Rattle.stock_c.proofs.stock_add.Reads as stock-add
use Rattle.stock_c.proofs.stock_withdraw.Kinds as stock-withdraw-k
use Rattle.stock_c.proofs.stock_withdraw.Reads as stock-withdraw
use Rattle.stock_c.proofs.stock_check.Kinds as stock-check-k
use Rattle.stock_c.proofs.stock_check.Reads as stock-check
use Rattle.stock_c.proofs.stock_card.Kinds as stock-card-k
use Rattle.stock_c.proofs.stock_card.Reads as stock-card
use Rattle.stock_c.proofs.stock_withdrawn.Kinds as stock-withdrawn-k
use Rattle.stock_c.proofs.stock_withdrawn.Reads as stock-withdrawn
use Rattle.stock_c.proofs.stock_words.Kinds as stock-words-k
use Rattle.stock_c.proofs.stock_words.Reads as stock-words
use Rattle.stock_c.proofs.stock_serial.Kinds as stock-serial-k
use Rattle.stock_c.proofs.stock_serial.Reads as stock-serial
use Rattle.stock_c.proofs.stock_fields.Kinds as stock-fields-k
use Rattle.stock_c.proofs.stock_fields.Reads as stock-fields

pub stock_lookup_decided : Decided 2 stock-lookup-k.ps stock-lookup-k.r stock-lookup.Pre stock-lookup.Post
stock_lookup_decided = record { always = λ κs a. tt; determined = λ κs a p z z' ws ws' q q'. (q ∙ sym q', refl) }

-- the lent buffer: what is left in it is `ws.0`
pub stock_add_decided : Decided 2 stock-add-k.ps stock-add-k.r stock-add.Pre stock-add.Post
stock_add_decided = record { always = λ κs a. tt; determined = λ κs a p z z' ws ws' q q'. (q.0 ∙ sym q'.0, λ i. ((q.1 ∙ sym q'.1) i, ws.1)) }

pub stock_withdraw_decided : Decided 2 stock-withdraw-k.ps stock-withdraw-k.r stock-withdraw.Pre stock-withdraw.Post
stock_withdraw_decided = record { always = λ κs a. tt; determined = λ κs a p z z' ws ws' q q'. (q.0 ∙ sym q'.0, λ i. ((q.1 ∙ sym q'.1) i, ws.1)) }

pub stock_check_decided : Decided 1 stock-check-k.ps stock-check-k.r stock-check.Pre stock-check.Post
stock_check_decided = record { always = λ κs a. tt; determined = λ κs a p z z' ws ws' q q'. (q ∙ sym q', refl) }

pub stock_card_decided : Decided 1 stock-card-k.ps stock-card-k.r stock-card.Pre stock-card.Post
stock_card_decided = record { always = λ κs a. tt; determined = λ κs a p z z' ws ws' q q'. (q ∙ sym q', refl) }

pub stock_withdrawn_decided : Decided 1 stock-withdrawn-k.ps stock-withdrawn-k.r stock-withdrawn.Pre stock-withdrawn.Post
stock_withdrawn_decided = record { always = λ κs a. tt; determined = λ κs a p z z' ws ws' q q'. (q ∙ sym q', refl) }

-- the lent buffer stands second
pub stock_words_decided : Decided 1 stock-words-k.ps stock-words-k.r stock-words.Pre stock-words.Post
stock_words_decided = record { always = λ κs a. tt; determined = λ κs a p z z' ws ws' q q'. (q.0 ∙ sym q'.0, λ i. (tt, ((q.1 ∙ sym q'.1) i, tt))) }

pub stock_serial_decided : Decided 2 stock-serial-k.ps stock-serial-k.r stock-serial.Pre stock-serial.Post
stock_serial_decided = record { always = λ κs a. tt; determined = λ κs a p z z' ws ws' q q'. (q.0 ∙ sym q'.0, λ i. (tt, ((q.1 ∙ sym q'.1) i, tt))) }

pub stock_fields_decided : Decided 2 stock-fields-k.ps stock-fields-k.r stock-fields.Pre stock-fields.Post
stock_fields_decided = record { always = λ κs a. tt; determined = λ κs a p z z' ws ws' q q'. (q.0 ∙ sym q'.0, λ i. (tt, ((q.1 ∙ sym q'.1) i, tt))) }
