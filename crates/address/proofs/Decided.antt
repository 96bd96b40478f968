-- Each public contract decides its outcome: of two results that it allows, each is the other.
use mathlib.Core.Path.{refl, sym, ◌∙◌}
use Rattle.promise.specs.Determined.{Decided}
use Rattle.address.proofs.byte_of.Kinds as byte-of-k
use Rattle.address.proofs.byte_of.Reads as byte_of
use Rattle.address.proofs.place_of.Kinds as place-of-k
use Rattle.address.proofs.place_of.Reads as place_of
use Rattle.address.proofs.register_of.Kinds as register-of-k
use Rattle.address.proofs.register_of.Reads as register_of
use Rattle.address.proofs.word_addr.Kinds as word-addr-k
use Rattle.address.proofs.word_addr.Reads as word-addr
use Rattle.address.proofs.byte_addr.Kinds as byte-addr-k
use Rattle.address.proofs.byte_addr.Reads as byte-addr
use Rattle.address.proofs.all_slots.Kinds as all-slots-k
use Rattle.address.proofs.all_slots.Reads as all_slots

pub byte_of_decided : Decided 0 byte-of-k.ps byte-of-k.r byte_of.Pre byte_of.Post
byte_of_decided = record { always = λ κs a. tt; determined = λ κs a p z z' ws ws' q q'. (q ∙ sym q', refl) }

pub place_of_decided : Decided 0 place-of-k.ps place-of-k.r place_of.Pre place_of.Post
place_of_decided = record { always = λ κs a. tt; determined = λ κs a p z z' ws ws' q q'. (q ∙ sym q', refl) }

pub register_of_decided : Decided 0 register-of-k.ps register-of-k.r register_of.Pre register_of.Post
register_of_decided = record { always = λ κs a. tt; determined = λ κs a p z z' ws ws' q q'. (q ∙ sym q', refl) }

pub word_addr_decided : Decided 0 word-addr-k.ps word-addr-k.r word-addr.Pre word-addr.Post
word_addr_decided = record { always = λ κs a. tt; determined = λ κs a p z z' ws ws' q q'. (q ∙ sym q', refl) }

pub byte_addr_decided : Decided 0 byte-addr-k.ps byte-addr-k.r byte-addr.Pre byte-addr.Post
byte_addr_decided = record { always = λ κs a. tt; determined = λ κs a p z z' ws ws' q q'. (q ∙ sym q', refl) }

pub all_slots_decided : Decided 0 all-slots-k.ps all-slots-k.r all_slots.Pre all_slots.Post
all_slots_decided = record { always = λ κs a. tt; determined = λ κs a p z z' ws ws' q q'. (q ∙ sym q', refl) }
