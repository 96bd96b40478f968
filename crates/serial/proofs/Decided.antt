-- Each public contract decides its outcome: of two results and two contents of each lent buffer that it allows, each is the other.
use mathlib.Core.Path.{refl, sym, ◌∙◌}
use Rattle.promise.specs.Determined.{Decided}
use Rattle.serial.proofs.all_digits.Kinds as all-digits-k
use Rattle.serial.proofs.all_digits.Reads as all_digits
use Rattle.serial.proofs.is_serial.Kinds as is-serial-k
use Rattle.serial.proofs.is_serial.Reads as is_serial_lem
use Rattle.serial.proofs.byte_at.Kinds as byte-at-k
use Rattle.serial.proofs.byte_at.Reads as byte_at
use Rattle.serial.proofs.same_text.Kinds as same-text-k
use Rattle.serial.proofs.same_text.Reads as same_text
use Rattle.serial.proofs.put_at.Kinds as put-at-k
use Rattle.serial.proofs.put_at.Reads as put-at
use Rattle.serial.proofs.Serial.none.Kinds as none-k
use Rattle.serial.proofs.Serial.none.Reads as none
use Rattle.serial.proofs.Serial.of.Kinds as serial-of-k
use Rattle.serial.proofs.Serial.of.Reads as serial-of
use Rattle.serial.proofs.Serial.bytes.Kinds as bytes-k
use Rattle.serial.proofs.Serial.bytes.Reads as bytes
use Rattle.serial.proofs.holds_serial.Kinds as holds-serial-k
use Rattle.serial.proofs.holds_serial.Reads as holds-serial

pub all_digits_decided : Decided 1 all-digits-k.ps all-digits-k.r all_digits.Pre all_digits.Post
all_digits_decided = record { always = λ κs a. tt; determined = λ κs a p z z' ws ws' q q'. (q ∙ sym q', refl) }

pub is_serial_decided : Decided 1 is-serial-k.ps is-serial-k.r is_serial_lem.Pre is_serial_lem.Post
is_serial_decided = record { always = λ κs a. tt; determined = λ κs a p z z' ws ws' q q'. (q ∙ sym q', refl) }

pub byte_at_decided : Decided 1 byte-at-k.ps byte-at-k.r byte_at.Pre byte_at.Post
byte_at_decided = record { always = λ κs a. tt; determined = λ κs a p z z' ws ws' q q'. (q ∙ sym q', refl) }

pub same_text_decided : Decided 2 same-text-k.ps same-text-k.r same_text.Pre same_text.Post
same_text_decided = record { always = λ κs a. tt; determined = λ κs a p z z' ws ws' q q'. (q ∙ sym q', refl) }

-- the lent buffer: what is left in it is `ws.0`
pub put_at_decided : Decided 2 put-at-k.ps put-at-k.r put-at.Pre put-at.Post
put_at_decided = record { always = λ κs a. tt; determined = λ κs a p z z' ws ws' q q'. (refl, λ i. ((q ∙ sym q') i, (tt, (tt, tt)))) }

pub none_decided : Decided 0 none-k.ps none-k.r none.Pre none.Post
none_decided = record { always = λ κs a. tt; determined = λ κs a p z z' ws ws' q q'. (q ∙ sym q', refl) }

pub serial_of_decided : Decided 1 serial-of-k.ps serial-of-k.r serial-of.Pre serial-of.Post
serial_of_decided = record { always = λ κs a. tt; determined = λ κs a p z z' ws ws' q q'. (q ∙ sym q', refl) }

pub bytes_decided : Decided 0 bytes-k.ps bytes-k.r bytes.Pre bytes.Post
bytes_decided = record { always = λ κs a. tt; determined = λ κs a p z z' ws ws' q q'. (q ∙ sym q', refl) }

pub holds_serial_decided : Decided 1 holds-serial-k.ps holds-serial-k.r holds-serial.Pre holds-serial.Post
holds_serial_decided = record { always = λ κs a. tt; determined = λ κs a p z z' ws ws' q q'. (q ∙ sym q', refl) }
