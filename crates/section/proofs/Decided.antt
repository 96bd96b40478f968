-- Each public contract decides its outcome: of two results that it allows, each is the other.
use mathlib.Core.Path.{refl, sym, ◌∙◌}
use Rattle.promise.specs.Determined.{Decided}
use Rattle.section.proofs.Section.is_ok.Kinds as is-ok-k
use Rattle.section.proofs.Section.is_ok.Reads as is-ok
use Rattle.section.proofs.Section.find.Kinds as find-k
use Rattle.section.proofs.Section.find.Reads as find
use Rattle.section.proofs.Section.place.Kinds as place-k
use Rattle.section.proofs.Section.place.Reads as place
use Rattle.section.proofs.Section.has.Kinds as has-k
use Rattle.section.proofs.Section.has.Reads as has

pub is_ok_decided : Decided 1 is-ok-k.ps is-ok-k.r is-ok.Pre is-ok.Post
is_ok_decided = record { always = λ κs a. tt; determined = λ κs a p z z' ws ws' q q'. (q ∙ sym q', refl) }

pub find_decided : Decided 2 find-k.ps find-k.r find.Pre find.Post
find_decided = record { always = λ κs a. tt; determined = λ κs a p z z' ws ws' q q'. (q ∙ sym q', refl) }

pub place_decided : Decided 1 place-k.ps place-k.r place.Pre place.Post
place_decided = record { always = λ κs a. tt; determined = λ κs a p z z' ws ws' q q'. (q ∙ sym q', refl) }

pub has_decided : Decided 2 has-k.ps has-k.r has.Pre has.Post
has_decided = record { always = λ κs a. tt; determined = λ κs a p z z' ws ws' q q'. (q ∙ sym q', refl) }
