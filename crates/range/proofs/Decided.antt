-- Each public contract decides its outcome: of two results that it allows, each is the other.
use mathlib.Core.Path.{refl, sym, ◌∙◌}
use Rattle.promise.specs.Determined.{Decided}
use Rattle.range.proofs.in_range.Kinds as in-range-k
use Rattle.range.proofs.in_range.Reads as in-range
use Rattle.range.proofs.holds.Kinds as holds-k
use Rattle.range.proofs.holds.Reads as holds
use Rattle.range.proofs.held_within.Kinds as held-within-k
use Rattle.range.proofs.held_within.Reads as held-within
use Rattle.range.proofs.clip.Kinds as clip-k
use Rattle.range.proofs.clip.Reads as clip
use Rattle.range.proofs.cap.Kinds as cap-k
use Rattle.range.proofs.cap.Reads as cap

pub in_range_decided : Decided 0 in-range-k.ps in-range-k.r in-range.Pre in-range.Post
in_range_decided = record { always = λ κs a. tt; determined = λ κs a p z z' ws ws' q q'. (q ∙ sym q', refl) }

pub holds_decided : Decided 0 holds-k.ps holds-k.r holds.Pre holds.Post
holds_decided = record { always = λ κs a. tt; determined = λ κs a p z z' ws ws' q q'. (q ∙ sym q', refl) }

pub held_within_decided : Decided 0 held-within-k.ps held-within-k.r held-within.Pre held-within.Post
held_within_decided = record { always = λ κs a. tt; determined = λ κs a p z z' ws ws' q q'. (q ∙ sym q', refl) }

pub clip_decided : Decided 0 clip-k.ps clip-k.r clip.Pre clip.Post
clip_decided = record { always = λ κs a. tt; determined = λ κs a p z z' ws ws' q q'. (q ∙ sym q', refl) }

pub cap_decided : Decided 0 cap-k.ps cap-k.r cap.Pre cap.Post
cap_decided = record { always = λ κs a. tt; determined = λ κs a p z z' ws ws' q q'. (q ∙ sym q', refl) }
