-- Each public contract decides its outcome: of two results that it allows, each is the other.
use mathlib.Core.Path.{refl, sym, ◌∙◌}
use Rattle.promise.specs.Determined.{Decided}
use Rattle.sample.proofs.correct.Kinds as correct-k
use Rattle.sample.proofs.correct.Reads as correct
use Rattle.sample.proofs.scale.Kinds as scale-k
use Rattle.sample.proofs.scale.Reads as scale
use Rattle.sample.proofs.all_in_range.Kinds as all-in-range-k
use Rattle.sample.proofs.all_in_range.Reads as all-in-range
use Rattle.sample.proofs.phase_in_range.Kinds as phase-in-range-k
use Rattle.sample.proofs.phase_in_range.Reads as phase-in-range
use Rattle.sample.proofs.Clips.unclipped.Kinds as unclipped-k
use Rattle.sample.proofs.Clips.unclipped.Reads as unclipped
use Rattle.sample.proofs.Sums.of_at_most.Kinds as of-at-most-k
use Rattle.sample.proofs.Sums.of_at_most.Reads as of-at-most
use Rattle.sample.proofs.Sums.none.Kinds as none-k
use Rattle.sample.proofs.Sums.none.Reads as none
use Rattle.sample.proofs.Sums.emptied.Kinds as emptied-k
use Rattle.sample.proofs.Sums.emptied.Reads as emptied

pub correct_decided : Decided 0 correct-k.ps correct-k.r correct.Pre correct.Post
correct_decided = record { always = λ κs a. tt; determined = λ κs a p z z' ws ws' q q'. (q ∙ sym q', refl) }

pub scale_decided : Decided 0 scale-k.ps scale-k.r scale.Pre scale.Post
scale_decided = record { always = λ κs a. tt; determined = λ κs a p z z' ws ws' q q'. (q ∙ sym q', refl) }

pub all_in_range_decided : Decided 1 all-in-range-k.ps all-in-range-k.r all-in-range.Pre all-in-range.Post
all_in_range_decided = record { always = λ κs a. tt; determined = λ κs a p z z' ws ws' q q'. (q ∙ sym q', refl) }

pub unclipped_decided : Decided 0 unclipped-k.ps unclipped-k.r unclipped.Pre unclipped.Post
unclipped_decided = record { always = λ κs a. tt; determined = λ κs a p z z' ws ws' q q'. (q ∙ sym q', refl) }

pub none_decided : Decided 0 none-k.ps none-k.r none.Pre none.Post
none_decided = record { always = λ κs a. tt; determined = λ κs a p z z' ws ws' q q'. (q ∙ sym q', refl) }

pub emptied_decided : Decided 0 emptied-k.ps emptied-k.r emptied.Pre emptied.Post
emptied_decided = record { always = λ κs a. tt; determined = λ κs a p z z' ws ws' q q'. (q ∙ sym q', refl) }

pub phase_in_range_decided : Decided 0 phase-in-range-k.ps phase-in-range-k.r phase-in-range.Pre phase-in-range.Post
phase_in_range_decided = record { always = λ κs a. tt; determined = λ κs a p z z' ws ws' q q'. (q ∙ sym q', refl) }

pub of_at_most_decided : Decided 0 of-at-most-k.ps of-at-most-k.r of-at-most.Pre of-at-most.Post
of_at_most_decided = record { always = λ κs a. tt; determined = λ κs a p z z' ws ws' q q'. (q ∙ sym q', refl) }
