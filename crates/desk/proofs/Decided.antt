-- Each public contract decides its outcome: of two results that it allows, each is the other.
use mathlib.Core.Path.{refl, sym, ◌∙◌}
use Rattle.promise.specs.Determined.{Decided}
use Rattle.steps.proofs.Answers.{same_answer}
use Rattle.desk.proofs.Desk.shut.Kinds as shut-k
use Rattle.desk.proofs.Desk.shut.Reads as shut
use Rattle.desk.proofs.Desk.open_with.Kinds as open-with-k
use Rattle.desk.proofs.Desk.open_with.Reads as open-with
use Rattle.desk.proofs.Desk.write_field.Kinds as write-field-k
use Rattle.desk.proofs.Desk.write_field.Reads as write-field
use Rattle.desk.proofs.Desk.drop_card.Kinds as drop-card-k
use Rattle.desk.proofs.Desk.drop_card.Reads as drop-card
use Rattle.desk.proofs.Desk.finish.Kinds as finish-k
use Rattle.desk.proofs.Desk.finish.Reads as finish

pub shut_decided : Decided 0 shut-k.ps shut-k.r shut.Pre shut.Post
shut_decided = record { always = λ κs a. tt; determined = λ κs a p z z' ws ws' q q'. (q ∙ sym q', refl) }

pub open_with_decided : Decided 1 open-with-k.ps open-with-k.r open-with.Pre open-with.Post
open_with_decided = record { always = λ κs a. tt; determined = λ κs a p z z' ws ws' q q'. (same_answer _ _ (q ∙ sym q'), refl) }

pub write_field_decided : Decided 0 write-field-k.ps write-field-k.r write-field.Pre write-field.Post
write_field_decided = record { always = λ κs a. tt; determined = λ κs a p z z' ws ws' q q'. (same_answer _ _ (q ∙ sym q'), refl) }

pub drop_card_decided : Decided 0 drop-card-k.ps drop-card-k.r drop-card.Pre drop-card.Post
drop_card_decided = record { always = λ κs a. tt; determined = λ κs a p z z' ws ws' q q'. (same_answer _ _ (q ∙ sym q'), refl) }

pub finish_decided : Decided 0 finish-k.ps finish-k.r finish.Pre finish.Post
finish_decided = record { always = λ κs a. tt; determined = λ κs a p z z' ws ws' q q'. (same_answer _ _ (q ∙ sym q'), refl) }
