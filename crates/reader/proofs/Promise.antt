-- The walk gives exactly the book's cards in order, then its withdrawn serials, then the end.
use mathlib.Core.Path.{ap}
use Rattle.reader.specs.Walk.{Step}
use Rattle.reader.specs.Promise.{Promise}
use Rattle.reader.proofs.Steps.{cards_walked, serials_walked, none_left}

pub promise : Promise
promise b formed = record {
  each_card = λ k h. cards_walked b formed k h;
  each_serial = λ j h. serials_walked b formed j h;
  then_none = λ n h. ap (λ (s : Step). s.found) (none_left b formed n h);
}
