-- Each public contract decides its outcome: of two results, and for `next` of two readers that it leaves, each is the other.
use mathlib.Core.Path.{sym, ◌∙◌}
use Rattle.promise.specs.Determined.{Decided}
use Rattle.reader.proofs.Reader.new.Kinds as new-k
use Rattle.reader.proofs.Reader.new.Reads as new
use Rattle.reader.proofs.ReaderIterator.next.Kinds as next-k
use Rattle.reader.proofs.ReaderIterator.next.Reads as next

pub new_decided : Decided 1 new-k.ps new-k.r new.Pre new.Post
new_decided = record {
  always = λ κs a. tt;
  determined = λ κs a p z z' ws ws' q q'. ((λ i. record { book = (q.0 ∙ sym q'.0) i; place = (q.1 ∙ sym q'.1) i }), λ i. (tt, tt));
}

-- the reader that it leaves is the last value of its parameter
pub next_decided : Decided 2 next-k.ps next-k.r next.Pre next.Post
next_decided = record {
  always = λ κs a. tt;
  determined = λ κs a p z z' ws ws' q q'. (q.0.1 ∙ sym q'.0.1, λ i. (record { book = (q.0.0 ∙ sym q'.0.0) i; place = (q.0.2 ∙ sym q'.0.2) i }, tt));
}
