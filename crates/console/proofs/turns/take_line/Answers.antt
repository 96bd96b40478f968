-- `take_line` is the step that a line makes.
use Prim.Native.Nat.{ℕ, ◌≤◌, ◌-◌}
use mathlib.Core.Path.{◌≡◌, sym, ap, ◌∙◌}
use lib.ListN.{length, take, drop}
use lib.Seq.{length-take-le}
use Rattle.console.specs.declared.words.Word.TheVariants.{Open, Poll, Block, Other}
use Rattle.console.specs.Texts.{length_to}
use Rattle.console.specs.Words.{word_of}
use Rattle.console.specs.Turns.{with_items, with_text, with_packet, with_samples}
use Rattle.console.proofs.TextLaws.{rest_of, to_within}
use Rattle.console.proofs.TurnLaws.{with_items_by_words, long_line, line_with}
use Rattle.console.proofs.turns.take_line.Goals as goal
use Rattle.console.proofs.turns.take_line.Goals.{After-first_word-w, After-length_to-n}

short : (c : After-length_to-n) → c.length_to-n.result ≤ length c.args.line.now
short c = rw c.length_to-n.ensures (to_within 32 c.args.line.now)

word : (c : After-first_word-w) → word_of (take (length_to 32 c.args.line.now) c.args.line.now) ≡ c.first_word-w.result
word c = ap (λ (n : ℕ). word_of (take n c.args.line.now)) (sym c.length_to-n.ensures) ∙ sym c.first_word-w.ensures

behind : (c : After-length_to-n) →
    take (length c.args.line.now - c.length_to-n.result) (drop c.length_to-n.result c.args.line.now) ≡ drop (length_to 32 c.args.line.now) c.args.line.now
behind c = rest_of c.length_to-n.result c.args.line.now ∙ ap (λ (n : ℕ). drop n c.args.line.now) c.length_to-n.ensures

pub returns-then-line-gt-LONGEST : goal.returns-then-line-gt-LONGEST
returns-then-line-gt-LONGEST c = long_line _ _ _ _ _ c.if-line-gt-LONGEST.true

pub slice_bounds-first_word-end : goal.slice_bounds-first_word-end
slice_bounds-first_word-end c = sym (length-take-le _ _ (short (goal.at.slice_bounds-first_word-end c).After-length_to-n))

pub slice_bounds-rest-count : goal.slice_bounds-rest-count
slice_bounds-rest-count c = short (goal.at.slice_bounds-rest-count c).After-length_to-n

pub slice_bounds-rest-start : goal.slice_bounds-rest-start
slice_bounds-rest-start c = short (goal.at.slice_bounds-rest-start c).After-length_to-n

pub returns-in-Open : goal.returns-in-Open
returns-in-Open c = c.with_text.ensures ∙ ap (with_text _) (behind (goal.at.returns-in-Open c).After-length_to-n) ∙ line_with _ _ _ _ _ Open (word (goal.at.returns-in-Open c).After-first_word-w ∙ c.in-Open.is) c.if-line-gt-LONGEST.false

pub returns-in-Poll : goal.returns-in-Poll
returns-in-Poll c = c.with_packet.ensures ∙ ap (with_packet _) (behind (goal.at.returns-in-Poll c).After-length_to-n) ∙ line_with _ _ _ _ _ Poll (word (goal.at.returns-in-Poll c).After-first_word-w ∙ c.in-Poll.is) c.if-line-gt-LONGEST.false

pub returns-in-Block : goal.returns-in-Block
returns-in-Block c = c.with_samples.ensures ∙ ap (with_samples _ _ _ _) (behind (goal.at.returns-in-Block c).After-length_to-n) ∙ line_with _ _ _ _ _ Block (word (goal.at.returns-in-Block c).After-first_word-w ∙ c.in-Block.is) c.if-line-gt-LONGEST.false

pub returns-in-Other : goal.returns-in-Other
returns-in-Other c = line_with _ _ _ _ _ Other (word (goal.at.returns-in-Other c).After-first_word-w ∙ c.in-Other.is) c.if-line-gt-LONGEST.false

pub returns-in_default : goal.returns-in_default
returns-in_default c =
    c.with_items.ensures
    ∙ ap (with_items _ c.first_word-w.result) (behind (goal.at.returns-in_default c).After-length_to-n)
    ∙ with_items_by_words _ _ _ _ c.first_word-w.result _ c.in_default.not-Open c.in_default.not-Poll c.in_default.not-Block c.in_default.not-Other
    ∙ line_with _ _ _ _ _ c.first_word-w.result (word (goal.at.returns-in_default c).After-first_word-w) c.if-line-gt-LONGEST.false
