-- How the shorter sequence looks, and that nothing else was touched: laws that tie `shorter` to demand 3's words, pass by pass.
use Rattle.std.specs.Prelude.{ℕ, ◌≡◌, Bool, true, false, cond, List, [], ◌∷◌, ◌++◌}
use Rattle.std.proofs.Math.Option.{Option, none, some}
use Rattle.steps.specs.Answers.{refused, accepted}
use Rattle.steps.specs.Port.{Port, if_same}
use Rattle.steps.specs.Parts.{Parts}
use Rattle.steps.specs.Module.{edit, commit, drop_card, hold, read, Step, at_port, block, reset, State, Report, step}
use Rattle.steps.specs.Shorter.{struck, Act, plain, card, steps_of, shorter}

module _ (P : Parts) where
  -- ---- the first pass: the steps that are refused in their turn are struck out, and every other stays, an overwritten write too

  pub data Accepted : List (Step P) → State P → List (Step P) → Type 0 where
    ends : {s : State P} → Accepted [] s []
    strikes : {x : Step P} {xs ys : List (Step P)} {s : State P} {n : ℕ} → step P x s ≡ refused n → Accepted xs s ys → Accepted (x ∷ xs) s ys
    stays : {x : Step P} {xs ys : List (Step P)} {s : State P} {r : Report P × State P} → step P x s ≡ accepted r → Accepted xs r.1 ys →
        Accepted (x ∷ xs) s (x ∷ ys)

  -- ---- the second and the third

  -- port p commits no card any more
  abbrev pub NoCard : Port → List (Act P) → Type 0
  NoCard p [] = Unit {0}
  NoCard p (plain x ∷ r) = NoCard p r
  NoCard p (card q es ∷ r) = if_same p q ⊥ (NoCard p r)

  -- Every committed card is one act and no card is dropped. An edit that stands by itself is of a card still open at the end. Each read
  -- stands just behind a hold of its own port, or behind such a read: `behind` is the port of that hold.
  abbrev pub TidyBehind : Option Port → List (Act P) → Type 0
  TidyBehind behind [] = Unit {0}
  TidyBehind behind (card p es ∷ r) = TidyBehind none r
  TidyBehind behind (plain (block b) ∷ r) = TidyBehind none r
  TidyBehind behind (plain (reset k) ∷ r) = TidyBehind none r
  TidyBehind behind (plain (at_port none op) ∷ r) = ⊥
  TidyBehind behind (plain (at_port (some p) (edit e)) ∷ r) = NoCard p r × TidyBehind none r
  TidyBehind behind (plain (at_port (some p) commit) ∷ r) = ⊥
  TidyBehind behind (plain (at_port (some p) drop_card) ∷ r) = ⊥
  TidyBehind behind (plain (at_port (some p) (hold k)) ∷ r) = TidyBehind (some p) r
  TidyBehind behind (plain (at_port (some p) (read a)) ∷ r) = (behind ≡ some p) × TidyBehind behind r

  abbrev pub Tidy : List (Act P) → Type 0
  Tidy acts = TidyBehind none acts

  -- the card that port p has open is committed or dropped by the steps to come
  abbrev pub ends_later : Port → List (Step P) → Bool
  ends_later p [] = false
  ends_later p (block b ∷ r) = ends_later p r
  ends_later p (reset k ∷ r) = ends_later p r
  ends_later p (at_port none op ∷ r) = ends_later p r
  ends_later p (at_port (some q) (edit e) ∷ r) = ends_later p r
  ends_later p (at_port (some q) commit ∷ r) = if_same p q true (ends_later p r)
  ends_later p (at_port (some q) drop_card ∷ r) = if_same p q true (ends_later p r)
  ends_later p (at_port (some q) (hold k) ∷ r) = ends_later p r
  ends_later p (at_port (some q) (read a) ∷ r) = ends_later p r

  -- the holds, the commits, the blocks and the resets of a sequence, and the opening and writing of a card still open at the end, in their
  -- order
  abbrev pub landmarks : List (Step P) → List (Step P)
  landmarks [] = []
  landmarks (block b ∷ r) = block b ∷ landmarks r
  landmarks (reset k ∷ r) = reset k ∷ landmarks r
  landmarks (at_port none op ∷ r) = landmarks r
  landmarks (at_port (some p) (edit e) ∷ r) = cond (ends_later p r) (landmarks r) (at_port (some p) (edit e) ∷ landmarks r)
  landmarks (at_port (some p) commit ∷ r) = at_port (some p) commit ∷ landmarks r
  landmarks (at_port (some p) drop_card ∷ r) = landmarks r
  landmarks (at_port (some p) (hold k) ∷ r) = at_port (some p) (hold k) ∷ landmarks r
  landmarks (at_port (some p) (read a) ∷ r) = landmarks r

  -- The opening and writing of each card that port p committed, card by card, and last of the card still open at the end; `es` is what
  -- the open card has so far. A dropped card leaves nothing.
  abbrev pub cards : Port → List (Step P) → List P.Edit → List (List P.Edit)
  cards p [] es = es ∷ []
  cards p (block b ∷ r) es = cards p r es
  cards p (reset k ∷ r) es = cards p r es
  cards p (at_port none op ∷ r) es = cards p r es
  cards p (at_port (some q) (edit e) ∷ r) es = if_same p q (cards p r (es ++ (e ∷ []))) (cards p r es)
  cards p (at_port (some q) commit ∷ r) es = if_same p q (es ∷ cards p r []) (cards p r es)
  cards p (at_port (some q) drop_card ∷ r) es = if_same p q (cards p r []) (cards p r es)
  cards p (at_port (some q) (hold k) ∷ r) es = cards p r es
  cards p (at_port (some q) (read a) ∷ r) es = cards p r es

  -- From any state, fresh or not: what is struck out is what is refused; the shorter sequence is tidy; its holds, commits, blocks and
  -- resets are the accepted ones in their order, and between them a card still open keeps its open and its writes where they stand; and
  -- its cards are opened and written as they were, each write in its place.
  pub record InOrder (s : State P) (xs : List (Step P)) : Type 0 where
    pub accepted_stay : Accepted xs s (struck P xs s)
    pub tidy : Tidy (shorter P s xs)
    pub in_place : landmarks (steps_of P (shorter P s xs)) ≡ landmarks (struck P xs s)
    pub same_cards : (p : Port) → cards p (steps_of P (shorter P s xs)) [] ≡ cards p (struck P xs s) []
