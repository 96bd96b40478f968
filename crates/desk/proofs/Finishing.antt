-- What a commit at a desk gives, taken apart: the card that was made, and the shut desk; or the refusal.
use Prim.Native.Nat.{ℕ}
use mathlib.Core.Path.{◌≡◌, ap}
use Rattle.steps.specs.Answers.{OrRefusal, refused, accepted, and_then}
use Rattle.card.specs.declared.Card.{Card}
use Rattle.desk.specs.declared.Desk.{Desk}
use Rattle.desk.specs.Desks.{shut_desk, finished, finishing}

made : (q : OrRefusal Card) (c : Card) (e : Desk) → ◌≡◌ {A = OrRefusal (Card × Desk)} (accepted (c, e)) (and_then q (λ k. (k, shut_desk))) → (accepted c ≡ q) × (e ≡ shut_desk)
made (refused n) c e h = cc
made (accepted k) c e h =
    let p : ◌≡◌ {A = Card × Desk} (c, e) (k, shut_desk) = cc in (ap (λ (t : Card × Desk). accepted t.0) p, ap (λ (t : Card × Desk). t.1) p)

unmade : (q : OrRefusal Card) (n : ℕ) → ◌≡◌ {A = OrRefusal (Card × Desk)} (refused n) (and_then q (λ k. (k, shut_desk))) → refused n ≡ q
unmade (refused m) n h = cc
unmade (accepted k) n h = cc

pub finished_with : (d : Desk) (c : Card) (e : Desk) → ◌≡◌ {A = OrRefusal (Card × Desk)} (accepted (c, e)) (finishing d) → (accepted c ≡ finished d) × (e ≡ shut_desk)
finished_with d = made (finished d)

pub not_finished : (d : Desk) (n : ℕ) → ◌≡◌ {A = OrRefusal (Card × Desk)} (refused n) (finishing d) → refused n ≡ finished d
not_finished d = unmade (finished d)
