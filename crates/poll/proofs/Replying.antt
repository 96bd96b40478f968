-- What is gathered register by register gives the reply of the definition, which speaks of all registers at once.
use Prim.Native.Nat.{ℕ, suc, ◌+◌, ◌*◌, ◌≤◌, ◌<◌}
use mathlib.Core.Path.{◌≡◌, refl, sym, ap, subst, ◌∙◌}
use mathlib.Core.Bool.{Bool, true, false, cond}
use mathlib.Core.List.{List, [], ◌∷◌, ◌++◌, append_assoc, append-nil}
use native.Mathlib.Nat.{not-le_of_lt}
use native.Mathlib.Numerals.{add-one}
use native.Mathlib.Omega.{arith}
use borrow.Author.Tests.{lt-ltb, le-ltb, ltb-true, ltb-false}
use lib.Dec.{eqb, ltb}
use lib.IntN.{ℤ}
use lib.ListN.{length, take, set, length-append, length-set}
use lib.Seq.{take-suc-set}
use Rattle.std.specs.Prelude.{Result, Ok, Err}
use Rattle.steps.specs.Answers.{OrRefusal, refused, accepted, and_then}
use Rattle.packet.specs.declared.Ending.{Ending}
use Rattle.packet.specs.declared.Ending.TheVariants.{Whole, Fails, Unanswered}
use Rattle.packet.specs.Codes.{acknowledge, negative}
use Rattle.packet.specs.Commands.{Asked}
use Rattle.packet.specs.Replies.{Reply, code, values, joined, read_all, sending, replied}
use Rattle.poll.specs.declared.Gathered.{Gathered}
use Rattle.poll.specs.Inside.{none_gathered, keeping, taken_if, read_into, ended_by, gathers, sending_of, gathered_reply}

-- g has these values, or there are too many of them for a reply
record Has (g : Gathered) (vs : List ℤ) : Type 0 where
  long : length g.values ≡ 84
  few : length vs ≤ 84 → (g.count ≡ length vs) × (take (length vs) g.values ≡ vs)
  many : 84 < length vs → g.count ≡ 85

has_none : Has none_gathered []
has_none = record { long = refl; few = λ l. (refl, refl); many = λ l. absurd (not-le_of_lt l (omega arith)) }

one_more : (vs : List ℤ) (v : ℤ) → length (vs ++ (v ∷ [])) ≡ length vs + 1
one_more vs v = length-append vs (v ∷ [])

-- one value more
has_room : (g : Gathered) (vs : List ℤ) (v : ℤ) → Has g vs → length vs < 84 → Has (keeping g v) (vs ++ (v ∷ []))
unfolding keeping
has_room g vs v h l =
    let n = h.few (omega arith) in
    let t : ltb g.count 84 ≡ true = lt-ltb g.count 84 (omega (arith, n.0)) in
    rw t (record {
      long = length-set g.values g.count v ∙ h.long;
      few = λ _. (
        ap (λ (k : ℕ). k + 1) n.0 ∙ sym (one_more vs v),
        ap (λ (k : ℕ). take k (set g.values g.count v)) (one_more vs v ∙ add-one (length vs))
            ∙ ap (λ (k : ℕ). take (suc k) (set g.values g.count v)) (sym n.0)
            ∙ take-suc-set g.values g.count v (omega (arith, n.0, h.long))
            ∙ ap (λ (r : List ℤ). r ++ (v ∷ [])) (ap (λ (k : ℕ). take k g.values) n.0 ∙ n.1),
      );
      many = λ m. absurd (not-le_of_lt m (omega (arith, one_more vs v)));
    })

has_full : (g : Gathered) (vs : List ℤ) (v : ℤ) → Has g vs → 84 ≤ length vs → ltb g.count 84 ≡ false → Has (keeping g v) (vs ++ (v ∷ []))
unfolding keeping
has_full g vs v h l t =
    rw t (record {
      long = h.long;
      few = λ m. absurd (not-le_of_lt (omega (arith, one_more vs v)) m);
      many = λ _. refl;
    })

-- 84 are there, or more
full : (g : Gathered) (vs : List ℤ) → Has g vs → 84 ≤ length vs → ltb g.count 84 ≡ false
full g vs h l = go (ltb 84 (length vs)) refl
  where
    go : (b : Bool) → ltb 84 (length vs) ≡ b → ltb g.count 84 ≡ false
    go true t = let n = h.many (ltb-true _ _ t) in le-ltb g.count 84 (omega (arith, n))
    go false t = let n = (h.few (ltb-false _ _ t)).0 in le-ltb g.count 84 (omega (arith, n))

has_more : (g : Gathered) (vs : List ℤ) (v : ℤ) → Has g vs → Has (keeping g v) (vs ++ (v ∷ []))
has_more g vs v h = go (ltb (length vs) 84) refl
  where
    go : (b : Bool) → ltb (length vs) 84 ≡ b → Has (keeping g v) (vs ++ (v ∷ []))
    go true t = has_room g vs v h (ltb-true _ _ t)
    go false t = has_full g vs v h (ltb-false _ _ t) (full g vs h (ltb-false _ _ t))

-- ---- all registers, and register by register

-- the values vs are there before; q is what the registers to come give, r what is gathered of them
abbrev Agrees : List ℤ → OrRefusal (List ℤ) → Result Gathered Ending → Type 0
Agrees vs (refused n) r = r ≡ Err (Fails negative)
Agrees vs (accepted ws) r = (g : Gathered) × (r ≡ Ok g) × Has g (vs ++ ws)

agrees_behind : (vs : List ℤ) (v : ℤ) (q : OrRefusal (List ℤ)) (r : Result Gathered Ending) → Agrees (vs ++ (v ∷ [])) q r → Agrees vs (and_then q (λ ws. v ∷ ws)) r
agrees_behind vs v (refused n) r h = h
agrees_behind vs v (accepted ws) r h = (h.0, h.1, subst (Has h.0) (append_assoc vs (v ∷ []) ws) h.2)

agrees_cons : (vs : List ℤ) (g : Gathered) (q : OrRefusal ℤ) (rest : OrRefusal (List ℤ)) (f : Gathered → Result Gathered Ending) → Has g vs →
    ((v : ℤ) → Has (keeping g v) (vs ++ (v ∷ [])) → Agrees (vs ++ (v ∷ [])) rest (f (keeping g v))) → Agrees vs (joined q rest) (taken_if q g f)
agrees_cons vs g (refused n) rest f h k = refl
agrees_cons vs g (accepted v) rest f h k = agrees_behind vs v rest (f (keeping g v)) (k v (has_more g vs v h))

module _ (look : ℕ → OrRefusal ℤ) where
  agrees : (r : List ℕ) (vs : List ℤ) (g : Gathered) → Has g vs → Agrees vs (read_all look r) (read_into look r g)
  unfolding read_into
  agrees [] vs g h = (g, refl, subst (Has g) (sym (append-nil vs)) h)
  agrees (a ∷ r) vs g h = agrees_cons vs g (look a) (read_all look r) (read_into look r) h (λ v h'. agrees r (vs ++ (v ∷ [])) (keeping g v) h')

-- ---- the reply

sending_few : (g : Gathered) (vs : List ℤ) → Has g vs → length vs ≤ 84 → sending vs ≡ sending_of g
unfolding sending sending_of
sending_few g vs h l =
    let n = h.few l in
    let a : ltb 252 (3 * length vs) ≡ false = le-ltb 252 (3 * length vs) (omega arith) in
    let b : ltb 84 g.count ≡ false = le-ltb 84 g.count (omega (arith, n.0)) in
    rw (a, b)
    (ap (λ (k : ℕ). cond (eqb k 0) (code acknowledge) (values vs)) (sym n.0)
    ∙ ap (λ (r : List ℤ). cond (eqb g.count 0) (code acknowledge) (values r)) (sym (ap (λ (k : ℕ). take k g.values) n.0 ∙ n.1)))

sending_many : (g : Gathered) (vs : List ℤ) → Has g vs → 84 < length vs → sending vs ≡ sending_of g
unfolding sending sending_of
sending_many g vs h l =
    let n = h.many l in
    let a : ltb 252 (3 * length vs) ≡ true = lt-ltb 252 (3 * length vs) (omega arith) in
    let b : ltb 84 g.count ≡ true = lt-ltb 84 g.count (omega (arith, n)) in
    rw (a, b) refl

sending_is : (g : Gathered) (vs : List ℤ) → Has g vs → sending vs ≡ sending_of g
sending_is g vs h = go (ltb 84 (length vs)) refl
  where
    go : (b : Bool) → ltb 84 (length vs) ≡ b → sending vs ≡ sending_of g
    go true t = sending_many g vs h (ltb-true _ _ t)
    go false t = sending_few g vs h (ltb-false _ _ t)

module _ (e : Ending) where
  abbrev reply_of : Result Gathered Ending → Reply
  reply_of r = gathered_reply (ended_by r e)

  replied_by : (q : OrRefusal (List ℤ)) (r : Result Gathered Ending) → Agrees [] q r → replied q e ≡ reply_of r
  replied_by (refused n) r h = ap reply_of (sym h)
  replied_by (accepted ws) r h = ended e ∙ ap reply_of (sym h.1)
    where
      ended : (x : Ending) → replied (accepted ws) x ≡ gathered_reply (ended_by (Ok h.0) x)
      ended Whole = sending_is h.0 ws h.2
      ended (Fails c) = refl
      ended Unanswered = refl

pub replied_is : (look : ℕ → OrRefusal ℤ) (a : Asked) → replied (read_all look a.registers) a.ending ≡ gathered_reply (gathers look none_gathered a)
unfolding gathers
replied_is look a = replied_by a.ending (read_all look a.registers) (read_into look a.registers none_gathered) (agrees look a.registers [] none_gathered has_none)
