-- Laws of the walk that puts a line for each entry: what holds at each turn, and what stands when the reader is at the end.
use Prim.Native.Nat.{ℕ, suc, ◌+◌, ◌*◌, ◌-◌, ◌≤◌, ◌<◌}
use mathlib.Core.Path.{◌≡◌, sym, ap, ◌∙◌}
use mathlib.Core.Bool.{Bool, true, false, not}
use mathlib.Core.List.{List}
use native.Mathlib.Omega.{arith}
use lib.Dec.{T, ltb, ltb→lt, nltb→le}
use lib.ListN.{length}
use Rattle.std.specs.Prelude.{Some, None}
use Rattle.book.specs.Book.{cards, withdrawn, well_formed}
use Rattle.book.proofs.Sections.{formed_sized}
use Rattle.reader.specs.declared.Entry.{Entry}
use Rattle.reader.specs.Walk.{Step, step_at, step_after}
use Rattle.reader.proofs.Steps.{place_after, found_there}
use Rattle.reader.proofs.Promise.{promise}
use Rattle.listing.specs.Lines.{lines, line_at, found_text, entries_text}
use Rattle.listing.specs.Buffer.{Made}
use Rattle.listing.proofs.Lines.{made_none, made_more}
use Rattle.listing.proofs.Walked.{walked_listing}

-- the lines of the first k steps
abbrev lines_of : List ℕ → ℕ → List ℕ
lines_of b k = lines (λ (j : ℕ). found_text b (step_after b j).found) k

-- after some turns the reader stands at the next entry, and the lines of those before it stand in the buffer
pub record Walking (b out₀ out : List ℕ) (from at place : ℕ) : Type 0 where
  pub turns : ℕ
  pub within : turns ≤ (cards b).count + (withdrawn b).count
  pub here : place ≡ place_after b turns
  pub made : Made out₀ out from at (lines_of b turns)
  pub room : at ≤ from + 134 * turns

pub begins : (b out : List ℕ) (from place : ℕ) → place ≡ 2 → Walking b out out from from place
unfolding lines place_after
begins b out from place e = record { turns = 0; within = omega arith; here = e; made = made_none out from; room = omega arith }

module _ (b : List ℕ) (formed : well_formed b ≡ true) where
  abbrev n : ℕ
  n = (cards b).count

  abbrev m : ℕ
  m = (withdrawn b).count

  -- ---- which step is an entry
  below : (k : ℕ) (e : Entry) → Some e ≡ (step_after b k).found → k < n + m
  below k e h = go (ltb k (n + m)) (ltb→lt k (n + m)) (nltb→le k (n + m))
    where
      go : (t : Bool) → (T t → k < n + m) → (T (not t) → n + m ≤ k) → k < n + m
      go true f g = f tt
      go false f g = let z = (promise b formed).then_none k (g tt) in cc

  above : (k : ℕ) → None ≡ (step_after b k).found → n + m ≤ k
  above k h = go (ltb k (n + m)) (ltb→lt k (n + m)) (nltb→le k (n + m)) (ltb k n) (ltb→lt k n) (nltb→le k n)
    where
      go : (t : Bool) → (T t → k < n + m) → (T (not t) → n + m ≤ k) → (u : Bool) → (T u → k < n) → (T (not u) → n ≤ k) → n + m ≤ k
      go false f g u f' g' = g tt
      go true f g true f' g' = let z = ap (λ (s : Step). s.found) ((promise b formed).each_card k (f' tt)) in cc
      go true f g false f' g' =
          let z : k ≡ n + (k - n) = omega (arith, g' tt) in
          let y = ap (λ (j : ℕ). (step_after b j).found) z in
          let x = ap (λ (s : Step). s.found) ((promise b formed).each_serial (k - n) (omega (arith, f tt, g' tt))) in
          cc

  few : n + m ≤ 1536
  few = omega (arith, (formed_sized b formed).few_cards, (formed_sized b formed).few_withdrawn)

  module _ (out₀ out : List ℕ) (from at place : ℕ) (first : from ≤ 28) (w : Walking b out₀ out from at place) where
    -- the reader finds what the walk finds at this turn
    found : step_at b place ≡ step_after b w.turns
    found = rw w.here (sym (found_there b w.turns))

    entry_below : (e : Entry) → Some e ≡ (step_at b place).found → w.turns < n + m
    entry_below e h = below w.turns e (rw found at h)

    pub fits : (e : Entry) → Some e ≡ (step_at b place).found → at + 134 ≤ 205852
    fits e h = omega (arith, entry_below e h, few, w.room)

    pub goes_on : (out' : List ℕ) (at' place' : ℕ) (e : Entry) → Some e ≡ (step_at b place).found → place' ≡ (step_at b place).next
        → Made out out' at at' (line_at b e.kind e.at) → at' ≤ at + 134 → length out₀ ≡ 205852 → Walking b out₀ out' from at' place'
    unfolding lines place_after found_text
    goes_on out' at' place' e h p made short whole =
        let text = ap (found_text b) (h ∙ ap (λ (s : Step). s.found) found) in
        record {
          turns = suc w.turns;
          within = omega (arith, entry_below e h);
          here = p ∙ ap (λ (k : ℕ). (step_at b k).next) w.here;
          made = made_more out₀ out out' from at at' (lines_of b w.turns) (found_text b (step_after b w.turns).found) w.made (rw text at made)
              (omega (arith, w.made.place, fits e h, whole, short, ap length text, made.place));
          room = omega (arith, w.room, short);
        }

    pub ends : None ≡ (step_at b place).found → Made out₀ out from at (entries_text b) × (at ≤ 205852)
    ends h =
        let e : w.turns ≡ n + m = omega (arith, above w.turns (rw found at h), w.within) in
        (rw (ap (lines_of b) e ∙ walked_listing b formed) at w.made, omega (arith, w.room, e, few))
