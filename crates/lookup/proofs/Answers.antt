-- Laws of the answers: what an accepted answer says of the checks, and that no place is beyond the book.
use Prim.Native.Nat.{ℕ, suc, ◌+◌, ◌≤◌, ◌<◌}
use mathlib.Core.Path.{◌≡◌, refl, sym, ap}
use mathlib.Core.Bool.{Bool, true, false, not}
use mathlib.Core.List.{List}
use native.Mathlib.Omega.{arith}
use lib.ListN.{length}
use borrow.Author.Tests.{not-true, ltb-true}
use Rattle.serial.specs.Serials.{is_serial}
use Rattle.section.specs.Sections.{place_of, find_in, has}
use Rattle.book.specs.Book.{cards, withdrawn, well_formed}
use Rattle.book.specs.Answers.{Answer, accepted, ask}
use Rattle.lookup.specs.Lookup.{seek_of, lookup_of}
use Rattle.book.proofs.Sections.{formed_sized}

-- ---- an accepted answer: each test passed
pub ask_passed : (t : Bool) (r n : ℕ) (a : Answer) → ask t (suc r) a ≡ accepted n → (t ≡ true) × (a ≡ accepted n)
ask_passed true r n a e = (refl, e)
ask_passed false r n a e = let z : ◌≡◌ {A = ℕ} (suc r) 0 = ap (λ (x : Answer). x.number) e in absurd (omega arith)

-- the place that lookup answers is that of a card
pub record Placed (b t : List ℕ) (n : ℕ) : Type 0 where
  pub serial : is_serial t ≡ true
  pub formed : well_formed b ≡ true
  pub kept : has b (withdrawn b) t ≡ false
  pub card : find_in b (cards b) t < (cards b).count
  pub place : n ≡ place_of (cards b) (find_in b (cards b) t)

pub placed : (b t : List ℕ) (n : ℕ) → lookup_of b t ≡ accepted n → Placed b t n
unfolding lookup_of seek_of has
placed b t n e =
    let e₁ = ask_passed (is_serial t) 0 n _ e in
    let e₂ = ask_passed (well_formed b) 1 n _ e₁.1 in
    let e₃ = ask_passed (not (has b (withdrawn b) t)) 2 n _ e₂.1 in
    let e₄ = ask_passed (has b (cards b) t) 3 n _ e₃.1 in
    record { serial = e₁.0; formed = e₂.0; kept = not-true _ e₃.0; card = ltb-true _ _ e₄.0; place = sym (ap (λ (x : Answer). x.value) e₄.1) }

-- and the card that stands there is whole
pub place_fits : (b t : List ℕ) (n : ℕ) → lookup_of b t ≡ accepted n → n + 37 ≤ length b
place_fits b t n e =
    let p = placed b t n e in
    let z = formed_sized b p.formed in
    omega (arith, p.place, p.card, z.whole)

-- no refusal: the test passed, and nothing after it refuses
pub ask_none : (t : Bool) (r : ℕ) (a : Answer) → (ask t (suc r) a).number ≡ 0 → (t ≡ true) × (a.number ≡ 0)
ask_none true r a e = (refl, e)
ask_none false r a e = absurd (omega arith)

-- ---- no answer is beyond the buffer
pub ask_within : (t : Bool) (r n : ℕ) (a : Answer) → (t ≡ true → a.value ≤ n) → (ask t r a).value ≤ n
ask_within true r n a h = h refl
ask_within false r n a h = omega arith

pub lookup_within : (b t : List ℕ) → (lookup_of b t).value ≤ length b
unfolding lookup_of seek_of has
lookup_within b t =
    ask_within (is_serial t) 1 _ _ (λ s. ask_within (well_formed b) 2 _ _ (λ f. ask_within (not (has b (withdrawn b) t)) 3 _ _
    (λ w. ask_within (has b (cards b) t) 4 _ _ (λ h. omega (arith, ltb-true (find_in b (cards b) t) (cards b).count h, (formed_sized b f).whole)))))
