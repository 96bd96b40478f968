-- Laws of a card's bytes.
use Prim.Native.Nat.{ℕ, zero, suc, ◌+◌, ◌-◌, ◌*◌, ◌%◌, ◌≤◌, ◌<◌}
use mathlib.Core.Path.{◌≡◌, refl, sym, ap, ◌∙◌}
use mathlib.Core.Bool.{true, false, true≢false}
use mathlib.Core.List.{List, [], ◌∷◌, ◌++◌, append_assoc, append-nil}
use native.Mathlib.Nat.{not-suc-le-zero, le_of_suc-le-suc}
use native.Mathlib.Numerals.{add-one}
use native.Mathlib.Omega.{arith}
use lib.IntN.{ℤ, pos, negsuc, nat_abs}
use lib.Signed.{lt_z}
use lib.ListN.{length, get_or, take}
use borrow.Author.Tests.{le-ltb}
use lib.Seq.{take_all}
use Rattle.serial.specs.declared.Serial.{Serial}
use Rattle.serial.specs.Places.{put}
use Rattle.serial.proofs.Places.{front_put}
use Rattle.serial.specs.Serials.{serial_bytes}
use Rattle.card.specs.Cards.{bits24, three_bytes, fields_bytes, card_bytes}

-- ---- the last 24 bits, by the size
pub record Below (v : ℤ) : Type 0 where
  pub some : 1 ≤ nat_abs v
  pub bits : bits24 v ≡ 16777215 - (nat_abs v - 1) % 16777216

pub below : (v : ℤ) → lt_z v (pos 0) ≡ true → Below v
unfolding bits24
below (pos n) h = absurd (true≢false (sym h ∙ le-ltb n 0 (omega arith)))
below (negsuc n) h = let e : suc n - 1 ≡ n = omega arith in record { some = omega arith; bits = rw e refl }

pub above : (v : ℤ) → lt_z v (pos 0) ≡ false → bits24 v ≡ nat_abs v % 16777216
unfolding bits24
above (pos n) h = refl
above (negsuc n) h = absurd (true≢false h)

-- ---- the fields' bytes, one field more
pub three_length : (n : ℕ) → length (three_bytes n) ≡ 3
unfolding three_bytes
three_length n = refl

pub fields_more : (f : List ℤ) (i : ℕ) → i < length f → fields_bytes (take (i + 1) f) ≡ fields_bytes (take i f) ++ three_bytes (bits24 (get_or f i (pos 0)))
unfolding fields_bytes
fields_more f i l = rw add-one (go f i l)
  where
    go : (f : List ℤ) (i : ℕ) → i < length f → fields_bytes (take (suc i) f) ≡ fields_bytes (take i f) ++ three_bytes (bits24 (get_or f i (pos 0)))
    go [] i l = absurd (not-suc-le-zero l)
    go (v ∷ vs) zero l = append-nil (three_bytes (bits24 v))
    go (v ∷ vs) (suc i) l = rw (go vs i (le_of_suc-le-suc l)) (sym (append_assoc (three_bytes (bits24 v)) (fields_bytes (take i vs)) (three_bytes (bits24 (get_or vs i (pos 0))))))

-- a turn of the loop that writes the fields
pub fields_turn : (head c c' : List ℕ) (f : List ℤ) (i : ℕ) → i < length f → 13 + 3 * i + 3 ≤ length c
    → take (13 + 3 * i) c ≡ head ++ fields_bytes (take i f)
    → c' ≡ put c (13 + 3 * i) (three_bytes (bits24 (get_or f i (pos 0))))
    → take (13 + 3 * (i + 1)) c' ≡ head ++ fields_bytes (take (i + 1) f)
fields_turn head c c' f i l room e e' =
    let xs = three_bytes (bits24 (get_or f i (pos 0))) in
    let n : length xs ≡ 3 = three_length (bits24 (get_or f i (pos 0))) in
    let m : 13 + 3 * (i + 1) ≡ 13 + 3 * i + length xs = omega arith in
    rw (e', m, fields_more f i l)
    (front_put c xs (13 + 3 * i) (omega arith) ∙ ap (λ (r : List ℕ). r ++ xs) e ∙ append_assoc head (fields_bytes (take i f)) xs)

-- the fields are all written
pub fields_done : (s : Serial) (c : List ℕ) (f : List ℤ) → length f ≡ 8 → length c ≡ 37 → take 37 c ≡ serial_bytes s ++ fields_bytes (take 8 f) → c ≡ card_bytes s f
unfolding card_bytes
fields_done s c f l n e = sym (take_all 37 c (omega arith)) ∙ e ∙ ap (λ (r : List ℤ). serial_bytes s ++ fields_bytes r) (take_all 8 f (omega arith))
