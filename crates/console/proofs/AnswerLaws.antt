-- An answer is put together text by text, and bytes one by one.
use Prim.Native.Nat.{ℕ, ◌+◌, ◌/◌, ◌%◌, ◌≤◌, ◌<◌, min}
use mathlib.Core.Path.{◌≡◌, refl, sym, ap, ◌∙◌}
use mathlib.Core.Bool.{Bool, true, false, not}
use mathlib.Core.List.{List, [], ◌∷◌, ◌++◌, append_assoc}
use native.Mathlib.Numerals.{add-one}
use native.Mathlib.Omega.{arith}
use lib.Dec.{T, leb, leb→le, nleb→lt}
use lib.ListN.{length, take, drop, get_or, drop_of_length-le}
use lib.Seq.{drop-cons, take_all}
use Rattle.console.specs.Answers.{hex_digit, bytes_text}

-- a text behind others
module _ (before : List ℕ) where
  pub and_then : {x y : List ℕ} (a b : List ℕ) → x ≡ before ++ a → y ≡ x ++ b → y ≡ before ++ (a ++ b)
  and_then {x} {y} a b e f = f ∙ ap (λ (t : List ℕ). t ++ b) e ∙ append_assoc before a b

module _ (bytes : List ℕ) (k : ℕ) where
  -- a space and the digits of a byte
  abbrev pub byte_text : List ℕ
  byte_text = 32 ∷ hex_digit (get_or bytes k 0 / 16) ∷ hex_digit (get_or bytes k 0 % 16) ∷ []

  pub one_byte : k < length bytes → (before after : List ℕ) → after ≡ before ++ byte_text → after ++ bytes_text (drop (k + 1) bytes) ≡ before ++ bytes_text (drop k bytes)
  unfolding bytes_text
  one_byte h before after e =
      ap (λ (t : List ℕ). t ++ bytes_text (drop (k + 1) bytes)) e ∙ append_assoc before byte_text (bytes_text (drop (k + 1) bytes))
      ∙ ap (λ (t : List ℕ). before ++ t) (rw (drop-cons bytes k 0, add-one) refl)

  pub no_byte : length bytes ≤ k → bytes_text (drop k bytes) ≡ []
  unfolding bytes_text
  no_byte h = rw (drop_of_length-le bytes) refl

-- no more bytes are taken than there are
pub at_most : (n most : ℕ) (l : List ℕ) → length l ≡ most → take (min n most) l ≡ take n l
at_most n most l e = go (leb n most) (leb→le n most) (nleb→lt n most)
  where
    go : (t : Bool) → (T t → n ≤ most) → (T (not t) → most < n) → take (min n most) l ≡ take n l
    go true f g =
        let h = f tt in
        let q : min n most ≡ n = omega arith in
        ap (λ (k : ℕ). take k l) q
    go false f g =
        let h = g tt in
        take_all (min n most) l (omega arith) ∙ sym (take_all n l (omega arith))
