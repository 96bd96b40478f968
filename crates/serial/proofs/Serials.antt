-- Laws of serials: what the tests say, and the way between a text and its 13 bytes, both ways.
use Prim.Native.Nat.{ℕ, zero, suc, ◌+◌, ◌-◌, ◌≤◌, ◌<◌}
use mathlib.Core.Path.{◌≡◌, refl, sym, ap, ◌∙◌}
use mathlib.Core.Bool.{Bool, true, false, cond, ◌&&◌}
use mathlib.Core.List.{List, ◌∷◌, ◌++◌}
use native.Mathlib.Numerals.{one-add}
use native.Mathlib.Omega.{arith}
use lib.ListN.{length, get_or, replicate, length-append, length-take, length-drop, length-replicate, get_or-replicate, get_or-append, get_or-eq_default}
use lib.Seq.{get_or-take, get_or-drop, get_or-append-add, ext_get_or, take_at}
use lib.Dec.{leb, ltb, eqb}
use borrow.Author.Tests.{leb-true, le-leb, ltb-true, ltb-false, lt-ltb, eq-eqb, eqb-true}
use Rattle.serial.specs.Every.{every}
use Rattle.serial.proofs.Every.{every_at, every_from, and_left, and_right, both}
use Rattle.serial.specs.Serials.{is_digit, digits_ok, is_serial, padded, serial_of, serial_bytes, place_ok, holds_serial, text_of}

-- what a serial's text has
pub record Text (t : List ℕ) : Type 0 where
  pub some : 1 ≤ length t
  pub short : length t ≤ 12
  pub digits : (k : ℕ) → k < length t → is_digit (get_or t k 0) ≡ true

pub text : (t : List ℕ) → is_serial t ≡ true → Text t
unfolding is_serial digits_ok
text t h =
    let y = leb (length t) 12 in
    let x = leb 1 (length t) in
    let d = every (λ (k : ℕ). is_digit (get_or t k 0)) (length t) in
    let yx = and_left (y && x) d h in
    record { some = leb-true _ _ (and_right y x yx); short = leb-true _ _ (and_left y x yx); digits = every_at _ (length t) (and_right (y && x) d h) }

pub serial_short : (t : List ℕ) → is_serial t ≡ true → length t ≤ 12
serial_short t h = (text t h).short

-- ---- the twelve places
pub length_padded : (t : List ℕ) → length t ≤ 12 → length (padded t) ≡ 12
unfolding padded
length_padded t l = simp (length-append, length-replicate) (omega arith)

pub padded_at : (t : List ℕ) (k : ℕ) → k < 12 → get_or (padded t) k 0 ≡ get_or t k 0
unfolding padded
padded_at t k l = by (ltb k (length t)) refl
  where
    by : (b : Bool) → ltb k (length t) ≡ b → get_or (t ++ replicate (12 - length t) 0) k 0 ≡ get_or t k 0
    by true e = get_or-append t (replicate (12 - length t) 0) 0 k (ltb-true _ _ e)
    by false e =
        let h : length t ≤ k = ltb-false _ _ e in
        let m : k ≡ length t + (k - length t) = omega arith in
        ap (λ (i : ℕ). get_or (t ++ replicate (12 - length t) 0) i 0) m
        ∙ get_or-append-add t (replicate (12 - length t) 0) (k - length t) 0
        ∙ get_or-replicate (12 - length t) (k - length t) 0 0 (omega arith)
        ∙ sym (get_or-eq_default t 0 h)

-- ---- the 13 bytes of a text
module _ (t : List ℕ) (ok : is_serial t ≡ true) where
  pub bytes_is : serial_bytes (serial_of t) ≡ length t ∷ padded t
  unfolding serial_bytes serial_of
  bytes_is = simp ok

  pub length_bytes : length (serial_bytes (serial_of t)) ≡ 13
  length_bytes = rw bytes_is (omega (arith, length_padded t (serial_short t ok)))

  pub byte_length : get_or (serial_bytes (serial_of t)) 0 0 ≡ length t
  byte_length = rw bytes_is refl

  pub byte_digit : (k : ℕ) → k < 12 → get_or (serial_bytes (serial_of t)) (1 + k) 0 ≡ get_or t k 0
  byte_digit k l = ap (λ (b : List ℕ). get_or b (1 + k) 0) bytes_is ∙ rw one-add (padded_at t k l)

  places : (k : ℕ) → k < 12 → place_ok (length t) k (get_or t k 0) ≡ true
  unfolding place_ok
  places k l = by (ltb k (length t)) refl
    where
      by : (b : Bool) → ltb k (length t) ≡ b → cond (ltb k (length t)) (is_digit (get_or t k 0)) (eqb (get_or t k 0) 0) ≡ true
      by true e = simp e ((text t ok).digits k (ltb-true _ _ e))
      by false e = simp e (eq-eqb _ _ (get_or-eq_default t 0 (ltb-false _ _ e)))

  -- they are those of a serial, also where more bytes follow
  pub bytes_hold : (c : List ℕ) → ((k : ℕ) → k < 13 → get_or c k 0 ≡ get_or (serial_bytes (serial_of t)) k 0) → holds_serial c ≡ true
  unfolding holds_serial
  bytes_hold c h =
      let n : get_or c 0 0 ≡ length t = h 0 (omega arith) ∙ byte_length in
      rw n
      (both (both (le-leb _ _ (text t ok).some) (le-leb _ _ (text t ok).short))
      (every_from _ 12 (λ k l. rw (h (1 + k) (omega arith) ∙ byte_digit k l) (places k l))))

  -- from the text to the bytes and back
  pub text_back : text_of (serial_bytes (serial_of t)) ≡ t
  unfolding text_of padded
  text_back = rw bytes_is (take_at t (replicate (12 - length t) 0) (length t) refl)

-- two texts with the same 13 bytes are one
pub one_text : (s t : List ℕ) → is_serial s ≡ true → is_serial t ≡ true → serial_bytes (serial_of s) ≡ serial_bytes (serial_of t) → s ≡ t
one_text s t oks okt e = sym (text_back s oks) ∙ ap text_of e ∙ text_back t okt

-- ---- from the 13 bytes to the text and back
module _ (e : List ℕ) (whole : length e ≡ 13) (ok : holds_serial e ≡ true) where
  tests : (1 ≤ get_or e 0 0) × (get_or e 0 0 ≤ 12) × ((k : ℕ) → k < 12 → place_ok (get_or e 0 0) k (get_or e (1 + k) 0) ≡ true)
  unfolding holds_serial
  tests =
      let x = leb 1 (get_or e 0 0) in
      let y = leb (get_or e 0 0) 12 in
      let d = every (λ (k : ℕ). place_ok (get_or e 0 0) k (get_or e (1 + k) 0)) 12 in
      let xy = and_left (x && y) d ok in
      (leb-true _ _ (and_left x y xy), leb-true _ _ (and_right x y xy), every_at _ 12 (and_right (x && y) d ok))

  text_length : length (text_of e) ≡ get_or e 0 0
  unfolding text_of
  text_length = simp (length-take, length-drop) (omega (arith, tests.1))

  text_digit : (k : ℕ) → k < get_or e 0 0 → get_or (text_of e) k 0 ≡ get_or e (1 + k) 0
  unfolding text_of
  text_digit k l = rw (get_or-take, get_or-drop)

  pub text_serial : is_serial (text_of e) ≡ true
  unfolding is_serial digits_ok place_ok
  text_serial =
      rw text_length
      (both (both (le-leb _ _ tests.1) (le-leb _ _ tests.0))
      (every_from _ (get_or e 0 0) (λ k l. rw (text_digit k l) (simp (lt-ltb k (get_or e 0 0) l) at (tests.2 k (omega (arith, tests.1)))))))

  byte_back : (k : ℕ) → k < 12 → get_or (text_of e) k 0 ≡ get_or e (1 + k) 0
  unfolding place_ok
  byte_back k l = by (ltb k (get_or e 0 0)) refl
    where
      by : (b : Bool) → ltb k (get_or e 0 0) ≡ b → get_or (text_of e) k 0 ≡ get_or e (1 + k) 0
      by true q = text_digit k (ltb-true _ _ q)
      by false q =
          let h : length (text_of e) ≤ k = omega (arith, text_length, ltb-false k (get_or e 0 0) q) in
          get_or-eq_default (text_of e) 0 h
          ∙ sym (eqb-true _ _ (simp q at (tests.2 k l)))

  pub bytes_back : serial_bytes (serial_of (text_of e)) ≡ e
  bytes_back =
      let n = length_bytes (text_of e) text_serial in
      ext_get_or 0 (serial_bytes (serial_of (text_of e))) e (n ∙ sym whole)
      (λ k l. by k (omega (arith, n)))
    where
      by : (k : ℕ) → k < 13 → get_or (serial_bytes (serial_of (text_of e))) k 0 ≡ get_or e k 0
      by zero l = byte_length (text_of e) text_serial ∙ text_length
      by (suc k) l = rw (← one-add k) (byte_digit (text_of e) text_serial k (omega arith) ∙ byte_back k (omega arith))
