-- The round trip of a card: its bytes read back give its serial and its values, and what was read from 37 bytes gives those bytes again.
use Prim.Native.Nat.{ℕ, zero, suc, ◌+◌, ◌-◌, ◌*◌, ◌/◌, ◌%◌, ◌≤◌, ◌<◌}
use mathlib.Core.Path.{◌≡◌, refl, sym, ap, ◌∙◌}
use mathlib.Core.Bool.{Bool, true, false, cond}
use mathlib.Core.List.{List, [], ◌∷◌}
use native.Mathlib.Nat.{add-zero, not-suc-le-zero, le_of_suc-le-suc}
use native.Mathlib.Numerals.{one-add}
use native.Mathlib.Omega.{arith}
use lib.IntN.{ℤ, pos, negsuc}
use lib.ListN.{length, get_or, length-append, get_or-append}
use lib.Seq.{get_or-append-add, ext_get_or}
use lib.Dec.{ltb}
use borrow.Author.Tests.{ltb-true, ltb-false, lt-ltb, le-ltb, eq-eqb}
use Rattle.serial.proofs.Every.{every_from, both}
use Rattle.serial.proofs.Places.{tab_at, tab_of, tab_same, length_tab}
use Rattle.serial.specs.Serials.{is_serial, serial_of, serial_bytes}
use Rattle.card.specs.Fields.{fits_field}
use Rattle.card.specs.Cards.{bits24, three_bytes, fields_bytes, card_bytes, three_at, signed24, value_of, field_at, digits_at, fields_at, card_of, fields_ok, is_card}
use Rattle.serial.specs.declared.Serial.{Serial}
use Rattle.serial.proofs.Serials.{bytes_hold, length_padded, serial_short}
use Rattle.card.proofs.Fields.{Value, value_in}
use Rattle.cardbytes.proofs.Cards.{three_length}

-- ---- 24 bits
bits_small : (v : ℤ) → bits24 v ≤ 16777215
unfolding bits24
bits_small (pos n) = omega arith
bits_small (negsuc n) = omega arith

-- the bits of a value in its field's range say the value
value_back : (k : ℕ) (v : ℤ) → Value k v → value_of k (bits24 v) ≡ v
unfolding value_of signed24 bits24
value_back k (pos n) x =
    let e : n % 16777216 ≡ n = omega (arith, x.most) in
    rw e (simp (lt-ltb n 8388608 (omega (arith, x.most))) (same (ltb k 2)))
  where
    same : (b : Bool) → cond b (pos n) (pos n) ≡ pos n
    same true = refl
    same false = refl
value_back k (negsuc n) x =
    let e : 16777215 - n % 16777216 ≡ 16777215 - n = omega (arith, x.least) in
    let f : 16777215 - (16777215 - n) ≡ n = omega (arith, x.least) in
    rw e (simp (le-ltb (16777215 - n) 8388608 (omega (arith, x.least)), f) (by (ltb k 2) refl))
  where
    by : (b : Bool) → ltb k 2 ≡ b → cond b (negsuc n) (pos (16777215 - n)) ≡ negsuc n
    by true e = refl
    by false e = absurd (omega (arith, x.above (ltb-false k 2 e)))

-- what is read from 24 bits has these bits
bits_back : (k n : ℕ) → n ≤ 16777215 → bits24 (value_of k n) ≡ n
unfolding value_of signed24 bits24
bits_back k n l = by (ltb k 2) (ltb n 8388608) refl
  where
    by : (a b : Bool) → ltb n 8388608 ≡ b → bits24 (cond a (cond b (pos n) (negsuc (16777215 - n))) (pos n)) ≡ n
    by false b e = omega arith
    by true true e = omega arith
    by true false e = omega arith

-- three bytes and the number in them
three_back : (n : ℕ) → n ≤ 16777215 → n % 256 + 256 * (n / 256 % 256) + 65536 * (n / 65536 % 256) ≡ n
three_back n l = omega arith

-- ---- the bytes of a card, by place
pub fields_length : (f : List ℤ) → length (fields_bytes f) ≡ 3 * length f
unfolding fields_bytes three_bytes
fields_length [] = refl
fields_length (v ∷ vs) = omega (arith, fields_length vs)

fields_byte : (f : List ℤ) (i r : ℕ) → i < length f → r < 3 → get_or (fields_bytes f) (3 * i + r) 0 ≡ get_or (three_bytes (bits24 (get_or f i (pos 0)))) r 0
unfolding fields_bytes
fields_byte [] i r l m = absurd (not-suc-le-zero l)
fields_byte (v ∷ vs) zero r l m =
    let e : 3 * 0 + r ≡ r = omega arith in
    rw e (get_or-append (three_bytes (bits24 v)) (fields_bytes vs) 0 r (omega (arith, three_length (bits24 v))))
fields_byte (v ∷ vs) (suc i) r l m =
    let e : 3 * suc i + r ≡ length (three_bytes (bits24 v)) + (3 * i + r) = omega (arith, three_length (bits24 v)) in
    rw e (get_or-append-add (three_bytes (bits24 v)) (fields_bytes vs) (3 * i + r) 0 ∙ fields_byte vs i r (le_of_suc-le-suc l) m)

-- ---- a card of a serial with its twelve places, and eight values
module _ (s : Serial) (f : List ℤ) (twelve : length s.digits ≡ 12) (eight : length f ≡ 8) where
  head_length : length (serial_bytes s) ≡ 13
  unfolding serial_bytes
  head_length = omega (arith, twelve)

  pub length_card : length (card_bytes s f) ≡ 37
  unfolding card_bytes
  length_card = simp length-append (omega (arith, head_length, fields_length f, eight))

  pub card_head : (k : ℕ) → k < 13 → get_or (card_bytes s f) k 0 ≡ get_or (serial_bytes s) k 0
  unfolding card_bytes
  card_head k l = get_or-append (serial_bytes s) (fields_bytes f) 0 k (omega (arith, head_length))

  card_byte : (i r : ℕ) → i < 8 → r < 3 → get_or (card_bytes s f) (13 + 3 * i + r) 0 ≡ get_or (three_bytes (bits24 (get_or f i (pos 0)))) r 0
  unfolding card_bytes
  card_byte i r l m =
      let e : 13 + 3 * i + r ≡ length (serial_bytes s) + (3 * i + r) = omega (arith, head_length) in
      rw e (get_or-append-add (serial_bytes s) (fields_bytes f) (3 * i + r) 0 ∙ fields_byte f i r (omega (arith, eight)) m)

  three_is : (i : ℕ) → i < 8 → three_at (card_bytes s f) (13 + 3 * i) ≡ bits24 (get_or f i (pos 0))
  unfolding three_at three_bytes
  three_is i l =
      let n = bits24 (get_or f i (pos 0)) in
      let e : 13 + 3 * i + 0 ≡ 13 + 3 * i = omega arith in
      let b₀ : get_or (card_bytes s f) (13 + 3 * i) 0 ≡ n % 256 = ap (λ (k : ℕ). get_or (card_bytes s f) k 0) (sym e) ∙ card_byte i 0 l (omega arith) in
      let b₁ : get_or (card_bytes s f) (13 + 3 * i + 1) 0 ≡ n / 256 % 256 = card_byte i 1 l (omega arith) in
      let b₂ : get_or (card_bytes s f) (13 + 3 * i + 2) 0 ≡ n / 65536 % 256 = card_byte i 2 l (omega arith) in
      rw (b₀, b₁, b₂) (three_back n (bits_small (get_or f i (pos 0))))

  module _ (ok : (k : ℕ) → k < 8 → fits_field k (get_or f k (pos 0)) ≡ true) where
    pub field_back : (k : ℕ) → k < 8 → field_at (card_bytes s f) k ≡ get_or f k (pos 0)
    unfolding field_at
    field_back k l = rw (three_is k l) (value_back k (get_or f k (pos 0)) (value_in k (get_or f k (pos 0)) l (ok k l)))

    pub fields_fit : fields_ok (card_bytes s f) ≡ true
    unfolding fields_ok
    fields_fit = every_from _ 8 (λ k l. rw (field_back k l) (ok k l))

    -- the values come back, field for field, and the serial
    pub card_back : card_of (card_bytes s f) ≡ record { serial = s; fields = f }
    unfolding digits_at fields_at serial_bytes
    card_back =
        let len : get_or (card_bytes s f) 0 0 ≡ s.len = card_head 0 (omega arith) in
        let digits : digits_at (card_bytes s f) ≡ s.digits =
        tab_same _ (λ (k : ℕ). get_or s.digits k 0) 12 (λ k l. card_head (1 + k) (omega arith) ∙ rw one-add refl)
        ∙ tab_of s.digits 0 12 twelve in
        let fields : fields_at (card_bytes s f) ≡ f = tab_same (field_at (card_bytes s f)) (λ (k : ℕ). get_or f k (pos 0)) 8 field_back ∙ tab_of f (pos 0) 8 eight in
        λ i. record { serial = record { len = len i; digits = digits i }; fields = fields i }

-- ---- the card of a text and eight values in their ranges is a card
pub twelve_places : (t : List ℕ) → is_serial t ≡ true → length (serial_of t).digits ≡ 12
unfolding serial_of
twelve_places t ok = simp ok (length_padded t (serial_short t ok))

pub new_card : (t : List ℕ) (f : List ℤ) → is_serial t ≡ true → length f ≡ 8 → ((k : ℕ) → k < 8 → fits_field k (get_or f k (pos 0)) ≡ true) → is_card (card_bytes (serial_of t) f) ≡ true
new_card t f tok eight ok =
    let twelve = twelve_places t tok in
    both (both (eq-eqb _ _ (length_card (serial_of t) f twelve eight)) (bytes_hold t tok _ (card_head (serial_of t) f twelve eight))) (fields_fit (serial_of t) f twelve eight ok)

-- ---- from 37 bytes to the card and back
three_again : (x y z r : ℕ) → x < 256 → y < 256 → z < 256 → r < 3 → get_or (three_bytes (x + 256 * y + 65536 * z)) r 0 ≡ get_or (x ∷ y ∷ z ∷ []) r 0
unfolding three_bytes
three_again x y z zero a b c l = omega arith
three_again x y z (suc zero) a b c l = omega arith
three_again x y z (suc (suc zero)) a b c l = omega arith
three_again x y z (suc (suc (suc r))) a b c l = absurd (omega arith)

read_three : (c : List ℕ) (at r : ℕ) → r < 3 → get_or (get_or c at 0 ∷ get_or c (at + 1) 0 ∷ get_or c (at + 2) 0 ∷ []) r 0 ≡ get_or c (at + r) 0
read_three c at zero l = rw add-zero
read_three c at (suc zero) l = refl
read_three c at (suc (suc zero)) l = refl
read_three c at (suc (suc (suc r))) l = absurd (omega arith)

module _ (c : List ℕ) (whole : length c ≡ 37) (bytes : (k : ℕ) → get_or c k 0 < 256) where
  three_small : (at : ℕ) → three_at c at ≤ 16777215
  unfolding three_at
  three_small at = omega (arith, bytes at, bytes (at + 1), bytes (at + 2))

  again_field : (i r : ℕ) → i < 8 → r < 3 → get_or (three_bytes (bits24 (get_or (fields_at c) i (pos 0)))) r 0 ≡ get_or c (13 + 3 * i + r) 0
  unfolding fields_at field_at three_at
  again_field i r l m =
      let at = 13 + 3 * i in
      rw (tab_at (field_at c) (pos 0) 8 i l, bits_back i (three_at c at) (three_small at))
      (three_again (get_or c at 0) (get_or c (at + 1) 0) (get_or c (at + 2) 0) r (bytes at) (bytes (at + 1)) (bytes (at + 2)) m ∙ read_three c at r m)

  twelve_read : length (digits_at c) ≡ 12
  unfolding digits_at
  twelve_read = length_tab _ 12

  eight_read : length (fields_at c) ≡ 8
  unfolding fields_at
  eight_read = length_tab _ 8

  again_head : (k : ℕ) → k < 13 → get_or (serial_bytes (card_of c).serial) k 0 ≡ get_or c k 0
  unfolding serial_bytes digits_at
  again_head zero l = refl
  again_head (suc k) l = tab_at (λ (k : ℕ). get_or c (1 + k) 0) 0 12 k (omega arith) ∙ rw one-add refl

  pub bytes_again : card_bytes (card_of c).serial (card_of c).fields ≡ c
  bytes_again =
      let n = length_card (card_of c).serial (card_of c).fields twelve_read eight_read in
      ext_get_or 0 (card_bytes (card_of c).serial (card_of c).fields) c (n ∙ sym whole) (λ k l. by k (omega (arith, n)) (ltb k 13) refl)
    where
      by : (k : ℕ) → k < 37 → (b : Bool) → ltb k 13 ≡ b → get_or (card_bytes (card_of c).serial (card_of c).fields) k 0 ≡ get_or c k 0
      by k l true e =
          let h = ltb-true k 13 e in
          card_head (card_of c).serial (card_of c).fields twelve_read eight_read k h ∙ again_head k h
      by k l false e =
          let h = ltb-false k 13 e in
          let i = (k - 13) / 3 in
          let r = (k - 13) % 3 in
          let q : 13 + 3 * i + r ≡ k = omega arith in
          let f = card_byte (card_of c).serial (card_of c).fields twelve_read eight_read i r (omega arith) (omega arith) ∙ again_field i r (omega arith) (omega arith) in
          rw q at f
