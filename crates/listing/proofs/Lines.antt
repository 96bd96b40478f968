-- Laws of a line that is put together piece by piece.
use Prim.Native.Nat.{ℕ, zero, suc, ◌+◌, ◌-◌, ◌≤◌, ◌<◌, min}
use mathlib.Core.Path.{◌≡◌, refl, sym, ap, ◌∙◌}
use mathlib.Core.List.{List, [], ◌∷◌, ◌++◌, append_assoc, append-nil}
use native.Mathlib.Nat.{not-suc-le-zero, le_of_suc-le-suc, add-zero}
use native.Mathlib.Numerals.{add-one}
use native.Mathlib.Omega.{arith}
use lib.IntN.{ℤ, pos}
use lib.ListN.{length, get_or, take, length-append, length-take, length-drop}
use mir.Syntax.{w64}
use mir.Val.{to_z}
use mir.Facts.{to_z_pos}
use Rattle.serial.specs.Places.{part, put}
use Rattle.serial.proofs.Places.{put_none, put_more, length_put, front_put}
use Rattle.serial.specs.Serials.{text_of}
use Rattle.decimal.specs.Decimals.{decimal, signed_decimal}
use Rattle.listing.specs.Lines.{fields_text}
use Rattle.listing.specs.Buffer.{Made}
use Rattle.decimal.proofs.Digits.{limit, at_most}

pub made_none : (l : List ℕ) (from : ℕ) → Made l l from from []
made_none l from = record { line = sym (put_none l from); place = sym (add-zero from) }

-- a text put right behind another
pub made_more : (l₀ l l' : List ℕ) (from at at' : ℕ) (text xs : List ℕ) → Made l₀ l from at text → Made l l' at at' xs → from + length text + length xs ≤ length l₀
    → Made l₀ l' from at' (text ++ xs)
made_more l₀ l l' from at at' text xs m h fits =
    record {
      line =
          h.line ∙ ap (λ (r : List ℕ). put r at xs) m.line ∙ ap (λ (k : ℕ). put (put l₀ from text) k xs) m.place
          ∙ put_more l₀ text xs from fits;
      place = simp length-append (omega (arith, h.place, m.place));
    }

-- the buffer keeps its length
pub made_length : (l₀ l : List ℕ) (from at : ℕ) (text : List ℕ) → Made l₀ l from at text → at ≤ length l₀ → length l ≡ length l₀
made_length l₀ l from at text m h = ap length m.line ∙ length_put l₀ text from (omega (arith, m.place))

-- a buffer that a text fitted into was as long before
pub made_in : (l₀ l : List ℕ) (from at : ℕ) (text : List ℕ) → Made l₀ l from at text → length l ≡ 205852 → at < 205852 → length l₀ ≡ 205852
unfolding put
made_in l₀ l from at text m z h =
    let e : min from (length l₀) + length text + (length l₀ - (from + length text)) ≡ 205852 =
    sym (simp (length-append, length-take, length-drop) refl) ∙ ap length (sym m.line) ∙ z in
    omega (arith, m.place)

-- what a caller finds at the start of the buffer: the text, whole
pub out_within : (l₀ l text : List ℕ) (n : ℕ) → (n ≡ length text) × (l ≡ put l₀ 0 text) → n ≤ length l₀ → n ≤ length l
out_within l₀ l text n h room = rw (h.1, length_put l₀ text 0 (omega (arith, h.0))) room

pub taken_out : (l₀ l text : List ℕ) (n : ℕ) → (n ≡ length text) × (l ≡ put l₀ 0 text) → n ≤ length l₀ → take n l ≡ text
taken_out l₀ l text n h room =
    let z : n ≡ 0 + length text = omega (arith, h.0) in
    ap (λ (k : ℕ). take k l) z ∙ ap (take (0 + length text)) h.1 ∙ front_put l₀ text 0 (omega (arith, h.0))

-- a count, cast to a signed number
pub count_text : (n : ℕ) → n ≤ 65535 → signed_decimal (to_z w64 n) ≡ decimal n
unfolding signed_decimal
count_text n l = rw (to_z_pos w64 {n = n} (omega arith)) refl

pub count_short : (n : ℕ) → n ≤ 65535 → length (decimal n) ≤ 5
unfolding limit
count_short n l = at_most 4 n (omega arith)

-- ---- lengths
pub text_short : (e : List ℕ) (n : ℕ) → length e ≤ n → length (text_of e) ≤ n
unfolding text_of
text_short e n l = simp (length-take, length-drop) (omega arith)

pub part_short : (b : List ℕ) (at n : ℕ) → length (part b at n) ≤ n
unfolding part
part_short b at n = simp length-take (omega arith)

-- ---- the fields, one more
fields_more : (f : List ℤ) (i : ℕ) → i < length f → fields_text (take (suc i) f) ≡ fields_text (take i f) ++ (32 ∷ signed_decimal (get_or f i (pos 0)))
unfolding fields_text
fields_more [] i l = absurd (not-suc-le-zero l)
fields_more (v ∷ vs) zero l = append-nil (32 ∷ signed_decimal v)
fields_more (v ∷ vs) (suc i) l = rw (fields_more vs i (le_of_suc-le-suc l)) (sym (append_assoc (32 ∷ signed_decimal v) (fields_text (take i vs)) (32 ∷ signed_decimal (get_or vs i (pos 0)))))

-- a turn of the loop that writes the fields: a space, and the number
pub fields_turn : (l₀ l l₁ l₂ : List ℕ) (from at a b : ℕ) (f : List ℤ) (i : ℕ) → i < length f → at + 12 ≤ length l₀ → length (signed_decimal (get_or f i (pos 0))) ≤ 11
    → Made l₀ l from at (fields_text (take i f)) → Made l l₁ at a (32 ∷ []) → Made l₁ l₂ a b (signed_decimal (get_or f i (pos 0)))
    → Made l₀ l₂ from b (fields_text (take (i + 1) f))
fields_turn l₀ l l₁ l₂ from at a b f i h room short m p q =
    let v = get_or f i (pos 0) in
    let e : fields_text (take (i + 1) f) ≡ (fields_text (take i f) ++ (32 ∷ [])) ++ signed_decimal v =
    ap (λ (k : ℕ). fields_text (take k f)) (add-one i) ∙ fields_more f i h ∙ sym (append_assoc (fields_text (take i f)) (32 ∷ []) (signed_decimal v)) in
    rw e
    (made_more l₀ l₁ l₂ from a b (fields_text (take i f) ++ (32 ∷ [])) (signed_decimal v)
    (made_more l₀ l l₁ from at a (fields_text (take i f)) (32 ∷ []) m p (omega (arith, m.place))) q
    (omega (arith, length-append (fields_text (take i f)) (32 ∷ []), m.place)))
