-- Laws of the reply's bytes, put into a buffer piece by piece.
use Prim.Native.Nat.{ℕ, ◌+◌, ◌*◌, ◌≤◌, ◌<◌}
use mathlib.Core.Path.{◌≡◌, refl, sym, ap, ◌∙◌}
use mathlib.Core.List.{List, [], ◌∷◌, ◌++◌}
use native.Mathlib.Omega.{arith}
use lib.IntN.{ℤ, pos}
use lib.ListN.{length, get_or, take, length-append}
use lib.Seq.{length-take-le, take_all}
use Rattle.serial.specs.Places.{put, put_within}
use Rattle.serial.proofs.Places.{put_fits, put_more, put_none, length_put, front_put}
use Rattle.card.specs.Cards.{bits24, three_bytes, fields_bytes}
use Rattle.cardbytes.proofs.Cards.{three_length, fields_more}
use Rattle.packet.specs.Codes.{with_data}
use Rattle.packet.specs.Packets.{checksum}
use Rattle.packet.specs.Replies.{with_sum, values_reply}

-- three bytes a register
pub fields_length : (vs : List ℤ) → length (fields_bytes vs) ≡ 3 * length vs
unfolding fields_bytes
fields_length [] = refl
fields_length (v ∷ vs) = simp (length-append (three_bytes (bits24 v)) (fields_bytes vs), three_length (bits24 v), fields_length vs) (omega arith)

-- no register yet
pub registers_none : (b : List ℕ) → b ≡ put b 2 (fields_bytes [])
unfolding fields_bytes
registers_none b = sym (put_none b 2)

-- one register more
pub registers_more : (b c d : List ℕ) (vs : List ℤ) (k : ℕ) → k < length vs → 2 + 3 * length vs ≤ length b → length c ≡ length b → c ≡ put b 2 (fields_bytes (take k vs)) →
    d ≡ put_within c (2 + 3 * k) (three_bytes (bits24 (get_or vs k (pos 0)))) → d ≡ put b 2 (fields_bytes (take (k + 1) vs))
registers_more b c d vs k l room n e q =
    let xs = fields_bytes (take k vs) in
    let ys = three_bytes (bits24 (get_or vs k (pos 0))) in
    let m : length xs ≡ 3 * k = fields_length (take k vs) ∙ ap (λ (j : ℕ). 3 * j) (length-take-le k vs (omega arith)) in
    let three : length ys ≡ 3 = three_length (bits24 (get_or vs k (pos 0))) in
    q ∙ put_fits c ys (2 + 3 * k) (omega (arith, three, n))
    ∙ ap (λ (z : List ℕ). put z (2 + 3 * k) ys) e
    ∙ ap (λ (j : ℕ). put (put b 2 xs) (2 + j) ys) (sym m)
    ∙ put_more b xs ys 2 (omega (arith, m, three))
    ∙ ap (put b 2) (sym (fields_more vs k l))

pub registers_all : (b : List ℕ) (vs : List ℤ) (k : ℕ) → length vs ≤ k → put b 2 (fields_bytes (take k vs)) ≡ put b 2 (fields_bytes vs)
registers_all b vs k l = ap (λ (r : List ℤ). put b 2 (fields_bytes r)) (take_all k vs l)

-- the code and the count, the registers, and the sum of these
module _ (b : List ℕ) (vs : List ℤ) (room : 3 * length vs + 3 ≤ length b) where
  abbrev head : List ℕ
  head = with_data ∷ (3 * length vs + 3) ∷ []

  abbrev front : List ℕ
  front = head ++ fields_bytes vs

  long : length front ≡ 2 + 3 * length vs
  long = length-append head (fields_bytes vs) ∙ ap (λ (n : ℕ). 2 + n) (fields_length vs)

  pub front_is : (c d : List ℕ) → c ≡ put_within b 0 head → d ≡ put c 2 (fields_bytes vs) → d ≡ put b 0 front
  front_is c d e q =
      q ∙ ap (λ (z : List ℕ). put z 2 (fields_bytes vs)) (e ∙ put_fits b head 0 (omega arith))
      ∙ put_more b head (fields_bytes vs) 0 (omega (arith, fields_length vs))

  pub front_summed : (d : List ℕ) → d ≡ put b 0 front → take (3 * length vs + 2) d ≡ front
  front_summed d e =
      let n : 3 * length vs + 2 ≡ 0 + length front = omega (arith, long) in
      ap (λ (z : List ℕ). take (3 * length vs + 2) z) e ∙ ap (λ (j : ℕ). take j (put b 0 front)) n ∙ front_put b front 0 (omega (arith, long))

  pub reply_is : (d f : List ℕ) (sum : ℕ) → d ≡ put b 0 front → sum ≡ checksum front → f ≡ put_within d (3 * length vs + 2) (sum ∷ []) → f ≡ put b 0 (values_reply vs)
  unfolding values_reply with_sum
  reply_is d f sum e s q =
      let n : 3 * length vs + 2 ≡ 0 + length front = omega (arith, long) in
      let m : length d ≡ length b = ap length e ∙ length_put b front 0 (omega (arith, long)) in
      q ∙ put_fits d (sum ∷ []) (3 * length vs + 2) (omega (arith, m))
      ∙ ap (λ (z : List ℕ). put z (3 * length vs + 2) (sum ∷ [])) e
      ∙ ap (λ (j : ℕ). put (put b 0 front) j (sum ∷ [])) n
      ∙ put_more b front (sum ∷ []) 0 (omega (arith, long))
      ∙ ap (λ (s : ℕ). put b 0 (front ++ (s ∷ []))) s
