-- Taking items one after another into a buffer. What was taken and the row behind it make up the whole row.
use Prim.Native.Nat.{ℕ, zero, suc, ◌+◌, ◌*◌, ◌^◌, ◌≤◌, ◌<◌, suc-le-suc}
use mathlib.Core.Path.{◌≡◌, refl, sym, ap, subst, ◌∙◌}
use mathlib.Core.Bool.{Bool, true, false, cond, ◌&&◌, false≢true}
use mathlib.Core.List.{List, [], ◌∷◌, ◌++◌, map, append_assoc, append-nil}
use native.Mathlib.Nat.{add_assoc}
use native.Mathlib.Numerals.{add-one}
use native.Mathlib.Omega.{arith}
use lib.IntN.{ℤ, pos, negsuc, nat_abs}
use lib.Dec.{T, ltb}
use lib.Signed.{le_z, non_neg}
use lib.ListN.{length, take, drop, get_or, set, take-append-drop, length-set, length-drop, drop_of_length-le}
use lib.Seq.{take-suc-set, drop-set-lt, drop-drop, drop-cons, length-take-le, take-append_seam}
use mir.Syntax.{w32}
use mir.Val.{SFits}
use borrow.Author.Tests.{leb-true, lt-ltb, le-leb, ltb-true, ne_eqb}
use Rattle.console.specs.declared.items.Row.{Row}
use Rattle.console.specs.declared.items.Next.{Next}
use Rattle.std.specs.Prelude.{Option, Some, None}
use Rattle.console.specs.declared.words.Kind.{Kind}
use Rattle.console.specs.declared.words.Kind.TheVariants as kind
use Rattle.console.specs.Texts.{begins_with, length_to}
use Rattle.console.specs.Numbers.{digit_of, at_digit, worth_behind, up_to, digits_of, positive, value_of, pair_of}
use Rattle.console.specs.Items.{between, worth_in, numbered, next_of, Numbers, none, before, row_of, several, packet_of, Filled}
use Rattle.console.proofs.TextLaws.{and_left, and_right, begins_within, to_within}

-- ---- an item takes no more bytes than there are
numbered_is : (v : Option ℤ) (b : ℕ) (i : Next) → numbered v b ≡ Some i → (v ≡ Some i.worth) × (i.taken ≡ b)
numbered_is (Some y) b i e =
    let q : ◌≡◌ {A = Next} (record { worth = y; taken = b }) i = cc in
    (ap (λ (j : Next). Some j.worth) q, sym (ap (λ (j : Next). j.taken) q))
numbered_is None b i e = let z : ◌≡◌ {A = ℕ} 0 1 = cc in absurd (omega arith)

-- an item that is worth a number stands behind a space
module _ (k : Kind) (t : List ℕ) (i : Next) where
  next_is : next_of k t ≡ Some i → (worth_in k (take (length_to 32 (drop 1 t)) (drop 1 t)) ≡ Some i.worth) × (i.taken ≤ length t)
  unfolding next_of
  next_is e = by (begins_with (32 ∷ []) t) refl e
    where
      by : (s : Bool) → begins_with (32 ∷ []) t ≡ s → cond s (numbered (worth_in k (take (length_to 32 (drop 1 t)) (drop 1 t))) (length_to 32 (drop 1 t) + 1)) None ≡ Some i →
          (worth_in k (take (length_to 32 (drop 1 t)) (drop 1 t)) ≡ Some i.worth) × (i.taken ≤ length t)
      by true s e =
          let h = numbered_is (worth_in k (take (length_to 32 (drop 1 t)) (drop 1 t))) (length_to 32 (drop 1 t) + 1) i e in
          (h.0, omega (arith, h.1, to_within 32 (drop 1 t), length-drop 1 t, begins_within (32 ∷ []) t s))
      by false s e = let z : ◌≡◌ {A = ℕ} 0 1 = cc in absurd (omega arith)

  pub next_within : next_of k t ≡ Some i → i.taken ≤ length t
  next_within e = (next_is e).1

-- an item behind a space, once it is found
module _ (k : Kind) (text item : List ℕ) (n : ℕ) (s : begins_with (32 ∷ []) text ≡ true) (i : item ≡ drop 1 text) (l : n ≡ length_to 32 item) where
  pub no_worth : worth_in k (take n item) ≡ None → None ≡ next_of k text
  unfolding next_of
  no_worth e = simp (s, ← i, ← l, e)

  pub some_worth : (x : ℤ) → worth_in k (take n item) ≡ Some x → Some (record { worth = x; taken = n + 1 }) ≡ next_of k text
  unfolding next_of
  some_worth x e = simp (s, ← i, ← l, e)

pub no_space : (k : Kind) (text : List ℕ) → begins_with (32 ∷ []) text ≡ false → None ≡ next_of k text
unfolding next_of
no_space k text e = simp e

-- ---- a number from one to another
module _ (low high x : ℤ) where
  is_between : (v : Option ℤ) → between low high v ≡ Some x → (le_z low x && le_z x high) ≡ true
  is_between (Some y) e = by (le_z low y && le_z y high) refl e
    where
      by : (s : Bool) → (le_z low y && le_z y high) ≡ s → cond s (Some y) None ≡ Some x → (le_z low x && le_z x high) ≡ true
      by true s e = let q : y ≡ x = cc in rw (← q) s
      by false s e = let z : ◌≡◌ {A = ℕ} 0 1 = cc in absurd (omega arith)
  is_between None e = let z : ◌≡◌ {A = ℕ} 0 1 = cc in absurd (omega arith)

-- a sample has 32 bits
small_fits : (x : ℤ) → (le_z (negsuc 2147483647) x && le_z x (pos 2147483647)) ≡ true → SFits w32 x
small_fits (pos n) h = record { sfits = omega (arith, leb-true n 2147483647 h) }
small_fits (negsuc n) h = record { sfits = omega (arith, leb-true n 2147483647 (and_left _ _ h)) }

pub sample_fits : (t : List ℕ) (i : Next) → next_of kind.Sample t ≡ Some i → SFits w32 i.worth
unfolding worth_in
sample_fits t i e =
    small_fits i.worth (is_between (negsuc 2147483647) (pos 2147483647) i.worth (value_of (take (length_to 32 (drop 1 t)) (drop 1 t))) (next_is kind.Sample t i e).0)

-- a room and a byte have eight
pub record Small (x : ℤ) : Type 0 where
  pub whole : x ≡ pos (nat_abs x)
  pub above : T (non_neg x)
  pub most : nat_abs x ≤ 255

small : (n : ℕ) → n ≤ 255 → Small (pos n)
small n h = record { whole = refl; above = tt; most = h }

few : (x : ℤ) → (le_z (pos 0) x && le_z x (pos 255)) ≡ true → Small x
few (pos n) h = small n (leb-true n 255 (and_right (le_z (pos 0) (pos n)) _ h))
few (negsuc n) h = absurd (false≢true h)

pub room_small : (t : List ℕ) (i : Next) → next_of kind.Room t ≡ Some i → Small i.worth
unfolding worth_in
room_small t i e = few i.worth (is_between (pos 0) (pos 255) i.worth (value_of (take (length_to 32 (drop 1 t)) (drop 1 t))) (next_is kind.Room t i e).0)

-- two digits, the second's worth behind the first's
module _ (x : ℤ) (d : ℕ) where
  below_256 : (f : ℕ) → ltb d 16 ≡ true → (t : Bool) → ltb f 16 ≡ t → positive (up_to (2 ^ 63) (cond t (Some ((0 * 16 + d) * 16 + f)) None)) ≡ Some x → Small x
  unfolding positive
  below_256 f q true r e =
      let n = (0 * 16 + d) * 16 + f in
      let l : n ≤ 255 = omega (arith, ltb-true d 16 q, ltb-true f 16 r) in
      let h = rw (le-leb n (2 ^ 63) (omega arith), lt-ltb n (2 ^ 63) (omega arith)) at e in
      let p : pos n ≡ x = cc h in
      rw (← p) (small n l)
  below_256 f q false r e = let z : ◌≡◌ {A = ℕ} 0 1 = cc in absurd (omega arith)

  behind_first : (s : Bool) → ltb d 16 ≡ s → (p : Option ℕ) →
      positive (up_to (2 ^ 63) (cond s (at_digit 16 p (λ f. Some ((0 * 16 + d) * 16 + f))) None)) ≡ Some x → Small x
  unfolding positive
  behind_first true q (Some f) e = below_256 f q (ltb f 16) refl e
  behind_first true q None e = let z : ◌≡◌ {A = ℕ} 0 1 = cc in absurd (omega arith)
  behind_first false q p e = let z : ◌≡◌ {A = ℕ} 0 1 = cc in absurd (omega arith)

two_digits : (a b : ℕ) (x : ℤ) → positive (digits_of 16 (a ∷ b ∷ [])) ≡ Some x → Small x
unfolding digits_of worth_behind positive
two_digits a b x e = by (digit_of a) e
  where
    by : (o : Option ℕ) → positive (up_to (2 ^ 63) (at_digit 16 o (λ d. at_digit 16 (digit_of b) (λ f. Some ((0 * 16 + d) * 16 + f))))) ≡ Some x → Small x
    by (Some d) e = behind_first x d (ltb d 16) refl (digit_of b) e
    by None e = let z : ◌≡◌ {A = ℕ} 0 1 = cc in absurd (omega arith)

pair_small : (item : List ℕ) (x : ℤ) → pair_of item ≡ Some x → Small x
unfolding pair_of
pair_small [] x e = let z : ◌≡◌ {A = ℕ} 0 1 = cc in absurd (omega arith)
pair_small (a ∷ []) x e = let z : ◌≡◌ {A = ℕ} 0 1 = cc in absurd (omega arith)
pair_small (a ∷ b ∷ []) x e = two_digits a b x e
pair_small (a ∷ b ∷ c ∷ cs) x e =
    let h = rw (ne_eqb (length (a ∷ b ∷ c ∷ cs)) 2 (λ l. omega arith)) at e in
    let z : ◌≡◌ {A = ℕ} 0 1 = cc h in
    absurd (omega arith)

pub byte_small : (t : List ℕ) (i : Next) → next_of kind.Byte t ≡ Some i → Small i.worth
unfolding worth_in
byte_small t i e = pair_small (take (length_to 32 (drop 1 t)) (drop 1 t)) i.worth (next_is kind.Byte t i e).0

-- ---- so many of one kind
module _ (k : Kind) where
  pub several_long : (n : ℕ) → length (several k n) ≡ n
  unfolding several
  several_long zero = refl
  several_long (suc n) = ap suc (several_long n)

  pub all_alike : (n i : ℕ) → get_or (several k n) i k ≡ k
  unfolding several
  all_alike zero i = refl
  all_alike (suc n) zero = refl
  all_alike (suc n) (suc i) = all_alike n i

-- ---- the loop
-- a step that has no more items
pub full : (ks : List Kind) (count : ℕ) (t : List ℕ) → length ks ≤ count → row_of (drop count ks) t ≡ none
unfolding row_of
full ks count t h = rw (drop_of_length-le ks) refl

module _ (ks : List Kind) (text : List ℕ) (was : List ℤ) where
  pub record Going (into : List ℤ) (count at : ℕ) : Type 0 where
    pub inside : at ≤ length text
    pub room : count ≤ length ks
    pub long : length ks ≤ length into
    pub values : take count into ++ (row_of (drop count ks) (drop at text)).values ≡ (row_of ks text).values
    pub bytes : at + (row_of (drop count ks) (drop at text)).bytes ≡ (row_of ks text).bytes
    pub behind : drop count into ≡ drop count was

  pub begun : length ks ≤ length was → Going was 0 0
  begun l = record { inside = omega arith; room = omega arith; long = l; values = refl; bytes = omega arith; behind = refl }

  -- one more
  module _ (d : Kind) (into : List ℤ) (count at : ℕ) (g : Going into count at) (h : count < length ks) where
    row_next : row_of (drop count ks) (drop at text) ≡ before (next_of (get_or ks count d) (drop at text)) (λ n. row_of (drop (count + 1) ks) (drop n (drop at text)))
    unfolding row_of
    row_next = rw (drop-cons ks count d, add-one) refl

    module _ (i : Next) (e : next_of (get_or ks count d) (drop at text) ≡ Some i) where
      turn : row_of (drop count ks) (drop at text)
          ≡ record { values = i.worth ∷ (row_of (drop (count + 1) ks) (drop (at + i.taken) text)).values; bytes = i.taken + (row_of (drop (count + 1) ks) (drop (at + i.taken) text)).bytes }
      turn = rw (row_next, e, drop-drop) refl

      pub further : Going (set into count i.worth) (count + 1) (at + i.taken)
      further =
          let l : count < length into = omega (arith, g.long) in
          record {
            inside = omega (arith, length-drop at text, g.inside, next_within (get_or ks count d) (drop at text) i e);
            room = omega arith;
            long = simp length-set g.long;
            values = rw (add-one, take-suc-set) (rw (append_assoc, ← add-one) (ap (λ (r : Numbers). take count into ++ r.values) (sym turn) ∙ g.values));
            bytes = rw add_assoc (ap (λ (r : Numbers). at + r.bytes) (sym turn) ∙ g.bytes);
            behind = drop-set-lt (count + 1) into count i.worth (omega arith) ∙ sym (drop-drop 1 count into) ∙ ap (drop 1) g.behind ∙ drop-drop 1 count was;
          }

    pub another : next_of (get_or ks count d) (drop at text) ≡ None → row_of (drop count ks) (drop at text) ≡ none
    another e = rw (row_next, e) refl

  -- no more
  pub ended : (into : List ℤ) (count at : ℕ) → Going into count at → row_of (drop count ks) (drop at text) ≡ none → Filled (record { count = count; taken = at }) was into (row_of ks text)
  ended into count at g e =
      let v : (row_of ks text).values ≡ take count into = sym g.values ∙ ap (λ (r : Numbers). take count into ++ r.values) e ∙ append-nil (take count into) in
      let l : length (take count into) ≡ count = length-take-le count into (omega (arith, g.long, g.room)) in
      record {
        count = sym (ap length v ∙ l);
        bytes = omega (arith, g.bytes, ap (λ (r : Numbers). r.bytes) e);
        values = rw (v, l) (sym (take-append-drop count into) ∙ ap (λ (b : List ℤ). take count into ++ b) g.behind);
      }

  pub ended_full : (into : List ℤ) (count at n : ℕ) → count ≡ n → Going into count at → row_of (drop count ks) (drop at text) ≡ none → Filled (record { count = n; taken = at }) was into (row_of ks text)
  ended_full into count at n q g e = subst (λ (k : ℕ). Filled (record { count = k; taken = at }) was into (row_of ks text)) q (ended into count at g e)

-- the numbers, taken out of the buffer
pub taken_out : (r : Row) (was buffer : List ℤ) (row : Numbers) → Filled r was buffer row → take r.count buffer ≡ row.values
taken_out r was buffer row f = rw (f.count, f.values) (take-append_seam row.values (drop (length row.values) was))

-- the same of bytes
set_bytes : (b : List ℕ) (k n : ℕ) → set (map pos b) k (pos n) ≡ map pos (set b k n)
set_bytes [] k n = refl
set_bytes (x ∷ b) zero n = refl
set_bytes (x ∷ b) (suc k) n = ap (λ (l : List ℤ). pos x ∷ l) (set_bytes b k n)

pub byte_set : (b : List ℕ) (k : ℕ) (x : ℤ) → Small x → set (map pos b) k x ≡ map pos (set b k (nat_abs x))
byte_set b k x s = ap (set (map pos b) k) s.whole ∙ set_bytes b k (nat_abs x)

sizes : (n : ℕ) (b : List ℕ) → map nat_abs (take n (map pos b)) ≡ take n b
sizes zero b = refl
sizes (suc n) [] = refl
sizes (suc n) (x ∷ b) = ap (λ (l : List ℕ). x ∷ l) (sizes n b)

pub packet_out : (r : Row) (was : List ℤ) (buffer : List ℕ) (row : Numbers) → Filled r was (map pos buffer) row → take r.count buffer ≡ packet_of row
packet_out r was buffer row f = sym (sizes r.count buffer) ∙ ap (map nat_abs) (taken_out r was (map pos buffer) row f)

-- ---- a row has no more items than it may, and takes no more bytes than there are
pub row_count : (ks : List Kind) (t : List ℕ) → length (row_of ks t).values ≤ length ks
unfolding row_of
row_count [] t = omega arith
row_count (k ∷ ks) t = by (λ (n : ℕ). row_count ks (drop n t)) (next_of k t)
  where
    by : ((n : ℕ) → length (row_of ks (drop n t)).values ≤ length ks) → (m : Option Next) → length (before m (λ n. row_of ks (drop n t))).values ≤ suc (length ks)
    by h (Some i) = suc-le-suc (h i.taken)
    by h None = omega arith

pub row_within : (ks : List Kind) (t : List ℕ) → (row_of ks t).bytes ≤ length t
unfolding row_of
row_within [] t = omega arith
row_within (k ∷ ks) t = by (λ (n : ℕ). row_within ks (drop n t)) (next_of k t) refl
  where
    by : ((n : ℕ) → (row_of ks (drop n t)).bytes ≤ length (drop n t)) → (m : Option Next) → next_of k t ≡ m → (before m (λ n. row_of ks (drop n t))).bytes ≤ length t
    by h (Some i) e = omega (arith, h i.taken, length-drop i.taken t, next_within k t i e)
    by h None e = omega arith
