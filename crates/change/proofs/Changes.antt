-- What one entry more does to the two sections of the book, for the cards and for the withdrawn serials.
use Prim.Native.Nat.{ℕ, ◌+◌, ◌-◌, ◌*◌, ◌/◌, ◌%◌, ◌≤◌, ◌<◌}
use mathlib.Core.Path.{◌≡◌, sym, ap, ◌∙◌}
use mathlib.Core.Bool.{true}
use mathlib.Core.List.{List}
use native.Mathlib.Omega.{arith}
use lib.ListN.{length, get_or}
use lib.Seq.{ext_get_or}
use borrow.Author.Tests.{le-leb, eq-eqb}
use Rattle.serial.proofs.Every.{both}
use Rattle.serial.specs.Places.{part}
use Rattle.serial.proofs.Places.{length_part, part_at, parts_same}
use Rattle.section.specs.Sections.{end_of, entry_at}
use Rattle.book.specs.Book.{count_at, cards, withdrawn, sized, Sized}
use Rattle.change.specs.Change.{count_bytes}
use Rattle.section.specs.declared.Section.{Section}
use Rattle.change.proofs.Entry.{Grown}

-- ---- whichever section it is
module _ (old new : List ℕ) (s : Section) (x : List ℕ) (g : Grown old new s x) (two : 2 ≤ s.base) (few : s.count < 65535) where
  -- the section's count is one up
  pub count_up : count_at new (s.base - 2) ≡ s.count + 1
  unfolding count_at count_bytes
  count_up =
      let n = s.count + 1 in
      let e : s.base - 2 - (s.base - 2) ≡ 0 = omega arith in
      let e' : s.base - 2 + 1 - (s.base - 2) ≡ 1 = omega arith in
      let c₀ : get_or new (s.base - 2) 0 ≡ n % 256 = g.number (s.base - 2) (omega arith) (omega arith) ∙ ap (λ (k : ℕ). get_or (count_bytes n) k 0) e in
      let c₁ : get_or new (s.base - 2 + 1) 0 ≡ n / 256 % 256 = g.number (s.base - 2 + 1) (omega arith) (omega arith) ∙ ap (λ (k : ℕ). get_or (count_bytes n) k 0) e' in
      omega (arith, c₀, c₁)

  -- the entry stands where the section ended
  pub last_part : end_of s ≤ length old → part new (end_of s) (length x) ≡ x
  last_part fits =
      let z = length_part new (end_of s) (length x) (omega (arith, g.longer)) in
      ext_get_or 0 (part new (end_of s) (length x)) x z
      (λ k l.
      let j : k < length x = omega (arith, z) in
      let e : end_of s + k - end_of s ≡ k = omega arith in
      part_at new (end_of s) (length x) k j ∙ g.entry (end_of s + k) (omega arith) (omega arith) ∙ ap (λ (i : ℕ). get_or x i 0) e)

  -- parts before the count, inside the section, and behind it
  pub before_part : (at n : ℕ) → at + n ≤ s.base - 2 → end_of s ≤ length old → part new at n ≡ part old at n
  before_part at n l fits = parts_same new old at at n (omega (arith, g.longer)) (omega arith) (λ k h. g.before (at + k) (omega arith))

  pub inside_part : (at n : ℕ) → s.base ≤ at → at + n ≤ end_of s → end_of s ≤ length old → part new at n ≡ part old at n
  inside_part at n l m fits = parts_same new old at at n (omega (arith, g.longer)) (omega arith) (λ k h. g.inside (at + k) (omega arith) (omega arith))

  pub behind_part : (at n : ℕ) → end_of s ≤ at → at + n ≤ length old → part new (at + length x) n ≡ part old at n
  behind_part at n l m =
      parts_same new old (at + length x) at n (omega (arith, g.longer)) m
      (λ k h.
      let e : at + length x + k - length x ≡ at + k = omega arith in
      g.behind (at + length x + k) (omega arith) ∙ ap (λ (i : ℕ). get_or old i 0) e)

-- ---- one card more
module _ (old new x : List ℕ) (g : Grown old new (cards old) x) (z : Sized old) (few : (cards old).count < 1024) (long : length x ≡ 37) where
  pub cards_count : (cards new).count ≡ (cards old).count + 1
  cards_count = count_up old new (cards old) x g (omega arith) (omega arith)

  pub withdrawn_base : (withdrawn new).base ≡ (withdrawn old).base + 37
  withdrawn_base = omega (arith, cards_count)

  pub withdrawn_count : (withdrawn new).count ≡ (withdrawn old).count
  unfolding count_at
  withdrawn_count =
      let at = end_of (cards old) in
      let e : end_of (cards new) ≡ at + 37 = omega (arith, cards_count) in
      let i : at + 37 - length x ≡ at = omega arith in
      let i' : at + 37 + 1 - length x ≡ at + 1 = omega arith in
      ap (λ (k : ℕ). get_or new k 0 + 256 * get_or new (k + 1) 0) e
      ∙ ap (λ (v : ℕ). v + 256 * get_or new (at + 37 + 1) 0) (g.behind (at + 37) (omega arith) ∙ ap (λ (k : ℕ). get_or old k 0) i)
      ∙ ap (λ (v : ℕ). get_or old at 0 + 256 * v) (g.behind (at + 37 + 1) (omega arith) ∙ ap (λ (k : ℕ). get_or old k 0) i')

  pub cards_agree : (k : ℕ) → k < (cards old).count → entry_at new (cards new) k ≡ entry_at old (cards old) k
  unfolding entry_at
  cards_agree k l = inside_part old new (cards old) x g (omega arith) (omega arith) (2 + k * 37) 37 (omega arith) (omega arith) (omega (arith, z.whole))

  pub card_last : entry_at new (cards new) (cards old).count ≡ x
  unfolding entry_at
  card_last = ap (part new (end_of (cards old))) (sym long) ∙ last_part old new (cards old) x g (omega arith) (omega arith) (omega (arith, z.whole))

  pub withdrawn_agree : (k : ℕ) → k < (withdrawn old).count → entry_at new (withdrawn new) k ≡ entry_at old (withdrawn old) k
  unfolding entry_at
  withdrawn_agree k l =
      let at = (withdrawn old).base + k * 13 in
      let e : (withdrawn new).base + k * 13 ≡ at + length x = omega (arith, withdrawn_base) in
      ap (λ (p : ℕ). part new p 13) e ∙ behind_part old new (cards old) x g (omega arith) (omega arith) at 13 (omega arith) (omega (arith, z.whole))

  pub sized_after : sized new ≡ true
  unfolding sized
  sized_after =
      both (both (le-leb (cards new).count 1024 (omega (arith, cards_count))) (le-leb (withdrawn new).count 512 (omega (arith, withdrawn_count, z.few_withdrawn))))
      (eq-eqb (length new) (end_of (withdrawn new)) (omega (arith, g.longer, z.whole, withdrawn_base, withdrawn_count)))

-- ---- one withdrawn serial more
module _ (old new x : List ℕ) (g : Grown old new (withdrawn old) x) (z : Sized old) (few : (withdrawn old).count < 512) (long : length x ≡ 13) where
  pub cards_count_kept : (cards new).count ≡ (cards old).count
  unfolding count_at
  cards_count_kept =
      ap (λ (v : ℕ). v + 256 * get_or new 1 0) (g.before 0 (omega arith)) ∙ ap (λ (v : ℕ). get_or old 0 0 + 256 * v) (g.before 1 (omega arith))

  withdrawn_base_kept : (withdrawn new).base ≡ (withdrawn old).base
  withdrawn_base_kept = omega (arith, cards_count_kept)

  pub withdrawn_more : (withdrawn new).count ≡ (withdrawn old).count + 1
  withdrawn_more =
      let e : end_of (cards new) ≡ (withdrawn old).base - 2 = omega (arith, cards_count_kept) in
      ap (count_at new) e ∙ count_up old new (withdrawn old) x g (omega arith) (omega arith)

  pub cards_kept : (k : ℕ) → k < (cards old).count → entry_at new (cards new) k ≡ entry_at old (cards old) k
  unfolding entry_at
  cards_kept k l = before_part old new (withdrawn old) x g (omega arith) (omega arith) (2 + k * 37) 37 (omega arith) (omega (arith, z.whole))

  pub withdrawn_kept : (k : ℕ) → k < (withdrawn old).count → entry_at new (withdrawn new) k ≡ entry_at old (withdrawn old) k
  unfolding entry_at
  withdrawn_kept k l =
      ap (λ (p : ℕ). part new (p + k * 13) 13) withdrawn_base_kept
      ∙ inside_part old new (withdrawn old) x g (omega arith) (omega arith) ((withdrawn old).base + k * 13) 13 (omega arith) (omega arith) (omega (arith, z.whole))

  pub serial_last : entry_at new (withdrawn new) (withdrawn old).count ≡ x
  unfolding entry_at
  serial_last =
      ap (λ (p : ℕ). part new (p + (withdrawn old).count * 13) 13) withdrawn_base_kept
      ∙ ap (part new (end_of (withdrawn old))) (sym long)
      ∙ last_part old new (withdrawn old) x g (omega arith) (omega arith) (omega (arith, z.whole))

  pub sized_withdrawn : sized new ≡ true
  unfolding sized
  sized_withdrawn =
      both (both (le-leb (cards new).count 1024 (omega (arith, cards_count_kept, z.few_cards))) (le-leb (withdrawn new).count 512 (omega (arith, withdrawn_more))))
      (eq-eqb (length new) (end_of (withdrawn new)) (omega (arith, g.longer, z.whole, withdrawn_base_kept, withdrawn_more)))
