-- Sections of two books that agree: one that only moved, and one with an entry more.
use Prim.Native.Nat.{ℕ, suc, ◌+◌, ◌<◌}
use mathlib.Core.Path.{◌≡◌, refl, sym, ap, ◌∙◌}
use mathlib.Core.Bool.{Bool, true, false, cond, not, ◌&&◌}
use mathlib.Core.List.{List}
use native.Mathlib.Numerals.{add-one}
use native.Mathlib.Omega.{arith}
use lib.ListN.{take}
use lib.Dec.{ltb}
use borrow.Author.Tests.{ltb-true, ltb-false, lt-ltb, le-ltb, not-true}
use Rattle.serial.specs.Every.{every, first}
use Rattle.serial.proofs.Every.{every_at, every_from, every_same, every_more, first_at, first_same, first_suc, first_all, and_left, and_right, both}
use Rattle.serial.specs.Serials.{is_serial, serial_of, serial_bytes}
use Rattle.serial.proofs.Serials.{length_bytes, one_text}
use Rattle.section.specs.Sections.{Lies, entry_at, serial_at, entry_ok, entries_ok, same, fresh, distinct, section_ok, first_of, find_in, has}
use Rattle.section.proofs.Sections.{same_self, same_is, serial_first, section_lies, find_lies}
use Rattle.section.specs.declared.Kind.{Kind}
use Rattle.section.specs.declared.Section.{Section}

module _ (old new : List ℕ) (s s' : Section) (lie : Lies old s) (lie' : Lies new s') (kind : s'.kind ≡ s.kind) (agree : (k : ℕ) → k < s.count → entry_at new s' k ≡ entry_at old s k) where
  serials : (k : ℕ) → k < s.count → serial_at new s' k ≡ serial_at old s k
  serials k l = serial_first new s' k lie'.wide ∙ ap (take 13) (agree k l) ∙ sym (serial_first old s k lie.wide)

  entries_same : every (λ (k : ℕ). entry_ok s'.kind (entry_at new s' k)) s.count ≡ entries_ok old s
  unfolding entries_ok
  entries_same = every_same _ _ s.count (λ k l. ap (λ (n : Kind). entry_ok n (entry_at new s' k)) kind ∙ ap (entry_ok s.kind) (agree k l))

  distinct_same : every (fresh new s') s.count ≡ distinct old s
  unfolding distinct fresh
  distinct_same = every_same _ _ s.count (λ j l. every_same _ _ j (λ i m. rw (serials i (omega arith), serials j l) refl))

  first_kept : (x : List ℕ) → first (λ (k : ℕ). same (serial_at new s' k) x) s.count ≡ first_of old s x
  unfolding first_of
  first_kept x = first_same _ _ s.count (λ k l. ap (λ (y : List ℕ). same y x) (serials k l))

  -- a section that only moved
  module _ (count : s'.count ≡ s.count) where
    pub moved_section : section_ok new s' ≡ section_ok old s
    unfolding entries_ok distinct
    moved_section =
        section_lies new s' lie'
        ∙ ap (λ (n : ℕ). every (λ (k : ℕ). entry_ok s'.kind (entry_at new s' k)) n && every (fresh new s') n) count
        ∙ ap (λ (a : Bool). a && every (fresh new s') s.count) entries_same
        ∙ ap (λ (a : Bool). entries_ok old s && a) distinct_same
        ∙ sym (section_lies old s lie)

    pub moved_find : (t : List ℕ) → find_in new s' t ≡ find_in old s t
    unfolding first_of
    moved_find t =
        let x = serial_bytes (serial_of t) in
        find_lies new s' t lie' ∙ ap (first (λ (k : ℕ). same (serial_at new s' k) x)) count ∙ first_kept x ∙ sym (find_lies old s t lie)

    pub moved_has : (t : List ℕ) → has new s' t ≡ has old s t
    unfolding has
    moved_has t = ap (ltb (find_in new s' t)) count ∙ ap (λ (q : ℕ). ltb q s.count) (moved_find t)

  -- a section with one entry more, that of a serial that was not there
  module _ (count : s'.count ≡ s.count + 1) (t : List ℕ) (ok : is_serial t ≡ true) (none : has old s t ≡ false)
      (mine : serial_at new s' s.count ≡ serial_bytes (serial_of t)) where
    not_there : (k : ℕ) → k < s.count → same (serial_at old s k) (serial_bytes (serial_of t)) ≡ false
    unfolding has first_of
    not_there k l =
        not-true _ (every_at (λ (i : ℕ). not (same (serial_at old s i) (serial_bytes (serial_of t)))) s.count
        (first_all (λ (i : ℕ). same (serial_at old s i) (serial_bytes (serial_of t))) s.count (rw (find_lies old s t lie) at (ltb-false (find_in old s t) s.count none))) k l)

    fresh_last : fresh new s' s.count ≡ true
    unfolding fresh
    fresh_last = every_from _ s.count (λ i l. ap not (ap (λ (y : List ℕ). same (serial_at new s' i) y) mine ∙ ap (λ (y : List ℕ). same y (serial_bytes (serial_of t))) (serials i l) ∙ not_there i l))

    pub grown_section : entry_ok s.kind (entry_at new s' s.count) ≡ true → section_ok old s ≡ true → section_ok new s' ≡ true
    unfolding entries_ok distinct
    grown_section fit f =
        let h = sym (section_lies old s lie) ∙ f in
        section_lies new s' lie'
        ∙ ap (λ (n : ℕ). every (λ (k : ℕ). entry_ok s'.kind (entry_at new s' k)) n && every (fresh new s') n) count
        ∙ both (every_more _ s.count (entries_same ∙ and_left (entries_ok old s) (distinct old s) h) (ap (λ (n : Kind). entry_ok n (entry_at new s' s.count)) kind ∙ fit))
        (every_more (fresh new s') s.count (distinct_same ∙ and_right (entries_ok old s) (distinct old s) h) fresh_last)

    -- its serial is found there
    pub grown_find : find_in new s' t ≡ s.count
    unfolding first_of
    grown_find =
        find_lies new s' t lie'
        ∙ first_at (λ (k : ℕ). same (serial_at new s' k) (serial_bytes (serial_of t))) s'.count s.count (omega (arith, count))
        (every_from _ s.count (λ k l. ap not (ap (λ (y : List ℕ). same y (serial_bytes (serial_of t))) (serials k l) ∙ not_there k l)))
        (ap (λ (y : List ℕ). same y (serial_bytes (serial_of t))) mine ∙ same_self (serial_bytes (serial_of t)))

    pub grown_has : has new s' t ≡ true
    unfolding has
    grown_has = rw grown_find (lt-ltb s.count s'.count (omega (arith, count)))

    -- every other serial is where it was
    module _ (u : List ℕ) (oku : is_serial u ≡ true) (ne : u ≡ t → ⊥) where
      other : same (serial_at new s' s.count) (serial_bytes (serial_of u)) ≡ false
      other = ap (λ (y : List ℕ). same y (serial_bytes (serial_of u))) mine ∙ by (same (serial_bytes (serial_of t)) (serial_bytes (serial_of u))) refl
        where
          by : (b : Bool) → same (serial_bytes (serial_of t)) (serial_bytes (serial_of u)) ≡ b → same (serial_bytes (serial_of t)) (serial_bytes (serial_of u)) ≡ false
          by false e = e
          by true e = absurd (ne (sym (one_text t u ok oku (same_is _ _ (length_bytes t ok) (length_bytes u oku) e))))

      find_step : find_in new s' u ≡ cond (ltb (find_in old s u) s.count) (find_in old s u) (suc s.count)
      unfolding first_of
      find_step =
          find_lies new s' u lie'
          ∙ ap (first (λ (k : ℕ). same (serial_at new s' k) (serial_bytes (serial_of u)))) (count ∙ add-one s.count)
          ∙ first_suc (λ (k : ℕ). same (serial_at new s' k) (serial_bytes (serial_of u))) s.count other
          ∙ ap (λ (q : ℕ). cond (ltb q s.count) q (suc s.count)) (first_kept (serial_bytes (serial_of u)) ∙ sym (find_lies old s u lie))

      pub other_has : has new s' u ≡ has old s u
      unfolding has
      other_has = by (ltb (find_in old s u) s.count) refl
        where
          by : (b : Bool) → ltb (find_in old s u) s.count ≡ b → ltb (find_in new s' u) s'.count ≡ ltb (find_in old s u) s.count
          by true e =
              let h = ltb-true (find_in old s u) s.count e in
              simp (find_step, e) (lt-ltb (find_in old s u) s'.count (omega (arith, count)))
          by false e = simp (find_step, e) (le-ltb (suc s.count) s'.count (omega (arith, count)))

      pub other_find : has old s u ≡ true → find_in new s' u ≡ find_in old s u
      unfolding has
      other_find h = simp (find_step, h)
