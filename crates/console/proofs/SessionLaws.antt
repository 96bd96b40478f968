-- Laws of a talk: a line's end, a line's bytes in several parts, and the whole in several reads.
use Prim.Native.Nat.{ℕ, zero, suc, ◌+◌, ◌-◌, ◌≤◌, ◌<◌, min}
use mathlib.Core.Path.{◌≡◌, refl, sym, ap, ◌∙◌}
use mathlib.Core.Bool.{Bool, true, false, not, cond}
use mathlib.Core.List.{List, [], ◌∷◌, ◌++◌, append_assoc, append-nil}
use native.Mathlib.Nat.{not-suc-le-zero, add-sub_cancel_left}
use native.Mathlib.Numerals.{add-one}
use native.Mathlib.Omega.{arith}
use lib.Dec.{T, eqb, leb, leb→le, nleb→lt}
use lib.ListN.{length, get_or, take, drop, length-take, length-drop, length-append}
use lib.Seq.{take_all, take-append-le, take-append-add, take-take, length-take-le, drop-cons, drop-drop, get_or-drop}
use Rattle.serial.specs.Places.{put}
use Rattle.serial.proofs.Places.{front_put}
use Rattle.aberzhan.specs.declared.Module.{Module}
use Rattle.console.specs.Texts.{length_to, without_return}
use Rattle.console.specs.Answers.{answer_text}
use Rattle.console.specs.Session.{Talk, silent, line_turn, ended, keeping, talked, begin, answers_to, OneTalk}

-- ---- a line that has no answer
-- ---- a line's end
-- what is cut off a line that ends with a carriage return
pub cut_return : (line : List ℕ) → take (length (without_return line)) line ≡ without_return line
unfolding without_return
cut_return line = by (eqb (get_or line (length line - 1) 0) 13)
  where
    by : (x : Bool) → take (length (cond x (take (length line - 1) line) line)) line ≡ cond x (take (length line - 1) line) line
    by true = ap (λ (n : ℕ). take n line) (length-take-le (length line - 1) line (omega arith))
    by false = take_all (length line) line (omega arith)

pub return_within : (line : List ℕ) → length (without_return line) ≤ length line
unfolding without_return
return_within line = by (eqb (get_or line (length line - 1) 0) 13)
  where
    by : (x : Bool) → length (cond x (take (length line - 1) line) line) ≤ length line
    by true = simp length-take (omega arith)
    by false = omega arith

-- the line among the k bytes that are kept
pub line_kept : (line : List ℕ) (k n : ℕ) → n ≡ length (without_return (take k line)) → take n line ≡ without_return (take k line)
line_kept line k n e =
    let l : n ≤ k = omega (arith, e, return_within (take k line), simp length-take at (return_within (take k line)), length-take k line) in
    sym (take-take n k line l) ∙ ap (λ (j : ℕ). take j (take k line)) e ∙ cut_return (take k line)

pub ends_silent : (t : Talk) → silent (without_return t.kept) ≡ true → ended t ≡ record { state = t.state; kept = []; said = t.said }
unfolding ended
ends_silent t e = rw e refl

pub ends_answered : (t : Talk) → silent (without_return t.kept) ≡ false →
    ended t ≡ record { state = (line_turn t.state (without_return t.kept)).after; kept = []; said = t.said ++ answer_text (line_turn t.state (without_return t.kept)) }
unfolding ended
ends_answered t e = rw e refl

-- ---- a line's bytes
keep_again : (m : ℕ) (xs ys : List ℕ) → take m (take m xs ++ ys) ≡ take m (xs ++ ys)
keep_again m xs ys = go (leb (length xs) m) (leb→le (length xs) m) (nleb→lt (length xs) m)
  where
    go : (t : Bool) → (T t → length xs ≤ m) → (T (not t) → m < length xs) → take m (take m xs ++ ys) ≡ take m (xs ++ ys)
    go true f g = ap (λ (l : List ℕ). take m (l ++ ys)) (take_all m xs (f tt))
    go false f g =
        take-append-le m (take m xs) ys (simp length-take (omega (arith, g tt))) ∙ take-take m m xs (omega arith)
        ∙ sym (take-append-le m xs ys (omega (arith, g tt)))

keeping_none : (t : Talk) → length t.kept ≤ 131073 → keeping t [] ≡ t
unfolding keeping
keeping_none t l = ap (λ (k : List ℕ). record { state = t.state; kept = k; said = t.said }) (ap (take 131073) (append-nil t.kept) ∙ take_all 131073 t.kept l)

keeping_more : (t : Talk) (c : ℕ) (cs : List ℕ) → keeping (keeping t (c ∷ [])) cs ≡ keeping t (c ∷ cs)
unfolding keeping
keeping_more t c cs =
    ap (λ (k : List ℕ). record { state = t.state; kept = k; said = t.said })
    (keep_again 131073 (t.kept ++ (c ∷ [])) cs ∙ ap (take 131073) (append_assoc t.kept (c ∷ []) cs))

kept_short : (t : Talk) (bytes : List ℕ) → length (keeping t bytes).kept ≤ 131073
unfolding keeping
kept_short t bytes = simp length-take (omega arith)

-- bytes before the next line feed are kept
no_feed : (c : ℕ) (cs : List ℕ) (n : ℕ) → suc n ≤ length_to 10 (c ∷ cs) → (eqb c 10 ≡ false) × (n ≤ length_to 10 cs)
unfolding length_to
no_feed c cs n h = go (eqb c 10) h
  where
    go : (t : Bool) → suc n ≤ cond t 0 (suc (length_to 10 cs)) → (t ≡ false) × (n ≤ length_to 10 cs)
    go true l = absurd (not-suc-le-zero l)
    go false l = (refl, omega arith)

pub talk_keeps : (n : ℕ) (cs : List ℕ) (t : Talk) → length t.kept ≤ 131073 → n ≤ length_to 10 cs → talked t cs ≡ talked (keeping t (take n cs)) (drop n cs)
unfolding talked
talk_keeps zero cs t l h = ap (λ (u : Talk). talked u cs) (sym (keeping_none t l))
talk_keeps (suc n) [] t l h = ap (λ (u : Talk). talked u []) (sym (keeping_none t l))
talk_keeps (suc n) (c ∷ cs) t l h =
    let f = no_feed c cs n h in
    ap (λ (x : Bool). talked (cond x (ended t) (keeping t (c ∷ []))) cs) f.0
    ∙ talk_keeps n cs (keeping t (c ∷ [])) (kept_short t (c ∷ [])) f.1
    ∙ ap (λ (u : Talk). talked u (drop n cs)) (keeping_more t c (take n cs))

-- a line feed ends the line
pub at_feed : (cs : List ℕ) → length_to 10 cs < length cs → get_or cs (length_to 10 cs) 0 ≡ 10
unfolding length_to
at_feed [] h = absurd (not-suc-le-zero h)
at_feed (c ∷ cs) h = go (eqb c 10) refl h (at_feed cs)
  where
    go : (t : Bool) → eqb c 10 ≡ t → cond t 0 (suc (length_to 10 cs)) < suc (length cs) → (length_to 10 cs < length cs → get_or cs (length_to 10 cs) 0 ≡ 10)
        → get_or (c ∷ cs) (cond t 0 (suc (length_to 10 cs))) 0 ≡ 10
    go true e l r = lib.Dec.eqb→eq c 10 (rw e tt)
    go false e l r = r (omega arith)

pub talk_ends : (t : Talk) (cs : List ℕ) → talked t (10 ∷ cs) ≡ talked (ended t) cs
unfolding talked
talk_ends t cs = refl

-- ---- the whole, in several reads
cut : (t : Talk) (xs ys : List ℕ) → talked t (xs ++ ys) ≡ talked (talked t xs) ys
unfolding talked
cut t [] ys = refl
cut t (x ∷ xs) ys = cut (cond (eqb x 10) (ended t) (keeping t (x ∷ []))) xs ys

-- answers that were said before stand before
abbrev behind : List ℕ → Talk → Talk
behind p t = record { state = t.state; kept = t.kept; said = p ++ t.said }

ended_cases : (x : Bool) (p : List ℕ) (t : Talk) (m : Module) (answer : List ℕ) →
    cond x (record { state = t.state; kept = []; said = p ++ t.said }) (record { state = m; kept = []; said = (p ++ t.said) ++ answer })
    ≡ behind p (cond x (record { state = t.state; kept = []; said = t.said }) (record { state = m; kept = []; said = t.said ++ answer }))
ended_cases true p t m answer = refl
ended_cases false p t m answer = ap (λ (l : List ℕ). record { state = m; kept = []; said = l }) (append_assoc p t.said answer)

ended_behind : (p : List ℕ) (t : Talk) → ended (behind p t) ≡ behind p (ended t)
unfolding ended
ended_behind p t =
    let line = without_return t.kept in
    ended_cases (silent line) p t (line_turn t.state line).after (answer_text (line_turn t.state line))

byte_behind : (x : Bool) (p : List ℕ) (t : Talk) (c : ℕ) → cond x (ended (behind p t)) (keeping (behind p t) (c ∷ [])) ≡ behind p (cond x (ended t) (keeping t (c ∷ [])))
unfolding keeping
byte_behind true p t c = ended_behind p t
byte_behind false p t c = refl

talked_behind : (t : Talk) (p cs : List ℕ) → talked (behind p t) cs ≡ behind p (talked t cs)
unfolding talked
talked_behind t p [] = refl
talked_behind t p (c ∷ cs) = ap (λ (u : Talk). talked u cs) (byte_behind (eqb c 10) p t c) ∙ talked_behind (cond (eqb c 10) (ended t) (keeping t (c ∷ []))) p cs

in_parts : (xs ys : List ℕ) →
    let t = talked begin xs in
    answers_to (xs ++ ys) ≡ t.said ++ (ended (talked (record { state = t.state; kept = t.kept; said = [] }) ys)).said
unfolding answers_to
in_parts xs ys =
    let t = talked begin xs in
    let w : Talk = record { state = t.state; kept = t.kept; said = [] } in
    ap (λ (u : Talk). (ended u).said)
    (cut begin xs ys ∙ ap (λ (l : List ℕ). talked (record { state = t.state; kept = t.kept; said = l }) ys) (sym (append-nil t.said)) ∙ talked_behind w t.said ys)
    ∙ ap (λ (u : Talk). u.said) (ended_behind t.said (talked w ys))

pub one_talk : OneTalk
one_talk = record { cut_anywhere = cut; written_first = talked_behind; answers_in_parts = in_parts }

-- ---- the buffers
-- more bytes of a line put behind those that are kept: all, or as many as have room
keeps_all : (line part : List ℕ) (kept : ℕ) → kept + length part ≤ length line → take (kept + length part) (put line kept part) ≡ take (length line) (take kept line ++ part)
keeps_all line part kept l = front_put line part kept l ∙ sym (take_all (length line) (take kept line ++ part) (simp (length-append, length-take) (omega arith)))

keeps_some : (line part : List ℕ) (kept : ℕ) → kept ≤ length line → length line - kept ≤ length part →
    take (length line) (put line kept (take (length line - kept) part)) ≡ take (length line) (take kept line ++ part)
keeps_some line part kept l h =
    let xs = take (length line - kept) part in
    let z : length xs ≡ length line - kept = length-take-le (length line - kept) part h in
    let y : length (take kept line) ≡ kept = length-take-le kept line l in
    let e : kept + length xs ≡ length line = omega (arith, z) in
    let f : length (take kept line) + (length line - kept) ≡ length line = omega (arith, y) in
    rw e at (front_put line xs kept (omega (arith, z))) ∙ sym (rw f at (take-append-add (take kept line) part (length line - kept)))

pub keeps : (line part : List ℕ) (kept n : ℕ) → kept ≤ length line → n ≡ min (length part) (length line - kept) →
    take (kept + n) (put line kept (take n part)) ≡ take (length line) (take kept line ++ part)
keeps line part kept n l e = go (leb (length part) (length line - kept)) (leb→le (length part) (length line - kept)) (nleb→lt (length part) (length line - kept))
  where
    go : (t : Bool) → (T t → length part ≤ length line - kept) → (T (not t) → length line - kept < length part) →
        take (kept + n) (put line kept (take n part)) ≡ take (length line) (take kept line ++ part)
    go true f g =
        let h = f tt in
        let q : n ≡ length part = omega arith in
        rw (q, take_all (length part) part (omega arith)) (keeps_all line part kept (omega arith))
    go false f g =
        let h = g tt in
        let q : n ≡ length line - kept = omega arith in
        let r : kept + (length line - kept) ≡ length line = omega arith in
        rw (q, r) (keeps_some line part kept l (omega arith))

-- a line's bytes up to the next line feed
module _ (part : List ℕ) (at r : ℕ) (feed : r ≡ length_to 10 (drop at part)) where
  pub turn_keeps : (t : Talk) → length t.kept ≤ 131073 → talked t (drop at part) ≡ talked (keeping t (take r (drop at part))) (drop (at + r) part)
  turn_keeps t l =
      talk_keeps r (drop at part) t l (omega (arith, feed)) ∙ ap (talked (keeping t (take r (drop at part)))) (drop-drop r at part)

  turn_ends : (t : Talk) → at + r < length part → talked t (drop (at + r) part) ≡ talked (ended t) (drop (at + r + 1) part)
  turn_ends t h =
      let g : get_or part (at + r) 0 ≡ 10 =
      sym (get_or-drop at part r 0) ∙ ap (λ (k : ℕ). get_or (drop at part) k 0) feed ∙ at_feed (drop at part) (simp length-drop (omega (arith, feed))) in
      ap (talked t) (drop-cons part (at + r) 0 h ∙ ap (λ (c : ℕ). c ∷ drop (suc (at + r)) part) g ∙ ap (λ (k : ℕ). 10 ∷ drop k part) (sym (add-one (at + r))))
      ∙ talk_ends t (drop (at + r + 1) part)

  pub turn_answers : (t u : Talk) → u ≡ ended t → at + r < length part → talked u (drop (at + r + 1) part) ≡ talked t (drop (at + r) part)
  turn_answers t u e h = ap (λ (w : Talk). talked w (drop (at + r + 1) part)) e ∙ sym (turn_ends t h)

pub kept_talk : (m : Module) (said line part now-kept : List ℕ) (at r kept : ℕ) → length line ≡ 131073 →
    now-kept ≡ take (length line) (take kept line ++ take (at + r - at) (drop at part)) →
    ◌≡◌ {A = Talk} (record { state = m; kept = now-kept; said = said }) (keeping (record { state = m; kept = take kept line; said = said }) (take r (drop at part)))
unfolding keeping
kept_talk m said line part now-kept at r kept l e =
    ap (λ (k : List ℕ). record { state = m; kept = k; said = said })
    (e ∙ ap (λ (n : ℕ). take n (take kept line ++ take (at + r - at) (drop at part))) l
    ∙ ap (λ (n : ℕ). take 131073 (take kept line ++ take n (drop at part))) (add-sub_cancel_left at r))
