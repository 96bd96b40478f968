-- The shorter sequence opens and writes each committed card, and the card still open at the end, as the longer one did.
use mathlib.Core.Path.{◌≡◌, refl, ap, ap₂, sym, ◌∙◌}
use mathlib.Core.List.{List, [], ◌∷◌, ◌++◌, append-nil, append_assoc}
use mathlib.Core.Option.{none, some}
use Rattle.steps.specs.Port.{Port, port0, port1, on, put_on, on_both, if_same}
use Rattle.steps.specs.Parts.{Parts}
use Rattle.steps.specs.Module.{edit, commit, drop_card, hold, read, Step, at_port, block, reset}
use Rattle.steps.specs.Shorter.{reads_ahead, read_each, moved, Fate, stays_open, will_commit, will_drop, edit_each, steps_of, fate, Drafts, drawn_edit, drawn}
use Rattle.steps.specs.Tidy.{cards}

module _ (P : Parts) where
  abbrev Written : Type 0
  Written = List P.Edit

  abbrev snoc : Written → P.Edit → Written
  snoc es e = es ++ (e ∷ [])

  -- ---- pass 2

  reads_cards : (p q : Port) (l : List P.Address) (r : List (Step P)) (es : Written) → cards P p (read_each P q l r) es ≡ cards P p r es
  reads_cards p q [] r es = refl
  reads_cards p q (a ∷ l) r es = reads_cards p q l r es

  both_ways : {A : Type 0} (p q : Port) {a a' b b' : A} → a ≡ a' → b ≡ b' → if_same p q a b ≡ if_same p q a' b'
  both_ways p q e f = ap₂ (if_same p q) e f

  pub moved_cards : (xs : List (Step P)) (p : Port) (es : Written) → cards P p (moved P xs) es ≡ cards P p xs es
  moved_cards [] p es = refl
  moved_cards (at_port none op ∷ r) p es = moved_cards r p es
  moved_cards (at_port (some q) (edit e) ∷ r) p es = both_ways p q (moved_cards r p (snoc es e)) (moved_cards r p es)
  moved_cards (at_port (some q) commit ∷ r) p es = both_ways p q (ap (λ (l : List Written). es ∷ l) (moved_cards r p [])) (moved_cards r p es)
  moved_cards (at_port (some q) drop_card ∷ r) p es = both_ways p q (moved_cards r p []) (moved_cards r p es)
  moved_cards (at_port (some q) (hold k) ∷ r) p es = reads_cards p q (reads_ahead P q r) (moved P r) es ∙ moved_cards r p es
  moved_cards (at_port (some q) (read a) ∷ r) p es = moved_cards r p es
  moved_cards (block b ∷ r) p es = moved_cards r p es
  moved_cards (reset k ∷ r) p es = moved_cards r p es

  -- ---- pass 3: k is the port's draft, and d and c are what its open card has so far in the shorter and in the longer sequence

  abbrev Beside : Fate → Written → Written → Written → Type 0
  Beside stays_open k d c = d ≡ c
  Beside will_commit k d c = (d ≡ []) × (k ≡ c)
  Beside will_drop k d c = d ≡ []

  beside_shut : (f : Fate) → Beside f [] [] []
  beside_shut stays_open = refl
  beside_shut will_commit = (refl, refl)
  beside_shut will_drop = refl

  abbrev Same : Port → List (Step P) → Fate → Type 0
  Same p r f = (k : Drafts P) (d c : Written) → Beside f (on k p) d c → cards P p (steps_of P (drawn P r k)) d ≡ cards P p r c

  -- an edit at the port itself
  own_edit : (p : Port) (e : P.Edit) (r : List (Step P)) (f : Fate) → Same p r f → (k : Drafts P) (d c : Written) → Beside f (on k p) d c →
      cards P p (steps_of P (drawn_edit P f p e (drawn P r) k)) d ≡ cards P p r (snoc c e)
  own_edit port0 e r stays_open ih k d c b = ih k (snoc d e) (snoc c e) (ap (λ (l : Written). snoc l e) b)
  own_edit port1 e r stays_open ih k d c b = ih k (snoc d e) (snoc c e) (ap (λ (l : Written). snoc l e) b)
  own_edit port0 e r will_commit ih k d c b = ih (put_on port0 (snoc k.on0 e) k) d (snoc c e) (b.0, ap (λ (l : Written). snoc l e) b.1)
  own_edit port1 e r will_commit ih k d c b = ih (put_on port1 (snoc k.on1 e) k) d (snoc c e) (b.0, ap (λ (l : Written). snoc l e) b.1)
  own_edit p e r will_drop ih k d c b = ih k d (snoc c e) b

  -- an edit at the other port
  edit_0_of_1 : (e : P.Edit) (r : List (Step P)) (f g : Fate) → Same port1 r g → (k : Drafts P) (d c : Written) → Beside g k.on1 d c →
      cards P port1 (steps_of P (drawn_edit P f port0 e (drawn P r) k)) d ≡ cards P port1 r c
  edit_0_of_1 e r stays_open g ih k d c b = ih k d c b
  edit_0_of_1 e r will_commit g ih k d c b = ih (put_on port0 (snoc k.on0 e) k) d c b
  edit_0_of_1 e r will_drop g ih k d c b = ih k d c b

  edit_1_of_0 : (e : P.Edit) (r : List (Step P)) (f g : Fate) → Same port0 r g → (k : Drafts P) (d c : Written) → Beside g k.on0 d c →
      cards P port0 (steps_of P (drawn_edit P f port1 e (drawn P r) k)) d ≡ cards P port0 r c
  edit_1_of_0 e r stays_open g ih k d c b = ih k d c b
  edit_1_of_0 e r will_commit g ih k d c b = ih (put_on port1 (snoc k.on1 e) k) d c b
  edit_1_of_0 e r will_drop g ih k d c b = ih k d c b

  -- a commit: the draft es stands before it
  own_card : (p : Port) (es d : Written) (r : List (Step P)) → cards P p (edit_each P p es (at_port (some p) commit ∷ r)) d ≡ (d ++ es) ∷ cards P p r []
  own_card port0 [] d r = ap (λ (l : Written). l ∷ cards P port0 r []) (sym (append-nil d))
  own_card port1 [] d r = ap (λ (l : Written). l ∷ cards P port1 r []) (sym (append-nil d))
  own_card port0 (e ∷ es) d r = own_card port0 es (snoc d e) r ∙ ap (λ (l : Written). l ∷ cards P port0 r []) (append_assoc d (e ∷ []) es)
  own_card port1 (e ∷ es) d r = own_card port1 es (snoc d e) r ∙ ap (λ (l : Written). l ∷ cards P port1 r []) (append_assoc d (e ∷ []) es)

  own_commit : (p : Port) (r rest : List (Step P)) (es d c : Written) → d ≡ [] → es ≡ c → cards P p rest [] ≡ cards P p r [] →
      cards P p (edit_each P p es (at_port (some p) commit ∷ rest)) d ≡ c ∷ cards P p r []
  own_commit p r rest es d c e f ih =
      own_card p es d rest ∙ ap (λ (z : Written). (z ++ es) ∷ cards P p rest []) e ∙ ap₂ (λ (z : Written) (l : List Written). z ∷ l) f ih

  card_0_of_1 : (es d : Written) (r : List (Step P)) → cards P port1 (edit_each P port0 es r) d ≡ cards P port1 r d
  card_0_of_1 [] d r = refl
  card_0_of_1 (e ∷ es) d r = card_0_of_1 es d r

  card_1_of_0 : (es d : Written) (r : List (Step P)) → cards P port0 (edit_each P port1 es r) d ≡ cards P port0 r d
  card_1_of_0 [] d r = refl
  card_1_of_0 (e ∷ es) d r = card_1_of_0 es d r

  same : (xs : List (Step P)) (p : Port) → Same p xs (fate P p xs)
  same [] p k d c b = ap (λ (l : Written). l ∷ []) b
  same (at_port none op ∷ r) p k d c b = same r p k d c b
  same (at_port (some port0) (edit e) ∷ r) port0 k d c b = own_edit port0 e r (fate P port0 r) (same r port0) k d c b
  same (at_port (some port0) (edit e) ∷ r) port1 k d c b = edit_0_of_1 e r (fate P port0 r) (fate P port1 r) (same r port1) k d c b
  same (at_port (some port1) (edit e) ∷ r) port0 k d c b = edit_1_of_0 e r (fate P port1 r) (fate P port0 r) (same r port0) k d c b
  same (at_port (some port1) (edit e) ∷ r) port1 k d c b = own_edit port1 e r (fate P port1 r) (same r port1) k d c b
  same (at_port (some port0) commit ∷ r) port0 k d c b =
      let k' = put_on port0 [] k in
      own_commit port0 r (steps_of P (drawn P r k')) k.on0 d c b.0 b.1 (same r port0 k' [] [] (beside_shut (fate P port0 r)))
  same (at_port (some port0) commit ∷ r) port1 k d c b =
      let k' = put_on port0 [] k in
      card_0_of_1 k.on0 d (at_port (some port0) commit ∷ steps_of P (drawn P r k')) ∙ same r port1 k' d c b
  same (at_port (some port1) commit ∷ r) port0 k d c b =
      let k' = put_on port1 [] k in
      card_1_of_0 k.on1 d (at_port (some port1) commit ∷ steps_of P (drawn P r k')) ∙ same r port0 k' d c b
  same (at_port (some port1) commit ∷ r) port1 k d c b =
      let k' = put_on port1 [] k in
      own_commit port1 r (steps_of P (drawn P r k')) k.on1 d c b.0 b.1 (same r port1 k' [] [] (beside_shut (fate P port1 r)))
  same (at_port (some port0) drop_card ∷ r) port0 k d c b =
      ap (cards P port0 (steps_of P (drawn P r (put_on port0 [] k)))) b ∙ same r port0 (put_on port0 [] k) [] [] (beside_shut (fate P port0 r))
  same (at_port (some port0) drop_card ∷ r) port1 k d c b = same r port1 (put_on port0 [] k) d c b
  same (at_port (some port1) drop_card ∷ r) port0 k d c b = same r port0 (put_on port1 [] k) d c b
  same (at_port (some port1) drop_card ∷ r) port1 k d c b =
      ap (cards P port1 (steps_of P (drawn P r (put_on port1 [] k)))) b ∙ same r port1 (put_on port1 [] k) [] [] (beside_shut (fate P port1 r))
  same (at_port (some q) (hold t) ∷ r) p k d c b = same r p k d c b
  same (at_port (some q) (read a) ∷ r) p k d c b = same r p k d c b
  same (block x ∷ r) p k d c b = same r p k d c b
  same (reset x ∷ r) p k d c b = same r p k d c b

  shut_both : (p : Port) (f : Fate) → Beside f (on (on_both []) p) [] []
  shut_both port0 f = beside_shut f
  shut_both port1 f = beside_shut f

  pub drawn_cards : (xs : List (Step P)) (p : Port) → cards P p (steps_of P (drawn P xs (on_both []))) [] ≡ cards P p xs []
  drawn_cards xs p = same xs p (on_both []) [] [] (shut_both p (fate P p xs))
