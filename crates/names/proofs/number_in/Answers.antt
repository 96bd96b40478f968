-- `names::number_in` meets its contract: the entry that is found is the first with this name.
use Rattle.std.proofs.Common.{◌≡◌, ℕ, refl, ap, ◌∙◌, Bool, true, false, cond, List, [], ◌∷◌, Option, Some, None, Bor, rules}
use Rattle.std.specs.List.{find}
use Rattle.std.specs.Option.{option_map}
use Rattle.std.proofs.lemmas.Iterator.{YieldsList-from_slice}
use Rattle.std.proofs.lemmas.Iterator.Search.{find_from_yields_List}
use borrow.Author.Tests.{tests}
use Rattle.serial.specs.Texts.{same_text}
use Rattle.names.specs.Names.{entries_of, named_in}
use Rattle.names.proofs.number_in.Goals as goal
use Rattle.names.proofs.number_in.Goals.{After-find}

abbrev Entry : Type 0
Entry = Bor (List ℕ) × ℕ

-- the number of the first entry that is found
named_found : (table : List Entry) (t : List ℕ) → option_map (λ (e : Entry). e.1) (find (λ (e : Entry). same_text e.0.now t) table) ≡ named_in (entries_of table) t
unfolding named_in
named_found [] t = refl
named_found (e ∷ es) t = by (same_text e.0.now t) (named_found es t)
  where
    by : (b : Bool) → option_map (λ (d : Entry). d.1) (find (λ (d : Entry). same_text d.0.now t) es) ≡ named_in (entries_of es) t
        → option_map (λ (d : Entry). d.1) (cond b (Some e) (find (λ (d : Entry). same_text d.0.now t) es)) ≡ cond b (Some e.1) (named_in (entries_of es) t)
    by true h = refl
    by false h = h

-- what the search found, r, has the number
found : (c : After-find) (r : Option (Bor Entry)) → c.find.result ≡ r → option_map (λ (e : Entry). e.1) (option_map (λ (y : Bor Entry). y.now) r) ≡ named_in (entries_of c.args.table.now) c.args.text.now
found c r e =
    let a = c.args in
    rw (← e) (
    ap (option_map (λ (e : Entry). e.1)) (find_from_yields_List (λ (e : Entry). same_text e.0.now a.text.now) _ _ c.find.result c.find.ensures.ran (YieldsList-from_slice a.table.now c.iter.ensures.rest) (λ x b q k. search (rules, tests)))
    ∙ named_found a.table.now a.text.now
    )

pub returns : goal.returns
returns c = found (goal.at.returns c).After-find (Some c.in_ok-entry.entry) c.in_ok-entry.was

pub returns-in_err-entry : goal.returns-in_err-entry
returns-in_err-entry c = c.from_residual.ensures ∙ found (goal.at.returns-in_err-entry c).After-find None c.in_err-entry.was
