-- `word_in` finds the first entry with an item's letters.
use Rattle.std.proofs.Common.{◌≡◌, ℕ, refl, ap, ◌∙◌, Bool, true, false, cond, List, [], ◌∷◌, Option, Some, None, Bor, rules}
use Rattle.std.specs.List.{find}
use Rattle.std.specs.Option.{option_map}
use Rattle.std.proofs.lemmas.Iterator.{YieldsList-from_slice}
use Rattle.std.proofs.lemmas.Iterator.Search.{find_from_yields_List}
use borrow.Author.Tests.{tests}
use Rattle.serial.specs.Texts.{same_text}
use Rattle.console.specs.declared.words.Word.{Word}
use Rattle.console.specs.declared.words.Word.TheVariants.{Other}
use Rattle.console.specs.Inside.{word_in}
use Rattle.console.proofs.words.word_in.Goals as goal
use Rattle.console.proofs.words.word_in.Goals.{After-find}

abbrev Entry : Type 0
Entry = Bor (List ℕ) × Word

-- the word of an entry, or that of none
abbrev word_of_entry : Option Entry → Word
word_of_entry (Some e) = e.1
word_of_entry None = Other

first_found : (table : List Entry) (t : List ℕ) → word_of_entry (find (λ (e : Entry). same_text e.0.now t) table) ≡ word_in table t
unfolding word_in
first_found [] t = refl
first_found (e ∷ es) t = by (same_text e.0.now t) (first_found es t)
  where
    by : (b : Bool) → word_of_entry (find (λ (d : Entry). same_text d.0.now t) es) ≡ word_in es t
        → word_of_entry (cond b (Some e) (find (λ (d : Entry). same_text d.0.now t) es)) ≡ cond b e.1 (word_in es t)
    by true h = refl
    by false h = h

found : (c : After-find) (r : Option (Bor Entry)) → c.find.result ≡ r → word_of_entry (option_map (λ (y : Bor Entry). y.now) r) ≡ word_in c.args.table.now c.args.item.now
found c r e =
    let a = c.args in
    rw (← e) (
    ap word_of_entry (find_from_yields_List (λ (e : Entry). same_text e.0.now a.item.now) _ _ c.find.result c.find.ensures.ran (YieldsList-from_slice a.table.now c.iter.ensures.rest) (λ x b q k. search (rules, tests)))
    ∙ first_found a.table.now a.item.now
    )

pub returns-in-Some : goal.returns-in-Some
returns-in-Some c = found (goal.at.returns-in-Some c).After-find (Some c.in-Some.entry) c.in-Some.is

pub returns-in-None : goal.returns-in-None
returns-in-None c = found (goal.at.returns-in-None c).After-find None c.in-None.is
