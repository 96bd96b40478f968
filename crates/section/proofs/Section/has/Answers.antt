-- `Section::has` meets its contract.
use mathlib.Core.Path.{◌≡◌, refl, ap, ◌∙◌}
use mathlib.Core.Bool.{Bool, true, false, cond}
use Prim.Native.Nat.{ℕ}
use lib.Dec.{ltb}
use Rattle.std.specs.Prelude.{Some, None, is_some}
use Rattle.section.specs.Sections.{entry_of, find_in, found_in, has}
use Rattle.section.proofs.Section.has.Goals as goal

-- an entry is found where the test passes
found : (t : Bool) (k : ℕ) → is_some (cond t (Some k) None) ≡ t
found true k = refl
found false k = refl

pub returns : goal.returns
unfolding has found_in entry_of
returns c =
    let s = c.args.self in
    let k = find_in c.args.b.now s c.args.text.now in
    c.is_some.ensures ∙ ap is_some c.find.ensures ∙ found (ltb k s.count) k
