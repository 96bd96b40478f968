-- A reader comes to an end: each entry leaves fewer bytes ahead of it.
use Prim.Native.Nat.{ℕ, ◌+◌, ◌≤◌, ◌<◌}
use mathlib.Core.Path.{◌≡◌, ap}
use mathlib.Core.Bool.{Bool, true, false, cond}
use mathlib.Core.List.{List}
use native.Mathlib.Omega.{arith}
use lib.Dec.{T, leb, leb→le}
use lib.ListN.{length}
use denote.Bor.{Bor}
use Rattle.std.specs.Prelude.{Option, Some, ⊤}
use Rattle.std.specs.Iterator.{MakesProgress}
use Rattle.reader.specs.declared.Kind.{Kind}
use Rattle.reader.specs.declared.Entry.{Entry}
use Rattle.reader.specs.declared.Reader.{Reader}
use Rattle.reader.specs.Walk.{no_step, entry_step, ahead}

module _ (kind : Kind) (size at : ℕ) (r s : Reader) (found : Option Entry) (some : 0 < size) (book : s.book ≡ r.book) (from : r.place ≤ at) where
  goes : (t : Bool) → (T t → at + size ≤ length r.book.now)
      → found ≡ (cond t (record { found = Some (record { kind = kind; at = at }); next = at + size }) (no_step at)).found
      → s.place ≡ (cond t (record { found = Some (record { kind = kind; at = at }); next = at + size }) (no_step at)).next
      → MakesProgress (λ _. ⊤) ahead r found s
  goes true fits e p =
      let same = ap (λ (b : Bor (List ℕ)). length b.now) book in
      rw e (record { on = λ _. (tt, tt, omega (arith, same, p, fits tt)); keeps = tt; rests = λ _. tt })
  goes false fits e p = rw e (record { on = λ _. tt; keeps = tt; rests = λ _. tt })

  pub goes_on : found ≡ (entry_step kind size (length r.book.now) at).found → s.place ≡ (entry_step kind size (length r.book.now) at).next
      → MakesProgress (λ _. ⊤) ahead r found s
  unfolding entry_step
  goes_on e p = goes (leb (at + size) (length r.book.now)) (leb→le (at + size) (length r.book.now)) e p
