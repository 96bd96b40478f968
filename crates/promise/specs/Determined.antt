-- What it is that a contract determines its outcome, over the contract's own reading: a function's generated `Reads` has `Pre` and `Post`,
-- and its `Kinds` has `ps` and `r`.
-- An outcome is a result and the last value of each `&mut` parameter (`Lasts`: for any other parameter it is `Unit`).
use Rattle.std.specs.Prelude.{ℕ, ◌≡◌, List}
use contract.Lifetimes.{Lfts}
use borrow.Fn.Kinds.{ParamKind, ResultKind, In, Out, Dens, res_t, ended_of}
use seplogic.Ra.Ura.{Ura}
use base.Logic.{ent, sep, emp}
use contract.Monad.{fact}
use denote.Triple.Entry.{Args, Res}
use denote.Triple.Clauses.{Ended, Clauses, Lasts, at_exit}

-- two outcomes that the contract allows are equal
abbrev pub Determined : (n : ℕ) (ps : List (ParamKind n)) (r : ResultKind n) → In n ps → Out n ps r → Type 0
Determined n ps r Pre Post =
    (κs : Lfts n) (a : Dens κs ps) → Pre κs a → (z z' : (res_t r κs).Denot) (ws ws' : Lasts (ended_of n ps r) κs a)
    → Post κs a z (at_exit (ended_of n ps r) κs a ws) → Post κs a z' (at_exit (ended_of n ps r) κs a ws') → (z ≡ z') × (ws ≡ ws')

-- there is no `requires`: `Pre` holds of all arguments
abbrev pub Always : (n : ℕ) (ps : List (ParamKind n)) → In n ps → Type 0
Always n ps Pre = (κs : Lfts n) (a : Dens κs ps) → Pre κs a

-- both: for all arguments the contract allows one outcome
pub record Decided (n : ℕ) (ps : List (ParamKind n)) (r : ResultKind n) (Pre : In n ps) (Post : Out n ps r) : Type 0 where
  pub always : Always n ps Pre
  pub determined : Determined n ps r Pre Post

-- the same, where of the result only what `see` shows of it is meant, as the place and the contents of a returned slice
abbrev pub DeterminedBy : (n : ℕ) (ps : List (ParamKind n)) (r : ResultKind n) (X : Type 0) → ((κs : Lfts n) → (res_t r κs).Denot → X) → In n ps → Out n ps r → Type 0
DeterminedBy n ps r X see Pre Post =
    (κs : Lfts n) (a : Dens κs ps) → Pre κs a → (z z' : (res_t r κs).Denot) (ws ws' : Lasts (ended_of n ps r) κs a)
    → Post κs a z (at_exit (ended_of n ps r) κs a ws) → Post κs a z' (at_exit (ended_of n ps r) κs a ws') → (see κs z ≡ see κs z') × (ws ≡ ws')

pub record DecidedBy (n : ℕ) (ps : List (ParamKind n)) (r : ResultKind n) (X : Type 0) (see : (κs : Lfts n) → (res_t r κs).Denot → X) (Pre : In n ps) (Post : Out n ps r) : Type 0 where
  pub always : Always n ps Pre
  pub determined : DeterminedBy n ps r X see Pre Post

-- ---- an outcome that the contract allows for the arguments `a`: the result z, and a last value of each `&mut` parameter
pub record Allowed (n : ℕ) (ps : List (ParamKind n)) (r : ResultKind n) (Post : Out n ps r) (κs : Lfts n) (a : Dens κs ps) (z : (res_t r κs).Denot) : Type 0 where
  pub lasts : Lasts (ended_of n ps r) κs a
  pub allowed : Post κs a z (at_exit (ended_of n ps r) κs a lasts)

-- ---- a function that is walked by hand has no `Reads`: the same over its clauses themselves
-- two outcomes that the clauses allow are equal
abbrev pub DeterminedIn : {M : Type 1} (𝓤 : Ura M) (T : Ended) → Clauses 𝓤 T → Type 1
DeterminedIn 𝓤 T c =
    (κs : Lfts T.signature.lifetimes) (a : Args T.signature κs) (g : (c κs a).ghost) (z z' : Res T.signature κs) (ws ws' : Lasts T κs a)
    → ent 𝓤 (sep 𝓤 ((c κs a).ensures g z (at_exit T κs a ws)) ((c κs a).ensures g z' (at_exit T κs a ws'))) (fact 𝓤 ((z ≡ z') × (ws ≡ ws')))

-- the clauses ask nothing of the arguments
abbrev pub AlwaysIn : {M : Type 1} (𝓤 : Ura M) (T : Ended) → Clauses 𝓤 T → Type 1
AlwaysIn 𝓤 T c = (κs : Lfts T.signature.lifetimes) (a : Args T.signature κs) (g : (c κs a).ghost) → ent 𝓤 (emp 𝓤) ((c κs a).requires g)

pub record DecidedIn {M : Type 1} (𝓤 : Ura M) (T : Ended) (c : Clauses 𝓤 T) : Type 1 where
  pub always : AlwaysIn 𝓤 T c
  pub determined : DeterminedIn 𝓤 T c
