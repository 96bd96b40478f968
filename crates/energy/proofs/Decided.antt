-- Each public contract decides its outcome: of two results that it allows, each is the other.
use mathlib.Core.Path.{refl, sym, ◌∙◌}
use seplogic.Ra.Ura.{Ura}
use base.Logic.{SProp, id⊢, emp}
use prog.Memory.{Memory}
use prog.Routine.{Routine}
use types.Logic.{Logic}
use contract.Monad.{Fun}
use Rattle.promise.specs.Determined.{Decided, DecidedIn}
use Rattle.promise.proofs.Facts.{two_facts}
use Rattle.energy.specs.contracts.advance as advance
use Rattle.energy.proofs.amount.Kinds as amount-k
use Rattle.energy.proofs.amount.Reads as amount

pub amount_decided : Decided 0 amount-k.ps amount-k.r amount.Pre amount.Post
amount_decided = record { always = λ κs a. tt; determined = λ κs a p z z' ws ws' q q'. (q ∙ sym q', refl) }

-- the lent record: what is left in it is `ws.0`
module _ {M : Type 1} {𝓤 : Ura M} (𝓛 : Logic 𝓤) (mem : Memory → SProp 𝓤) (run : Routine → Fun 𝓤) where
  pub advance_decided : DecidedIn 𝓤 advance.ended (advance.clauses 𝓛 mem run)
  advance_decided = record {
    always = λ κs a g. id⊢ 𝓤 (emp 𝓤);
    determined = λ κs a g z z' ws ws'. two_facts 𝓤 _ _ _ (λ q q'. (refl, λ i. ((q ∙ sym q') i, (tt, (tt, tt)))));
  }
