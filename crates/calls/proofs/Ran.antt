-- Whatever the contracts allow to come of calls, one after the other, is what `program` says.
use mathlib.Core.Path.{◌≡◌, refl, ap, ◌∙◌}
use mathlib.Core.List.{List}
use Rattle.steps.specs.Calls.{Reply, Log, noted, Ran, ended, called}
use Rattle.aberzhan.specs.declared.Module.{Module}
use Rattle.calls.specs.Ports.{aberzhan}
use Rattle.calls.specs.Calls.{Call, step_of, program}
use Rattle.calls.proofs.Contracts.{methods, allowed_is}

pub ran_is : {ks : List Call} {m : Module} {l : Log aberzhan Module} → Ran aberzhan methods ks m l → l ≡ program ks m
ran_is ended = refl
ran_is (called {k} {ks} {m} {o} {l} a r) =
    ap (noted aberzhan Module (step_of k) o.0) (ran_is r)
    ∙ ap (λ (o : Reply aberzhan × Module). noted aberzhan Module (step_of k) o.0 (program ks o.1)) (allowed_is k m o a)
