-- `poll::send_ending` meets its contract.
use Prim.Native.Nat.{ℕ}
use mathlib.Core.Path.{◌≡◌, refl, sym, ap}
use Rattle.packet.specs.declared.Ending.{Ending}
use Rattle.packet.specs.declared.Ending.TheVariants.{Whole, Fails, Unanswered}
use Rattle.packet.specs.Replies.{no_reply}
use Rattle.poll.specs.Inside.{ending_reply}
use Rattle.poll.proofs.Sending.{none_replied, none_put, of_reply}
use Rattle.poll.proofs.send_ending.Goals as goal

-- where it does not fail there is no reply
unanswered : (e : Ending) → ((c : ℕ) → e ≡ Fails c → ⊥) → no_reply ≡ ending_reply e
unanswered Whole n = refl
unanswered (Fails c) n = absurd (n c refl)
unanswered Unanswered n = refl

pub returns-in-Fails : goal.returns-in-Fails
returns-in-Fails c = of_reply c.args.out.now _ _ (sym (ap ending_reply c.in-Fails.is)) c.send_code.ensures

pub returns-in_default : goal.returns-in_default
returns-in_default c =
    let b = c.args.out.now in
    of_reply b b _ (unanswered c.args.e c.in_default.not-Fails) (none_replied b, none_put b)
