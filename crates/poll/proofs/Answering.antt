-- What is asked and answered, by how the packet is judged.
use Prim.Native.Nat.{ℕ, ◌-◌}
use mathlib.Core.Path.{◌≡◌, refl, sym, ap, ◌∙◌}
use mathlib.Core.List.{List}
use native.Mathlib.Omega.{arith}
use lib.ListN.{length, take, drop}
use Rattle.std.specs.Prelude.{Result, Err}
use Rattle.serial.specs.Places.{part}
use Rattle.port.specs.declared.Held.{Held}
use Rattle.packet.specs.declared.Ending.{Ending}
use Rattle.packet.specs.declared.Ending.TheVariants.{Whole, Fails, Unanswered}
use Rattle.packet.specs.Packets.{judged, commands_in}
use Rattle.packet.specs.Commands.{asked_from, at_first, asked_if, asked_by}
use Rattle.packet.specs.Replies.{reply_to}
use Rattle.poll.specs.declared.Gathered.{Gathered}
use Rattle.poll.specs.Polls.{read_at, reply_from}
use Rattle.poll.specs.Inside.{none_gathered, read_into, gathers, gathered_reply}
use Rattle.poll.proofs.Replying.{replied_is}

-- the commands as they are lent
pub commands_lent : (p : List ℕ) → take (length p - 1 - 2) (drop 2 p) ≡ commands_in p
unfolding commands_in part
commands_lent p = let e : length p - 1 - 2 ≡ length p - 3 = omega arith in ap (λ (n : ℕ). take n (drop 2 p)) e

-- what a packet asks for, by how it is judged
module _ (h : Held) (p : List ℕ) where
  pub asked_ending : (e : Ending) → (e ≡ Whole → ⊥) → judged p ≡ e → Err e ≡ gathers (read_at h) none_gathered (asked_by p)
  unfolding asked_by gathers read_into
  asked_ending Whole n q = absurd (n refl)
  asked_ending (Fails c) n q = ap (λ (e : Ending). gathers (read_at h) none_gathered (asked_if e p)) (sym q)
  asked_ending Unanswered n q = ap (λ (e : Ending). gathers (read_at h) none_gathered (asked_if e p)) (sym q)

  pub asked_whole : judged p ≡ Whole → gathers (read_at h) none_gathered (asked_from (commands_in p) 0 at_first) ≡ gathers (read_at h) none_gathered (asked_by p)
  unfolding asked_by
  asked_whole q = ap (λ (e : Ending). gathers (read_at h) none_gathered (asked_if e p)) (sym q)

  pub reply_is : (r : Result Gathered Ending) → r ≡ gathers (read_at h) none_gathered (asked_by p) → gathered_reply r ≡ reply_from h p
  unfolding reply_from reply_to
  reply_is r e = ap gathered_reply e ∙ sym (replied_is (read_at h) (asked_by p))
