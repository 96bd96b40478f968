-- `with_packet` is a poll: the room for its reply, and its packet.
use mathlib.Core.Path.{◌≡◌, sym, ap}
use native.Mathlib.Omega.{arith}
use mir.Syntax.{w64}
use mir.Val.{SFits}
use mir.Facts.{to_z-of_z}
use Rattle.std.specs.Prelude.{Some}
use Rattle.console.specs.declared.words.Kind.TheVariants as kind
use Rattle.console.specs.declared.unread.Why.{Why}
use Rattle.console.specs.Items.{next_of}
use Rattle.console.specs.Turns.{unread_turn, with_packet}
use Rattle.console.proofs.TextLaws.{rest_of}
use Rattle.console.proofs.ItemLaws.{next_within, Small, room_small}
use borrow.Author.Rules.{rules}
use Rattle.console.proofs.turns.with_packet.Goals as goal
use Rattle.console.proofs.turns.with_packet.Goals.{In-Some}

found : (c : In-Some) → next_of kind.Room c.args.rest.now ≡ Some c.in-Some.next
found c = sym c.in-Some.ensures

fits : (c : In-Some) → SFits w64 c.in-Some.next.worth
fits c = search rules

small : (c : In-Some) → Small c.in-Some.next.worth
small c = room_small _ _ (found c)

pub overflow_cast-next : goal.overflow_cast-next
overflow_cast-next c = rw (to_z-of_z (fits (goal.at.overflow_cast-next c).In-Some)) ((small (goal.at.overflow_cast-next c).In-Some).above, omega (arith, (small (goal.at.overflow_cast-next c).In-Some).most))

pub slice_bounds-with_bytes-count : goal.slice_bounds-with_bytes-count
slice_bounds-with_bytes-count c = next_within _ _ _ (found (goal.at.slice_bounds-with_bytes-count c).In-Some)

pub slice_bounds-with_bytes-start : goal.slice_bounds-with_bytes-start
slice_bounds-with_bytes-start c = next_within _ _ _ (found (goal.at.slice_bounds-with_bytes-start c).In-Some)

pub with_bytes-requires : goal.with_bytes-requires
with_bytes-requires c = rw (to_z-of_z (fits (goal.at.with_bytes-requires c).In-Some)) (small (goal.at.with_bytes-requires c).In-Some).most

pub returns-in-Some : goal.returns-in-Some
unfolding with_packet
returns-in-Some c =
    rw (found (goal.at.returns-in-Some c).In-Some) (rw (to_z-of_z (fits (goal.at.returns-in-Some c).In-Some), rest_of c.in-Some.next.taken c.args.rest.now) at c.with_bytes.ensures)

pub returns-in-None : goal.returns-in-None
unfolding with_packet
returns-in-None c =
    rw (sym c.in-None.ensures)
    (ap (λ (w : Why). unread_turn c.args.m.now w) c.stopped.ensures)
