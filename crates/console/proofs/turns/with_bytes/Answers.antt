-- `with_bytes` is a poll behind its room.
use Prim.Native.Nat.{ℕ, ◌≤◌}
use mathlib.Core.Path.{sym, ap, ◌∙◌}
use native.Mathlib.Omega.{arith}
use lib.ListN.{length, length-replicate}
use lib.Seq.{length-take-le}
use Rattle.console.specs.declared.words.Kind.TheVariants as kind
use Rattle.console.specs.Items.{bytes}
use Rattle.console.specs.declared.unread.Why.{Why}
use Rattle.console.specs.Turns.{unread_turn}
use Rattle.console.proofs.ItemLaws.{row_count, several_long}
use Rattle.console.proofs.TurnLaws.{odd_byte, whole_packet}
use Rattle.console.proofs.turns.with_bytes.Goals as goal
use Rattle.console.proofs.turns.with_bytes.Goals.{Else-n-text}

-- no more bytes are taken than the packet has room for
inside : (c : Else-n-text) → c.take_bytes-n.result.count ≤ length c.take_bytes-n.new.into
inside c =
    let t = c.take_bytes-n in
    omega (arith, t.ensures.count, row_count bytes c.args.text.now, several_long kind.Byte 4096, t.auto.into, length-replicate {A = ℕ} 4096 0)

pub returns-then-n-text : goal.returns-then-n-text
returns-then-n-text c =
    let t = c.take_bytes-n in
    ap (λ (w : Why). unread_turn c.args.m.now w) c.packet_stopped.ensures
    ∙ odd_byte c.args.m.now c.args.room c.args.text.now t.result _ t.new.into t.ensures c.if-n-text.true

pub returns : goal.returns
returns c =
    let t = c.take_bytes-n in
    c.polled.ensures ∙ whole_packet c.args.m.now c.args.room c.args.text.now t.result _ t.new.into t.ensures c.if-n-text.false

pub slice_bounds-packet-end : goal.slice_bounds-packet-end
slice_bounds-packet-end c = inside (goal.at.slice_bounds-packet-end c).Else-n-text

pub slice_bounds-polled-end : goal.slice_bounds-polled-end
slice_bounds-polled-end c = sym (length-take-le _ _ (inside (goal.at.slice_bounds-polled-end c).Else-n-text))
