-- `packet::judge` meets its contract.
use mathlib.Core.Path.{sym, ◌∙◌}
use native.Mathlib.Omega.{arith}
use borrow.Author.Tests.{lt-ltb, le-ltb, eq-eqb, ne_eqb}
use Rattle.packet.specs.Packets.{judged}
use Rattle.packet.proofs.Judging.{framed}
use Rattle.packet.proofs.judge.Goals as goal

pub returns-then-no_packet : goal.returns-then-no_packet
unfolding judged
returns-then-no_packet c = simp (sym c.no_packet.ensures ∙ c.if-no_packet.true)

pub returns-then-count-n : goal.returns-then-count-n
unfolding judged
returns-then-count-n c = simp (sym c.no_packet.ensures ∙ c.if-no_packet.false, sym c.byte_at-count.ensures, lt-ltb _ _ c.if-count-n.true)

pub sum_right-requires : goal.sum_right-requires
sum_right-requires c = omega (arith, (framed c.args.p.now (sym c.no_packet.ensures ∙ c.if-no_packet.false)).two)

pub returns-then-n-eq3 : goal.returns-then-n-eq3
unfolding judged
returns-then-n-eq3 c =
    simp (sym c.no_packet.ensures ∙ c.if-no_packet.false, sym c.byte_at-count.ensures, le-ltb _ _ c.if-count-n.false, sym c.sum_right.ensures ∙ c.if-sum_right.true, eq-eqb _ _ c.if-n-eq3.true)

pub returns-then-sum_right : goal.returns-then-sum_right
unfolding judged
returns-then-sum_right c =
    simp (sym c.no_packet.ensures ∙ c.if-no_packet.false, sym c.byte_at-count.ensures, le-ltb _ _ c.if-count-n.false, sym c.sum_right.ensures ∙ c.if-sum_right.true, ne_eqb _ _ c.if-n-eq3.false)

pub returns : goal.returns
unfolding judged
returns c =
    simp (sym c.no_packet.ensures ∙ c.if-no_packet.false, sym c.byte_at-count.ensures, le-ltb _ _ c.if-count-n.false, sym c.sum_right.ensures ∙ c.if-sum_right.false)
