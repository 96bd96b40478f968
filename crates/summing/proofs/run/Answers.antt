-- `run` meets its contract.
use Rattle.summing.proofs.Probes.{phase_most, probe_is}
use Rattle.sample.proofs.Slices.{none_added}
use Rattle.sample.specs.Sums.{samples_in}
use Rattle.summing.specs.Inside.{probed_all}
use Rattle.summing.specs.declared.Probe.{Probe}
use mir.Facts.{to_z-of_z}
use mir.Val.{SFits}
use mir.Syntax.{w32}
use native.Mathlib.Omega.{arith}
use lib.ListN.{get_or}
use lib.IntN.{pos}
use mathlib.Core.Path.{sym, ap, ◌∙◌}
use borrow.Author.Rules.{rules}
use Rattle.summing.proofs.run.Goals as goal

pub returns-then-v-eq0 : goal.returns-then-v-eq0
returns-then-v-eq0 c = let a = c.args in sym (none_added a.c a.config a.s0 a.v.now a.s1.now a.s3.now c.if-v-eq0.true)

pub bounds-s1-0 : goal.bounds-s1-0
bounds-s1-0 c = omega (arith, c.if-v-eq0.false, c.requires.2)

pub bounds-s3-0 : goal.bounds-s3-0
bounds-s3-0 c = omega (arith, c.if-v-eq0.false, c.requires.3)

pub run_with-requires : goal.run_with-requires
run_with-requires c =
    let s1_fits : SFits w32 (get_or c.args.s1.now 0 (pos 0)) = search rules in
    let s3_fits : SFits w32 (get_or c.args.s3.now 0 (pos 0)) = search rules in
    record {
      phase_bound = (rw c.probe_of-p.ensures (phase_most c.args.c c.args.config c.requires.0), c.requires.1, omega (arith, c.if-v-eq0.false));
      v_len = (c.requires.2, c.requires.3);
      first_value = c.corrected_before-first.ensures ∙ rw (to_z-of_z s1_fits, to_z-of_z s3_fits);
    }

pub returns : goal.returns
returns c =
    let a = c.args in
    c.run_with.ensures
    ∙ ap (λ (q : Probe). probed_all q a.s0 (samples_in a.v.now a.s1.now a.s3.now)) c.probe_of-p.ensures
    ∙ probe_is a.c a.config a.s0 (samples_in a.v.now a.s1.now a.s3.now)
