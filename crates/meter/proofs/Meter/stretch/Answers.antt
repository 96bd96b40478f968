-- `stretch` meets its contract.
use native.Mathlib.Omega.{arith}
use mathlib.Core.Path.{◌≡◌}
use Rattle.meter.specs.Inside.{begun_of, stretch_of}
use Rattle.meter.proofs.Keeping.{begun_is}
use mathlib.Core.Bool.{true}
use mathlib.Core.Path.{◌∙◌}
use Rattle.sample.specs.Sums.{samples_in, added_all, of_at_most}
use Rattle.sample.proofs.Slices.{samples_long}
use Rattle.sample.proofs.Tests.{phased_yes, room_yes, lengths_same, joins}
use Rattle.meter.proofs.Sound.{sound_of_lem}
use Rattle.meter.proofs.Meter.stretch.Goals as goal
use Rattle.meter.proofs.Meter.stretch.Goals.{After-with_samples-s}

-- the samples may join: the interval has room for them
joined : (c : After-with_samples-s) →
    let a = c.args in
    c.with_samples-s.result ≡ added_all c.begun-m.result.force c.begun-m.result.work.settings.config c.begun-m.result.work.sums (samples_in a.v.now a.s1.now a.s3.now)
joined c =
    let a = c.args in
    let h = sound_of_lem a.self c.requires.self_value.0 in
    let b = begun_is a.self h in
    let e = c.begun-m.ensures in
    let q = c.begun-m.result in
    let sums : of_at_most a.self.taken q.work.sums ≡ true =
    rw (e, b.work) (room_yes a.self.taken a.self.work.sums (omega (arith, h.n_most, h.taken_most)) h.room) in
    c.with_samples-s.ensures
    ∙ joins a.self.taken q.force q.work.settings.config q.work.sums a.v.now a.s1.now a.s3.now c.requires.self_value.1 (omega (arith, h.n_most)) sums (rw e (phased_yes (begun_of a.self).force b.force))

pub overflow_cast-v : goal.overflow_cast-v
overflow_cast-v c =
    record { fits = omega (arith, (sound_of_lem c.args.self c.requires.self_value.0).n_most) }

pub overflow_add-self : goal.overflow_add-self
overflow_add-self c =
    record { fits = omega (arith, (sound_of_lem c.args.self c.requires.self_value.0).n_most) }

pub returns : goal.returns
unfolding stretch_of
returns c =
    let a = c.args in
    let e = lengths_same a.v.now a.s1.now a.s3.now c.requires.self_value.1 in
    rw (c.ended.ensures, c.with_sums-w.ensures, joined (goal.at.returns c).After-with_samples-s, c.begun-m.ensures, samples_long a.v.now a.s1.now a.s3.now e.0 e.1)
