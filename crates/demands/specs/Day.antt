-- A day at a site, worked through with the module itself: a program of calls by both ports and the sample feed, its shorter sequence, and what
-- comes of both: a card dropped, one replaced before any sample, a field written twice, a clipped sample, a sag and its reset, a card still open in the
-- evening. `proofs/Day.antt` computes it. N is 2, the bucket 100; slot 1 tracks VA_RMS, slot 6 WATT_A, the others are off. Half a cycle is 2 samples,
-- VSAG 3,500,000, VSURGE 4,194,303; sag is sticky, surge is not. Configuration 0x86: IA is S1, IB half of S3 - S1.
use Rattle.std.specs.Prelude.{ℕ, suc, ◌≡◌, true, false, List, [], ◌∷◌, ◌++◌, map, ℤ, pos, negsuc, take, replicate}
use Rattle.std.proofs.Math.Option.{none, some}
use Rattle.steps.specs.Port.{port0, port1, PerPort}
use Rattle.steps.specs.Module.{Op, edit, hold, read, Step, at_port, block, reset}
use Rattle.steps.specs.Run.{run}
use Rattle.steps.specs.Shorter.{Act, plain, card, steps_of, shorter}
use Rattle.steps.specs.OneCard.{Interval, tagged, outset}
use Rattle.steps.specs.Watching.{marked}
use Rattle.steps.specs.Calls.{asked, run_of}
use Rattle.serial.specs.declared.Serial.{Serial}
use Rattle.card.specs.declared.Card.{Card}
use Rattle.address.specs.declared.WordAddr.{WordAddr}
use Rattle.address.specs.declared.ByteAddr.{ByteAddr}
use Rattle.source.specs.Sources.{IA, IB}
use Rattle.sample.specs.declared.Inputs.{Inputs}
use Rattle.sample.specs.Sums.{no_clips}
use Rattle.alarm.specs.declared.Alarms.{Alarms}
use Rattle.halfcycle.specs.History.{Came, voltage, reset as cleared, alarms_meant}
use Rattle.energy.specs.declared.Energy.{Energy}
use Rattle.interval.specs.declared.Closed.{Closed}
use Rattle.address.specs.Slots.{off}
use Rattle.meter.specs.Core.{core}
use Rattle.meter.specs.Starting.{config_ok}
use Rattle.aberzhan.specs.declared.Module.{Module}
use Rattle.desk.specs.Desks.{Edit, open_with, write_field, shut_desk}
use Rattle.port.specs.Holds.{Value, interval, register}
use Rattle.calls.specs.Ports.{ports, aberzhan}
use Rattle.aberzhan.specs.Module.{start_of}
use Rattle.calls.specs.Calls.{Call, call_open, call_write, call_commit, call_drop, call_hold, call_read, call_block, call_reset, state_of, call_of, program}
use Rattle.calls.proofs.Contracts.{methods}
use Rattle.demands.specs.Intervals.{cut_by}
use Rattle.demands.specs.EnergyHistory.{plus_over, minus_over}
use Rattle.demands.specs.Alarms.{came_as}

-- ---- what is used

-- ASCII digits
abbrev pub t0417 : List ℕ
t0417 = 48 ∷ 52 ∷ 49 ∷ 55 ∷ []

abbrev pub t417 : List ℕ
t417 = 52 ∷ 49 ∷ 55 ∷ []

abbrev pub t600 : List ℕ
t600 = 54 ∷ 48 ∷ 48 ∷ []

abbrev pub t601 : List ℕ
t601 = 54 ∷ 48 ∷ 49 ∷ []

-- a card's fields: gain one for the voltage, g for the current, other fields 0
abbrev pub fields_of : ℕ → List ℤ
fields_of g = pos 0 ∷ pos 0 ∷ pos 2097152 ∷ pos g ∷ pos 0 ∷ pos 0 ∷ pos 0 ∷ pos 0 ∷ []

-- all eight fields, from the number k on
abbrev pub edits : ℕ → List ℤ → List Edit
edits k [] = []
edits k (v ∷ vs) = write_field (pos k) v ∷ edits (suc k) vs

abbrev pub writes : ℤ → List Edit → List Call
writes p [] = []
writes p (open_with t ∷ es) = call_open p t ∷ writes p es
writes p (write_field k v ∷ es) = call_write p k v ∷ writes p es

abbrev pub card_edits : List ℕ → ℕ → List Edit
card_edits text g = open_with text ∷ edits 1 (fields_of g)

abbrev pub fitter : ℤ
fitter = pos 0

abbrev pub panel : ℤ
panel = pos 1

abbrev pub byte : ℕ → ByteAddr
byte a = record { 0 = a }

abbrev pub half : ℤ
half = pos 4194304

abbrev pub quarter : ℤ
quarter = pos 2097152

-- a current of -4,194,305, which card 601 brings beyond the range
abbrev pub too_much : ℤ
too_much = negsuc 4194304

-- S3 all day
abbrev pub other : ℤ
other = pos 21

abbrev pub inputs : ℤ → Inputs
inputs s1 = record { s1 = s1; s3 = other }

abbrev pub track : List WordAddr
track = record { 0 = 0x2B } ∷ replicate 4 off ++ (record { 0 = 0x4B } ∷ [])

-- bit 21
abbrev pub sag_bit : ℤ
sag_bit = pos 2097152

abbrev pub site : Module
site = (start_of (pos 2) (pos 100) track (record { w = pos 2; vsag = pos 3500000; vsurge = pos 4194303; sticky = sag_bit }) (pos 0x86)).after

-- ---- the day: port 0 is the fitter's, port 1 the panel's, where the site's reader works

abbrev pub day : List Call
day =
    call_block (half ∷ []) (pos 60 ∷ []) (other ∷ [])  -- refused, 18: no card yet
    ∷ call_block (half ∷ []) (pos 60 ∷ []) []  -- refused, 5: S3 is shorter
    ∷ call_block (half ∷ []) (pos 60 ∷ []) (pos 8388608 ∷ [])  -- refused, 6: S3 is out of range
    ∷ call_open fitter t0417
    ∷ call_open fitter t0417  -- refused, 9: the port is open
    ∷ call_commit fitter  -- refused, 13: no field is written
    ∷ call_write fitter (pos 3) (pos 0)  -- refused, 12: VGAIN is not 0
    ∷ call_write fitter (pos 9) (pos 1)  -- refused, 11
    ∷ call_open panel t417  -- the wrong card: it will be dropped
    ∷ call_write fitter (pos 4) (pos 5)  -- a slip: the field is written again below
    ∷ writes fitter (edits 1 (fields_of 2097152))
    ++ (call_write panel (pos 3) (pos 9)
    ∷ call_commit fitter  -- card 0417 waits
    ∷ call_hold panel  -- refused, 14: no interval has closed
    ∷ call_block (half ∷ half ∷ half ∷ []) (pos 60 ∷ pos 60 ∷ pos 60 ∷ []) (replicate 3 other)  -- closes interval 1, begins interval 2
    ∷ call_read panel (byte 0x81)  -- refused, 15: nothing is held there
    ∷ call_hold fitter
    ∷ call_drop panel  -- card 417 is dropped
    ∷ call_hold panel
    ∷ writes fitter (card_edits t600 1)
    ++ (call_commit fitter  -- card 600 waits: interval 2 is half done
    ∷ writes panel (card_edits t601 4194304)
    ++ (call_read panel (byte 0xE1)
    ∷ call_commit panel  -- card 601 replaces 600, which no sample met
    ∷ call_block (quarter ∷ half ∷ half ∷ []) (pos 60 ∷ negsuc 59 ∷ too_much ∷ []) (replicate 3 other)  -- closes interval 2, with card 0417, and 3, with 601
    ∷ call_read fitter (byte 0x1AD)  -- as it was at the fitter's hold
    ∷ call_read fitter (byte 0x154)  -- refused, 16
    ∷ call_read fitter (byte 0x156)  -- refused, 17: slot 2 is off
    ∷ call_hold (pos 256)  -- refused, 8
    ∷ call_hold panel
    ∷ call_read panel (byte 0x1B6)
    ∷ call_read panel (byte 0xE4)  -- WATT_B
    ∷ call_reset (pos 1)  -- refused, 12: bit 0 is no alarm
    ∷ call_reset sag_bit  -- the sag of interval 2 is over
    ∷ call_open fitter t600  -- a card still open in the evening
    ∷ call_read panel (byte 0x153)
    ∷ call_block (half ∷ []) (pos 60 ∷ []) (other ∷ [])  -- begins interval 4
    ∷ call_write fitter (pos 1) (pos 4) ∷ [])))

-- ---- the shorter day

abbrev pub at0 : Op aberzhan → Act aberzhan
at0 op = plain (at_port (some port0) op)

abbrev pub at1 : Op aberzhan → Act aberzhan
at1 op = plain (at_port (some port1) op)

abbrev pub shorter_day : List (Act aberzhan)
shorter_day =
    card port0 (open_with t0417 ∷ write_field (pos 4) (pos 5) ∷ edits 1 (fields_of 2097152))
    ∷ plain (block (half ∷ half ∷ half ∷ [], pos 60 ∷ pos 60 ∷ pos 60 ∷ [], replicate 3 other))
    ∷ at0 (hold tt) ∷ at0 (read (byte 0x1AD))
    ∷ at1 (hold tt) ∷ at1 (read (byte 0xE1))
    ∷ card port0 (card_edits t600 1)
    ∷ card port1 (card_edits t601 4194304)
    ∷ plain (block (quarter ∷ half ∷ half ∷ [], pos 60 ∷ negsuc 59 ∷ too_much ∷ [], replicate 3 other))
    ∷ at1 (hold tt) ∷ at1 (read (byte 0x1B6)) ∷ at1 (read (byte 0xE4)) ∷ at1 (read (byte 0x153))
    ∷ plain (reset sag_bit)
    ∷ at0 (edit (open_with t600))
    ∷ plain (block (half ∷ [], pos 60 ∷ [], other ∷ []))
    ∷ at0 (edit (write_field (pos 1) (pos 4))) ∷ []

-- ---- what comes of both, worked out by hand from documents 01 and 02

abbrev pub s0417 : Serial
s0417 = record { len = 4; digits = t0417 ++ replicate 8 0 }

abbrev pub s601 : Serial
s601 = record { len = 3; digits = t601 ++ replicate 9 0 }

-- two samples of half make a surge: 2 times half squared is more than 2 times 4,194,303 squared; one of them a quarter make a sag
abbrev pub surge_alone : Alarms
surge_alone = record { sag = false; surge = true }

abbrev pub sag_too : Alarms
sag_too = record { sag = true; surge = true }

-- slots 1 and 6; four are off
abbrev pub slots : ℕ → ℤ → List ℤ
slots v w = pos v ∷ replicate 4 (pos 0) ++ (w ∷ [])

abbrev pub energy : ℕ → ℕ → Energy
energy count rest = record { count = count; remainder = rest }

-- P of IA is 30: 60 joins the remainder. IB is half of 21 - 60, -20: its P is -10, and 20 joins the other remainder
abbrev pub interval1 : Closed
interval1 = record {
  number = 1;
  serial = s0417;
  clips = no_clips;
  regs = record {
    vrms = half;
    a = record { figures = pos 60 ∷ pos 60 ∷ pos 30 ∷ pos 30 ∷ pos 4194304 ∷ pos 65536 ∷ []; plus = energy 0 60; minus = energy 0 0 };
    b = record { figures = pos 20 ∷ pos 20 ∷ negsuc 9 ∷ pos 10 ∷ negsuc 4194303 ∷ pos 65536 ∷ []; plus = energy 0 0; minus = energy 0 20 };
    ends = record { low = slots 4194304 (pos 30); high = slots 4194304 (pos 30) };
  };
}

-- P of IA is 22, S 23: 44 makes one bucket and 4. P of IB is -7, from -7.5
abbrev pub interval2 : Closed
interval2 = record {
  number = 2;
  serial = s0417;
  clips = no_clips;
  regs = record {
    vrms = pos 3315888;
    a = record { figures = pos 60 ∷ pos 60 ∷ pos 22 ∷ pos 23 ∷ pos 4011942 ∷ pos 65536 ∷ []; plus = energy 1 4; minus = energy 0 0 };
    b = record { figures = pos 20 ∷ pos 20 ∷ negsuc 6 ∷ pos 7 ∷ negsuc 4194303 ∷ pos 65536 ∷ []; plus = energy 0 0; minus = energy 0 34 };
    ends = record { low = slots 3315888 (pos 22); high = slots 4194304 (pos 30) };
  };
}

-- the current is doubled by card 601 and turned round, -120 and -8,388,610, which is clipped to -8,388,608: P is -2,097,182, and 4,194,364 is
-- 41,943 buckets and 64 of the other direction. IB is half of 42 + 120, 81, and half of 42 + 8,388,608: its P is 1,048,601, and 2,097,202 is 20,972
-- buckets and 2
abbrev pub interval3 : Closed
interval3 = record {
  number = 3;
  serial = s601;
  clips = record { v = 0; s1 = 1; s3 = 0 };
  regs = record {
    vrms = half;
    a = record {
      figures = pos 5931641 ∷ pos 8388607 ∷ negsuc 2097181 ∷ pos 2965820 ∷ negsuc 2965863 ∷ pos 92681 ∷ [];
      plus = energy 1 4;
      minus = energy 41943 64;
    };
    b = record {
      figures = pos 2965835 ∷ pos 4194325 ∷ pos 1048601 ∷ pos 1482917 ∷ pos 2965878 ∷ pos 92681 ∷ [];
      plus = energy 20972 2;
      minus = energy 0 34;
    };
    ends = record { low = slots 3315888 (negsuc 2097181); high = slots 4194304 (pos 30) };
  };
}

abbrev pub day_closed : List Closed
day_closed = interval1 ∷ interval2 ∷ interval3 ∷ []

abbrev pub day_heard : PerPort (List (Op aberzhan × Value))
day_heard = record {
  on0 = (hold tt, interval 1 s0417 no_clips surge_alone) ∷ (read (byte 0x1AD), register (pos 0)) ∷ [];
  on1 =
      (hold tt, interval 1 s0417 no_clips surge_alone) ∷ (read (byte 0xE1), register (pos 30))
      ∷ (hold tt, interval 3 s601 (record { v = 0; s1 = 1; s3 = 0 }) sag_too) ∷ (read (byte 0x1B6), register (pos 41943))
      ∷ (read (byte 0xE4), register (pos 1048601)) ∷ (read (byte 0x153), register (pos 3315888)) ∷ [];
}

abbrev pub card601 : Card
card601 = record { serial = s601; fields = fields_of 4194304 }

-- three intervals, each with one card
abbrev pub day_intervals : List (Interval core)
day_intervals =
    record { card = record { serial = s0417; fields = fields_of 2097152 }; samples = (half, inputs (pos 60)) ∷ (half, inputs (pos 60)) ∷ [] }
    ∷ record { card = record { serial = s0417; fields = fields_of 2097152 }; samples = (half, inputs (pos 60)) ∷ (quarter, inputs (pos 60)) ∷ [] }
    ∷ record { card = card601; samples = (half, inputs (negsuc 59)) ∷ (half, inputs too_much) ∷ [] }
    ∷ []

-- the module in the evening, one sample into interval 4
abbrev pub evening : Module
evening = record {
  meter = record {
    waits = false;
    waiting = card601;
    forced = true;
    force = card601;
    taken = 1;
    work = record {
      settings = record { n = 2; b = 100; track = track; config = 0x86 };
      sums = record {
        vv = 17592186044416;
        a = record { ii = 14400; vi = pos 503316480; peak = 120 };
        b = record { ii = 1521; vi = negsuc 163577855; peak = 39 };
        clips = no_clips;
        seen = true;
        raw = inputs (pos 60);
      };
      any = true;
      last = interval3;
    };
  };
  watch = record {
    limits = record { w = 2; vsag = 3500000; vsurge = 4194303; sticky = record { sag = true; surge = false } };
    at = 1;
    seen = 2;
    sum = 35184372088832;
    alarms = surge_alone;
  };
  volts = half ∷ half ∷ replicate 510 (pos 0);
  desk0 = record {
    opened = true;
    serial = record { len = 3; digits = t600 ++ replicate 9 0 };
    fields = pos 4 ∷ replicate 7 (pos 0);
    written = true ∷ replicate 7 false;
  };
  desk1 = shut_desk;
  hold0 = record { any = true; closed = interval1; track = track };
  hold1 = record { any = true; closed = interval3; track = track };
}

-- all corrected voltages, and the reset where it stood
abbrev pub day_came : List Came
day_came =
    voltage half ∷ voltage half ∷ voltage half ∷ voltage quarter ∷ voltage half ∷ voltage half ∷ cleared sag_bit ∷ voltage half ∷ []

-- ---- that it is so

abbrev pub shorter_steps : List (Step aberzhan)
shorter_steps = steps_of aberzhan shorter_day

pub record DayIsSo : Type 0 where
  -- a configuration is 0 to 255
  pub configurations : map config_ok (negsuc 0 ∷ pos 0 ∷ pos 255 ∷ pos 256 ∷ []) ≡ false ∷ true ∷ true ∷ false ∷ []
  pub shortens : shorter aberzhan (state_of site) (asked aberzhan methods site day) ≡ shorter_day
  -- thirteen calls of the day are refused (18, 5, 6, 9, 13, 12, 11, 14, 15, 16, 17, 8, 12), and none of the shorter day
  pub refuses : ((program day site).refusals ≡ 13) × ((program (map call_of shorter_steps) site).refusals ≡ 0)
  pub tells : ((program day site).heard ≡ day_heard) × ((program (map call_of shorter_steps) site).heard ≡ day_heard)
  pub closes : ((run_of aberzhan methods site day).closed ≡ day_closed) × ((run aberzhan shorter_steps (state_of site)).closed ≡ day_closed)
  pub leaves : ((program day site).end ≡ evening) × ((program (map call_of shorter_steps) site).end ≡ evening)
  -- the rule, from the history alone: each interval has the card that was committed last before its first sample
  pub cuts : cut_by 2 (tagged core ports none (run_of aberzhan methods site day).history) ≡ day_intervals
  -- and the energy rule over them
  pub counts_a : (plus_over site.meter.work.settings IA day_closed ≡ energy 1 4) × (minus_over site.meter.work.settings IA day_closed ≡ energy 41943 64)
  pub counts_b : (plus_over site.meter.work.settings IB day_closed ≡ energy 20972 2) × (minus_over site.meter.work.settings IB day_closed ≡ energy 0 34)
  -- and the alarms: what came, and what it means, before the reset and after the last voltage
  pub came : map came_as (marked core ports none (run_of aberzhan methods site day).history (outset core site.meter.work)) ≡ day_came
  pub means : (alarms_meant site.watch.limits (take 6 day_came) ≡ sag_too) × (alarms_meant site.watch.limits day_came ≡ surge_alone)
