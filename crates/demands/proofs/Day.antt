-- The day at a site, computed: the sequence shortens as said, and both sequences close the same intervals, tell the same and leave the same module.
use mathlib.Core.Path.{refl}
use Rattle.range.specs.Range.{in24, outside24, clipped, held_within}
use Rattle.number.specs.Sign.{with_sign, lessened}
use Rattle.number.specs.Rounding.{floor_div, toward_zero}
use Rattle.root.specs.Root.{root_of, root_by}
use Rattle.serial.specs.Every.{every}
use Rattle.serial.specs.Serials.{digits_ok, is_serial, padded, serial_of}
use Rattle.card.specs.Fields.{lows, highs, fits_field, is_field, field_in_range}
use Rattle.source.specs.Sources.{multiplier, multipliers_in, multipliers_of, weighed, uses_both, blended}
use Rattle.sample.specs.Sample.{every24, scaled, corrected, was_clipped, mixed, voltage, input, phased, voltage_clipped, input_clipped, source_current}
use Rattle.sample.specs.Sums.{joined, counted, previous, summed, samples_in, same_length, added, emptied, flow_within, clips_within, of_at_most, phase_in_range}
use Rattle.rules.specs.Rules.{rms, below_squelch, active_of, apparent_of, factor_of, crest_of}
use Rattle.rules.specs.Source.{vrms_of, current_root, is_squelched, irms_of, watt_of, ipeak_of, six, figures_of}
use Rattle.energy.specs.Energies.{advanced, joined_by, plus_after, minus_after}
use Rattle.address.specs.Addresses.{trackable, untracked, words, position, place_of, byte_of, register_of}
use Rattle.address.specs.Slots.{slot_ok, every_slot}
use Rattle.tracking.specs.Tracking.{tracked, further, lowest, highest, followed}
use Rattle.interval.specs.Close.{source_after, seven_of, registers_after, number_after, closed_of}
use Rattle.alarm.specs.Masks.{only_alarms, named_by}
use Rattle.alarm.specs.Alarms.{next_place, slid_sum, sags, surges, shown, alarms_after, watched, seen_with, cleared_of, clearing}
use Rattle.alarm.specs.Starting.{numbers_ok as levelsOk, asked_ok, limits_of}
use Rattle.halfcycle.specs.Passing.{squares, watch_sound}
use Rattle.meter.specs.Core.{samples_of, last_of, closed_work, reset_watch}
use Rattle.meter.specs.Blocks.{wait_of, next_card, sound_of, block_done, block_of as meterBlock, volts_of}
use Rattle.meter.specs.Starting.{numbers_ok, config_ok, fresh_of}
use Rattle.desk.specs.Desks.{empty_card, with_field, opening, writing, all_written, card_on, finished, discarded}
use Rattle.port.specs.Holds.{copy_of, copied}
use Rattle.port.specs.Reading.{shown_of, registers, slot_off, look}
use Rattle.aberzhan.specs.Module.{port_at, fresh_module, settings_ok, start_of, open_of, write_of, commit_of, drop_of, hold_of, read_of, block_of, reset_of}
use Rattle.demands.specs.Day.{DayIsSo}

pub day_is_so : DayIsSo
unfolding start_of settings_ok asked_ok levelsOk only_alarms named_by limits_of numbers_ok every_slot slot_ok place_of position trackable fresh_of fresh_module port_at opening writing is_serial digits_ok every serial_of padded empty_card with_field is_field field_in_range fits_field lows highs finished all_written card_on discarded copied copy_of look register_of byte_of words untracked slot_off shown_of registers samples_of every24 in24 samples_in added summed joined counted previous voltage phased input voltage_clipped input_clipped source_current multiplier multipliers_in multipliers_of weighed uses_both blended scaled corrected was_clipped mixed outside24 clipped held_within floor_div closed_work last_of closed_of number_after registers_after vrms_of rms root_of root_by source_after figures_of six current_root is_squelched irms_of below_squelch watt_of ipeak_of active_of toward_zero with_sign lessened apparent_of factor_of crest_of plus_after minus_after joined_by advanced seven_of followed tracked further lowest highest emptied open_of write_of commit_of drop_of hold_of read_of block_of reset_of reset_watch clearing cleared_of meterBlock volts_of block_done wait_of next_card sound_of watch_sound squares seen_with watched slid_sum next_place alarms_after shown sags surges same_length flow_within clips_within of_at_most phase_in_range config_ok
day_is_so = record {
  configurations = refl;
  shortens = refl;
  refuses = (refl, refl);
  tells = (refl, refl);
  closes = (refl, refl);
  leaves = (refl, refl);
  cuts = refl;
  counts_a = (refl, refl);
  counts_b = (refl, refl);
  came = refl;
  means = (refl, refl);
}
