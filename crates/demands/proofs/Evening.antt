-- The polls of the evening, computed.
use mathlib.Core.Path.{refl}
use Rattle.serial.specs.Places.{part, put, put_within}
use Rattle.card.specs.Cards.{bits24, three_bytes, fields_bytes}
use Rattle.address.specs.Addresses.{trackable, untracked, words, position, byte_of, register_of}
use Rattle.port.specs.Holds.{copy_of, copied}
use Rattle.port.specs.Reading.{shown_of, registers, slot_off, look}
use Rattle.packet.specs.Packets.{sum_of, checksum, no_packet, sum_right, judged, commands_in}
use Rattle.packet.specs.Commands.{parameters, selects, target_of, selecting, not_used, pointed, bytes_read, reading, while_selected, command_of, registers_from, asked_from, asked_by}
use Rattle.packet.specs.Replies.{sending, reply_to, with_sum, values_reply, reply_bytes}
use Rattle.poll.specs.Polls.{reply_from}
use Rattle.aberzhan.specs.Polling.{poll_reply, poll_of, poll_buffer}
use Rattle.calls.specs.Turns.{sent_by}
use Rattle.demands.specs.Evening.{EveningIsSo}

pub evening_is_so : EveningIsSo
unfolding part put put_within bits24 three_bytes fields_bytes trackable untracked words position byte_of register_of copy_of copied shown_of registers slot_off look sum_of checksum no_packet sum_right judged commands_in parameters selects target_of selecting not_used pointed bytes_read reading while_selected command_of registers_from asked_from asked_by sending reply_to with_sum values_reply reply_bytes reply_from poll_reply poll_of poll_buffer sent_by
evening_is_so = record {
  two = record { returns = refl; leaves = refl };
  one = record { returns = refl; leaves = refl };
  refuses = record { returns = refl; leaves = refl };
  too_long = record { returns = refl; leaves = refl };
  counts = refl;
}
