-- The packets and their replies, computed.
use mathlib.Core.Path.{refl}
use Rattle.serial.specs.Places.{part}
use Rattle.card.specs.Cards.{bits24, three_bytes, fields_bytes}
use Rattle.packet.specs.Packets.{sum_of, checksum, no_packet, sum_right, judged, commands_in}
use Rattle.packet.specs.Commands.{parameters, selects, target_of, selecting, not_used, pointed, bytes_read, reading, while_selected, command_of, registers_from, asked_from, asked_by}
use Rattle.packet.specs.Replies.{sending, reply_to, with_sum, values_reply, reply_bytes}
use Rattle.packet.specs.Figures.{FiguresAreSo}

pub figures_are_so : FiguresAreSo
unfolding part bits24 three_bytes fields_bytes sum_of checksum no_packet sum_right judged commands_in parameters selects target_of selecting not_used pointed bytes_read reading while_selected command_of registers_from asked_from asked_by sending reply_to with_sum values_reply reply_bytes
figures_are_so = record { all = refl; longest = refl; longer = refl }
