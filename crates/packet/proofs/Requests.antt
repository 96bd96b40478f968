-- The packet that reads one register asks for just that register.
use Prim.Native.Nat.{ℕ, ◌+◌, ◌*◌, ◌/◌, ◌%◌}
use mathlib.Core.Path.{◌≡◌, refl, ap, ◌∙◌}
use mathlib.Core.Bool.{Bool, true, cond, not}
use mathlib.Core.List.{List, [], ◌∷◌}
use native.Mathlib.Nat.{div-add-mod'}
use borrow.Author.Tests.{eq-eqb}
use Rattle.serial.specs.Places.{part}
use Rattle.packet.specs.declared.Ending.{Ending}
use Rattle.packet.specs.declared.Ending.TheVariants.{Whole, Fails}
use Rattle.packet.specs.Packets.{checksum, no_packet, sum_right, judged, commands_in}
use Rattle.packet.specs.Commands.{Asked, selects, target_of, not_used, parameters, pointed, bytes_read, reading, while_selected, command_of, registers_from, asked_from, asked_if, at_first, asked_by}
use Rattle.packet.specs.Replies.{with_sum}
use Rattle.packet.specs.Requests.{read_packet}

module _ (a : ℕ) where
  sum_right_lem : sum_right (read_packet a) ≡ true
  unfolding sum_right read_packet with_sum
  sum_right_lem = let s = checksum (0xAA ∷ 7 ∷ 0xA3 ∷ a % 256 ∷ a / 256 ∷ 0xE3 ∷ []) in eq-eqb s s refl

  whole_by : (b : Bool) → b ≡ true → cond (not b) (Fails 0xBD) Whole ≡ Whole
  whole_by b e = rw e refl

  whole : judged (read_packet a) ≡ Whole
  unfolding judged no_packet read_packet with_sum
  whole = whole_by (sum_right (read_packet a)) sum_right_lem

  commands : commands_in (read_packet a) ≡ 0xA3 ∷ a % 256 ∷ a / 256 ∷ 0xE3 ∷ []
  unfolding commands_in part read_packet with_sum
  commands = refl

  abbrev only : ℕ → Asked
  only n = record { registers = n ∷ []; ending = Whole }

  read_by : asked_from (0xA3 ∷ a % 256 ∷ a / 256 ∷ 0xE3 ∷ []) 0 at_first ≡ only (a / 256 * 256 + a % 256)
  unfolding asked_from command_of selects target_of while_selected not_used parameters pointed bytes_read reading registers_from
  read_by = refl

  pub asks_one : asked_by (read_packet a) ≡ only a
  unfolding asked_by
  asks_one =
      ap (λ (e : Ending). asked_if e (read_packet a)) whole
      ∙ ap (λ (cs : List ℕ). asked_from cs 0 at_first) commands
      ∙ read_by
      ∙ ap only (div-add-mod' a 256)
