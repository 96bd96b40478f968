-- Lines and answers worked out by the definition.
use mathlib.Core.Path.{◌≡◌, refl}
use mathlib.Core.Bool.{true, false}
use mathlib.Core.List.{List, [], ◌∷◌, ◌++◌}
use lib.IntN.{ℤ, pos, negsuc}
use lib.ListN.{replicate}
use Rattle.decimal.specs.Decimals.{digits, decimal, signed_decimal}
use Rattle.serial.specs.Ascii.{ascii}
use Rattle.serial.specs.declared.Serial.{Serial}
use Rattle.serial.specs.Serials.{no_serial}
use Rattle.sample.specs.Sums.{no_clips}
use Rattle.alarm.specs.Masks.{no_alarms}
use Rattle.serial.specs.Every.{every}
use Rattle.serial.specs.Texts.{same_text}
use Rattle.refusal.specs.Words.{table, words_of}
use Rattle.names.specs.Names.{registers, spelled, named_in, register_named}
use Rattle.steps.specs.Answers.{refused as no, accepted}
use Rattle.aberzhan.specs.declared.Module.{Module}
use Rattle.aberzhan.specs.Module.{block_of}
use Rattle.console.specs.declared.words.Word.TheVariants as word
use Rattle.console.specs.declared.unread.Why.TheVariants as why
use Rattle.console.specs.declared.turns.Said.TheVariants as said
use Rattle.console.specs.Texts.{begins_with, length_to, without_return}
use Rattle.console.specs.Numbers.{digit_of, worth_behind, digits_of, positive, negative, value_of, pair_of}
use Rattle.console.specs.Items.{worth_in, next_of, row_of, several}
use Rattle.console.specs.Words.{items_of}
use Rattle.console.specs.Unread.{why_words, stopped_before, slice_stopped, packet_stopped}
use Rattle.console.specs.Turns.{stepped_turn, polled_turn, asked_of, start_turn, with_items, packet_turn, with_packet, slice_turn, s3_turn, with_samples}
use Rattle.console.specs.Answers.{end, unread_line, refused_line, value_line, digits_text, card_text, count_text, clips_text, alarms_text, held_line}
use Rattle.console.specs.Answers.{hex_digit, bytes_text, reply_line, cards_line, said_text, told_text}

refused : told_text (no 16) ≡ ascii "REFUSED 16: no register has this byte address" ++ end
unfolding told_text refused_line decimal digits ascii words_of table
refused = refl

unread : said_text (said.Unread why.NotField) ≡ ascii "UNREAD: neither a 64-bit number nor a field's name" ++ end
unfolding said_text unread_line why_words ascii
unread = refl

value : said_text (said.Value (negsuc 204)) ≡ ascii "ok -205" ++ end
unfolding said_text value_line signed_decimal decimal digits ascii
value = refl

abbrev label : Serial
label = record { len = 4; digits = 48 ∷ 52 ∷ 49 ∷ 55 ∷ 0 ∷ 0 ∷ 0 ∷ 0 ∷ 0 ∷ 0 ∷ 0 ∷ 0 ∷ [] }

-- three voltages were clipped, twelve samples of S1 and one of S3; the voltage surges
held : held_line 7 label (record { v = 3; s1 = 12; s3 = 1 }) (record { sag = false; surge = true }) ≡ ascii "ok 7 0417 3 12 1 - SURGE" ++ end
unfolding held_line digits_text clips_text count_text alarms_text decimal digits ascii
held = refl

-- none was, and the most that can be; neither alarm is set, and both
held_none : held_line 1 label no_clips no_alarms ≡ ascii "ok 1 0417 0 0 0 - -" ++ end
unfolding held_line digits_text clips_text count_text alarms_text decimal digits ascii
held_none = refl

held_all : held_line 2 label (record { v = 4096; s1 = 4096; s3 = 4096 }) (record { sag = true; surge = true })
    ≡ ascii "ok 2 0417 4096 4096 4096 SAG SURGE" ++ end
unfolding held_line digits_text clips_text count_text alarms_text decimal digits ascii
held_all = refl

-- a reply with a register that is 2,000; one that says no; and none. What stands behind its bytes is not said
reply : reply_line (record { bytes = 170 ∷ 6 ∷ 208 ∷ 7 ∷ 0 ∷ 135 ∷ 1 ∷ []; length = 6 }) ≡ ascii "ok AA 06 D0 07 00 87" ++ end
unfolding reply_line bytes_text hex_digit ascii
reply = refl

reply_no : reply_line (record { bytes = 176 ∷ 0 ∷ []; length = 1 }) ≡ ascii "ok B0" ++ end
unfolding reply_line bytes_text hex_digit ascii
reply_no = refl

reply_none : reply_line (record { bytes = 0 ∷ []; length = 0 }) ≡ ascii "ok" ++ end
unfolding reply_line bytes_text ascii
reply_none = refl

-- nothing is in force yet, a card waits
cards : cards_line no_serial label ≡ ascii "ok - 0417" ++ end
unfolding cards_line card_text digits_text ascii
cards = refl

-- a carriage return belongs to the line's end only right before it
returned : without_return (104 ∷ 13 ∷ 101 ∷ 13 ∷ 13 ∷ []) ≡ 104 ∷ 13 ∷ 101 ∷ 13 ∷ []
unfolding without_return
returned = refl

-- what a start asks of its alarms where it leaves all of it out, and where it leaves out the last two
abbrev eight : List ℤ
eight = pos 400 ∷ pos 1 ∷ pos 0 ∷ pos 0 ∷ pos 0 ∷ pos 0 ∷ pos 0 ∷ pos 0 ∷ []

asked_nothing : asked_of eight ≡ record { w = pos 1; vsag = pos 0; vsurge = pos 0; sticky = pos 0 }
asked_nothing = refl

asked_sag : asked_of (eight ++ pos 40 ∷ pos 4000000 ∷ []) ≡ record { w = pos 40; vsag = pos 4000000; vsurge = pos 0; sticky = pos 0 }
asked_sag = refl

-- its first eight items must stand; of the rest, what stands must be a number; a fourteenth is too many
module _ (m : Module) where
  start_short : (with_items m word.Start (ascii " 1 1 0 0 0 0 0")).said ≡ accepted (said.Unread why.Missing)
  unfolding with_items row_of items_of next_of worth_in value_of begins_with length_to digits_of worth_behind digit_of positive register_named named_in spelled registers same_text every stopped_before ascii
  start_short = refl

  start_named : (with_items m word.Start (ascii " 1 1 0 0 0 0 0 0 40 WATT_A")).said ≡ accepted (said.Unread why.NotNumber)
  unfolding with_items row_of items_of next_of worth_in value_of begins_with length_to digits_of worth_behind digit_of positive register_named named_in spelled registers same_text every stopped_before ascii
  start_named = refl

  start_long : (with_items m word.Start (ascii " 1 1 0 0 0 0 0 0 1 0 0 0 0 0")).said ≡ accepted (said.Unread why.More)
  unfolding with_items row_of items_of next_of worth_in value_of begins_with length_to digits_of worth_behind digit_of positive register_named named_in spelled registers same_text every stopped_before ascii
  start_long = refl

  -- its configuration stands last; left out it is 0
  start_configured : with_items m word.Start (ascii " 1 1 0 0 0 0 0 0 1 0 0 0 0x96")
      ≡ start_turn m (pos 1 ∷ pos 1 ∷ replicate 6 (pos 0) ++ pos 1 ∷ pos 0 ∷ pos 0 ∷ pos 0 ∷ pos 150 ∷ [])
  unfolding with_items row_of items_of next_of worth_in value_of begins_with length_to digits_of worth_behind digit_of positive register_named named_in spelled registers same_text every stopped_before ascii
  start_configured = refl

  start_unconfigured : with_items m word.Start (ascii " 1 1 0 0 0 0 0 0")
      ≡ start_turn m (pos 1 ∷ pos 1 ∷ replicate 6 (pos 0) ++ pos 1 ∷ pos 0 ∷ pos 0 ∷ pos 0 ∷ pos 0 ∷ [])
  unfolding with_items row_of items_of next_of worth_in value_of begins_with length_to digits_of worth_behind digit_of positive register_named named_in spelled registers same_text every stopped_before ascii
  start_unconfigured = refl

  -- a block's three slices, in their order, and an empty one
  block_slices : with_samples 3 3 3 m (ascii " 1 -2 | 3 4 | 5") ≡ stepped_turn (block_of m (pos 1 ∷ negsuc 1 ∷ []) (pos 3 ∷ pos 4 ∷ []) (pos 5 ∷ []))
  unfolding slice_turn s3_turn row_of several next_of worth_in value_of begins_with length_to digits_of worth_behind digit_of positive negative ascii
  block_slices = refl

  block_empty : with_samples 3 3 3 m (ascii " | |") ≡ stepped_turn (block_of m [] [] [])
  unfolding slice_turn s3_turn row_of several next_of worth_in value_of begins_with length_to digits_of worth_behind digit_of positive negative ascii
  block_empty = refl

  -- with no bar, with one, with three, and with a bar that lacks its space
  block_no_bar : (with_samples 3 3 3 m (ascii " 1")).said ≡ accepted (said.Unread why.NoBar)
  unfolding slice_turn s3_turn row_of several next_of worth_in value_of begins_with length_to digits_of worth_behind digit_of positive negative slice_stopped ascii
  block_no_bar = refl

  block_one_bar : (with_samples 3 3 3 m (ascii " 1 | 1")).said ≡ accepted (said.Unread why.NoBar)
  unfolding slice_turn s3_turn row_of several next_of worth_in value_of begins_with length_to digits_of worth_behind digit_of positive negative slice_stopped ascii
  block_one_bar = refl

  block_three_bars : (with_samples 3 3 3 m (ascii " 1 | 1 | 1 |")).said ≡ accepted (said.Unread why.NotSample)
  unfolding slice_turn s3_turn row_of several next_of worth_in value_of begins_with length_to digits_of worth_behind digit_of positive negative slice_stopped ascii
  block_three_bars = refl

  block_close_bar : (with_samples 3 3 3 m (ascii " ||")).said ≡ accepted (said.Unread why.NotSample)
  unfolding slice_turn s3_turn row_of several next_of worth_in value_of begins_with length_to digits_of worth_behind digit_of positive negative slice_stopped ascii
  block_close_bar = refl

  -- as many samples as have room, and one more
  block_full : with_samples 2 2 2 m (ascii " 1 2 | 3 4 | 5 6") ≡ stepped_turn (block_of m (pos 1 ∷ pos 2 ∷ []) (pos 3 ∷ pos 4 ∷ []) (pos 5 ∷ pos 6 ∷ []))
  unfolding slice_turn s3_turn row_of several next_of worth_in value_of begins_with length_to digits_of worth_behind digit_of positive negative ascii
  block_full = refl

  block_over : (with_samples 2 2 2 m (ascii " 1 2 | 3 4 | 5 6 7")).said ≡ accepted (said.Unread why.TooMany)
  unfolding slice_turn s3_turn row_of several next_of worth_in value_of begins_with length_to digits_of worth_behind digit_of positive negative slice_stopped ascii
  block_over = refl

  -- a poll with a packet of three bytes, in either case, and with an empty one
  poll_packet : with_packet m (ascii " 0x10 aA 03 Ad") ≡ polled_turn m (170 ∷ 3 ∷ 173 ∷ []) 16
  unfolding with_packet packet_turn row_of several items_of next_of worth_in value_of pair_of begins_with length_to digits_of worth_behind digit_of positive negative stopped_before ascii
  poll_packet = refl

  poll_nothing : with_packet m (ascii " 255") ≡ polled_turn m [] 255
  unfolding with_packet packet_turn row_of several items_of next_of worth_in value_of pair_of begins_with length_to digits_of worth_behind digit_of positive negative stopped_before ascii
  poll_nothing = refl

  -- no room, and rooms that are none
  poll_short : (with_packet m []).said ≡ accepted (said.Unread why.Missing)
  unfolding with_packet packet_turn row_of several items_of next_of worth_in value_of pair_of begins_with length_to digits_of worth_behind digit_of positive negative stopped_before ascii
  poll_short = refl

  poll_wide : (with_packet m (ascii " 256 AA")).said ≡ accepted (said.Unread why.NotRoom)
  unfolding with_packet packet_turn row_of several items_of next_of worth_in value_of pair_of begins_with length_to digits_of worth_behind digit_of positive negative stopped_before ascii
  poll_wide = refl

  poll_below : (with_packet m (ascii " -1")).said ≡ accepted (said.Unread why.NotRoom)
  unfolding with_packet packet_turn row_of several items_of next_of worth_in value_of pair_of begins_with length_to digits_of worth_behind digit_of positive negative stopped_before ascii
  poll_below = refl

  -- one digit, three, and a space at the line's end
  poll_digit : (with_packet m (ascii " 255 AA 3")).said ≡ accepted (said.Unread why.NotByte)
  unfolding with_packet packet_turn row_of several items_of next_of worth_in value_of pair_of begins_with length_to digits_of worth_behind digit_of positive negative stopped_before ascii
  poll_digit = refl

  poll_digits : (with_packet m (ascii " 255 0AA")).said ≡ accepted (said.Unread why.NotByte)
  unfolding with_packet packet_turn row_of several items_of next_of worth_in value_of pair_of begins_with length_to digits_of worth_behind digit_of positive negative stopped_before ascii
  poll_digits = refl

  poll_space : (with_packet m (ascii " 255 ")).said ≡ accepted (said.Unread why.NotByte)
  unfolding with_packet packet_turn row_of several items_of next_of worth_in value_of pair_of begins_with length_to digits_of worth_behind digit_of positive negative stopped_before ascii
  poll_space = refl

-- behind 4,096 bytes another item is one too many, whatever it is
bytes_full : packet_stopped 4096 ≡ why.TooManyBytes
bytes_full = refl

bytes_fewer : packet_stopped 4095 ≡ why.NotByte
bytes_fewer = refl
