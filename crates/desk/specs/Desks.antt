-- A port's desk, where a card is made. Each rule gives its refusals in document 01's order; 8, the wrong port, is asked before.
use Rattle.std.specs.Prelude.{ℕ, ◌-◌, Bool, true, false, cond, List, ℤ, pos, nat_abs, get_or, set, replicate}
use Rattle.steps.specs.Answers.{OrRefusal, refused, accepted, and_then}
use Rattle.serial.specs.declared.Serial.{Serial}
use Rattle.card.specs.declared.Card.{Card}
use Rattle.serial.specs.Every.{every}
use Rattle.serial.specs.Serials.{no_serial, is_serial, serial_of}
use Rattle.card.specs.Fields.{is_field, field_in_range}
use Rattle.desk.specs.declared.Desk.{Desk}

-- no card is in the making
abbrev pub shut_desk : Desk
shut_desk = record { opened = false; serial = no_serial; fields = replicate 8 (pos 0); written = replicate 8 false }

-- open with a serial: 9, 1. Begins an empty card.
unfoldable pub empty_card : Serial → Desk
empty_card s = record { opened = true; serial = s; fields = replicate 8 (pos 0); written = replicate 8 false }

unfoldable pub opening : Desk → List ℕ → OrRefusal Desk
opening d text =
    cond d.opened (refused 9)
    (cond (is_serial text) (accepted (empty_card (serial_of text)))
    (refused 1))

-- write field, value: 10, 11, 12. A second write of a field replaces the first. (k is the field's place, from 0)
unfoldable pub with_field : Desk → ℕ → ℤ → Desk
with_field d k v = record { opened = d.opened; serial = d.serial; fields = set d.fields k v; written = set d.written k true }

unfoldable pub writing : Desk → ℤ → ℤ → OrRefusal Desk
writing d field v =
    cond d.opened
    (cond (is_field field)
    (cond (field_in_range field v) (accepted (with_field d (nat_abs field - 1) v))
    (refused 12))
    (refused 11))
    (refused 10)

-- commit: 10, 13
unfoldable pub all_written : List Bool → Bool
all_written w = every (λ (k : ℕ). get_or w k false) 8

unfoldable pub card_on : Desk → Card
card_on d = record { serial = d.serial; fields = d.fields }

unfoldable pub finished : Desk → OrRefusal Card
finished d =
    cond d.opened
    (cond (all_written d.written) (accepted (card_on d))
    (refused 13))
    (refused 10)

-- the card, and the desk is shut
abbrev pub finishing : Desk → OrRefusal (Card × Desk)
finishing d = and_then (finished d) (λ c. (c, shut_desk))

-- drop: 10. The desk is shut.
unfoldable pub discarded : Desk → OrRefusal (Unit {0})
discarded d = cond d.opened (accepted tt) (refused 10)

abbrev pub dropping : Desk → OrRefusal Desk
dropping d = and_then (discarded d) (λ u. shut_desk)

-- what is done at a desk until a card is whole
pub data Edit : Type 0 where
  open_with : List ℕ → Edit  -- the serial's text
  write_field : ℤ → ℤ → Edit  -- the field's number, and the value

abbrev pub edited : Desk → Edit → OrRefusal Desk
edited d (open_with text) = opening d text
edited d (write_field field v) = writing d field v
