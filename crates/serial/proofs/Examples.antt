-- Worked examples of the document: serials, and the 13 bytes of one.
use Prim.Native.Nat.{ℕ}
use mathlib.Core.Path.{◌≡◌, refl}
use mathlib.Core.Bool.{true, false}
use mathlib.Core.List.{List, [], ◌∷◌}
use lib.ListN.{replicate}
use Rattle.serial.specs.Every.{every}
use Rattle.serial.specs.Serials.{digits_ok, is_serial, padded, serial_of, serial_bytes}

-- 0417
label : List ℕ
label = 48 ∷ 52 ∷ 49 ∷ 55 ∷ []

-- 12 digits are taken, 13 refused, and so are none and a letter
twelve : is_serial (replicate 12 48) ≡ true
unfolding is_serial digits_ok every
twelve = refl

thirteen : is_serial (replicate 13 48) ≡ false
unfolding is_serial digits_ok every
thirteen = refl

no_digits : is_serial [] ≡ false
unfolding is_serial digits_ok every
no_digits = refl

a_letter : is_serial (48 ∷ 65 ∷ []) ≡ false
unfolding is_serial digits_ok every
a_letter = refl

-- 04 30 34 31 37, and eight 00
label_bytes : serial_bytes (serial_of label) ≡ 4 ∷ 48 ∷ 52 ∷ 49 ∷ 55 ∷ replicate 8 0
unfolding label serial_bytes serial_of is_serial digits_ok every padded
label_bytes = refl
