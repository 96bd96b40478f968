-- Numbers worked out by the definition.
use mathlib.Core.Path.{◌≡◌, refl}
use mathlib.Core.List.{[], ◌∷◌}
use lib.IntN.{pos, negsuc}
use Rattle.decimal.specs.Decimals.{digits, decimal, signed_decimal, at_end, number_text}

-- 0
nothing : signed_decimal (pos 0) ≡ 48 ∷ []
unfolding signed_decimal decimal digits
nothing = refl

-- 417
label : signed_decimal (pos 417) ≡ 52 ∷ 49 ∷ 55 ∷ []
unfolding signed_decimal decimal digits
label = refl

-- -1, in its twenty bytes
below : number_text (negsuc 0) ≡ record { bytes = 0 ∷ 0 ∷ 0 ∷ 0 ∷ 0 ∷ 0 ∷ 0 ∷ 0 ∷ 0 ∷ 0 ∷ 0 ∷ 0 ∷ 0 ∷ 0 ∷ 0 ∷ 0 ∷ 0 ∷ 0 ∷ 45 ∷ 49 ∷ []; from = 18 }
unfolding number_text at_end signed_decimal decimal digits
below = refl

-- -9223372036854775808, the least of 64 bits: all twenty
least : number_text (negsuc 9223372036854775807)
    ≡ record { bytes = 45 ∷ 57 ∷ 50 ∷ 50 ∷ 51 ∷ 51 ∷ 55 ∷ 50 ∷ 48 ∷ 51 ∷ 54 ∷ 56 ∷ 53 ∷ 52 ∷ 55 ∷ 55 ∷ 53 ∷ 56 ∷ 48 ∷ 56 ∷ []; from = 0 }
unfolding number_text at_end signed_decimal decimal digits
least = refl
