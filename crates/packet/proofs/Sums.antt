-- Laws of the sum of bytes.
use Prim.Native.Nat.{ℕ, ◌+◌, ◌%◌, ◌≤◌, ◌<◌}
use mathlib.Core.Path.{◌≡◌, sym, ap, ◌∙◌}
use mathlib.Core.List.{List}
use native.Mathlib.Nat.{mod-add-mod, mod-eq_of_lt, add_assoc, add-zero}
use native.Mathlib.Numerals.{add-one}
use lib.ListN.{length, get_or, drop, drop_of_length-le}
use lib.Seq.{drop-cons}
use Rattle.packet.specs.Packets.{sum_of, checksum}

-- a byte more: what is summed so far, modulo 256, with what is left
pub sum_turn : (b : List ℕ) (sum k : ℕ) → k < length b → ((sum + get_or b k 0) % 256 + sum_of (drop (k + 1) b)) % 256 ≡ (sum + sum_of (drop k b)) % 256
unfolding sum_of
sum_turn b sum k l =
    mod-add-mod (sum + get_or b k 0) 256 (sum_of (drop (k + 1) b))
    ∙ ap (λ (n : ℕ). n % 256) (add_assoc sum (get_or b k 0) (sum_of (drop (k + 1) b)))
    ∙ sym (rw (drop-cons b k 0 l, add-one k))

-- every byte is summed
pub sum_done : (b : List ℕ) (sum k : ℕ) → length b ≤ k → sum < 256 → (sum + sum_of (drop k b)) % 256 ≡ sum_of b % 256 → sum ≡ checksum b
unfolding checksum sum_of
sum_done b sum k l s e = sym (mod-eq_of_lt s) ∙ ap (λ (n : ℕ). n % 256) (sym (add-zero sum)) ∙ (rw (drop_of_length-le b {i = k} l) at e)
