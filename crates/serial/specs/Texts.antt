-- A text is the list of its bytes.
use Rattle.std.specs.Prelude.{ℕ, Bool, ◌&&◌, List, eqb, length, get_or}
use Rattle.serial.specs.Every.{every}

-- two texts are the same: as long, and byte for byte
unfoldable pub same_text : List ℕ → List ℕ → Bool
same_text a b = eqb (length a) (length b) && every (λ (k : ℕ). eqb (get_or a k 0) (get_or b k 0)) (length a)
