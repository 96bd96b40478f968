-- Figures of the sources, worked out by hand: all 16 pairs of multipliers for IA and for IB, and the ends of the range.
use Rattle.std.specs.Prelude.{ℕ, ◌+◌, ◌*◌, ◌≡◌, List, [], ◌∷◌, map, ℤ, pos, negsuc}
use Rattle.source.specs.Sources.{Current, IA, IB, multipliers_of, blended}

-- a source's current, of the configuration and both inputs
abbrev pub current_of : Current → ℕ → ℤ → ℤ → ℤ
current_of w config s1 s3 = blended (multipliers_of w config) s1 s3

unfoldable pub sixteen : List ℕ
sixteen = 0 ∷ 1 ∷ 2 ∷ 3 ∷ 4 ∷ 5 ∷ 6 ∷ 7 ∷ 8 ∷ 9 ∷ 10 ∷ 11 ∷ 12 ∷ 13 ∷ 14 ∷ 15 ∷ []

-- of S1 7 and S3 -100, with M1 -1, 0, 1 and 2 in each line: -7 + 100 halved is 46, -7 - 100 halved is -54
unfoldable pub made : List ℤ
made =
    pos 46 ∷ pos 100 ∷ pos 53 ∷ pos 57  -- M3 -1
    ∷ negsuc 6 ∷ pos 0 ∷ pos 7 ∷ pos 14  -- M3 0
    ∷ negsuc 53 ∷ negsuc 99 ∷ negsuc 46 ∷ negsuc 42  -- M3 1
    ∷ negsuc 103 ∷ negsuc 199 ∷ negsuc 96 ∷ negsuc 92  -- M3 2
    ∷ []

-- IA of a configuration and both inputs, and what it must be
unfoldable pub end_figures : List (ℤ × ℤ)
end_figures =
    -- configuration 5 has both multipliers 0, 6 is S1, 4 is -S1, 7 is twice S1
    (current_of IA 5 (pos 8388607) (pos 8388607), pos 0)
    ∷ (current_of IA 6 (negsuc 8388607) (pos 1), negsuc 8388607)
    ∷ (current_of IA 4 (negsuc 8388607) (pos 1), pos 8388607)
    ∷ (current_of IA 7 (pos 4194304) (pos 1), pos 8388607)
    ∷ (current_of IA 7 (negsuc 4194303) (pos 1), negsuc 8388607)
    ∷ (current_of IA 7 (negsuc 4194304) (pos 1), negsuc 8388607)
    -- 10 is half of S1 + S3, 2 half of S1 - S3, 0 half of -S1 - S3: it is halved before it is clipped
    ∷ (current_of IA 10 (pos 8388607) (pos 8388607), pos 8388607)
    ∷ (current_of IA 10 (negsuc 8388607) (negsuc 8388607), negsuc 8388607)
    ∷ (current_of IA 2 (pos 8388607) (negsuc 8388607), pos 8388607)
    ∷ (current_of IA 2 (negsuc 8388607) (pos 8388607), negsuc 8388607)
    ∷ (current_of IA 0 (negsuc 8388607) (negsuc 8388607), pos 8388607)
    -- rounding down, of -1
    ∷ (current_of IA 10 (negsuc 0) (pos 0), negsuc 0)
    -- 15 is S1 + S3, which is clipped
    ∷ (current_of IA 15 (pos 5000000) (pos 5000000), pos 8388607)
    ∷ (current_of IA 15 (negsuc 4999999) (negsuc 4999999), negsuc 8388607)
    ∷ []

pub record SourcesFigured : Type 0 where
  pub every_ia : map (λ (n : ℕ). current_of IA (0x90 + n) (pos 7) (negsuc 99)) sixteen ≡ made
  pub every_ib : map (λ (n : ℕ). current_of IB (16 * n + 0x06) (pos 7) (negsuc 99)) sixteen ≡ made
  -- 0x96: IA is S1 and IB is S3
  pub s1_alone : current_of IA 0x96 (pos 7) (negsuc 99) ≡ pos 7
  pub s3_alone : current_of IB 0x96 (pos 7) (negsuc 99) ≡ negsuc 99
  pub at_the_ends : map (λ (f : ℤ × ℤ). f.0) end_figures ≡ map (λ (f : ℤ × ℤ). f.1) end_figures
