-- The register table, and its two kinds of address: byte is three times word.
use Rattle.std.specs.Prelude.{ℕ, suc, ◌*◌, cond, Option, Some, None, List, [], ◌∷◌, ◌++◌, map, eqb, leb, ltb, ℤ, pos, negsuc}
use Rattle.address.specs.declared.WordAddr.{WordAddr}
use Rattle.address.specs.declared.ByteAddr.{ByteAddr}

-- VA_RMS; IA_RMS, IA_PEAK, WATT_A, VA_A, PFA, IA_CREST: the words that can be tracked
unfoldable pub trackable : List ℕ
trackable = 0x2B ∷ 0x3E ∷ 0x46 ∷ 0x4B ∷ 0x4E ∷ 0x65 ∷ 0x8B ∷ []

-- PA_POS_CNT, PA_NEG_CNT; IB_RMS, IB_PEAK, WATT_B, VA_B, PFB, IB_CREST, PB_POS_CNT, PB_NEG_CNT (document 02, A5); MIN1 to MIN6; MAX1 to MAX6
unfoldable pub untracked : List ℕ
untracked =
    0x8F ∷ 0x92
    ∷ 0x3F ∷ 0x47 ∷ 0x4C ∷ 0x4F ∷ 0x66 ∷ 0x8C ∷ 0x95 ∷ 0x98
    ∷ 0x71 ∷ 0x72 ∷ 0x73 ∷ 0x74 ∷ 0x75 ∷ 0x76
    ∷ 0x77 ∷ 0x78 ∷ 0x79 ∷ 0x7A ∷ 0x7B ∷ 0x7C ∷ []

-- all words of the table
unfoldable pub words : List ℕ
words = trackable ++ untracked

-- how many they are
abbrev pub rows : ℕ
rows = 29

-- byte is three times word
unfoldable pub byte_of : WordAddr → ByteAddr
byte_of w = record { 0 = 3 * w.0 }

-- the place of the first element that is x, or the length where there is none
unfoldable pub position : ℕ → List ℕ → ℕ
position x [] = 0
position x (y ∷ ys) = cond (eqb y x) 0 (suc (position x ys))

-- where a word stands among the seven that can be tracked, or 7
unfoldable pub place_of : WordAddr → ℕ
place_of w = position w.0 trackable

-- where a byte address stands in the table, or `rows`
unfoldable pub register_of : ByteAddr → ℕ
register_of a = position a.0 (map (λ (w : ℕ). (byte_of (record { 0 = w })).0) words)

-- a place as the row of a table of so many rows; behind its last row there is none
abbrev pub row_in : ℕ → ℕ → Option ℕ
row_in n k = cond (ltb k n) (Some k) None

-- a number as an address; one that no address can be stands for the greatest, which no register has
unfoldable pub word_addr : ℤ → WordAddr
word_addr (pos n) = record { 0 = cond (leb n 4294967295) n 4294967295 }
word_addr (negsuc n) = record { 0 = 4294967295 }

unfoldable pub byte_addr : ℤ → ByteAddr
byte_addr (pos n) = record { 0 = n }
byte_addr (negsuc n) = record { 0 = 18446744073709551615 }
