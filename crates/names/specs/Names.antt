-- Which number a name of documents 01 and 02 stands for: a field's name its number, a register's name its word address.
use Rattle.std.specs.Prelude.{ℕ, cond, Option, Some, None, List, [], ◌∷◌, map}
use Rattle.std.specs.Borrow.{Bor}
use Prim.Native.String.{String}
use Rattle.serial.specs.Ascii.{ascii}
use Rattle.serial.specs.Texts.{same_text}

-- "A probe's card"
unfoldable pub fields : List (String × ℕ)
fields =
    ("VOFFS", 1)
    ∷ ("IOFFS", 2)
    ∷ ("VGAIN", 3)
    ∷ ("IGAIN", 4)
    ∷ ("PHASE", 5)
    ∷ ("IRMSOFFS", 6)
    ∷ ("SQUELCH", 7)
    ∷ ("POFFS", 8)
    ∷ []

-- "Registers", and A5: the words of `address`, in its order
unfoldable pub registers : List (String × ℕ)
registers =
    ("VA_RMS", 0x2B)
    ∷ ("IA_RMS", 0x3E)
    ∷ ("IA_PEAK", 0x46)
    ∷ ("WATT_A", 0x4B)
    ∷ ("VA_A", 0x4E)
    ∷ ("PFA", 0x65)
    ∷ ("IA_CREST", 0x8B)
    ∷ ("PA_POS_CNT", 0x8F)
    ∷ ("PA_NEG_CNT", 0x92)
    ∷ ("IB_RMS", 0x3F)
    ∷ ("IB_PEAK", 0x47)
    ∷ ("WATT_B", 0x4C)
    ∷ ("VA_B", 0x4F)
    ∷ ("PFB", 0x66)
    ∷ ("IB_CREST", 0x8C)
    ∷ ("PB_POS_CNT", 0x95)
    ∷ ("PB_NEG_CNT", 0x98)
    ∷ ("MIN1", 0x71)
    ∷ ("MIN2", 0x72)
    ∷ ("MIN3", 0x73)
    ∷ ("MIN4", 0x74)
    ∷ ("MIN5", 0x75)
    ∷ ("MIN6", 0x76)
    ∷ ("MAX1", 0x77)
    ∷ ("MAX2", 0x78)
    ∷ ("MAX3", 0x79)
    ∷ ("MAX4", 0x7A)
    ∷ ("MAX5", 0x7B)
    ∷ ("MAX6", 0x7C)
    ∷ []

-- the same with each name as its bytes
unfoldable pub spelled : List (String × ℕ) → List (List ℕ × ℕ)
spelled entries = map (λ (e : String × ℕ). (ascii e.0, e.1)) entries

-- a table of the program with each name as its bytes
abbrev pub entries_of : List (Bor (List ℕ) × ℕ) → List (List ℕ × ℕ)
entries_of table = map (λ (e : Bor (List ℕ) × ℕ). (e.0.now, e.1)) table

-- the number of the first entry whose name is exactly this text
unfoldable pub named_in : List (List ℕ × ℕ) → List ℕ → Option ℕ
named_in [] text = None
named_in (e ∷ es) text = cond (same_text e.0 text) (Some e.1) (named_in es text)

unfoldable pub field_named : List ℕ → Option ℕ
field_named text = named_in (spelled fields) text

unfoldable pub register_named : List ℕ → Option ℕ
register_named text = named_in (spelled registers) text
