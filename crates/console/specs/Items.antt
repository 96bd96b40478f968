-- The items of a step: numbers, names, samples and bytes in a row, each behind one space.
use Rattle.std.specs.Prelude.{ℕ, zero, suc, ◌+◌, ◌≡◌, cond, ◌&&◌, Option, Some, None, List, [], ◌∷◌, ◌++◌, map, ℤ, pos, negsuc, nat_abs, length, take, drop}
use Rattle.std.specs.Int.Signed.{le_z}
use Rattle.address.specs.Addresses.{byte_of}
use Rattle.names.specs.Names.{field_named, register_named}
use Rattle.console.specs.declared.words.Kind.{Kind}
use Rattle.console.specs.declared.words.Kind.TheVariants as kind
use Rattle.console.specs.declared.items.Next.{Next}
use Rattle.console.specs.declared.items.Row.{Row}
use Rattle.console.specs.Texts.{begins_with, length_to}
use Rattle.console.specs.Numbers.{value_of, pair_of}

-- ---- what an item is worth

-- what a name stands for, or else the item's number
abbrev pub own_number : Option ℕ → List ℕ → Option ℤ
own_number (Some n) item = Some (pos n)
own_number None item = value_of item

-- the byte address of the register that is named, or else the item's number
abbrev pub byte_address : Option ℕ → List ℕ → Option ℤ
byte_address (Some w) item = Some (pos (byte_of (record { 0 = w })).0)
byte_address None item = value_of item

-- a number from one to another
abbrev pub between : ℤ → ℤ → Option ℤ → Option ℤ
between low high (Some x) = cond (le_z low x && le_z x high) (Some x) None
between low high None = None

-- where an item of this kind must stand: `start` takes a register's word address, `read` its byte address; a sample is from -2^31 to 2^31 - 1
unfoldable pub worth_in : Kind → List ℕ → Option ℤ
worth_in kind.Number item = value_of item
worth_in kind.Field item = own_number (field_named item) item
worth_in kind.Slot item = own_number (register_named item) item
worth_in kind.Register item = byte_address (register_named item) item
worth_in kind.Sample item = between (negsuc 2147483647) (pos 2147483647) (value_of item)
worth_in kind.Room item = between (pos 0) (pos 255) (value_of item)
worth_in kind.Byte item = pair_of item

-- ---- an item, and the bytes that it takes with its space

abbrev pub numbered : Option ℤ → ℕ → Option Next
numbered (Some x) n = Some (record { worth = x; taken = n })
numbered None n = None

-- a space, and an item that is worth a number
unfoldable pub next_of : Kind → List ℕ → Option Next
next_of k text =
    let item = drop 1 text in
    cond (begins_with (32 ∷ []) text) (numbered (worth_in k (take (length_to 32 item) item)) (length_to 32 item + 1))
    None

-- ---- items in a row, and the bytes that they take

pub record Numbers : Type 0 where
  pub values : List ℤ
  pub bytes : ℕ

abbrev pub none : Numbers
none = record { values = []; bytes = 0 }

abbrev pub before : Option Next → (ℕ → Numbers) → Numbers
before (Some i) rest = record { values = i.worth ∷ (rest i.taken).values; bytes = i.taken + (rest i.taken).bytes }
before None rest = none

-- as many items of these kinds as a text begins with
unfoldable pub row_of : List Kind → List ℕ → Numbers
row_of [] text = none
row_of (k ∷ ks) text = before (next_of k text) (λ n. row_of ks (drop n text))

-- so many of one kind
unfoldable pub several : Kind → ℕ → List Kind
several k zero = []
several k (suc n) = k ∷ several k n

abbrev pub samples : ℕ → List Kind
samples n = several kind.Sample n

-- the bytes of a packet, of which there are at most 4,096
abbrev pub bytes : List Kind
bytes = several kind.Byte 4096

abbrev pub packet_of : Numbers → List ℕ
packet_of row = map nat_abs row.values

-- the numbers stand at the start of a buffer; behind them it is as it was
pub record Filled (r : Row) (was buffer : List ℤ) (row : Numbers) : Type 0 where
  pub count : r.count ≡ length row.values
  pub bytes : r.taken ≡ row.bytes
  pub values : buffer ≡ row.values ++ drop (length row.values) was

-- the same of a buffer of bytes
abbrev pub FilledBytes : Row → List ℕ → List ℕ → Numbers → Type 0
FilledBytes r was buffer row = Filled r (map pos was) (map pos buffer) row
