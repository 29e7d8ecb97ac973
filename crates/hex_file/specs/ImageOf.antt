-- Which image a file means (Intel, Hexadecimal Object File Format Specification).
use Rattle.std.specs.Prelude.{◌≡◌, ◌≢◌, ℕ, ◌<◌, ◌≤◌, ◌+◌, ◌*◌, ◌/◌, ◌%◌, ◌⊎◌, ◌↔◌, List, [], ◌∷◌, ◌++◌, length, map, sum, Some, codes, nat_lt, slice_get}
use Rattle.std.specs.List.{All, AllZip, Contains, filter, flat_map}
use Rattle.std.specs.List.Sorted.{IsStrictlyIncreasing}
use Rattle.std.specs.Str.{str_to_ascii_uppercase}
use Rattle.std.specs.Str.Lines.{lines}
use Rattle.text_parts.specs.Digits.{hex2}
use Rattle.hex_file.specs.declared.images.Word.{Word}
use Rattle.hex_file.specs.declared.images.Aside.{Aside}
use Rattle.hex_file.specs.declared.images.Image.{Image}

-- A record: a byte address, the number of its type, and its data in bytes.
pub record HexRecord : Type 0 where
  pub address : ℕ
  pub kind : ℕ
  pub payload : List ℕ

-- A record's bytes: the number of its data bytes, the address with its high byte first, the type, the data, and
-- a check byte.
abbrev pub record_bytes : HexRecord → ℕ → List ℕ
record_bytes r check = length r.payload ∷ r.address / 256 ∷ r.address % 256 ∷ r.kind ∷ (r.payload ++ check ∷ [])

-- The types are 00 to 05. Data (00) ends at FFFFh at most, the end (01) has no data, and an upper address (02 and
-- 04) is two bytes of 0. Nothing more is asked of a start address (03 and 05).
pub record IsAllowed (r : HexRecord) : Type 0 where
  pub known : r.kind ≤ 5
  pub in_range : r.kind ≡ 0 → r.address + length r.payload ≤ 0x10000
  pub end_empty : r.kind ≡ 1 → r.payload ≡ []
  pub upper_zero : (r.kind ≡ 2) ⊎ (r.kind ≡ 4) → r.payload ≡ 0 ∷ 0 ∷ []

-- The line, without its ending, is a colon and a record's bytes, each in two digits of either case. The sum of
-- the bytes is 0 modulo 256.
pub record IsRecordLine (line : List ℕ) (r : HexRecord) : Type 0 where
  pub check : ℕ
  pub spelled : str_to_ascii_uppercase line ≡ codes ":" ++ flat_map hex2 (record_bytes r check)
  pub bytes : All (λ byte. byte < 256) (record_bytes r check)
  pub balanced : sum (record_bytes r check) % 256 ≡ 0
  pub allowed : IsAllowed r

-- The lines that aren't empty. A line ends in LF or CR LF. The last may have no ending, and then a CR at the very
-- end is a byte of it.
abbrev pub nonempty_lines : List ℕ → List (List ℕ)
nonempty_lines bytes = filter (λ line. nat_lt 0 (length line)) (lines bytes)

-- The lines that aren't empty are those of these records and of an end record (01) after them, the only one.
pub record SpellsRecords (bytes : List ℕ) (records : List HexRecord) : Type 0 where
  pub end : HexRecord
  pub lines : AllZip IsRecordLine (nonempty_lines bytes) (records ++ end ∷ [])
  pub ended : end.kind ≡ 1
  pub once : All (λ r. r.kind ≢ 1) records

-- A data record gives this byte at this byte address.
pub record GivesByte (records : List HexRecord) (address byte : ℕ) : Type 0 where
  pub source : HexRecord
  pub place : ℕ
  pub among : Contains records source
  pub is_data : source.kind ≡ 0
  pub value : slice_get source.payload place ≡ Some byte
  pub at : address ≡ source.address + place

-- Some byte is given at this byte address.
abbrev pub IsGiven : List HexRecord → ℕ → Type 0
IsGiven records address = (byte : ℕ) × GivesByte records address byte

-- No two values are given at one byte address. The same value may be given twice.
abbrev pub Agree : List HexRecord → Type 0
Agree records = (address first second : ℕ) → GivesByte records address first → GivesByte records address second → first ≡ second

-- The byte at a byte address: one that is given, or FFh where none is.
abbrev pub HasByte : List HexRecord → ℕ → ℕ → Type 0
HasByte records address byte = GivesByte records address byte ⊎ ((¬ IsGiven records address) × (byte ≡ 0xFF))

-- The word at a word address: of its two bytes, the low one first, at least one is given. Its top two bits are
-- dropped.
pub record GivesWord (records : List HexRecord) (address word : ℕ) : Type 0 where
  pub low : ℕ
  pub high : ℕ
  pub given : IsGiven records (2 * address) ⊎ IsGiven records (2 * address + 1)
  pub low_byte : HasByte records (2 * address) low
  pub high_byte : HasByte records (2 * address + 1) high
  pub value : word ≡ (256 * high + low) % 0x4000

-- The words by rising address: exactly those that are given below word address 2000h, byte address 4000h.
pub record AreProgramWords (records : List HexRecord) (words : List Word) : Type 0 where
  pub rising : IsStrictlyIncreasing (map (λ w. w.address) words)
  pub exactly : (address word : ℕ) → Contains words (record { address = address; word = word }) ↔ ((address < 0x2000) × GivesWord records address word)

-- The bytes by rising address: exactly those that are given at 4000h and above, but for 400Eh and 400Fh.
pub record AreBytesAside (records : List HexRecord) (bytes : List Aside) : Type 0 where
  pub rising : IsStrictlyIncreasing (map (λ b. b.address) bytes)
  pub exactly : (address byte : ℕ) → Contains bytes (record { address = address; byte = byte })
      ↔ ((0x4000 ≤ address) × (address ≢ 0x400E) × (address ≢ 0x400F) × GivesByte records address byte)

-- What a file means. A file that breaks a rule has no image. The configuration word is at word address 2007h, byte
-- address 400Eh, and there is none where neither of its bytes is given.
pub record IsImageOf (bytes : List ℕ) (image : Image) : Type 0 where
  pub records : List HexRecord
  pub spelled : SpellsRecords bytes records
  pub agreed : Agree records
  pub words : AreProgramWords records image.words
  pub config : (word : ℕ) → (image.config ≡ Some word) ↔ GivesWord records 0x2007 word
  pub aside : AreBytesAside records image.aside
