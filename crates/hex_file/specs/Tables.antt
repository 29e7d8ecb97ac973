-- The table in which the reader keeps the bytes that records give, and what is made of it.
use Rattle.std.specs.Prelude.{◌≡◌, ℕ, zero, suc, ◌<◌, ◌+◌, ◌*◌, ◌%◌, Bool, not, ◌&&◌, ◌==◌, nat_le, if◌then◌else◌, List, [], ◌∷◌, ◌++◌, length, Option, Some, None, slice_index_or}
use Rattle.std.specs.Option.{option_map, option_to_list}
use Rattle.std.specs.Str.Lines.{lines}
use Rattle.hex_file.specs.Faults.{byte_given, clash_at, has_end, AreFaultless}
use Rattle.hex_file.specs.ImageOf.{HexRecord, IsRecordLine}
use Rattle.hex_file.specs.declared.images.Word.{Word}
use Rattle.hex_file.specs.declared.images.Aside.{Aside}
use Rattle.hex_file.specs.declared.parsed.Record.{Record}

-- The record that is held.
abbrev pub held_record : Record → HexRecord
held_record r = record { address = r.address; kind = r.kind; payload = r.payload.items }

-- The table has the byte that records give at each byte address below 10000h.
pub record IsTable (records : List HexRecord) (table : List (Option ℕ)) : Type 0 where
  pub size : length table ≡ 0x10000
  pub at : (address : ℕ) → address < 0x10000 → slice_index_or table address None ≡ byte_given records address

-- A word of two bytes, of which at least one is given.
abbrev pub word_of : Option ℕ → Option ℕ → Option ℕ
word_of None None = None
word_of None (Some high) = Some ((256 * high + 0xFF) % 0x4000)
word_of (Some low) None = Some ((256 * 0xFF + low) % 0x4000)
word_of (Some low) (Some high) = Some ((256 * high + low) % 0x4000)

-- The word that a table has at a word address, and with it the address; the byte aside at a byte address.
abbrev pub word_at : List (Option ℕ) → ℕ → Option ℕ
word_at table address = word_of (slice_index_or table (2 * address) None) (slice_index_or table (2 * address + 1) None)

abbrev pub word_item : List (Option ℕ) → ℕ → Option Word
word_item table address = option_map (λ word. record { address = address; word = word }) (word_at table address)

abbrev pub aside_at : List (Option ℕ) → ℕ → Option ℕ
aside_at table address =
    if nat_le 0x4000 address && not (address == 0x400E) && not (address == 0x400F) then slice_index_or table address None else None

abbrev pub aside_item : List (Option ℕ) → ℕ → Option Aside
aside_item table address = option_map (λ byte. record { address = address; byte = byte }) (aside_at table address)

-- The items at the addresses below a limit, by rising address.
unfoldable pub items_below : {X : Type 0} → (ℕ → Option X) → ℕ → List X
items_below item zero = []
items_below item (suc address) = items_below item address ++ option_to_list (item address)

-- The line is one of a record, whose bytes the table has beside those of the records before; and whether it is an
-- end record.
pub record IsGivenBy (records : List HexRecord) (line : List ℕ) (table : List (Option ℕ)) (ended : Bool) : Type 0 where
  pub found : HexRecord
  pub spelled : IsRecordLine line found
  pub agrees : clash_at records found ≡ None
  pub given : IsTable (records ++ found ∷ []) table
  pub is_end : ended ≡ (found.kind == 1)

-- No line of the file has a fault, and the table has the bytes of its records; and whether there is an end record.
pub record AreGiven (bytes : List ℕ) (table : List (Option ℕ)) (ended : Bool) : Type 0 where
  pub records : List HexRecord
  pub faultless : AreFaultless (lines bytes) records
  pub given : IsTable records table
  pub is_end : ended ≡ has_end records
