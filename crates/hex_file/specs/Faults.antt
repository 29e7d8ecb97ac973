-- The first fault of a file, by lines, and in which order the tests of a line come.
use Rattle.std.specs.Prelude.{◌≡◌, ◌≢◌, ℕ, ◌<◌, ◌+◌, ◌-◌, ◌*◌, ◌%◌, ◌⊎◌, Bool, false, not, ◌&&◌, ◌||◌, ◌==◌, nat_lt, nat_le, if◌then◌else◌, List, [], ◌∷◌, ◌++◌, length, take, drop, Option, Some, None, Result, Ok, Err, slice_index, slice_get}
use Rattle.std.specs.List.{All, AllZip, filter, list_all, list_any}
use Rattle.std.specs.Option.{option_map, option_or}
use Rattle.std.specs.Str.Lines.{lines}
use Rattle.text_parts.specs.Bytes.{is_hex_digit}
use Rattle.text_parts.specs.Numbers.{digit_value}
use Rattle.hex_file.specs.ImageOf.{HexRecord, IsRecordLine, Agree}
use Rattle.hex_file.specs.Written.{check_byte}
use Rattle.hex_file.specs.declared.faults.HexFault.{HexFault}
use Rattle.hex_file.specs.declared.faults.HexFault.TheVariants.{BadChar, BadLength, BadSum, BadType, OutOfRange, Clash, NoEnd, AfterEnd, Memory}
use Rattle.hex_file.specs.declared.images.Image.{Image}

-- The bytes that digits spell, two digits each. A last odd digit spells nothing.
abbrev pub spelled_bytes : List ℕ → List ℕ
spelled_bytes [] = []
spelled_bytes (high ∷ []) = []
spelled_bytes (high ∷ low ∷ digits) = (16 * digit_value high + digit_value low) ∷ spelled_bytes digits

-- A line's bytes, after its colon.
abbrev pub bytes_of : List ℕ → List ℕ
bytes_of line = spelled_bytes (drop 1 line)

-- The number of data bytes that a line's first byte tells.
abbrev pub told_length : List ℕ → ℕ
told_length bytes = slice_index bytes 0

-- The record of a line's bytes, whose data are as many as the first tells.
abbrev pub record_in : List ℕ → HexRecord
record_in bytes =
    record {
      address = 256 * slice_index bytes 1 + slice_index bytes 2;
      kind = slice_index bytes 3;
      payload = take (told_length bytes) (drop 4 bytes);
    }

-- The check byte that a line's bytes have, and the right one.
abbrev pub got_sum : List ℕ → ℕ
got_sum bytes = slice_index bytes (told_length bytes + 4)

abbrev pub want_sum : List ℕ → ℕ
want_sum bytes = check_byte (take (told_length bytes + 4) bytes)

-- A record of the lines before is an end record.
abbrev pub has_end : List HexRecord → Bool
has_end records = list_any (λ r. r.kind == 1) records

-- The line's first byte isn't a colon, or one after it isn't a hexadecimal digit.
abbrev pub has_bad_char : List ℕ → Bool
has_bad_char line = not (slice_index line 0 == 58) || not (list_all is_hex_digit (drop 1 line))

-- The digits are odd in number, or spell fewer than five bytes or another number than is told.
abbrev pub has_bad_length : List ℕ → Bool
has_bad_length line =
    let bytes = bytes_of line in length (drop 1 line) % 2 == 1 || nat_lt (length bytes) 5 || not (length bytes == told_length bytes + 5)

-- The check byte isn't the right one.
abbrev pub has_bad_sum : List ℕ → Bool
has_bad_sum bytes = not (got_sum bytes == want_sum bytes)

-- The type isn't 00 to 05.
abbrev pub has_bad_type : HexRecord → Bool
has_bad_type r = nat_lt 5 r.kind

-- The record tells an upper address.
abbrev pub is_upper : HexRecord → Bool
is_upper r = r.kind == 2 || r.kind == 4

-- The record is an end with data, or an upper address that isn't of two bytes.
abbrev pub has_bad_payload : HexRecord → Bool
has_bad_payload r = (r.kind == 1 && not (length r.payload == 0)) || (is_upper r && not (length r.payload == 2))

-- The record is an upper address that isn't 0, or data that goes past FFFFh.
abbrev pub is_out_of_range : HexRecord → Bool
is_out_of_range r = (is_upper r && not (list_all (λ byte. byte == 0) r.payload)) || (r.kind == 0 && nat_lt 0x10000 (r.address + length r.payload))

-- The byte that a record gives at an address, and that records give: the first, where there are several.
abbrev pub byte_of : HexRecord → ℕ → Option ℕ
byte_of r address = if r.kind == 0 && nat_le r.address address then slice_get r.payload (address - r.address) else None

abbrev pub byte_given : List HexRecord → ℕ → Option ℕ
byte_given [] address = None
byte_given (r ∷ records) address = option_or (byte_of r address) (byte_given records address)

-- There is a byte, and it is another.
abbrev pub is_other : Option ℕ → ℕ → Bool
is_other None byte = false
is_other (Some given) byte = not (given == byte)

-- The lowest address, from this one on, at which records give another byte than these.
abbrev pub other_at : List HexRecord → ℕ → List ℕ → Option ℕ
other_at records address [] = None
other_at records address (byte ∷ bytes) = if is_other (byte_given records address) byte then Some address else other_at records (address + 1) bytes

abbrev pub clash_at : List HexRecord → HexRecord → Option ℕ
clash_at records r = if r.kind == 0 then other_at records r.address r.payload else None

-- The fault of a line that isn't empty, of which the records of the lines before and the number are given: that
-- of the first test that holds.
abbrev pub line_fault : List HexRecord → ℕ → List ℕ → Option HexFault
line_fault records number line =
    let bytes = bytes_of line in
    let r = record_in bytes in
    if has_end records then Some (AfterEnd number)
    else if has_bad_char line then Some (BadChar number)
    else if has_bad_length line then Some (BadLength number)
    else if has_bad_sum bytes then Some (BadSum number (got_sum bytes) (want_sum bytes))
    else if has_bad_type r then Some (BadType number r.kind)
    else if has_bad_payload r then Some (BadLength number)
    else if is_out_of_range r then Some (OutOfRange number)
    else option_map (λ address. Clash number address) (clash_at records r)

-- Lines without a fault: those that aren't empty are the lines of these records, which agree, and of which the
-- last alone may be an end record.
pub record AreFaultless (texts : List (List ℕ)) (records : List HexRecord) : Type 0 where
  pub spelled : AllZip IsRecordLine (filter (λ line. nat_lt 0 (length line)) texts) records
  pub agreed : Agree records
  pub once : All (λ r. r.kind ≢ 1) (take (length records - 1) records)

-- A line has this fault, and no line before it has one.
pub record IsOfFirstLine (bytes : List ℕ) (fault : HexFault) : Type 0 where
  pub before : List (List ℕ)
  pub line : List ℕ
  pub after : List (List ℕ)
  pub records : List HexRecord
  pub split : lines bytes ≡ before ++ line ∷ after
  pub faultless : AreFaultless before records
  pub filled : 0 < length line
  pub told : line_fault records (length before + 1) line ≡ Some fault

-- No line has a fault, and there is no end record.
pub record IsNoEnd (bytes : List ℕ) (fault : HexFault) : Type 0 where
  pub records : List HexRecord
  pub faultless : AreFaultless (lines bytes) records
  pub unended : All (λ r. r.kind ≢ 1) records
  pub told : fault ≡ NoEnd

-- The first fault of a file, by lines.
abbrev pub FirstFault : List ℕ → HexFault → Type 0
FirstFault bytes fault = IsOfFirstLine bytes fault ⊎ IsNoEnd bytes fault

-- The answer of the reader is this image, or out of memory; it is this fault, or out of memory.
abbrev pub IsReadAs : Image → Result Image HexFault → Type 0
IsReadAs image (Ok told) = told ≡ image
IsReadAs image (Err fault) = fault ≡ Memory

abbrev pub IsRefusedFor : HexFault → Result Image HexFault → Type 0
IsRefusedFor fault (Ok image) = ⊥
IsRefusedFor fault (Err told) = (told ≡ fault) ⊎ (told ≡ Memory)
