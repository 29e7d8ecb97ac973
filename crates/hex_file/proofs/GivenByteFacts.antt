-- The bytes that a list of records gives, one by one, and the records of an image's lines.
use Rattle.std.proofs.Common.{◌≡◌, ℕ, zero, suc, ◌+◌, ◌*◌, ◌%◌, ◌<◌, ◌⊎◌, inl, inr, ⊎_elim, List, [], ◌∷◌, ◌++◌, length, Option, None, Some, refl, sym, ◌∙◌, ap, subst, slice_get, slice_index_or, arith}
use Rattle.std.proofs.lemmas.Option.{same_Some}
use Rattle.std.specs.List.{AllZip, last_or}
use Rattle.hex_file.specs.declared.images.Image.{Image}
use Rattle.hex_file.specs.ImageOf.{HexRecord, IsRecordLine, nonempty_lines, GivesByte, HasByte, Agree, GivesWord, IsImageOf}

-- The byte is one of a payload that starts at some address, or of a record's.

abbrev pub IsFromPayload : ℕ → List ℕ → ℕ → ℕ → Type 0
IsFromPayload start [] address byte = ⊥
IsFromPayload start (b ∷ bytes) address byte = ((address ≡ start) × (byte ≡ b)) ⊎ IsFromPayload (start + 1) bytes address byte

abbrev pub IsFromRecords : List HexRecord → ℕ → ℕ → Type 0
IsFromRecords [] address byte = ⊥
IsFromRecords (r ∷ records) address byte = ((r.kind ≡ 0) × IsFromPayload r.address r.payload address byte) ⊎ IsFromRecords records address byte

from_payload : (start : ℕ) (payload : List ℕ) (place address byte : ℕ) → slice_get payload place ≡ Some byte → address ≡ start + place
    → IsFromPayload start payload address byte
from_payload start [] place address byte value at = absurd cc
from_payload start (b ∷ payload) zero address byte value at = inl (omega arith, cc)
from_payload start (b ∷ payload) (suc place) address byte value at = inr (from_payload (start + 1) payload place address byte value (omega arith))

place_of : (start : ℕ) (payload : List ℕ) (address byte : ℕ) → IsFromPayload start payload address byte
    → (place : ℕ) × (slice_get payload place ≡ Some byte) × (address ≡ start + place)
place_of start [] address byte from = absurd from
place_of start (b ∷ payload) address byte from = ⊎_elim
    (λ here. (0, ap Some (sym here.1), omega (arith, here.0)))
    (λ later. let rest = place_of (start + 1) payload address byte later in (suc rest.0, rest.1, omega (arith, rest.2))) from

from_records : (records : List HexRecord) (index : ℕ) (r : HexRecord) (address byte : ℕ) → index < length records → slice_index_or records index r ≡ r
    → r.kind ≡ 0 → IsFromPayload r.address r.payload address byte → IsFromRecords records address byte
from_records [] index r address byte below is kind from = absurd (omega arith)
from_records (s ∷ records) zero r address byte below is kind from =
    inl (subst (λ (r : HexRecord). (r.kind ≡ 0) × IsFromPayload r.address r.payload address byte) (sym is) (kind, from))
from_records (s ∷ records) (suc index) r address byte below is kind from = inr (from_records records index r address byte (omega arith) is kind from)

pub given_bytes : (records : List HexRecord) (address byte : ℕ) → GivesByte records address byte → IsFromRecords records address byte
given_bytes records address byte g = from_records records g.among.0 g.source address byte g.among.1 g.among.2 g.is_data
    (from_payload g.source.address g.source.payload g.place address byte g.value g.at)

pub gives_byte : (records : List HexRecord) (address byte : ℕ) → IsFromRecords records address byte → GivesByte records address byte
gives_byte [] address byte from = absurd from
gives_byte (r ∷ records) address byte from = ⊎_elim
    (λ here. let at = place_of r.address r.payload address byte here.1 in
    record { source = r; place = at.0; among = (0, omega arith, refl); is_data = here.0; value = at.1; at = at.2 })
    (λ later. let g : GivesByte records address byte = gives_byte records address byte later in
    record { source = g.source; place = g.place; among = (suc g.among.0, omega (arith, g.among.1), g.among.2); is_data = g.is_data; value = g.value; at = g.at })
    from

-- Where no address has two bytes, none has two words.

byte_at : (records : List HexRecord) (address first second : ℕ)
    → Agree records
    → HasByte records address first → HasByte records address second → first ≡ second
byte_at records address first second agreed = ⊎_elim
    (λ a. ⊎_elim (λ b. agreed address first second a b) (λ none. absurd (none.0 (first, a))))
    (λ none. ⊎_elim (λ b. absurd (none.0 (second, b))) (λ also. none.1 ∙ sym also.1))

pub word_at : (records : List HexRecord) (address first second : ℕ)
    → Agree records
    → GivesWord records address first → GivesWord records address second → second ≡ first
word_at records address first second agreed a b =
    let low : a.low ≡ b.low = byte_at records (2 * address) a.low b.low agreed a.low_byte b.low_byte in
    let high : a.high ≡ b.high = byte_at records (2 * address + 1) a.high b.high agreed a.high_byte b.high_byte in
    let same : (256 * a.high + a.low) % 0x4000 ≡ (256 * b.high + b.low) % 0x4000 = rw (low, high) in
    b.value ∙ sym same ∙ sym a.value

-- The records of the lines.

zipped_at : (lines : List (List ℕ)) (records : List HexRecord) (index : ℕ) (line : List ℕ) → AllZip IsRecordLine lines records
    → slice_get lines index ≡ Some line → (r : HexRecord) × IsRecordLine line r
zipped_at [] [] index line zipped e = absurd cc
zipped_at [] (r ∷ records) index line zipped e = absurd zipped
zipped_at (l ∷ lines) [] index line zipped e = absurd zipped
zipped_at (l ∷ lines) (r ∷ records) zero line zipped e = (r, subst (λ l. IsRecordLine l r) (same_Some _ _ e) zipped.0)
zipped_at (l ∷ lines) (r ∷ records) (suc index) line zipped e = zipped_at lines records index line zipped.1 e

zipped_at_end : (lines : List (List ℕ)) (records : List HexRecord) (end : HexRecord) (first : Option (List ℕ)) (line : List ℕ)
    → AllZip IsRecordLine lines (records ++ end ∷ []) → last_or first lines ≡ Some line → IsRecordLine line end
zipped_at_end [] [] end first line zipped e = absurd zipped
zipped_at_end [] (r ∷ records) end first line zipped e = absurd zipped
zipped_at_end (l ∷ []) [] end first line zipped e = subst (λ l. IsRecordLine l end) (same_Some _ _ e) zipped.0
zipped_at_end (l ∷ more ∷ lines) [] end first line zipped e = absurd zipped.1
zipped_at_end (l ∷ lines) (r ∷ records) end first line zipped e = zipped_at_end lines records end (Some l) line zipped.1 e

pub record_at : (bytes : List ℕ) (image : Image) (index : ℕ) (line : List ℕ) → IsImageOf bytes image → slice_get (nonempty_lines bytes) index ≡ Some line
    → (r : HexRecord) × IsRecordLine line r
record_at bytes image index line is = zipped_at (nonempty_lines bytes) (is.records ++ is.spelled.end ∷ []) index line is.spelled.lines

pub end_at : (bytes : List ℕ) (image : Image) (line : List ℕ) (is : IsImageOf bytes image) → last_or None (nonempty_lines bytes) ≡ Some line
    → IsRecordLine line is.spelled.end
end_at bytes image line is = zipped_at_end (nonempty_lines bytes) is.records is.spelled.end None line is.spelled.lines

pub some_line : (records : List HexRecord) (end : HexRecord) → ¬ AllZip IsRecordLine [] (records ++ end ∷ [])
some_line [] end zipped = zipped
some_line (r ∷ records) end zipped = zipped
