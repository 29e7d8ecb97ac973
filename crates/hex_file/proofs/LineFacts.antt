-- The bytes of a record's line.
use Rattle.std.proofs.Common.{◌≡◌, ℕ, suc, ◌+◌, ◌-◌, ◌*◌, ◌/◌, ◌%◌, ◌<◌, ◌≤◌, ⊎_elim, true, nat_lt, List, [], ◌∷◌, ◌++◌, length, drop, sum, refl, sym, ◌∙◌, ap, codes, if◌then◌else◌, lit≤, arith}
use Rattle.std.proofs.lemmas.Bool.{ltb-true}
use Rattle.std.proofs.lemmas.Bool.Decides.{nat_tests}
use Rattle.std.proofs.lemmas.List.{same_from_push}
use Rattle.std.proofs.lemmas.List.Sums.{AllPass-from_list_all}
use Rattle.std.specs.List.{All, AllZip, flat_map, list_all}
use Rattle.std.specs.Str.{str_to_ascii_uppercase}
use Rattle.text_parts.specs.Digits.{hex_digit, hex2}
use Rattle.hex_file.specs.ImageOf.{HexRecord, record_bytes, IsAllowed, IsRecordLine}

abbrev pub undigit : ℕ → ℕ
undigit d = if nat_lt d 58 then d - 48 else d - 55

abbrev pub unhex : List ℕ → List ℕ
unhex [] = []
unhex (high ∷ []) = []
unhex (high ∷ low ∷ digits) = (16 * undigit high + undigit low) ∷ unhex digits

undigit-hex_digit : (n : ℕ) → n < 16 → undigit (hex_digit n) ≡ n
undigit-hex_digit n small = grind (arith, nat_tests)

pub unhex-hex2 : (bytes : List ℕ) → All (λ byte. byte < 256) bytes → unhex (flat_map hex2 bytes) ≡ bytes
unhex-hex2 [] fit = refl
unhex-hex2 (b ∷ bs) fit =
    let small : b < 256 = fit 0 0 (omega arith) in
    let high : undigit (hex_digit (b / 16)) ≡ b / 16 = undigit-hex_digit (b / 16) (omega arith) in
    let low : undigit (hex_digit (b % 16)) ≡ b % 16 = undigit-hex_digit (b % 16) (omega arith) in
    let rest : unhex (flat_map hex2 bs) ≡ bs = unhex-hex2 bs (λ k d below. fit (suc k) d (omega arith)) in
    let whole : 16 * (b / 16) + b % 16 ≡ b = omega arith in
    rw (high, low, rest, whole)

-- The bytes of a line's record are those that its digits spell.
pub bytes_of_line : (line : List ℕ) (r : HexRecord) (is : IsRecordLine line r) → record_bytes r is.check ≡ unhex (drop 1 (str_to_ascii_uppercase line))
bytes_of_line line r is = sym (ap (λ l. unhex (drop 1 l)) is.spelled ∙ unhex-hex2 (record_bytes r is.check) is.bytes)

pub length-hex2 : (bytes : List ℕ) → length (flat_map hex2 bytes) ≡ 2 * length bytes
length-hex2 [] = refl
length-hex2 (b ∷ bytes) = let rest = length-hex2 bytes in omega arith

-- Tests that give the parts of a record's line.

pub all_bytes : (bytes : List ℕ) → list_all (λ byte. nat_lt byte 256) bytes ≡ true → All (λ byte. byte < 256) bytes
all_bytes bytes passes k d below = ltb-true _ 256 (AllPass-from_list_all (λ byte. nat_lt byte 256) bytes passes k d below)

pub record_line : (line : List ℕ) (r : HexRecord) (check : ℕ) → str_to_ascii_uppercase line ≡ codes ":" ++ flat_map hex2 (record_bytes r check)
    → list_all (λ byte. nat_lt byte 256) (record_bytes r check) ≡ true → sum (record_bytes r check) % 256 ≡ 0 → IsAllowed r → IsRecordLine line r
record_line line r check spelled fits balanced allowed =
    record { check = check; spelled = spelled; bytes = all_bytes (record_bytes r check) fits; balanced = balanced; allowed = allowed }

-- A data record.

abbrev pub bytes_from : ℕ → List ℕ → HexRecord
bytes_from address payload = record { address = address; kind = 0; payload = payload }

pub bytes_allowed : (address : ℕ) (payload : List ℕ) → address + length payload ≤ 0x10000 → IsAllowed (bytes_from address payload)
bytes_allowed address payload fits =
    record { known = lit≤ tt; in_range = λ e. fits; end_empty = λ e. cc; upper_zero = ⊎_elim (λ e. cc) (λ e. cc) }

-- A line has one record at most.

same_parts : (a b : ℕ) → a / 256 ≡ b / 256 → a % 256 ≡ b % 256 → a ≡ b
same_parts a b high low = omega arith

same_record : (r s : HexRecord) (c d : ℕ) → record_bytes r c ≡ record_bytes s d → r ≡ s
same_record r s c d e =
    let high : r.address / 256 ≡ s.address / 256 = cc in
    let low : r.address % 256 ≡ s.address % 256 = cc in
    let address : r.address ≡ s.address = same_parts r.address s.address high low in
    let kind : r.kind ≡ s.kind = cc in
    let ends : r.payload ++ c ∷ [] ≡ s.payload ++ d ∷ [] = cc in
    let payload : r.payload ≡ s.payload = (same_from_push r.payload s.payload c d ends).0 in
    λ i. record { address = address i; kind = kind i; payload = payload i }

record_of_line : (line : List ℕ) (r s : HexRecord) → IsRecordLine line r → IsRecordLine line s → r ≡ s
record_of_line line r s is also = same_record r s is.check also.check (bytes_of_line line r is ∙ sym (bytes_of_line line s also))

pub records_of_lines : (lines : List (List ℕ)) (rs ss : List HexRecord) → AllZip IsRecordLine lines rs → AllZip IsRecordLine lines ss → rs ≡ ss
records_of_lines [] [] [] is also = refl
records_of_lines [] [] (s ∷ ss) is also = absurd also
records_of_lines [] (r ∷ rs) ss is also = absurd is
records_of_lines (l ∷ lines) [] ss is also = absurd is
records_of_lines (l ∷ lines) (r ∷ rs) [] is also = absurd also
records_of_lines (l ∷ lines) (r ∷ rs) (s ∷ ss) is also =
    let first : r ≡ s = record_of_line l r s is.0 also.0 in let rest : rs ≡ ss = records_of_lines lines rs ss is.1 also.1 in cc

pub records_before_end : (rs ss : List HexRecord) (r s : HexRecord) → rs ++ r ∷ [] ≡ ss ++ s ∷ [] → rs ≡ ss
records_before_end rs ss r s e = (same_from_push rs ss r s e).0
