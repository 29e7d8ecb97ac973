-- The lines of a text of records: bytes in two digits after a colon, each line ended by LF.
use Rattle.std.proofs.Common.{◌≡◌, ℕ, zero, suc, ◌-◌, ◌/◌, ◌%◌, ◌<◌, ◌==◌, false, true, List, [], ◌∷◌, ◌++◌, length, nat_lt, refl, sym, ◌∙◌, ap, codes, slice_index, cond, append_assoc, arith}
use Rattle.std.proofs.lemmas.Bool.Decides.{nat_tests}
use Rattle.std.proofs.lemmas.List.Splits.{slice_split_at}
use Rattle.std.specs.Char.{to_ascii_uppercase}
use Rattle.std.specs.List.{All, filter, flat_map, slice_split}
use Rattle.std.specs.Str.{str_to_ascii_uppercase}
use Rattle.std.specs.Str.Lines.{lines_of_parts, strip_carriage_return}
use Rattle.text_parts.specs.Digits.{hex_digit, hex2}
use Rattle.text_parts.proofs.CutLaws.{HasParts, has_parts}
use Rattle.hex_file.specs.ImageOf.{nonempty_lines}
use Rattle.hex_file.specs.Written.{line}

-- A line without its ending.
abbrev pub spelled : List ℕ → List ℕ
spelled bytes = codes ":" ++ flat_map hex2 bytes

digit_stays : (n : ℕ) → n < 16 → to_ascii_uppercase (hex_digit n) ≡ hex_digit n
digit_stays n small = grind (arith, nat_tests)

digit_no_ending : (n e : ℕ) → n < 16 → e < 48 → (hex_digit n == e) ≡ false
digit_no_ending n e small low = grind (arith, nat_tests)

upper_digits : (bytes : List ℕ) → All (λ byte. byte < 256) bytes → str_to_ascii_uppercase (flat_map hex2 bytes) ≡ flat_map hex2 bytes
upper_digits [] fit = refl
upper_digits (b ∷ bs) fit =
    let small : b < 256 = fit 0 0 (omega arith) in
    let high : to_ascii_uppercase (hex_digit (b / 16)) ≡ hex_digit (b / 16) = digit_stays (b / 16) (omega arith) in
    let low : to_ascii_uppercase (hex_digit (b % 16)) ≡ hex_digit (b % 16) = digit_stays (b % 16) (omega arith) in
    let rest : str_to_ascii_uppercase (flat_map hex2 bs) ≡ flat_map hex2 bs = upper_digits bs (λ k d below. fit (suc k) d (omega arith)) in
    λ i. high i ∷ low i ∷ rest i

-- The line is in upper case.
pub upper_line : (bytes : List ℕ) → All (λ byte. byte < 256) bytes → str_to_ascii_uppercase (spelled bytes) ≡ spelled bytes
upper_line bytes fit = ap (λ digits. 58 ∷ digits) (upper_digits bytes fit)

digits_no_ending : (e : ℕ) → e < 48 → (bytes : List ℕ) → All (λ byte. byte < 256) bytes → All (λ d. (d == e) ≡ false) (flat_map hex2 bytes)
digits_no_ending e low [] fit k d below = absurd (omega arith)
digits_no_ending e low (b ∷ bs) fit zero d below = let small : b < 256 = fit 0 0 (omega arith) in digit_no_ending (b / 16) e (omega arith) low
digits_no_ending e low (b ∷ bs) fit (suc zero) d below = let small : b < 256 = fit 0 0 (omega arith) in digit_no_ending (b % 16) e (omega arith) low
digits_no_ending e low (b ∷ bs) fit (suc (suc k)) d below =
    digits_no_ending e low bs (λ k d below. fit (suc k) d (omega arith)) k d (omega arith)

line_no_ending : (e : ℕ) → e < 48 → (bytes : List ℕ) → All (λ byte. byte < 256) bytes → All (λ d. (d == e) ≡ false) (spelled bytes)
line_no_ending e low bytes fit zero d below = grind (arith, nat_tests)
line_no_ending e low bytes fit (suc k) d below = digits_no_ending e low bytes fit k d (omega arith)

lines_before : (prefix : List ℕ) (parts : List (List ℕ)) → HasParts parts → strip_carriage_return prefix ≡ prefix
    → lines_of_parts (prefix ∷ parts) ≡ prefix ∷ lines_of_parts parts
lines_before prefix parts has whole = ap (λ parts. lines_of_parts (prefix ∷ parts)) has.is ∙ (λ i. whole i ∷ lines_of_parts (sym has.is i))

stays_whole : (prefix : List ℕ) → All (λ d. (d == 13) ≡ false) prefix → strip_carriage_return prefix ≡ prefix
stays_whole [] none = refl
stays_whole (x ∷ xs) none = let last : (slice_index (x ∷ xs) (length (x ∷ xs) - 1) == 13) ≡ false = none (length (x ∷ xs) - 1) 0 (omega arith) in rw last

abbrev filter_nonempty : List (List ℕ) → List (List ℕ)
filter_nonempty texts = filter (λ text. nat_lt 0 (length text)) texts

-- The first line of such a text, before the lines of the rest.
pub first_line : (bytes rest : List ℕ) → All (λ byte. byte < 256) bytes → nonempty_lines (line bytes ++ rest) ≡ spelled bytes ∷ nonempty_lines rest
first_line bytes rest fit =
    let parts : slice_split (λ b. b == 10) (spelled bytes ++ 10 ∷ rest) ≡ spelled bytes ∷ slice_split (λ b. b == 10) rest =
    slice_split_at (λ b. b == 10) (spelled bytes) 10 rest (line_no_ending 10 (omega arith) bytes fit) refl in
    let text : line bytes ++ rest ≡ spelled bytes ++ 10 ∷ rest = append_assoc (spelled bytes) (codes "\n") rest in
    let whole : strip_carriage_return (spelled bytes) ≡ spelled bytes = stays_whole (spelled bytes) (line_no_ending 13 (omega arith) bytes fit) in
    let some : nat_lt 0 (length (spelled bytes)) ≡ true = grind (arith, nat_tests) in
    ap nonempty_lines text
    ∙ ap (λ parts. filter_nonempty (lines_of_parts parts)) parts
    ∙ ap filter_nonempty (lines_before (spelled bytes) (slice_split (λ b. b == 10) rest) (has_parts rest) whole)
    ∙ ap (λ b. cond b (spelled bytes ∷ nonempty_lines rest) (nonempty_lines rest)) some
