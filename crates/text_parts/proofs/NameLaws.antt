-- Names are ASCII, and so text.
use Rattle.std.proofs.Common.{◌≡◌, ℕ, ◌<◌, true, ◌||◌, nat_le, List, [], ◌∷◌, length, refl, arith}
use Rattle.std.specs.List.{list_all}
use Rattle.std.specs.Str.{IsAscii, IsUtf8}
use Rattle.std.proofs.lemmas.Bool.{and_parts}
use Rattle.std.proofs.lemmas.Bool.Decides.{nat_tests}
use Rattle.std.proofs.lemmas.Str.{IsUtf8-from_ascii}
use Rattle.std.proofs.lemmas.Str.Ascii.{IsAscii-nil, IsAscii-cons}
use Rattle.text_parts.specs.Bytes.{is_letter, is_digit}
use Rattle.text_parts.specs.Names.{has_form_of_name, is_name}

name_byte_ascii : (b : ℕ) → (is_letter b || is_digit b) ≡ true → b < 128
name_byte_ascii b h = grind (arith, nat_tests)

pub bytes_ascii : (bs : List ℕ) → list_all (λ b. is_letter b || is_digit b) bs ≡ true → IsAscii bs
bytes_ascii [] h = IsAscii-nil
bytes_ascii (b ∷ bs) h =
    let (here, rest) = and_parts (is_letter b || is_digit b) (list_all (λ c. is_letter c || is_digit c) bs) h in
    IsAscii-cons b bs (name_byte_ascii b here) (bytes_ascii bs rest)

pub name_bytes : (bs : List ℕ) → has_form_of_name bs ≡ true → list_all (λ b. is_letter b || is_digit b) bs ≡ true
name_bytes [] h = refl
name_bytes (b ∷ bs) h = grind (arith, and_parts)

pub name_utf8 : (bs : List ℕ) → is_name bs ≡ true → IsUtf8 bs
name_utf8 bs h = IsUtf8-from_ascii bs (bytes_ascii bs (name_bytes bs (and_parts (has_form_of_name bs) (nat_le (length bs) 31) h).0))
