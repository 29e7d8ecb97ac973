-- What `{:02X}`, `{:03X}` and `{:04X}` write of a number in their range. `format_spec 32 0 4 k (2 ^ 64 - 1)`
-- is the hole's options: filled with zeros up to k digits.
-- A function that calls `write!` with such a hole names its lemma, as
-- `#[tactic(auto, using(crate::proofs::DigitLaws::hex4_written))]`, and needs no answer.
use Rattle.std.proofs.Common.{◌≡◌, ℕ, ◌-◌, ◌/◌, ◌%◌, ◌^◌, ◌<◌, ◌≤◌, [], ◌∷◌, true, false, sym, ap, ◌∙◌, ⊎_elim, arith}
use Rattle.std.proofs.lemmas.Bool.{cases_lt}
use Rattle.std.proofs.lemmas.Fmt.{hex_one_digit, hex_two_digits, hex_byte}
use Rattle.std.proofs.DigitsParse.{digits_onto-nil, digits_onto_last, digits_onto_step}
use Rattle.std.specs.Fmt.{digits, padded_integral, format_spec, char_count}
use Rattle.text_parts.specs.Digits.{hex_digit, hex2, hex3, hex4}

-- without the zeros: three digits, and four

hex_three_digits : (n : ℕ) → 256 ≤ n → n < 4096 → digits 16 true n ≡ hex3 n
hex_three_digits n large small =
    let top : n / 16 / 16 % 16 ≡ n / 256 = omega arith in
    let low = hex_digit (n % 16) ∷ [] in
    sym (digits_onto-nil 16 true n) ∙ digits_onto_step 16 true n [] 64 (omega arith) (omega arith)
    ∙ digits_onto_step 16 true (n / 16) low 63 (omega arith) (omega arith)
    ∙ digits_onto_last 16 true (n / 16 / 16) (hex_digit (n / 16 % 16) ∷ low) 62 (omega arith) (omega arith)
    ∙ ap (λ d. hex_digit d ∷ hex_digit (n / 16 % 16) ∷ low) top

hex_four_digits : (n : ℕ) → 4096 ≤ n → n < 65536 → digits 16 true n ≡ hex4 n
hex_four_digits n large small =
    let third : n / 16 / 16 % 16 ≡ n / 256 % 16 = omega arith in
    let top : n / 16 / 16 / 16 % 16 ≡ n / 4096 = omega arith in
    let low = hex_digit (n / 16 % 16) ∷ hex_digit (n % 16) ∷ [] in
    sym (digits_onto-nil 16 true n) ∙ digits_onto_step 16 true n [] 64 (omega arith) (omega arith)
    ∙ digits_onto_step 16 true (n / 16) (hex_digit (n % 16) ∷ []) 63 (omega arith) (omega arith)
    ∙ digits_onto_step 16 true (n / 16 / 16) low 62 (omega arith) (omega arith)
    ∙ digits_onto_last 16 true (n / 16 / 16 / 16) (hex_digit (n / 16 / 16 % 16) ∷ low) 61 (omega arith) (omega arith)
    ∙ ap (λ d. hex_digit d ∷ hex_digit (n / 16 / 16 % 16) ∷ low) top ∙ ap (λ d. hex_digit (n / 4096) ∷ hex_digit d ∷ low) third

-- with them

pub hex2_written : (n : ℕ) → n < 256 → padded_integral (format_spec 32 0 4 2 (2 ^ 64 - 1)) false [] (digits 16 true n) ≡ hex2 n
hex2_written = hex_byte true

pub hex3_written : (n : ℕ) → n < 4096 → padded_integral (format_spec 32 0 4 3 (2 ^ 64 - 1)) false [] (digits 16 true n) ≡ hex3 n
unfolding padded_integral char_count
hex3_written n small = ⊎_elim
    (λ one. let third : n / 256 ≡ 0 = omega arith in let second : n / 16 % 16 ≡ 0 = omega arith in let first : n % 16 ≡ n = omega arith in
    rw (hex_one_digit true n one, third, second, first))
    (λ more. ⊎_elim
    (λ two. let third : n / 256 ≡ 0 = omega arith in let second : n / 16 % 16 ≡ n / 16 = omega arith in
    rw (hex_two_digits true n more two, third, second))
    (λ three. rw (hex_three_digits n three small))
    (cases_lt n 256))
    (cases_lt n 16)

pub hex4_written : (n : ℕ) → n < 65536 → padded_integral (format_spec 32 0 4 4 (2 ^ 64 - 1)) false [] (digits 16 true n) ≡ hex4 n
unfolding padded_integral char_count
hex4_written n small = ⊎_elim
    (λ one. let fourth : n / 4096 ≡ 0 = omega arith in let third : n / 256 % 16 ≡ 0 = omega arith in
    let second : n / 16 % 16 ≡ 0 = omega arith in let first : n % 16 ≡ n = omega arith in
    rw (hex_one_digit true n one, fourth, third, second, first))
    (λ more. ⊎_elim
    (λ two. let fourth : n / 4096 ≡ 0 = omega arith in let third : n / 256 % 16 ≡ 0 = omega arith in
    let second : n / 16 % 16 ≡ n / 16 = omega arith in
    rw (hex_two_digits true n more two, fourth, third, second))
    (λ more2. ⊎_elim
    (λ three. let fourth : n / 4096 ≡ 0 = omega arith in let third : n / 256 % 16 ≡ n / 256 = omega arith in
    rw (hex_three_digits n more2 three, fourth, third))
    (λ four. rw (hex_four_digits n four small))
    (cases_lt n 4096))
    (cases_lt n 256))
    (cases_lt n 16)
