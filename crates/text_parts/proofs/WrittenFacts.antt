-- What std's `parse` and `from_utf8` make of decimal numbers without a leading zero.
use Rattle.std.proofs.Common.{◌≡◌, ◌≢◌, ℕ, zero, suc, ◌^◌, ◌<◌, true, List, [], ◌∷◌, length, get_or, MatchOption, Result, Ok, Err, refl, sym, ap, subst, ◌∙◌, arith}
use Rattle.std.specs.Str.{IsUtf8}
use Rattle.std.specs.Fmt.{decimal}
use Rattle.std.specs.Result.{OkIff, result_ok}
use Rattle.std.specs.Str.Parse.{ParsesUnsigned, AllDigits, digits_value}
use Rattle.std.proofs.lemmas.Bool.Decides.{nat_tests}
use Rattle.std.proofs.lemmas.Str.{IsUtf8-from_ascii}
use Rattle.std.proofs.lemmas.Str.Parse.{IsNumeralModel, numerals_by_value, tells_digits, parse_plain}
use Rattle.std.proofs.lemmas.Fmt.{IsAscii-decimal, parse-decimal, first_decimal, decimal_digit, decimal-digits_value}
use Rattle.text_parts.specs.Numbers.{is_plain}

pub decimal_utf8 : (n : ℕ) → n < 2 ^ 64 → IsUtf8 (decimal n)
decimal_utf8 n small = IsUtf8-from_ascii (decimal n) (IsAscii-decimal n small)

plain_first : (bs : List ℕ) → 48 < get_or bs 0 0 → is_plain bs ≡ true
plain_first [] h = refl
plain_first (b ∷ bs) h = grind (arith, nat_tests)

pub decimal_plain : (n : ℕ) → n < 2 ^ 64 → is_plain (decimal n) ≡ true
decimal_plain zero small = ap is_plain (decimal_digit 0 (omega arith))
decimal_plain (suc n) small = plain_first (decimal (suc n)) (first_decimal (suc n) (omega arith) small)

plain_sign : (bs : List ℕ) → is_plain bs ≡ true → get_or bs 0 0 ≢ 43
plain_sign [] h e = omega arith
plain_sign (b ∷ bs) h e = grind (arith, nat_tests)

plain_zero : (bs : List ℕ) → is_plain bs ≡ true → get_or bs 0 0 ≡ 48 → length bs ≡ 1
plain_zero [] h e = absurd (omega arith)
plain_zero (b ∷ bs) h e = grind (arith, nat_tests)

own : IsNumeralModel (AllDigits 10) (digits_value 10)
own = numerals_by_value (AllDigits 10) tells_digits

-- What `parse` makes of a plain field is what the field writes, and each number that a field writes is parsed.
plain_written : {E : Type 0} (bs : List ℕ) (r : Result ℕ E) (v : ℕ) → is_plain bs ≡ true → ParsesUnsigned 32 10 bs r → r ≡ Ok v → bs ≡ decimal v
plain_written bs r v plain parses ok =
    let h = subst (λ x. OkIff x (AllDigits 10 bs × (0 < length bs) × (digits_value 10 bs < 2 ^ 32)) (digits_value 10 bs)) ok (parse_plain own 32 bs r parses (plain_sign bs plain)) in
    sym (decimal-digits_value own bs h.0.0 h.0.1 (plain_zero bs plain) (omega (arith, h.0.2))) ∙ ap decimal (sym h.1)

written_parsed : {E : Type 0} (bs : List ℕ) (r : Result ℕ E) (n : ℕ) → n < 2 ^ 32 → ParsesUnsigned 32 10 bs r → bs ≡ decimal n → r ≡ Ok n
written_parsed bs r n small parses e = parse-decimal 32 n bs r small (omega arith) e parses

pub parsed : {E : Type 0} (bs text : List ℕ) (r : Result ℕ E) → is_plain bs ≡ true → text ≡ bs → ParsesUnsigned 32 10 text r
    → MatchOption (result_ok r) ((n : ℕ) → n < 2 ^ 32 → bs ≢ decimal n) (λ n. bs ≡ decimal n)
parsed {E = E} bs text (Ok v) plain e parses = let found : Result ℕ E = Ok v in sym e ∙ plain_written {E = E} text found v (ap is_plain e ∙ plain) parses refl
parsed {E = E} bs text (Err error) plain e parses = λ n small w. let failed : Result ℕ E = Err error in let none : failed ≡ Ok n = written_parsed text failed n small parses (e ∙ w) in cc
