-- Texts with their tokens, and texts with their faults.
use Rattle.std.proofs.Common.{◌≡◌, ℕ, true, false, List, [], ◌∷◌, Some, codes, refl, ap, arith, lit≤}
use Rattle.text_parts.specs.Bytes.{is_hex_digit, begins}
use Rattle.text_parts.specs.Numbers.{value_after}
use Rattle.frp_tree.specs.Tokens.{is_blank, HasTokens, IsBadByte, here}
use Rattle.frp_tree.specs.Prefixes.{IsFirstToken, Skips}
use Rattle.frp_tree.specs.declared.marks.TheConstants.{ARROW}
use Rattle.frp_tree.specs.declared.tokens.Token.TheVariants as token
use Rattle.frp_tree.proofs.TokenLaws.{skip, take_token}
use Rattle.efrp_syntax.proofs.FirstMarkFacts.{long_found}
use Rattle.efrp_syntax.proofs.FirstNumberFacts.{first_hexadecimal, first_decimal}
use Rattle.efrp_syntax.proofs.FirstTokenFacts.{comment_skips, first_word, wide_taken, num_taken, mark_taken, behind_number}

-- Numbers.

hexadecimal_value : value_after 16 0 (codes "0aF") ≡ 175
hexadecimal_value = refl

leading_zeros : value_after 10 0 (codes "0042") ≡ 42
leading_zeros = refl

-- `a=>0x1Fw//c` is a name, a mark and a wide number.

name_first : IsFirstToken false (codes "a=>0x1Fw//c") (token.Word (codes "a")) (codes "=>0x1Fw//c")
name_first = first_word (codes "a=>0x1Fw//c") (codes "a") (codes "=>0x1Fw//c") (codes "a") refl refl (record { spelled = refl; all = refl; ends = refl }) refl

then_mark : IsFirstToken false (codes "=>0x1Fw//c") (token.Mark ARROW) (codes "0x1Fw//c")
then_mark = mark_taken false (codes "=>0x1Fw//c") (codes "0x1Fw//c") ARROW (long_found (codes "=>0x1Fw//c") (codes "0x1Fw//c") 61 62 ARROW refl refl) refl refl

then_wide : IsFirstToken false (codes "0x1Fw//c") (token.Wide 31) (codes "//c")
then_wide = (wide_taken (codes "0x1Fw//c") (codes "w//c") (codes "//c") (Some 31) 31 refl (first_hexadecimal (codes "0x1Fw//c") (codes "1Fw//c") (codes "1F") (codes "w//c") (Some 31) refl refl (record { spelled = refl; all = refl; ends = refl }) refl) refl refl).0

then_comment : Skips (codes "//c") []
then_comment = comment_skips (codes "//c") (codes "c") (codes "c") [] refl (record { spelled = refl; all = refl; ends = refl })

three_tokens : HasTokens (codes "a=>0x1Fw//c") (token.Word (codes "a") ∷ token.Mark ARROW ∷ token.Wide 31 ∷ [])
three_tokens =
    (lit≤ tt, false, take_token false (codes "a=>0x1Fw//c") (codes "=>0x1Fw//c") _ name_first (take_token false (codes "=>0x1Fw//c") (codes "0x1Fw//c") _ then_mark (take_token false (codes "0x1Fw//c") (codes "//c") _ then_wide (skip true (codes "//c") [] then_comment here))), (lit≤ tt, (tt, (lit≤ tt, tt))))

-- In `1w2` the digit after the wide number is a bad byte.

heads : (a b : ℕ) (xs ys : List ℕ) → a ∷ xs ≡ b ∷ ys → a ≡ b
heads a b xs ys e = cc

no_prefix : (digits : List ℕ) → codes "1w2" ≡ 48 ∷ 120 ∷ digits → begins is_hex_digit digits ≡ false
no_prefix digits e = absurd (omega (arith, heads 49 48 (codes "w2") (120 ∷ digits) e))

wide_first : IsFirstToken false (codes "1w2") (token.Wide 1) (codes "2")
wide_first = (wide_taken (codes "1w2") (codes "w2") (codes "2") (Some 1) 1 refl (first_decimal (codes "1w2") (codes "1") (codes "w2") (Some 1) refl (λ digits e. no_prefix digits e) (record { spelled = refl; all = refl; ends = refl }) refl) refl refl).0

digit_behind_wide : IsBadByte (codes "1w2") 2
digit_behind_wide = record {
  after = true;
  rest = codes "2";
  reached = record { tokens = token.Wide 1 ∷ []; cut = take_token false (codes "1w2") (codes "2") (token.Wide 1) wide_first here; within = (lit≤ tt, tt); «at» = refl };
  some = λ e. cc;
  no_blank = λ b bs e. let h : b ≡ 50 = cc in ap is_blank h;
  no_comment = refl;
  no_token = behind_number true (codes "2") refl refl;
}

-- `0x` is the number 0 and then a bad byte.

zero_first : IsFirstToken false (codes "0x") (token.Num 0) (codes "x")
zero_first = (num_taken (codes "0x") (codes "x") (Some 0) 0 refl (first_decimal (codes "0x") (codes "0") (codes "x") (Some 0) refl (λ digits e. let h : digits ≡ [] = cc in ap (begins is_hex_digit) h) (record { spelled = refl; all = refl; ends = refl }) refl) refl refl).0

prefix_alone : IsBadByte (codes "0x") 1
prefix_alone = record {
  after = true;
  rest = codes "x";
  reached = record { tokens = token.Num 0 ∷ []; cut = take_token false (codes "0x") (codes "x") (token.Num 0) zero_first here; within = (lit≤ tt, tt); «at» = refl };
  some = λ e. cc;
  no_blank = λ b bs e. let h : b ≡ 120 = cc in ap is_blank h;
  no_comment = refl;
  no_token = behind_number true (codes "x") refl refl;
}
