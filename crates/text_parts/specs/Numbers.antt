-- The numbers that digits spell.
use Rattle.std.specs.Prelude.{◌≡◌, ◌≢◌, ℕ, ◌+◌, ◌-◌, ◌*◌, ◌^◌, Bool, true, not, ◌&&◌, ◌||◌, ◌==◌, nat_le, nat_lt, if◌then◌else◌, List, [], ◌∷◌, ◌++◌, length, IsTrue, codes, ◌⊎◌}
use Rattle.std.specs.List.{list_all}
use Rattle.text_parts.specs.Bytes.{is_digit, is_hex_digit}

-- What a digit of either case stands for.
abbrev pub digit_value : ℕ → ℕ
digit_value b = if is_digit b then b - 48 else (if nat_le b 70 then b - 55 else b - 87)

-- The number that digits spell in a base, after digits that spell `before`.
abbrev pub value_after : ℕ → ℕ → List ℕ → ℕ
value_after base before [] = before
value_after base before (d ∷ ds) = value_after base (before * base + digit_value d) ds

-- One or more decimal digits.
pub record IsDecimal (w : List ℕ) (n : ℕ) : Type 0 where
  pub some : w ≢ []
  pub digits : IsTrue (list_all is_digit w)
  pub value : n ≡ value_after 10 0 w

-- `0x` and one or more hexadecimal digits of either case.
pub record IsHexadecimal (w : List ℕ) (n : ℕ) : Type 0 where
  pub digits : List ℕ
  pub some : digits ≢ []
  pub spelled : w ≡ codes "0x" ++ digits
  pub hexadecimal : IsTrue (list_all is_hex_digit digits)
  pub value : n ≡ value_after 16 0 digits

abbrev pub IsNumber : List ℕ → ℕ → Type 0
IsNumber w n = IsDecimal w n ⊎ IsHexadecimal w n

-- One or more decimal digits, whose number is below 2^32. Zeros may stand at the beginning.
abbrev pub is_decimal : List ℕ → Bool
is_decimal w = nat_lt 0 (length w) && list_all is_digit w && nat_lt (value_after 10 0 w) (2 ^ 32)

-- Two hexadecimal digits of either case.
abbrev pub is_byte : List ℕ → Bool
is_byte w = length w == 2 && list_all is_hex_digit w

-- Neither a sign nor, before another byte, a zero stands at the beginning.
abbrev pub is_plain : List ℕ → Bool
is_plain [] = true
is_plain (b ∷ bs) = not (b == 43) && (not (b == 48) || length bs == 0)
