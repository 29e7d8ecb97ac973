-- How a number is written in hexadecimal digits, each of a fixed number.
use Rattle.std.specs.Prelude.{ℕ, ◌+◌, ◌/◌, ◌%◌, List, [], ◌∷◌, nat_lt, if◌then◌else◌}

-- An upper-case hexadecimal digit.
abbrev pub hex_digit : ℕ → ℕ
hex_digit d = if nat_lt d 10 then 48 + d else 55 + d

-- A byte in two digits, a data address in three, a code or file address in four. Decimal numbers are
-- std's `decimal`.
abbrev pub hex2 : ℕ → List ℕ
hex2 n = hex_digit (n / 16) ∷ hex_digit (n % 16) ∷ []

abbrev pub hex3 : ℕ → List ℕ
hex3 n = hex_digit (n / 256) ∷ hex_digit (n / 16 % 16) ∷ hex_digit (n % 16) ∷ []

abbrev pub hex4 : ℕ → List ℕ
hex4 n = hex_digit (n / 4096) ∷ hex_digit (n / 256 % 16) ∷ hex_digit (n / 16 % 16) ∷ hex_digit (n % 16) ∷ []
