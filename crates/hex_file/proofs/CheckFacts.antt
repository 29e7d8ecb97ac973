-- Facts on the check byte.
use Rattle.std.proofs.Common.{◌≡◌, ℕ, ◌+◌, ◌%◌, ◌<◌, List, sum, refl, arith}
use Rattle.std.proofs.lemmas.List.Folds.{fold_along}
use Rattle.std.specs.List.{fold}
use Rattle.hex_file.specs.Written.{check_byte}

-- A sum that wraps at each step is the whole sum modulo 256.
pub wrapping_sum : (bytes : List ℕ) → fold (λ s b. (s + b) % 256) 0 bytes ≡ sum bytes % 256
wrapping_sum bytes =
    fold_along (λ s b. (s + b) % 256) (λ n b. n + b) (λ s n. s ≡ n % 256) (λ s n b same. omega arith) 0 0 bytes refl

-- The check byte is the one byte that makes the sum 0 modulo 256.
pub check_byte_unique : (bytes : List ℕ) (b : ℕ) → b < 256 → (sum bytes + b) % 256 ≡ 0 → b ≡ check_byte bytes
check_byte_unique bytes b small zero_sum = omega arith

pub check_byte_below : (bytes : List ℕ) → check_byte bytes < 256
check_byte_below bytes = omega arith

pub sum_with_check_byte : (bytes : List ℕ) → (sum bytes + check_byte bytes) % 256 ≡ 0
sum_with_check_byte bytes = omega arith
