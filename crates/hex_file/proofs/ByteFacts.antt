-- A number of 16 bits as two bytes.
use Rattle.std.proofs.Common.{◌≡◌, ℕ, ◌*◌, ◌^◌, ◌/◌, ◌%◌, ◌<◌, List, [], ◌∷◌, length, refl, ap, arith}
use Rattle.std.specs.Int.{w16, to_le_bytes, to_be_bytes}
use Rattle.std.specs.List.{flat_map}
use Rattle.hex_file.specs.declared.images.Word.{Word}
use Rattle.hex_file.specs.Written.{word_bytes}

pub le_word_bytes : (n : ℕ) → n < 2 ^ 16 → to_le_bytes w16 n ≡ word_bytes n
le_word_bytes n small = let high : n / 256 % 256 ≡ n / 256 = omega arith in ap (λ byte. n % 256 ∷ byte ∷ []) high

pub be_word_bytes : (n : ℕ) → n < 2 ^ 16 → to_be_bytes w16 n ≡ n / 256 ∷ n % 256 ∷ []
be_word_bytes n small = let high : n / 256 % 256 ≡ n / 256 = omega arith in ap (λ byte. byte ∷ n % 256 ∷ []) high

pub length_words : (words : List Word) → length (flat_map (λ w. word_bytes w.word) words) ≡ 2 * length words
length_words [] = refl
length_words (w ∷ ws) = omega (arith, length_words ws)
