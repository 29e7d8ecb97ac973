-- Words at successive addresses: one more of them, and that they rise.
use Rattle.std.proofs.Common.{◌≡◌, ℕ, zero, suc, ◌+◌, ◌%◌, ◌<◌, ◌≤◌, List, [], ◌∷◌, ◌++◌, length, get_or, take, ap, ◌∙◌, arith}
use Rattle.hex_file.specs.declared.images.Word.{Word}
use Rattle.hex_file.specs.Words.{words_from}
use Rattle.hex_file.specs.Written.{RisesFrom}

abbrev pub word : ℕ → ℕ → Word
word address number = record { address = address; word = number % 0x4000 }

-- One more of them.
pub words_from-more : (from : ℕ) (ns : List ℕ) (i : ℕ) → i < length ns → words_from from (take (suc i) ns) ≡ words_from from (take i ns) ++ word (from + i) (get_or ns i 0) ∷ []
words_from-more from [] i inside = absurd (omega (arith, inside))
words_from-more from (n ∷ ns) zero inside = let same : from ≡ from + 0 = omega arith in ap (λ a. word a n ∷ []) same
words_from-more from (n ∷ ns) (suc i) inside =
    let later : from + 1 + i ≡ from + suc i = omega arith in
    ap (λ ws. word from n ∷ ws) (words_from-more (from + 1) ns i (omega (arith, inside)) ∙ ap (λ a. words_from (from + 1) (take i ns) ++ word a (get_or ns i 0) ∷ []) later)

-- They rise.
pub words_from-rise : (from : ℕ) (ns : List ℕ) → from + length ns ≤ 8192 → RisesFrom from (words_from from ns)
words_from-rise from [] fit = tt
words_from-rise from (n ∷ ns) fit = (omega arith, omega (arith, fit), omega arith, words_from-rise (from + 1) ns (omega (arith, fit)))
