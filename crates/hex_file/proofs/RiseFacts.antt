-- What rising addresses give of each word.
use Rattle.std.proofs.Common.{ℕ, zero, suc, ◌+◌, ◌<◌, List, [], ◌∷◌, All, arith}
use Rattle.hex_file.specs.declared.images.Word.{Word}
use Rattle.hex_file.specs.Written.{RisesFrom}

pub below_8192 : (low : ℕ) (words : List Word) → RisesFrom low words → All (λ w. w.address < 8192) words
below_8192 low [] rises k d within = absurd (omega arith)
below_8192 low (w ∷ ws) rises zero d within = rises.1
below_8192 low (w ∷ ws) rises (suc k) d within = below_8192 (w.address + 1) ws rises.3 k d (omega arith)
