-- Pieces of code one after another: where each begins.
use Rattle.std.specs.Prelude.{◌≡◌, ℕ, zero, suc, ◌+◌, Bool, false, List, [], ◌∷◌, ◌++◌}
use Rattle.code_items.specs.declared.items.Item.{Item}
use Rattle.code_items.specs.Items.{words_in, ends_skipping}

-- Pieces of code, put together.
abbrev pub joined : List (List Item) → List Item
joined [] = []
joined (piece ∷ pieces) = piece ++ joined pieces

-- The piece with this number, from 0, and the words of the pieces before it.
abbrev pub piece_at : List (List Item) → ℕ → List Item
piece_at [] k = []
piece_at (piece ∷ pieces) zero = piece
piece_at (piece ∷ pieces) (suc k) = piece_at pieces k

abbrev pub base : (paged : Bool) → List (List Item) → ℕ → ℕ
base paged [] k = 0
base paged (piece ∷ pieces) zero = 0
base paged (piece ∷ pieces) (suc k) = words_in paged piece + base paged pieces k

-- No piece ends in a skip instruction, so that each means on its own what it means among the others.
abbrev pub NoneSkips : List (List Item) → Type 0
NoneSkips [] = Unit {0}
NoneSkips (piece ∷ pieces) = (ends_skipping false piece ≡ false) × NoneSkips pieces
