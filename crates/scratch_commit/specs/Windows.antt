-- The window of a run, from the instruction that opens it to the one that commits.
use Rattle.std.specs.Prelude.{ℕ, Bool, true, if◌then◌else◌, List, [], ◌∷◌, ◌++◌, map}
use Rattle.pic_regs.specs.Places.{IsPlace}
use Rattle.code_steps.specs.declared.banks.Bank.{Bank}
use Rattle.code_items.specs.declared.items.Item.{Item}
use Rattle.code_items.specs.declared.items.Item.TheVariants.{Mark}
use Rattle.glue_steps.specs.declared.lines.Line.{Line}
use Rattle.glue_steps.specs.Lines.{item_of}
use Rattle.glue_parts.specs.declared.kept.TheConstants.{REDO}
use Rattle.glue_parts.specs.Marks.{mark, Opening, Committing}
use Rattle.glue_parts.specs.declared.moves.Move.{Move}
use Rattle.scratch_commit.specs.Deeds.{Deed, Copy, Make, Pause, lines_in}

-- The number of a move's port is below 5, its address below 512.
abbrev pub MoveNamed : Move → Type 0
MoveNamed move = IsPlace move.from × IsPlace move.to

-- The registers are copied in order. Where other runs may be beneath, the redo bit is set then, which tells them that a run has
-- committed. With nothing to copy a pause comes first, and last where there is nothing to tell.
abbrev pub copying : List Move → List Deed
copying moves = map (λ (move : Move). Copy move.from move.to) moves

abbrev pub window : List Move → (tells : Bool) → List Deed
window [] tells = Pause ∷ (if tells then Make true REDO 0 else Pause) ∷ []
window (move ∷ moves) tells = copying (move ∷ moves) ++ (if tells then Make true REDO 0 ∷ [] else [])

-- The items of lines, with a mark before the last.
abbrev pub marked_last : ℕ → List Line → List Item
marked_last m [] = []
marked_last m (line ∷ []) = Mark m ∷ item_of line ∷ []
marked_last m (line ∷ (next ∷ lines)) = item_of line ∷ marked_last m (next ∷ lines)

-- The items of an event's window, begun in this bank.
abbrev pub window_items : (event : ℕ) → Bank → List Deed → List Item
window_items event bank deeds = Mark (mark (Opening event)) ∷ marked_last (mark (Committing event)) (lines_in bank deeds)
