-- Lines with a mark before the last.
use Rattle.std.proofs.Common.{◌≡◌, ◌==◌, ℕ, Bool, true, false, if◌then◌else◌, List, [], ◌∷◌, ◌++◌, append_assoc, length, map, refl, ap, arith}
use Rattle.code_items.specs.declared.items.Item.{Item}
use Rattle.code_items.specs.declared.items.Item.TheVariants.{Mark}
use Rattle.glue_steps.specs.declared.lines.Line.{Line}
use Rattle.glue_steps.specs.Lines.{item_of}
use Rattle.glue_parts.specs.declared.kept.TheConstants.{REDO}
use Rattle.glue_parts.specs.declared.moves.Move.{Move}
use Rattle.scratch_commit.specs.Deeds.{Deed, Make}
use Rattle.scratch_commit.specs.Windows.{copying, marked_last, window}

pub marked_is : (m : ℕ) (before : List Line) (last : Line) → marked_last m (before ++ last ∷ []) ≡ map item_of before ++ (Mark m ∷ item_of last ∷ [])
marked_is m [] last = refl
marked_is m (line ∷ []) last = refl
marked_is m (line ∷ (second ∷ before)) last = ap (λ items. item_of line ∷ items) (marked_is m (second ∷ before) last)

-- The window of some moves.
pub window_some : (moves : List Move) (tells : Bool) → (length moves == 0) ≡ false → window moves tells ≡ copying moves ++ (if tells then Make true REDO 0 ∷ [] else [])
window_some [] tells some = absurd (cc)
window_some (move ∷ moves) tells some = refl

pub regroup_last : (o b : List Item) (x y : Item) → ((o ++ b) ++ x ∷ []) ++ y ∷ [] ≡ o ++ (b ++ (x ∷ y ∷ []))
regroup_last o b x y = simp append_assoc
