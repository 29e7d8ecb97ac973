-- The cells of names where a definition is bound.
use Rattle.std.proofs.Common.{◌≡◌, ◌≢◌, ℕ, Some, option_and_then, slice_get, List, sym, ap, ◌∙◌}
use Rattle.frp_tree.specs.Tree.{ProgramTree}
use Rattle.efrp_types.specs.Numbers.{decl_number}
use Rattle.byte_ops.specs.declared.operations.Pair.{Pair}
use Rattle.expr_lower.specs.declared.cells.Cells.{Cells}
use Rattle.expr_lower.specs.Numbered.{Binds, CanBind}
use Rattle.expr_lower.specs.Places.{cells_of_name, cells_of_place}

module _ (p : ProgramTree) (before after : Cells) (n : ℕ) (at : Pair) (binds : Binds n at before after) (x : List ℕ) where
  -- A name of the definition has these cells,
  pub bound-name : CanBind before n at → decl_number p x ≡ Some n → cells_of_name p after x ≡ Some at
  bound-name can number =
      ap (option_and_then (λ k. option_and_then cells_of_place (slice_get after.places.items k))) number
      ∙ ap (option_and_then cells_of_place) (binds.own can.place can.is_there)

  -- and each other name those that it had.
  pub other-name : (m : ℕ) → decl_number p x ≡ Some m → m ≢ n → cells_of_name p after x ≡ cells_of_name p before x
  other-name m number differ =
      ap (option_and_then (λ k. option_and_then cells_of_place (slice_get after.places.items k))) number
      ∙ ap (option_and_then cells_of_place) (binds.others m differ)
      ∙ sym (ap (option_and_then (λ k. option_and_then cells_of_place (slice_get before.places.items k))) number)
