-- The place of each definition where states are numbered: its state stands behind those of all definitions before it.
use Rattle.std.proofs.Common.{◌≡◌, ℕ, ◌+◌, Some, None, List, [], ◌∷◌, slice_get, sum_by, take, option_and_then, ap, ◌∙◌, arith, zero, suc}
use Rattle.std.proofs.lemmas.List.Sums.{sum_by-cons}
use Rattle.std.proofs.lemmas.Option.{none-some}
use Rattle.frp_tree.specs.Tree.{DeclTree, ProgramTree}
use Rattle.efrp_meaning.specs.Bounds.{bytes_in}
use Rattle.efrp_types.specs.Numbers.{decl_number}
use Rattle.expr_lower.specs.declared.cells.Cells.{Cells}
use Rattle.expr_lower.specs.declared.places.Place.{Place}
use Rattle.expr_lower.specs.Numbered.{AreStates, state_cells, state_places}
use Rattle.expr_lower.specs.Places.{cells_of_name, cells_of_place}

abbrev pub bytes_before : List DeclTree → ℕ → ℕ
bytes_before ds n = sum_by (λ (d : DeclTree). bytes_in d.ty d.behaviour) (take n ds)

abbrev pub state_place : ℕ → DeclTree → Place
state_place next d = record { ty = d.ty; state = state_cells next d.ty d.behaviour; bound = None }

pub place-at : (next : ℕ) (ds : List DeclTree) (n : ℕ) (d : DeclTree) → slice_get ds n ≡ Some d → slice_get (state_places next ds) n ≡ Some (state_place (next + bytes_before ds n) d)
place-at next [] n d e = absurd (none-some d e)
place-at next (x ∷ xs) zero d e =
    let same : x ≡ d = cc in
    let here : next ≡ next + bytes_before (x ∷ xs) 0 = omega arith in
    ap (λ k. Some (state_place k x)) here ∙ ap (λ (c : DeclTree). Some (state_place (next + bytes_before (x ∷ xs) 0) c)) same
place-at next (x ∷ xs) (suc n) d e =
    let step = sum_by-cons (λ (c : DeclTree). bytes_in c.ty c.behaviour) x (take n xs) in
    let there : next + bytes_in x.ty x.behaviour + bytes_before xs n ≡ next + bytes_before (x ∷ xs) (suc n) = omega (arith, step) in
    place-at (next + bytes_in x.ty x.behaviour) xs n d e ∙ ap (λ k. Some (state_place k d)) there

-- So its name has the cells of its state.
pub name-of-state : (p : ProgramTree) (cells : Cells) → AreStates p cells → (x : List ℕ) (n : ℕ) (d : DeclTree) → decl_number p x ≡ Some n → slice_get p.decls n ≡ Some d → cells_of_name p cells x ≡ state_cells (bytes_before p.decls n) d.ty d.behaviour
name-of-state p cells states x n d number e =
    let from : 0 + bytes_before p.decls n ≡ bytes_before p.decls n = omega arith in
    ap (option_and_then (λ k. option_and_then cells_of_place (slice_get cells.places.items k))) number
    ∙ ap (λ ps. option_and_then cells_of_place (slice_get ps n)) states.places
    ∙ ap (option_and_then cells_of_place) (place-at 0 p.decls n d e)
    ∙ ap (λ k. state_cells k d.ty d.behaviour) from
