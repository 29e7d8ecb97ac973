-- The definitions and the arrivals that are drawn so far, and one more.
use Rattle.std.proofs.Common.{◌≡◌, ℕ, suc, ◌+◌, ◌*◌, List, [], ◌∷◌, ◌++◌, map, refl, ap, sym, ◌∙◌, arith, zero-add}
use Rattle.std.specs.Prelude.{◌==◌}
use Rattle.std.proofs.lemmas.List.{map-append}
use Rattle.std.proofs.lemmas.List.FromFn.{map-range_with_len_more}
use Rattle.frp_tree.specs.declared.syntax.Decl.{Decl}
use Rattle.frp_tree.specs.declared.syntax.Clause.{Clause}
use Rattle.frp_tree.specs.declared.syntax.Lit.{Lit}
use Rattle.frp_tree.specs.declared.syntax.Ty.{Ty}
use Rattle.frp_tree.specs.Tree.{DeclTree, Reactive, Tree, clause_of, decl_of}
use Rattle.large_program.specs.declared.arriving.OneArrival.{OneArrival}
use Rattle.large_program.specs.Draws.{after_draws, draw, next}
use Rattle.large_program.specs.LargePrograms.{clause, definition, definition_name, definitions_below, event_name, expression, first_event, literal_for, nth_definition, second_event, type_of}
use Rattle.large_program.specs.Arrivals.{after_program, arrivals_below, boundary_of, nth_arrival}
use Rattle.large_program.proofs.DrawLaws.{more_draws, next_drawn, none_yet}

pub definitions_more : (n i : ℕ) (ds : List Decl) (d : Decl) → map decl_of ds ≡ definitions_below n i → decl_of d ≡ nth_definition n i → map decl_of (ds ++ d ∷ []) ≡ definitions_below n (i + 1)
definitions_more n i ds d so_far is =
    map-append decl_of ds (d ∷ []) ∙ ap (λ (xs : List DeclTree). xs ++ decl_of d ∷ []) so_far ∙ ap (λ (x : DeclTree). definitions_below n i ++ x ∷ []) is
    ∙ sym (map-range_with_len_more (nth_definition n) 0 i i (zero-add i))

-- A definition takes eight draws, and an arrival with the boundary behind it two.
pub eight_more : (n i : ℕ) → after_draws 8 (after_draws (8 * i) n) ≡ after_draws (8 * (i + 1)) n
eight_more n i = let e : 8 + 8 * i ≡ 8 * (i + 1) = omega (arith) in sym (more_draws 8 (8 * i) n) ∙ ap (λ (k : ℕ). after_draws k n) e

pub arrivals_more : (n i : ℕ) (xs : List OneArrival) (a : OneArrival) → xs ≡ arrivals_below n i → a ≡ nth_arrival n i → xs ++ a ∷ [] ≡ arrivals_below n (i + 1)
arrivals_more n i xs a so_far is =
    ap (λ (ys : List OneArrival). ys ++ a ∷ []) so_far ∙ ap (λ (x : OneArrival). arrivals_below n i ++ x ∷ []) is
    ∙ sym (map-range_with_len_more (nth_arrival n) 0 i i (zero-add i))

pub next_boundary : (n i : ℕ) → boundary_of n (suc i) ≡ boundary_of n i + (1 + draw (after_program n) (2 * i + 2) 600)
unfolding boundary_of
next_boundary n i = refl

pub first_boundary : (n : ℕ) → boundary_of n 0 ≡ 1000
unfolding boundary_of
first_boundary n = refl

-- The first three numbers that follow a number.
module _ (s a b c : ℕ) (one : a ≡ next s) (two : b ≡ next a) (three : c ≡ next b) where
  pub after_one : a ≡ after_draws 1 s
  after_one = next_drawn 0 s s a (sym (none_yet s)) one

  pub after_two : b ≡ after_draws 2 s
  after_two = next_drawn 1 s a b after_one two

  pub after_three : c ≡ after_draws 3 s
  after_three = next_drawn 2 s b c after_two three

-- A clause by its parts, and a definition by its.
pub clause_is : (i event s : ℕ) (name : List ℕ) (tree : Tree) (form k later : ℕ) → name ≡ event_name event → tree ≡ expression i form k → form ≡ draw s 1 4 → k ≡ draw s 2 200
    → later ≡ draw s 3 2 → record { event = name; expr = tree; later = later == 1 } ≡ clause i event s
clause_is i event s name tree form k later name_is tree_is form_is k_is later_is =
    let drawn : tree ≡ expression i (draw s 1 4) (draw s 2 200) = tree_is ∙ (λ j. expression i (form_is j) (k_is j)) in
    λ j. record { event = name_is j; expr = drawn j; later = later_is j == 1 }

pub definition_is : (i s : ℕ) (name : List ℕ) (ty : Ty) (init : Lit) (cs : List Clause) (a b : Clause) → name ≡ definition_name i → ty ≡ type_of i → init ≡ literal_for i i → cs ≡ a ∷ b ∷ []
    → clause_of a ≡ clause i (first_event s) (after_draws 2 s) → clause_of b ≡ clause i (second_event s) (after_draws 5 s)
    → record { name = name; ty = ty; behaviour = Reactive init (map clause_of cs) } ≡ definition i s
definition_is i s name ty init cs a b name_is ty_is init_is cs_are a_is b_is =
    let both : map clause_of cs ≡ clause i (first_event s) (after_draws 2 s) ∷ clause i (second_event s) (after_draws 5 s) ∷ [] =
    ap (map clause_of) cs_are ∙ (λ j. a_is j ∷ b_is j ∷ []) in
    λ j. record { name = name_is j; ty = ty_is j; behaviour = Reactive (init_is j) (both j) }
