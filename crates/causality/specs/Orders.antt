-- Orders of the definitions on an event, and the first definition that depends on itself.
use Rattle.std.specs.Prelude.{◌≡◌, ℕ, Bool, true, false, ◌==◌, ◌<◌, List, ◌∷◌, ◌++◌, length, slice_get, Some, None}
use Rattle.std.specs.List.{AllByRecursion, count_by, list_any}
use Rattle.frp_tree.specs.declared.syntax.Event.{Event}
use Rattle.frp_tree.specs.Tree.{DeclTree, ProgramTree}
use Rattle.efrp_meaning.specs.Causal.{DependsOn, DependsThrough, IsCausalOn}
use Rattle.efrp_types.specs.Numbers.{decl_number}

-- A definition has this name, and its number is among these.
abbrev pub is_among : ProgramTree → List ℕ → List ℕ → Bool
is_among p numbers name = elim (decl_number p name) [ Some n ↦ list_any (λ m. m == n) numbers | None ↦ false ]

-- An order on an event: the number of each definition stands in it once, and no other number does; and each definition stands
-- behind all those on which it depends.
pub record IsOrder (p : ProgramTree) (event : List ℕ) (numbers : List ℕ) : Type 0 where
  pub once : (n : ℕ) → n < length p.decls → count_by (λ m. m == n) numbers ≡ 1
  pub within : AllByRecursion (λ n. n < length p.decls) numbers
  pub behind : (front rest : List ℕ) (i : ℕ) (d : DeclTree) → numbers ≡ front ++ i ∷ rest → slice_get p.decls i ≡ Some d
      → (y : List ℕ) → DependsOn p event d.name y → is_among p front y ≡ true

-- On an event the definition x depends on itself, directly or through others.
abbrev pub DependsOnItself : ProgramTree → List ℕ → List ℕ → Type 0
DependsOnItself p event x = (others : List (List ℕ)) × DependsThrough p event x others x

-- Before this event of the program none has a definition that depends on itself.
abbrev pub IsCausalBefore : ProgramTree → List ℕ → Type 0
IsCausalBefore p event =
    (before after : List Event) × (e : Event) × (p.events ≡ before ++ e ∷ after) × (e.name ≡ event) × AllByRecursion (λ (b : Event). IsCausalOn p b.name) before

-- The first definition that depends on itself on an event.
abbrev pub IsFirstOn : ProgramTree → List ℕ → List ℕ → Type 0
IsFirstOn p event x =
    (front back : List DeclTree) × (d : DeclTree) × (p.decls ≡ front ++ d ∷ back) × (d.name ≡ x) × DependsOnItself p event x
    × AllByRecursion (λ (c : DeclTree). ¬ DependsOnItself p event c.name) front

-- The first event on which a definition depends on itself, and the first definition that does on it.
pub record IsFirstCycle (p : ProgramTree) (event x : List ℕ) : Type 0 where
  pub event_is_first : IsCausalBefore p event
  pub name_is_first : IsFirstOn p event x
