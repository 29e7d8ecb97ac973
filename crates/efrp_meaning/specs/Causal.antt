-- Which definitions depend on which on an event, and programs in which none depends on itself.
use Rattle.std.specs.Prelude.{◌≡◌, ℕ, ◌+◌, Bool, true, not, nat_lt, if◌then◌else◌, List, [], ◌∷◌, filter, Some, None}
use Rattle.std.specs.List.{list_any, list_all, AllByRecursion}
use Rattle.std.specs.Str.{bytes_eq}
use Rattle.frp_tree.specs.declared.syntax.Event.{Event}
use Rattle.frp_tree.specs.Tree.{DeclTree, ProgramTree}
use Rattle.efrp_meaning.specs.Decls.{decl_named}
use Rattle.efrp_meaning.specs.Needs.{names_in}
use Rattle.efrp_meaning.specs.Meaning.{Rule, Always, Sampled, Tabled, Now, Later, Stays, rule_on}

-- The names on whose values that of the definition x depends by its rule: those in the expression that it is or becomes now,
-- but for the own name of one that becomes it. A `later` clause adds nothing.
abbrev pub dependencies_by : List ℕ → Rule → List (List ℕ)
dependencies_by x (Always e) = names_in e
dependencies_by x Sampled = []
dependencies_by x Tabled = []
dependencies_by x (Now e) = filter (λ y. not (bytes_eq x y)) (names_in e)
dependencies_by x (Later e) = []
dependencies_by x Stays = []

-- Those on which the definition x depends on an event. A name that no definition has depends on nothing.
abbrev pub dependencies : ProgramTree → List ℕ → List ℕ → List (List ℕ)
dependencies p event x = elim (decl_named p.decls x) [ Some d ↦ dependencies_by x (rule_on event d.behaviour) | None ↦ [] ]

-- On an event the definition x depends on y, directly.
abbrev pub DependsOn : ProgramTree → List ℕ → List ℕ → List ℕ → Type 0
DependsOn p event x y = list_any (bytes_eq y) (dependencies p event x) ≡ true

-- It depends on y through others: each depends on the next one.
abbrev pub DependsThrough : ProgramTree → List ℕ → List ℕ → List (List ℕ) → List ℕ → Type 0
DependsThrough p event x [] y = DependsOn p event x y
DependsThrough p event x (other ∷ others) y = DependsOn p event x other × DependsThrough p event other others y

-- On this event no definition depends on itself, directly or through others.
abbrev pub IsCausalOn : ProgramTree → List ℕ → Type 0
IsCausalOn p event = (x : List ℕ) (others : List (List ℕ)) → DependsThrough p event x others x → ⊥

-- On none of its events.
abbrev pub IsCausal : ProgramTree → Type 0
IsCausal p = AllByRecursion (λ (e : Event). IsCausalOn p e.name) p.events

-- The place of a name in a list; where it isn't there, the number of the list's names.
abbrev pub place_of : List (List ℕ) → List ℕ → ℕ
place_of [] x = 0
place_of (n ∷ ns) x = if bytes_eq n x then 0 else place_of ns x + 1

-- What the definition of this name depends on stands before it.
abbrev pub stands_behind : ProgramTree → List ℕ → List (List ℕ) → List ℕ → Bool
stands_behind p event order x = list_all (λ y. nat_lt (place_of order y) (place_of order x)) (dependencies p event x)

-- An order on an event: each definition stands behind those on which it depends.
abbrev pub IsOrderOn : ProgramTree → List ℕ → List (List ℕ) → Type 0
IsOrderOn p event order = list_all (λ (d : DeclTree). stands_behind p event order d.name) p.decls ≡ true
