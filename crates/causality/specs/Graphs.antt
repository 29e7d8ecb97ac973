-- Graphs of definitions by their numbers: edges, paths, orders, marks. Functions inside the crate speak of them alone.
use Rattle.std.specs.Prelude.{◌≡◌, ℕ, ◌+◌, ◌<◌, Bool, true, false, not, ◌||◌, ◌&&◌, ◌==◌, List, [], ◌∷◌, length, map, take, get_or, option_to_list, if◌then◌else◌}
use Rattle.std.specs.List.{All, count_by, flat_map, list_any, list_all}
use Rattle.std.specs.Str.{bytes_eq}
use Rattle.frp_tree.specs.Tree.{DeclTree, ProgramTree}
use Rattle.efrp_meaning.specs.Meaning.{Rule, Always, Sampled, Tabled, Now, Later, Stays, rule_on}
use Rattle.efrp_meaning.specs.Needs.{names_in}
use Rattle.efrp_types.specs.Numbers.{decl_number}

-- The number of a name in an expression of its owner: none for the owner's own where it stands for its old state, and none for
-- one that no definition has.
abbrev pub number_of : ProgramTree → List ℕ → Bool → List ℕ → List ℕ
number_of p owner is_own_state y = if is_own_state && bytes_eq owner y then [] else option_to_list (decl_number p y)

abbrev pub numbers_of : ProgramTree → List ℕ → Bool → List (List ℕ) → List ℕ
numbers_of p owner is_own_state names = flat_map (number_of p owner is_own_state) names

-- The numbers of those on which a definition depends by its rule.
abbrev pub edges_by : ProgramTree → List ℕ → Rule → List ℕ
edges_by p x (Always e) = numbers_of p x false (names_in e)
edges_by p x Sampled = []
edges_by p x Tabled = []
edges_by p x (Now e) = numbers_of p x true (names_in e)
edges_by p x (Later e) = []
edges_by p x Stays = []

abbrev pub edges_on : ProgramTree → List ℕ → DeclTree → List ℕ
edges_on p event d = edges_by p d.name (rule_on event d.behaviour)

-- For each definition, by its number, the numbers of those on which it depends on an event.
abbrev pub graph_on : ProgramTree → List ℕ → List (List ℕ)
graph_on p event = map (edges_on p event) p.decls

abbrev pub has : List ℕ → ℕ → Bool
has numbers n = list_any (λ m. m == n) numbers

abbrev pub edges : List (List ℕ) → ℕ → List ℕ
edges g i = get_or g i []

-- An edge, and a path through others.
abbrev pub Edge : List (List ℕ) → ℕ → ℕ → Type 0
Edge g i j = has (edges g i) j ≡ true

abbrev pub Path : List (List ℕ) → ℕ → List ℕ → ℕ → Type 0
Path g i [] j = Edge g i j
Path g i (other ∷ others) j = Edge g i other × Path g other others j

-- A number leads to itself.
abbrev pub IsRound : List (List ℕ) → ℕ → Type 0
IsRound g i = (others : List ℕ) × Path g i others i

-- The first that does.
pub record IsFirstRound (g : List (List ℕ)) (x : ℕ) : Type 0 where
  pub inside : x < length g
  pub round : IsRound g x
  pub first : (k : ℕ) → k < x → ¬ IsRound g k

-- All edges are to the graph's own numbers.
abbrev pub IsGraph : List (List ℕ) → Type 0
IsGraph g = (i : ℕ) → All (λ n. n < length g) (edges g i)

-- Marks by number.
abbrev pub is_marked : List Bool → ℕ → Bool
is_marked marked n = get_or marked n false

-- How many numbers have no mark.
abbrev pub unmarked : List Bool → ℕ
unmarked marked = count_by not marked

-- The marks and the numbers that are left to do after these numbers got marks: those that had none are added.
pub record Marks (numbers : List ℕ) (marked : List Bool) (left : List ℕ) (marked_after : List Bool) (left_after : List ℕ) : Type 0 where
  pub len : length marked_after ≡ length marked
  pub marks : (n : ℕ) → is_marked marked_after n ≡ (is_marked marked n || has numbers n)
  pub adds : (n : ℕ) → has left_after n ≡ (has left n || (has numbers n && not (is_marked marked n)))
  pub work : unmarked marked_after + length left_after ≡ unmarked marked + length left

-- A number may be placed next: it isn't placed, and its edges lead to placed ones. Or none may.
pub record IsNext (g : List (List ℕ)) (placed : List Bool) (i : ℕ) : Type 0 where
  pub inside : i < length g
  pub new : is_marked placed i ≡ false
  pub ready : list_all (is_marked placed) (edges g i) ≡ true

abbrev pub NoneIsNext : List (List ℕ) → List Bool → Type 0
NoneIsNext g placed = (i : ℕ) → i < length g → is_marked placed i ≡ false → list_all (is_marked placed) (edges g i) ≡ false

-- Some are left, and each of these has an edge to one that is left.
pub record IsStuck (g : List (List ℕ)) : Type 0 where
  pub placed : List Bool
  pub len : length placed ≡ length g
  pub left : list_all (λ b. b) placed ≡ false
  pub waits : NoneIsNext g placed

-- Each number stands in the order once, behind those to which it has an edge; and no path leads round.
pub record IsSorted (g : List (List ℕ)) (order : List ℕ) : Type 0 where
  pub once : (n : ℕ) → n < length g → count_by (λ m. m == n) order ≡ 1
  pub within : All (λ n. n < length g) order
  pub before : (k : ℕ) → k < length order → list_all (has (take k order)) (edges g (get_or order k 0)) ≡ true
  pub no_round : (i : ℕ) → ¬ IsRound g i
