-- What is left of a graph while its numbers are placed: its edges as nodes of lists, what each number waits for, and the ready ones.
use Rattle.std.specs.Prelude.{◌≡◌, ◌≢◌, ℕ, ◌+◌, ◌-◌, ◌<◌, ◌≤◌, Bool, true, false, not, ◌&&◌, ◌==◌, List, [], length, take, get_or, sum_by}
use Rattle.std.specs.List.{All, Contains, count_by}
use Rattle.linked_rows.specs.Rows.{NodeLists, row}
use Rattle.causality.specs.declared.edges.Edge.{Edge}
use Rattle.causality.specs.Graphs.{edges, is_marked}

-- How many edges a graph has, and how many of these lead from one number to another.
abbrev pub edge_count : List (List ℕ) → ℕ
edge_count g = sum_by length g

abbrev pub between : List (List ℕ) → ℕ → ℕ → ℕ
between g i j = count_by (λ m. m == j) (edges g i)

abbrev pub is_between : ℕ → ℕ → Edge → Bool
is_between i j e = (e.user == i) && (e.used == j)

-- The edges of a graph's first numbers, in any order, each as often as the graph has it, and no others.
pub record AreEdges (g : List (List ℕ)) (count : ℕ) (es : List Edge) : Type 0 where
  pub size : length es ≡ sum_by length (take count g)
  pub within : All (λ (e : Edge). (e.user < length g) × (e.used < length g)) es
  pub each : (i j : ℕ) → i < count → count_by (is_between i j) es ≡ between g i j
  pub later : (i j : ℕ) → count ≤ i → count_by (is_between i j) es ≡ 0

-- Nodes of lists are the n numbers of a graph and after them its edges. The number that has the edge of a node; and how many of
-- these nodes are edges of the number i.
abbrev pub user_of : List Edge → ℕ → ℕ → ℕ
user_of es n x = (get_or es (x - n) (record { user = 0; used = 0 })).user

abbrev pub from : List Edge → ℕ → ℕ → List ℕ → ℕ
from es n i nodes = count_by (λ x. user_of es n x == i) nodes

-- A node is an edge, one of so many.
abbrev pub IsEdgeNode : ℕ → ℕ → ℕ → Type 0
IsEdgeNode n count x = (n ≤ x) × (x < n + count)

-- Of the first edges the list of each number has those that lead to it; the last list, that of the ready numbers, is empty.
pub record AreUsers (n : ℕ) (es : List Edge) (count : ℕ) (rows : NodeLists) : Type 0 where
  pub lists : length rows.lists ≡ n + 1
  pub nodes : rows.nodes ≡ n + length es
  pub within : (j : ℕ) → All (IsEdgeNode n count) (row rows j)
  pub none_ready : row rows n ≡ []
  pub each : (i j : ℕ) → from es n i (row rows j) ≡ count_by (is_between i j) (take count es)

-- The list of the ready ones has those of the first numbers that wait for nothing, and no others; each other list is as before.
pub record AreReady (waits : List ℕ) (ready count : ℕ) (before rows : NodeLists) : Type 0 where
  pub lists : length rows.lists ≡ length before.lists
  pub nodes : rows.nodes ≡ before.nodes
  pub others : (j : ℕ) → j ≢ ready → row rows j ≡ row before j
  pub only : All (λ i. (i < count) × (get_or waits i 0 ≡ 0)) (row rows ready)
  pub all : (i : ℕ) → i < count → get_or waits i 0 ≡ 0 → Contains (row rows ready) i

-- The lists of numbers have edges alone, and that of each number that isn't placed has all that lead to it. A number waits for its
-- edges to numbers that aren't placed and for those of its edges that are left to tell; a placed one waits for nothing. The ready
-- ones are those that aren't placed and wait for nothing.
pub record Waits (g : List (List ℕ)) (es : List Edge) (placed : List Bool) (waits : List ℕ) (rows : NodeLists) (left : List ℕ) : Type 0 where
  pub lists : length rows.lists ≡ length g + 1
  pub nodes : rows.nodes ≡ length g + length es
  pub size : length waits ≡ length g
  pub marks : length placed ≡ length g
  pub users : All (λ (e : Edge). e.user < length g) es
  pub within : (j : ℕ) → j < length g → All (IsEdgeNode (length g) (length es)) (row rows j)
  pub told : (i j : ℕ) → i < length g → j < length g → is_marked placed j ≡ false → from es (length g) i (row rows j) ≡ between g i j
  pub counts : (i : ℕ) → i < length g → get_or waits i 0 ≡ count_by (λ j. not (is_marked placed j)) (edges g i) + from es (length g) i left
  pub past : (i : ℕ) → i < length g → is_marked placed i ≡ true → get_or waits i 0 ≡ 0
  pub only : All (λ i. (i < length g) × (is_marked placed i ≡ false) × (get_or waits i 0 ≡ 0)) (row rows (length g))
  pub all : (i : ℕ) → i < length g → is_marked placed i ≡ false → get_or waits i 0 ≡ 0 → Contains (row rows (length g)) i
