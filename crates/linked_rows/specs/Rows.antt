-- Lists of nodes as callers see them, and where a node stands.
use Rattle.std.specs.Prelude.{◌≡◌, ℕ, List, [], ◌∷◌, ◌++◌, get_or, set}
use Rattle.std.specs.List.{Contains}

-- The lists, by their numbers, and how many nodes there are: their numbers begin at 0.
pub record NodeLists : Type 0 where
  pub lists : List (List ℕ)
  pub nodes : ℕ

-- The nodes of a list, in order.
abbrev pub row : NodeLists → ℕ → List ℕ
row v list = get_or v.lists list []

-- A node is in a list.
abbrev pub IsIn : NodeLists → ℕ → ℕ → Type 0
IsIn v node list = Contains (row v list) node

-- A node is in some list.
abbrev pub IsPlaced : NodeLists → ℕ → Type 0
IsPlaced v node = (list : ℕ) × IsIn v node list

-- A node is in no list.
abbrev pub IsFree : NodeLists → ℕ → Type 0
IsFree v node = (list : ℕ) → ¬ IsIn v node list

-- A list is the nodes `before`, then the node, then the nodes `after`.
abbrev pub Stands : NodeLists → ℕ → List ℕ → ℕ → List ℕ → Type 0
Stands v list before node after = row v list ≡ before ++ node ∷ after

-- The same lists, but one of them has these nodes.
abbrev pub with_row : NodeLists → ℕ → List ℕ → NodeLists
with_row v list nodes = record { lists = set v.lists list nodes; nodes = v.nodes }
