-- The array of links: the rings that it holds, the lists that they spell, and what a change of one place leaves.
use Rattle.std.specs.Prelude.{◌≡◌, ◌≢◌, ℕ, zero, suc, ◌+◌, ◌-◌, ◌<◌, ◌≤◌, List, [], ◌∷◌, length, map, get_or, Option, Some, None, cond, nat_lt, ⊤}
use Rattle.std.specs.List.{Contains, range_with_len}
use Rattle.linked_rows.specs.declared.links.Link.{Link}
use Rattle.linked_rows.specs.Rows.{NodeLists}

-- What stands at a place.
abbrev pub link_at : List Link → ℕ → Link
link_at links place = get_or links place (record { prev = 0; next = 0; list = None })

abbrev pub next_at : List Link → ℕ → ℕ
next_at links place = (link_at links place).next

abbrev pub prev_at : List Link → ℕ → ℕ
prev_at links place = (link_at links place).prev

abbrev pub list_at : List Link → ℕ → Option ℕ
list_at links place = (link_at links place).list

-- What stands at a place while all lists are empty: a ring of its own.
abbrev pub lone : ℕ → ℕ → Link
lone nodes place = record { prev = place; next = place; list = cond (nat_lt place nodes) None (Some (place - nodes)) }

-- The place now belongs to the list and stands just before the place `at`; no other place has moved.
pub record IsPutIn (old new : List Link) (list place at : ℕ) : Type 0 where
  pub size : length new ≡ length old
  pub its_list : list_at new place ≡ Some list
  pub its_next : next_at new place ≡ at
  pub its_prev : prev_at new place ≡ prev_at old at
  pub next_of_prev : next_at new (prev_at old at) ≡ place
  pub prev_of_next : prev_at new at ≡ place
  pub nexts : (x : ℕ) → x ≢ place → x ≢ prev_at old at → next_at new x ≡ next_at old x
  pub prevs : (x : ℕ) → x ≢ place → x ≢ at → prev_at new x ≡ prev_at old x
  pub lists : (x : ℕ) → x ≢ place → list_at new x ≡ list_at old x

-- The place belongs to no list, and its neighbours are neighbours of each other; no other place has moved.
pub record IsTakenOut (old new : List Link) (place : ℕ) : Type 0 where
  pub size : length new ≡ length old
  pub its_list : list_at new place ≡ None
  pub next_of_prev : next_at new (prev_at old place) ≡ next_at old place
  pub prev_of_next : prev_at new (next_at old place) ≡ prev_at old place
  pub nexts : (x : ℕ) → x ≢ place → x ≢ prev_at old place → next_at new x ≡ next_at old x
  pub prevs : (x : ℕ) → x ≢ place → x ≢ next_at old place → prev_at new x ≡ prev_at old x
  pub lists : (x : ℕ) → x ≢ place → list_at new x ≡ list_at old x

-- A node is none of these.
abbrev pub IsApart : ℕ → List ℕ → Type 0
IsApart x [] = ⊤
IsApart x (y ∷ ys) = (x ≢ y) × IsApart x ys

-- From the place `from` the links lead through these nodes, no two alike, to the place `to`, and back.
abbrev pub IsChain : List Link → ℕ → ℕ → ℕ → List ℕ → ℕ → Type 0
IsChain links nodes list from [] to = (next_at links from ≡ to) × (prev_at links to ≡ from)
IsChain links nodes list from (x ∷ xs) to =
    (next_at links from ≡ x) × (prev_at links x ≡ from) × (list_at links x ≡ Some list) × (x < nodes) × IsApart x xs
    × IsChain links nodes list x xs to

-- The array holds these lists. The place of list number l comes l places after those of the nodes; it begins and ends the ring of
-- the list. A place that belongs to a list stands in its ring.
pub record IsLinked (links : List Link) (nodes : ℕ) (lists : List (List ℕ)) : Type 0 where
  pub few_nodes : nodes ≤ 65536
  pub few_lists : length lists ≤ 65536
  pub size : length links ≡ nodes + length lists
  pub ends : (l : ℕ) → l < length lists → list_at links (nodes + l) ≡ Some l
  pub chains : (l : ℕ) → l < length lists → IsChain links nodes l (nodes + l) (get_or lists l []) (nodes + l)
  pub placed : (x l : ℕ) → list_at links x ≡ Some l → x < nodes → Contains (get_or lists l []) x

-- The nodes that links lead through from a place, at most so many.
abbrev pub nodes_from : List Link → ℕ → ℕ → ℕ → List ℕ
nodes_from links nodes zero x = []
nodes_from links nodes (suc most) x = cond (nat_lt x nodes) (x ∷ nodes_from links nodes most (next_at links x)) []

-- The lists that the array holds.
abbrev pub lists_in : List Link → ℕ → List (List ℕ)
lists_in links nodes =
    map (λ l. nodes_from links nodes nodes (next_at links (nodes + l))) (range_with_len 0 (length links - nodes))

abbrev pub lists_of : List Link → ℕ → NodeLists
lists_of links nodes = record { lists = lists_in links nodes; nodes = nodes }
