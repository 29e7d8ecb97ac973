-- Two lists of four nodes, changed by the calls' list operations, and the same over an array of links.
use Rattle.std.specs.Prelude.{ℕ, List, [], ◌∷◌, ◌++◌, drop, replicate, slice_get, Some, None, Option}
use Rattle.std.proofs.Common.{◌≡◌, refl}
use Rattle.linked_rows.specs.declared.links.Link.{Link}
use Rattle.linked_rows.specs.Links.{lists_in}
use Rattle.linked_rows.specs.Rows.{NodeLists, row, Stands, with_row}

abbrev empty : NodeLists
empty = record { lists = replicate 2 []; nodes = 4 }

-- 2 and then 3 at the end of list 0
abbrev pushed : NodeLists
pushed = with_row (with_row empty 0 (row empty 0 ++ 2 ∷ [])) 0 (row (with_row empty 0 (row empty 0 ++ 2 ∷ [])) 0 ++ 3 ∷ [])

two_are_pushed : pushed ≡ record { lists = (2 ∷ 3 ∷ []) ∷ [] ∷ []; nodes = 4 }
two_are_pushed = refl

three_is_last : Stands pushed 0 (2 ∷ []) 3 []
three_is_last = refl

-- 1 before 3
abbrev put : NodeLists
put = with_row pushed 0 (2 ∷ 1 ∷ 3 ∷ [])

two_is_first : Stands put 0 [] 2 (1 ∷ 3 ∷ [])
two_is_first = refl

two_is_removed : with_row put 0 ([] ++ 1 ∷ 3 ∷ []) ≡ record { lists = (1 ∷ 3 ∷ []) ∷ [] ∷ []; nodes = 4 }
two_is_removed = refl

list_1_has_no_first : ◌≡◌ {A = Option ℕ} (slice_get (row put 1) 0) None
list_1_has_no_first = refl

popped_from_an_empty_list : with_row put 1 (drop 1 (row put 1)) ≡ put
popped_from_an_empty_list = refl

-- The array of these lists: places 0 to 3 are the nodes', 4 and 5 the lists'.
abbrev array : List Link
array =
    record { prev = 0; next = 0; list = None }
    ∷ record { prev = 4; next = 3; list = Some 0 }
    ∷ record { prev = 2; next = 2; list = None }
    ∷ record { prev = 1; next = 4; list = Some 0 }
    ∷ record { prev = 3; next = 1; list = Some 0 }
    ∷ record { prev = 5; next = 5; list = Some 1 }
    ∷ []

it_holds_them : lists_in array 4 ≡ (1 ∷ 3 ∷ []) ∷ [] ∷ []
it_holds_them = refl
