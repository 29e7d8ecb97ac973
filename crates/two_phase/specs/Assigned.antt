-- What is assigned of one definition, by its number. Functions inside the crate speak of it alone.
use Rattle.std.specs.Prelude.{ℕ, Bool, false, nat_lt, List, [], ◌∷◌, length, slice_get, Some, None, if◌then◌else◌}
use Rattle.frp_tree.specs.Tree.{DeclTree, ProgramTree}
use Rattle.efrp_meaning.specs.Needs.{reacting_expression}
use Rattle.two_phase.specs.declared.plans.Assign.{Assign}
use Rattle.two_phase.specs.Plans.{is_wanted}

-- The event assigns the definition with this number so.
abbrev pub number_wanted : ProgramTree → List ℕ → Bool → ℕ → Bool
number_wanted p event next n = elim (slice_get p.decls n) [ Some d ↦ is_wanted p event d next | None ↦ false ]

abbrev pub assigned : ProgramTree → List ℕ → Bool → ℕ → List Assign
assigned p event next n = if number_wanted p event next n then record { decl = n; next = next } ∷ [] else []

-- The definition reacts to the event.
abbrev pub reacts : List ℕ → DeclTree → Bool
reacts event d = nat_lt 0 (length (reacting_expression event d.behaviour))
