-- What the runs of a core compute: the state, what the open window leads to, and the bytes that are still to be put.
use Rattle.std.specs.Prelude.{◌≡◌, ℕ, zero, suc, List, [], ◌∷◌, Option, Some, None}
use Rattle.frp_tree.specs.Tree.{ProgramTree}
use Rattle.efrp_meaning.specs.Meaning.{Reaction, react}
use Rattle.pic_machine.specs.declared.steps.PortWrite.{PortWrite}
use Rattle.map_file.specs.declared.maps.Map.{Map}
use Rattle.firmware_promises.specs.Follows.{setup_puts, reaction_puts}
use Rattle.timed_core.specs.Steps.{Label}
use Rattle.timed_core.specs.Steps.Label.{Readies, Opens, Puts, Commits}

-- The state; the state after the commit of the window that stands open; and the port writes still to come, of the boot or
-- of that window.
pub record Values : Type 0 where
  pub state : List ℕ
  pub next : List ℕ
  pub left : List PortWrite

-- At power-on: the program's initial state, and the writes of its setups are to come.
abbrev pub first_values : ProgramTree → List ℕ → Values
first_values p initial = record { state = initial; next = initial; left = setup_puts p }

-- What stands in a list at a place, counted from 0.
abbrev pub item : {A : Type 0} → List A → ℕ → Option A
item [] n = None
item (first ∷ rest) zero = Some first
item (first ∷ rest) (suc n) = item rest n

-- The name of the event with this number, by the map.
abbrev pub name_at : Map → ℕ → List ℕ
name_at m x = elim (item m.events x) [ Some e ↦ e.name | None ↦ [] ]

-- A step's port writes, and the values before and after it, by its label. A window opens with the reaction to its event from
-- the state; its writes are put in order; the commit, with which the last one may be put, makes the next state the state.
abbrev pub Valued : ProgramTree → Map → Label → List PortWrite → Values → Values → Type 0
Valued p m Readies puts v w = (puts ≡ []) × (v.left ≡ []) × (w ≡ v)
Valued p m (Opens e) puts v w =
    (puts ≡ []) × (r : Reaction) × (react p v.state [] (name_at m e) ≡ Some r) × (w ≡ record { state = v.state; next = r.state; left = reaction_puts p r.ports })
Valued p m Puts puts v w = (b : PortWrite) × (puts ≡ b ∷ []) × (v.left ≡ b ∷ w.left) × (w.state ≡ v.state) × (w.next ≡ v.next)
Valued p m (Commits e) puts v w = (puts ≡ v.left) × (w ≡ record { state = v.next; next = v.next; left = [] })
Valued p m _ puts v w = (puts ≡ []) × (w ≡ v)
