-- Which values stand at the numbers of definitions.
use Rattle.std.specs.Prelude.{◌≡◌, ℕ, ◌<◌, true, List, slice_get, Option, Some, None}
use Rattle.frp_tree.specs.declared.syntax.Ty.{Ty}
use Rattle.frp_tree.specs.declared.syntax.Ty.TheVariants.{U8}
use Rattle.frp_tree.specs.declared.syntax.Value.{Value}
use Rattle.frp_tree.specs.Tree.{DeclTree, ProgramTree}
use Rattle.efrp_meaning.specs.Decls.{is_input, is_reactive}
use Rattle.efrp_meaning.specs.Types.{value_type}
use Rattle.efrp_meaning.specs.Values.{modulus}
use Rattle.efrp_meaning.specs.Meaning.{State, Samples, old_state, sample_of, value_on, depth}
use Rattle.reaction_model.specs.Values.{value_in, value_or_nothing}

-- Where there is a type, there is a number of it, and this is its value.
abbrev pub IsValue : Option Ty → Option ℕ → Value → Type 0
IsValue None o v = Unit {0}
IsValue (Some t) None v = ⊥
IsValue (Some t) (Some n) v = (n < modulus t) × (v ≡ value_in t n)

-- At the number of each reactive definition its old state stands, and at that of each input what it reads.
pub record AreGiven (p : ProgramTree) (s : State) (j : Samples) (values : List Value) : Type 0 where
  pub states : (n : ℕ) (d : DeclTree) → slice_get p.decls n ≡ Some d → is_reactive d.behaviour ≡ true → IsValue (Some d.ty) (old_state p s d.name) (value_or_nothing (slice_get values n))
  pub samples : (n : ℕ) (d : DeclTree) → slice_get p.decls n ≡ Some d → is_input d.behaviour ≡ true → IsValue (Some U8) (sample_of p j d.name) (value_or_nothing (slice_get values n))

-- At the number of each definition that has a value on an event this value stands.
abbrev pub AreValues : ProgramTree → State → Samples → List ℕ → List Value → Type 0
AreValues p s j event values =
    (n : ℕ) (d : DeclTree) → slice_get p.decls n ≡ Some d → IsValue (value_type d) (value_on p s j event d.name (depth p)) (value_or_nothing (slice_get values n))
