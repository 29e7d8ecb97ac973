-- Programs in which no definition depends on itself, and one in which two depend on each other.
use Rattle.std.specs.Prelude.{ℕ, List, [], ◌∷◌, codes, refl}
use Rattle.efrp_meaning.specs.Causal.{DependsThrough, IsCausal}
use Rattle.frp_tree.specs.Tree.{Name, ProgramTree}
use Rattle.frp_tree.specs.declared.syntax.Ty.TheVariants.{U8}
use Rattle.efrp_meaning.proofs.Examples.Programs.{circle, cycle, doubling, motor, plain, on_go, go}
use Rattle.efrp_meaning.proofs.CausalLaws.{none-depends-on-itself}

-- x depends on y, and y on x.
pub cycle_depends_on_itself : DependsThrough cycle go (codes "x") (codes "y" ∷ []) (codes "x")
cycle_depends_on_itself = (refl, refl)

pub cycle_is_not_causal : IsCausal cycle → ⊥
cycle_is_not_causal causal = causal.0 (codes "x") (codes "y" ∷ []) cycle_depends_on_itself

-- With `later`, y depends on x, and x on nothing.
pub circle_is_causal : IsCausal circle
circle_is_causal = (none-depends-on-itself circle go (codes "x" ∷ codes "y" ∷ []) refl, tt)

-- A reactive definition may name itself: that is its old state.
pub doubling_is_causal : IsCausal doubling
doubling_is_causal = (none-depends-on-itself doubling go (codes "n" ∷ []) refl, tt)

-- A non-reactive one may not.
abbrev itself : ProgramTree
itself = on_go (plain (codes "x") U8 (Name (codes "x")) ∷ [])

pub itself_is_not_causal : IsCausal itself → ⊥
itself_is_not_causal causal = causal.0 (codes "x") [] refl

-- Where there is no event, on none does a definition depend on itself.
pub no_event_is_causal : IsCausal (record itself { events = [] })
no_event_is_causal = tt

-- The motor: the duty is by phase and speed, and speed by the goal.
abbrev motor_order : List (List ℕ)
motor_order = codes "goal" ∷ codes "speed" ∷ codes "phase" ∷ codes "duty" ∷ codes "runtime" ∷ []

pub motor_is_causal : IsCausal motor
motor_is_causal = (
  none-depends-on-itself motor (codes "Slow") motor_order refl,
  (
    none-depends-on-itself motor (codes "Tick") motor_order refl,
    (
      none-depends-on-itself motor (codes "Up") motor_order refl,
      (none-depends-on-itself motor (codes "Down") motor_order refl, tt),
    ),
  ),
)
