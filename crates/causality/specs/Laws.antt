-- What is true of first cycles.
use Rattle.std.specs.Prelude.{◌≡◌, ℕ, List}
use Rattle.frp_tree.specs.Tree.{ProgramTree}
use Rattle.efrp_meaning.specs.Causal.{IsCausal}
use Rattle.causality.specs.Orders.{IsFirstCycle}

-- A first cycle and causality exclude each other, and two first cycles are one.
pub record CycleIsFirst (p : ProgramTree) : Type 0 where
  pub not_causal : (event x : List ℕ) → IsFirstCycle p event x → ¬ IsCausal p
  pub one : (event other x y : List ℕ) → IsFirstCycle p event x → IsFirstCycle p other y → (event ≡ other) × (x ≡ y)
