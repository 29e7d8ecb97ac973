-- What a program has of each kind, and what all of its events add to its bounds. Functions inside the crate speak of it alone.
use Rattle.std.specs.Prelude.{◌≡◌, ℕ, ◌+◌, ◌*◌, ◌≤◌, List, length, map, sum_by}
use Rattle.frp_tree.specs.declared.syntax.Event.{Event}
use Rattle.frp_tree.specs.Tree.{ProgramTree}
use Rattle.efrp_meaning.specs.Bounds.{body, greatest, scratch_bytes, state_bytes, table_words}
use Rattle.program_bounds.specs.declared.bounds.Totals.{Totals}
use Rattle.program_bounds.specs.declared.sizes.Sizes.{Sizes}

-- The sizes of a program, each within the limits of counts.
pub record AreSizes (p : ProgramTree) (s : Sizes) : Type 0 where
  pub events : s.events ≡ length p.events
  pub few_events : s.events ≤ 11
  pub setups : s.setups ≡ length p.setups
  pub few_setups : s.setups ≤ 32
  pub outputs : s.outputs ≡ length p.outputs
  pub few_outputs : s.outputs ≤ 5
  pub states : s.states ≡ state_bytes p
  pub few_states : s.states ≤ 256
  pub tables : s.tables ≡ table_words p
  pub few_tables : s.tables ≤ 8192

-- The totals over these events.
pub record AreTotalsOf (p : ProgramTree) (copied off : ℕ) (events : List Event) (t : Totals) : Type 0 where
  pub words : t.words ≡ sum_by (λ (e : Event). 128 + body p e.name + copied) events
  pub settle : t.settle ≡ sum_by (λ (e : Event). 3 * body p e.name + 4 * off) events
  pub scratch : t.scratch ≡ greatest (map (λ (e : Event). scratch_bytes p e.name) events)

-- Those over all of a program's, which are within the limits.
pub record AreTotals (p : ProgramTree) (copied off : ℕ) (t : Totals) : Type 0 where
  pub are : AreTotalsOf p copied off p.events t
  pub few_words : t.words ≤ 40000000
  pub few_steps : t.settle ≤ 110000000
  pub few_bytes : t.scratch ≤ 8320
