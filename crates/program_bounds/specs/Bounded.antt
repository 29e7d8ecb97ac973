-- Numbers that are the bounds of a program, and of an event.
use Rattle.std.specs.Prelude.{◌≡◌, ℕ, List, map}
use Rattle.frp_tree.specs.declared.syntax.Event.{Event}
use Rattle.frp_tree.specs.Tree.{ProgramTree}
use Rattle.efrp_meaning.specs.Bounds.{body, boot, greatest, off, ram_bound, scratch_bytes, settle_bound, state_bytes, words_bound}
use Rattle.program_bounds.specs.declared.bounds.Bounds.{Bounds}
use Rattle.program_bounds.specs.declared.costs.Costs.{Costs}

-- They are what the event costs: the weight of all that it needs, and its bytes of scratch.
pub record AreCosts (p : ProgramTree) (event : List ℕ) (costs : Costs) : Type 0 where
  pub body : costs.body ≡ body p event
  pub scratch : costs.scratch ≡ scratch_bytes p event

-- They are the bounds of the program. The scratch is the most that an event takes.
pub record AreBounds (p : ProgramTree) (bounds : Bounds) : Type 0 where
  pub off : bounds.off ≡ off p
  pub boot : bounds.boot ≡ boot p
  pub words : bounds.words ≡ words_bound p
  pub ram : bounds.ram ≡ ram_bound p
  pub settle : bounds.settle ≡ settle_bound p
  pub states : bounds.states ≡ state_bytes p
  pub scratch : bounds.scratch ≡ greatest (map (λ (e : Event). scratch_bytes p e.name) p.events)
