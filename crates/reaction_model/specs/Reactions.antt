-- Reactions in memory.
use Rattle.std.specs.Prelude.{◌≡◌, ℕ, List, Some}
use Rattle.frp_tree.specs.declared.syntax.Value.{Value}
use Rattle.frp_tree.specs.Tree.{ProgramTree}
use Rattle.efrp_meaning.specs.Meaning.{State, Samples, react}
use Rattle.reaction_model.specs.declared.reactions.Reaction.{Reaction}
use Rattle.reaction_model.specs.States.{HasTypes, numbers_of}
use Rattle.reaction_model.specs.Stands.{AreValues}

-- The program reacts so, and the new state has its types.
abbrev pub IsReaction : ProgramTree → State → Samples → List ℕ → Reaction → Type 0
IsReaction p s j event r = (react p s j event ≡ Some (record { state = numbers_of r.state.values; ports = r.ports })) × HasTypes p r.state.values

-- It does so from each state with all samples of which these are the values on the event.
abbrev pub IsReactionBy : ProgramTree → List ℕ → List Value → Reaction → Type 0
IsReactionBy p event values r = (s : State) (j : Samples) → AreValues p s j event values → IsReaction p s j event r
