use Rattle.std.specs.Prelude.{◌≡◌, ◌≤◌, ◌++◌, map}
use Rattle.std.proofs.Common.{drop}
use Rattle.frp_tree.specs.Tree.{decl_of}
use Rattle.reaction_model.proofs.GivenFacts.{laid}
use Rattle.reaction_model.proofs.passes.given.Given as goal

abbrev pub invariant-loop-d : goal.invariant-loop-d
invariant-loop-d l = record {
  few_states : l.state ≤ l.d-index;
  few_inputs : l.input ≤ l.d-index;
  laid_out : l.values.items ++ laid (map decl_of (drop l.d-index l.d-items)) (drop l.state l.states) (drop l.input l.samples) ≡ laid (map decl_of l.d-items) l.states l.samples;
}
