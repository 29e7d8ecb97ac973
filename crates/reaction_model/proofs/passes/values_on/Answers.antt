use Rattle.std.proofs.Common.{ap, sym, subst, ◌∙◌, length}
use Rattle.frp_tree.specs.Tree.{program_tree_of}
use Rattle.reaction_model.specs.States.{numbers_of}
use Rattle.reaction_model.specs.Stands.{AreGiven, AreValues}
use Rattle.reaction_model.proofs.RowFacts.{written-back}
use Rattle.reaction_model.proofs.StateLaws.{types-are-a-state}
use Rattle.reaction_model.proofs.passes.values_on.Goals as goal

pub returns : goal.returns
returns c =
    let p = program_tree_of c.args.typed.now.program in
    let s = numbers_of c.args.states.now in
    let j = c.args.samples.now in
    let event = c.args.event.now in
    let values = c.in_ok-values.values in
    let old = c.as_mut_slice.ensures.value in
    let longs = ap length old in
    let back = written-back c.settle.new.values values.items values.len (c.settle.auto.values ∙ longs) values.ok.0 in
    let given = subst (AreGiven p s j) (sym old) c.in_ok-values.ensures.1 in
    subst (AreValues p s j event) (sym back) (c.settle.ensures s j (types-are-a-state p c.args.states.now c.requires.has_types) c.requires.are_samples given)
