use Rattle.std.specs.Prelude.{[], ◌++◌}
use Rattle.std.proofs.Common.{sym, ap, get_or, ◌∙◌}
use Rattle.std.proofs.lemmas.List.{get_or_default}
use Rattle.frp_tree.specs.Tree.{program_tree_of}
use Rattle.efrp_meaning.specs.Meaning.{react}
use Rattle.efrp_types.specs.Numbers.{event_name}
use Rattle.reaction_model.specs.States.{numbers_of}
use Rattle.preempt_core.proofs.replays.commit.Goals as goal

pub returns : goal.returns
returns c =
    let p = program_tree_of c.args.c.now.typed.program in
    let samples = c.args.samples.now in
    let place = ap (λ k. get_or samples k c.index-samples-len.result) c.len.ensures in
    let its = c.as_slice-its_samples.ensures ∙ c.index-samples-len.is ∙ place ∙ get_or_default samples _ c.index-samples-len.result [] c.requires.has_samples in
    record {
      ports = c.in_ok-reaction.reaction.ports;
      reacts = ap (λ j. react p (numbers_of c.args.played.now.state.values) j (event_name p c.args.event)) (sym its) ∙ c.in_ok-reaction.ensures.0;
      commits = c.in_ok-push.ensures.ok;
      puts = c.in_ok-extend_from_slice.ensures.ok ∙ ap (λ ports. c.args.played.now.ports ++ ports) c.as_slice.ensures;
      types = c.in_ok-reaction.ensures.1;
    }
