use Rattle.std.proofs.Common.{not, subst, sym, ◌∙◌}
use Rattle.std.specs.List.{AllByRecursion}
use Rattle.glue_steps.specs.Lines.{LineNamed}
use Rattle.scratch_commit.specs.Windows.{window}
use Rattle.scratch_commit.proofs.DeedLaws.{is_stretch, named_in}
use Rattle.scratch_commit.proofs.NameFacts.{window_named}
use Rattle.scratch_commit.proofs.runs.add_window.Goals as goal

pub add_marked-requires : goal.add_marked-requires
add_marked-requires c =
    let moves = c.args.run.now.moves.now in
    let deeds = window moves (not c.args.over_idle) in
    let its = is_stretch c.args.bank deeds c.new-lines.result c.add_moves.new.lines c.new-lines.ensures.lines c.new-lines.ensures.bank c.in_ok-add_moves.ensures in
    subst (AllByRecursion LineNamed) (sym (c.deref.ensures.value ∙ its.lines)) (named_in c.args.bank deeds (window_named moves (not c.args.over_idle) c.requires))
