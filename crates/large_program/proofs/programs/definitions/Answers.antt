use Rattle.std.proofs.Common.{sym, ap, ◌∙◌, map}
use Rattle.frp_tree.specs.Tree.{decl_of}
use Rattle.large_program.specs.Draws.{after_draws}
use Rattle.large_program.specs.LargePrograms.{definition}
use Rattle.large_program.proofs.DrawLaws.{none_yet}
use Rattle.large_program.proofs.ProgramFacts.{definitions_more, eight_more}
use Rattle.large_program.proofs.programs.definitions.Goals as goal

pub loop-i-init : goal.loop-i-init
loop-i-init c = (ap (map decl_of) c.new-decls.ensures, sym (none_yet c.args.n))

pub loop-i-preserved : goal.loop-i-preserved
loop-i-preserved c =
    let made = c.in_ok-definition.ensures in
    let drawn = c.loop-i.invariant.1 in (
      ap (map decl_of) c.in_ok-push.ensures.ok
          ∙ definitions_more c.args.n c.loop-i.i c.loop-i.decls c.in_ok-definition.field-0 c.loop-i.invariant.0 (made.0 ∙ ap (definition c.loop-i.i) drawn),
      made.1 ∙ ap (after_draws 8) drawn ∙ eight_more c.args.n c.loop-i.i,
    )
