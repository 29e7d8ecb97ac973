use Rattle.std.proofs.Common.{subst, ◌∙◌}
use Rattle.frp_tree.specs.Tree.{ProgramTree, program_tree_of}
use Rattle.frp_tree.proofs.OneTreeLaws.{one_program}
use Rattle.efrp_types.specs.Answers.{IsFirst}
use Rattle.checked_source.specs.Readings.{check_faults}
use Rattle.where_tool.proofs.PointFacts.{same-length, met-at}
use Rattle.where_tool.proofs.points.check_point.Goals as goal

pub program_of-requires : goal.program_of-requires
program_of-requires c = (c.requires.0, c.requires.1)

pub first_part-requires-clause-formed : goal.first_part-requires-clause-formed
first_part-requires-clause-formed c = c.spelled_is_well_formed.ensures (program_tree_of c.in_ok-program.program) c.args.text.now c.in_ok-program.ensures

pub first_part-requires-clause-faulty : goal.first_part-requires-clause-faulty
first_part-requires-clause-faulty c =
    subst (λ (q : ProgramTree). IsFirst c.args.fault.now (check_faults q)) (one_program c.args.text.now c.requires.0 (program_tree_of c.in_ok-program.program) c.requires.1 c.in_ok-program.ensures) c.requires.2

pub marks_of-requires : goal.marks_of-requires
marks_of-requires c = (c.requires.0, c.requires.1)

pub byte_of-requires : goal.byte_of-requires
byte_of-requires c = let s = c.requires.1 in (s.tokens, s.cut)

pub returns : goal.returns
returns c =
    let m = c.in_ok-marked.ensures in
    let number = c.fault_token-n.ensures m.cells (c.as_slice.ensures ∙ m.tokens_is) (c.as_slice-2.ensures ∙ m.notes_is) in (
      c.in_ok-part.part,
      c.fault_token-n.result,
      met-at c.args.text.now (program_tree_of c.in_ok-program.program) c.args.fault.now c.in_ok-part.part c.in_ok-marked.marked.tokens c.in_ok-marked.marked.notes c.fault_token-n.result c.in_ok-program.ensures m c.in_ok-part.ensures number,
      c.in_ok-place.ensures,
      c.in_ok-message.ensures,
    )
