use Rattle.std.proofs.Common.{ap, subst, ◌+◌, ◌∙◌}
use Rattle.frp_tree.specs.declared.kinds.Kind.TheVariants.{Definitions}
use Rattle.frp_tree.specs.Tree.{ProgramTree, program_tree_of}
use Rattle.frp_tree.proofs.OneTreeLaws.{one_program}
use Rattle.causality.specs.Orders.{IsFirstOn}
use Rattle.where_tool.specs.PartTokens.{head_of}
use Rattle.where_tool.proofs.PointFacts.{defined-at, has-number}
use Rattle.where_tool.proofs.points.cycle_point.Goals as goal

pub program_of-requires : goal.program_of-requires
program_of-requires c = (c.requires.0, c.requires.1)

pub marks_of-requires : goal.marks_of-requires
marks_of-requires c = (c.requires.0, c.requires.1)

pub byte_of-requires : goal.byte_of-requires
byte_of-requires c = let s = c.requires.1 in (s.tokens, s.cut)

pub returns : goal.returns
returns c =
    let m = c.in_ok-marked.ensures in
    let tree = program_tree_of c.in_ok-program.program in
    let same = one_program c.args.text.now c.requires.0 tree c.requires.1 c.in_ok-program.ensures in
    let first = c.requires.2 in
    let found = has-number tree c.args.event.now c.args.name.now (subst (λ (q : ProgramTree). IsFirstOn q c.args.event.now c.args.name.now) same first.name_is_first) in
    let number = c.name_token-n.ensures m.cells (c.as_slice.ensures ∙ m.notes_is) in (
      c.name_token-n.result,
      defined-at c.args.text.now tree c.args.name.now found.0 c.in_ok-marked.marked.tokens c.in_ok-marked.marked.notes c.name_token-n.result c.in_ok-program.ensures m found.1
          (number ∙ ap (λ d. head_of Definitions d m.cells + 1) (c.decl_named-decl.ensures found.0 found.1)),
      c.in_ok-place.ensures,
      c.in_ok-message.ensures,
    )
