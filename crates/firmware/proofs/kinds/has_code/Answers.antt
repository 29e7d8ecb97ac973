use Rattle.std.proofs.Common.{map, ap, sym, ◌∙◌}
use Rattle.frp_tree.specs.declared.syntax.Program.{Program}
use Rattle.frp_tree.specs.Tree.{decl_of, program_tree_of}
use Rattle.efrp_types.specs.declared.typed.Typed.{Typed}
use Rattle.firmware.proofs.KindFacts.{program-tells}
use Rattle.firmware.proofs.kinds.has_code.Goals as goal

pub returns : goal.returns
returns c =
    let same = c.as_slice.ensures ∙ ap (λ (q : Program). q.decls) (c.program.ensures ∙ ap (λ (t : Typed). t.program) c.typed.ensures) in
    program-tells (program_tree_of c.args.c.now.typed.program) c.as_slice.result.now c.are_coded.result (ap (map decl_of) (sym same)) c.are_coded.ensures
