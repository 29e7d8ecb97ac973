use Rattle.std.proofs.Common.{◌≡◌, string_bytes, refl, ap, ◌∙◌, subst}
use Rattle.frp_tree.specs.declared.syntax.Program.{Program}
use Rattle.frp_tree.specs.Tree.{program_tree_of}
use Rattle.efrp_types.specs.declared.typed.Typed.{Typed}
use Rattle.frp_tool.specs.Lines.{counts_line}
use Rattle.frp_tool.proofs.checks.check.Goals as goal

pub returns-clause-works : goal.returns-clause-works
returns-clause-works g c =
    let line = subst (λ (p : Program). string_bytes c.in_ok-line.line ≡ counts_line (program_tree_of p)) (c.program.ensures ∙ ap (λ (t : Typed). t.program) c.typed.ensures) c.in_ok-line.ensures in
    (program_tree_of c.in_ok-checked.checked.typed.program, c.in_ok-line.line, refl, c.in_ok-checked.ensures.gives, line)
