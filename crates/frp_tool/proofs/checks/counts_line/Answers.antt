use Rattle.std.proofs.lemmas.List.{length-map}
use Rattle.frp_tree.specs.Tree.{decl_of, output_of}
use Rattle.frp_tool.proofs.checks.counts_line.Goals as goal

pub returns : goal.returns
returns c =
    let decls = length-map c.args.program.now.decls decl_of in
    let outputs = length-map c.args.program.now.outputs output_of in
    simp (decls, outputs) (simp (c.len-events.ensures, c.len-definitions.ensures, c.len-outputs.ensures) at c.format.ensures.ok)
