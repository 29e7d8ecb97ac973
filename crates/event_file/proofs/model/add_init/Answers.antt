use Rattle.std.proofs.Common.{List, ◌++◌, codes, map, string_bytes, ap, ◌∙◌}
use Rattle.frp_tree.specs.declared.syntax.Decl.{Decl}
use Rattle.frp_tree.specs.declared.syntax.Program.{Program}
use Rattle.frp_tree.specs.Tree.{decl_of, program_tree_of}
use Rattle.efrp_meaning.specs.Values.{number_of}
use Rattle.event_file.specs.Written.{named_values}
use Rattle.event_file.proofs.ModelFacts.{on_ok, init-written}
use Rattle.event_file.proofs.model.add_init.Goals as goal

pub returns : goal.returns
returns c =
    let values = map number_of c.args.values.now in
    on_ok c.end_with_values.result
    (λ written. init-written (program_tree_of c.args.t.now.program) values _ _ _ c.in_ok-push_str.ensures.bytes
    (written ∙ ap (λ (ds : List Decl). string_bytes c.push_str.new.self ++ (named_values (map decl_of ds) values ++ codes "\n")) (c.as_slice.ensures ∙ ap (λ (p : Program). p.decls) c.program.ensures)))
    c.end_with_values.ensures
