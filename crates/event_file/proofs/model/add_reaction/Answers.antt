use Rattle.std.proofs.Common.{List, ◌++◌, codes, map, string_bytes, ap, ◌∙◌}
use Rattle.frp_tree.specs.declared.syntax.Decl.{Decl}
use Rattle.frp_tree.specs.declared.syntax.Output.{Output}
use Rattle.frp_tree.specs.declared.syntax.Program.{Program}
use Rattle.frp_tree.specs.Tree.{decl_of, output_of, program_tree_of}
use Rattle.efrp_meaning.specs.Values.{number_of}
use Rattle.event_file.specs.Written.{named_values, port_lines}
use Rattle.event_file.proofs.ModelFacts.{on_ok, event-named, reaction-written}
use Rattle.event_file.proofs.model.add_reaction.Goals as goal

pub returns : goal.returns
returns c =
    let p = program_tree_of c.args.t.now.program in
    let values = map number_of c.args.values.now in
    let e = c.index-as_slice-from.result in
    let events = c.as_slice-2.ensures ∙ ap (λ (x : Program). x.events) c.program-program.ensures in
    on_ok c.end_with_values.result
    (λ written. reaction-written p c.args.event e.name values c.args.ports.now _ _ _ _ (event-named p c.as_slice-2.result.now c.from.result c.args.event e events c.from.ensures c.requires.event c.index-as_slice-from.is)
    (c.in_ok-add_ports.ensures ∙ ap (λ (os : List Output). string_bytes c.args.text.now ++ port_lines (map output_of os) c.args.ports.now) (c.as_slice.ensures ∙ ap (λ (x : Program). x.outputs) c.program-program.ensures))
    c.in_ok-begin_commit.ensures
    (written ∙ ap (λ (ds : List Decl). string_bytes c.begin_commit.new.text ++ (named_values (map decl_of ds) values ++ codes "\n")) (c.as_slice-3.ensures ∙ ap (λ (x : Program). x.decls) c.program-program.ensures)))
    c.end_with_values.ensures
