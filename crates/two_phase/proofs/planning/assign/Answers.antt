use Rattle.std.specs.Prelude.{◌<◌, ◌++◌, false}
use Rattle.std.proofs.Common.{List, arith, sym, ap, get_or, length, ◌∙◌}
use Rattle.std.proofs.lemmas.List.{append-nil}
use Rattle.frp_tree.specs.declared.syntax.Program.{Program}
use Rattle.frp_tree.specs.Tree.{decl_of, program_tree_of}
use Rattle.event_needs.proofs.NumberLaws.{tree-at}
use Rattle.two_phase.specs.declared.plans.Assign.{Assign}
use Rattle.two_phase.proofs.AddFacts.{assigned-is, wanted-of}
use Rattle.two_phase.proofs.planning.assign.Goals as goal

pub returns-else-is_wanted : goal.returns-else-is_wanted
returns-else-is_wanted c =
    let typed = c.args.typed.now in
    let p = program_tree_of typed.program in
    let event = c.args.event.now in
    let n = c.args.decl in
    let same = c.as_slice.ensures ∙ ap (λ (q : Program). q.decls) c.program.ensures in
    let lengths = ap length same in
    let less = c.requires.inside in
    let inside : n < length c.as_slice.result.now = omega (arith, less, lengths) in
    let at = tree-at decl_of c.as_slice.result.now typed.program.decls n c.index-as_slice-decl.result same inside c.index-as_slice-decl.is in
    let wanted = wanted-of p event c.args.next n (decl_of c.index-as_slice-decl.result) (get_or c.args.needed.now n false) c.is_wanted.result at (ap (λ ns. get_or ns n false) c.requires.needed) c.is_wanted.ensures in
    sym (ap (λ (es : List Assign). c.args.work.now ++ es) (assigned-is p event c.args.next n false (wanted ∙ c.if-is_wanted.false)) ∙ append-nil c.args.work.now)
