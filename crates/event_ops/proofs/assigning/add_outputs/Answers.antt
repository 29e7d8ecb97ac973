use Rattle.std.proofs.Common.{◌≡◌, ◌++◌, ◌∷◌, [], List, Some, refl, sym, ap, subst, take, ◌∙◌}
use Rattle.std.proofs.lemmas.Bool.{false≢true}
use Rattle.std.proofs.lemmas.Option.{same_Some}
use Rattle.frp_tree.specs.declared.syntax.Program.{Program}
use Rattle.frp_tree.specs.declared.syntax.Ty.TheVariants.{U8}
use Rattle.frp_tree.specs.Tree.{OutputTree, output_of, program_tree_of}
use Rattle.pic_isa.specs.Names.{port_at}
use Rattle.efrp_meaning.specs.Types.{type_of}
use Rattle.efrp_types.specs.NameFaults.{is_none}
use Rattle.efrp_types.specs.declared.typed.Typed.{Typed}
use Rattle.expr_lower.specs.Places.{is_wide}
use Rattle.event_needs.proofs.CheckedLaws.{checked-typed}
use Rattle.event_needs.proofs.ListLaws.{each-at, take-one}
use Rattle.event_needs.proofs.NumberLaws.{tree-at}
use Rattle.event_ops.specs.declared.results.Put.{Put}
use Rattle.event_ops.specs.Drafts.{Shows}
use Rattle.event_ops.proofs.OutputFacts.{can-add-output, shows-more}
use Rattle.event_ops.proofs.PortLaws.{HasPort, outputs-have-ports, small-port}
use Rattle.event_ops.proofs.assigning.add_outputs.Goals as goal

pub add_lasting-requires-clause-can : goal.add_lasting-requires-clause-can
add_lasting-requires-clause-can c =
    let k = c.args.c.now in
    let p = program_tree_of k.typed.program in
    let i = c.loop-output.output-index in
    let item = c.output-item.result in
    let o = output_of item in
    let same = c.as_slice-outputs.ensures ∙ ap (λ (q : Program). q.outputs) (c.program.ensures ∙ ap (λ (t : Typed). t.program) c.typed.ensures) in
    let there = tree-at output_of c.as_slice-outputs.result.now k.typed.program.outputs i item same c.loop-output-test.true c.output-item.is in
    let typed = each-at (λ (x : OutputTree). type_of p x.expr ≡ Some U8) p.outputs i o (checked-typed k).outputs there in
    can-add-output p c.args.draft.now c.loop-output.draft c.loop-output.draft (take i p.outputs) o c.loop-output.puts c.loop-output.invariant p.outputs i c.requires refl there typed

pub add_lasting-requires-clause-wide : goal.add_lasting-requires-clause-wide
add_lasting-requires-clause-wide c t is =
    let k = c.args.c.now in
    let p = program_tree_of k.typed.program in
    let i = c.loop-output.output-index in
    let item = c.output-item.result in
    let o = output_of item in
    let same = c.as_slice-outputs.ensures ∙ ap (λ (q : Program). q.outputs) (c.program.ensures ∙ ap (λ (t : Typed). t.program) c.typed.ensures) in
    let there = tree-at output_of c.as_slice-outputs.result.now k.typed.program.outputs i item same c.loop-output-test.true c.output-item.is in
    let typed = each-at (λ (x : OutputTree). type_of p x.expr ≡ Some U8) p.outputs i o (checked-typed k).outputs there in
    ap is_wide (same_Some U8 t (sym typed ∙ is))

pub unreachable-requires : goal.unreachable-requires
unreachable-requires c =
    let k = c.args.c.now in
    let p = program_tree_of k.typed.program in
    let i = c.loop-output.output-index in
    let item = c.output-item.result in
    let o = output_of item in
    let same = c.as_slice-outputs.ensures ∙ ap (λ (q : Program). q.outputs) (c.program.ensures ∙ ap (λ (t : Typed). t.program) c.typed.ensures) in
    let there = tree-at output_of c.as_slice-outputs.result.now k.typed.program.outputs i item same c.loop-output-test.true c.output-item.is in
    let typed = each-at (λ (x : OutputTree). type_of p x.expr ≡ Some U8) p.outputs i o (checked-typed k).outputs there in
    let has = each-at HasPort p.outputs i o (outputs-have-ports p k.typed.checked.names) there in
    false≢true (sym has ∙ ap (λ x. is_none (port_at x)) (sym c.as_str.ensures) ∙ ap is_none (sym c.port_named.ensures ∙ c.in-None.is))

pub loop-output-preserved : goal.loop-output-preserved
loop-output-preserved c =
    let k = c.args.c.now in
    let p = program_tree_of k.typed.program in
    let i = c.loop-output.output-index in
    let item = c.output-item.result in
    let o = output_of item in
    let same = c.as_slice-outputs.ensures ∙ ap (λ (q : Program). q.outputs) (c.program.ensures ∙ ap (λ (t : Typed). t.program) c.typed.ensures) in
    let there = tree-at output_of c.as_slice-outputs.result.now k.typed.program.outputs i item same c.loop-output-test.true c.output-item.is in
    let typed = each-at (λ (x : OutputTree). type_of p x.expr ≡ Some U8) p.outputs i o (checked-typed k).outputs there in
    let first = c.args.draft.now in
    let last = c.add_lasting.new.self in
    let port = c.in-Some.port in
    let named = ap port_at (sym c.as_str.ensures) ∙ sym c.port_named.ensures ∙ c.in-Some.is in
    let more = shows-more p first c.loop-output.draft last (take i p.outputs) o c.loop-output.puts c.loop-output.invariant c.in_ok-from.field-0 port c.requires.cells (c.in_ok-from.ensures U8 typed) named (small-port item.port port named) in
    subst (λ (os : List OutputTree). Shows p first last os c.push.new.self) (sym (take-one p.outputs i o there))
    (subst (λ (qs : List Put). Shows p first last (take i p.outputs ++ o ∷ []) qs) (sym c.in_ok-push-in-Some.ensures.ok) more)
