use Rattle.std.specs.Prelude.{◌≡◌, ◌&&◌, false, Bool, map}
use Rattle.std.proofs.Common.{List, ap, get_or, ◌∙◌}
use Rattle.efrp_types.specs.Numbers.{event_name}
use Rattle.efrp_types.specs.declared.typed.Typed.{Typed}
use Rattle.frp_tree.specs.declared.syntax.Program.{Program}
use Rattle.frp_tree.specs.Tree.{behaviour_of, decl_of, program_tree_of}
use Rattle.efrp_meaning.specs.Decls.{is_plain}
use Rattle.event_needs.specs.Needed.{is_needed, named_on}
use Rattle.event_needs.proofs.NeededLaws.{mark-more}
use Rattle.event_needs.proofs.NumberLaws.{names-differ, tree-at, whole-trees}
use Rattle.event_needs.proofs.needs.marks.Goals as goal

pub loop-i-preserved : goal.loop-i-preserved
loop-i-preserved c =
    let typed = c.args.c.now.typed in
    let p = program_tree_of typed.program in
    let event = event_name p c.args.event in
    let i = c.loop-i.i in
    let d = c.index-decls-i.result in
    let same = c.as_slice-decls.ensures ∙ ap (λ (q : Program). q.decls) (c.program.ensures ∙ ap (λ (t : Typed). t.program) c.typed.ensures) in
    let at = tree-at decl_of c.as_slice-decls.result.now typed.program.decls i d same c.loop-i-test.true c.index-decls-i.is in
    let view = c.as_slice.ensures in
    let found = c.in_ok-named.ensures in
    let names : c.as_slice.result.now ≡ named_on p event = view ∙ found in
    let is =
    c.is_needed.ensures ∙ ap (λ (ns : List Bool). is_plain (behaviour_of d.behaviour) && get_or ns i false) names in
    c.in_ok-push.ensures.ok
    ∙ mark-more p (names-differ c.args.c.now) event i (decl_of d) c.loop-i.marks c.is_needed.result at c.loop-i.invariant is

pub returns : goal.returns
returns c =
    let typed = c.args.c.now.typed in
    let p = program_tree_of typed.program in
    let same = c.as_slice-decls.ensures ∙ ap (λ (q : Program). q.decls) (c.program.ensures ∙ ap (λ (t : Typed). t.program) c.typed.ensures) in
    c.loop-i.invariant
    ∙ ap (map (is_needed p (event_name p c.args.event))) (whole-trees decl_of c.as_slice-decls.result.now typed.program.decls c.loop-i.i same c.loop-i-test.false)
