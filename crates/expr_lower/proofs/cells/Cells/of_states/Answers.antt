-- One definition after another has its place, and there are numbers for all.
use Rattle.std.proofs.Common.{◌≤◌, length, map, ap, sym, subst, ◌∙◌, arith, sum_by}
use Rattle.frp_tree.specs.Tree.{decl_of, program_tree_of}
use Rattle.efrp_meaning.specs.Bounds.{bytes_in}
use Rattle.expr_lower.specs.Numbered.{state_places}
use Rattle.expr_lower.proofs.PlaceFacts.{all-states, all-taken, one-more, states-room}
use Rattle.expr_lower.proofs.cells.Cells.of_states.Goals as goal

pub place_of-place-requires : goal.place_of-place-requires
place_of-place-requires c =
    let same = c.as_slice-decls.ensures ∙ ap (λ x. x.decls) (c.program.ensures ∙ ap (λ t. t.program) c.typed.ensures) in
    let few : length (map decl_of c.as_slice-decls.result.now) ≤ 128 = subst (λ ds. length (map decl_of ds) ≤ 128) (sym same) c.args.c.now.typed.formed.written.decls in
    omega (arith, c.loop-d.invariant.next, states-room c.as_slice-decls.result.now c.loop-d.d-index few)

pub loop-d-preserved : goal.loop-d-preserved
loop-d-preserved c =
    let more = one-more c.as_slice-decls.result.now c.loop-d.d-index c.d-item.result c.loop-d.cells.next c.place_of-place.new.next c.loop-d.cells.places.items c.push.new.self.items c.place_of-place.result c.loop-d-test.true c.d-item.is c.loop-d.invariant.places c.loop-d.invariant.next c.place_of-place.ensures.place c.place_of-place.ensures.next c.in_ok-push.ensures.items in
    record { places = more.places; next = more.next }

pub returns : goal.returns
returns c =
    let same = c.as_slice-decls.ensures ∙ ap (λ x. x.decls) (c.program.ensures ∙ ap (λ t. t.program) c.typed.ensures) in
    let all = all-taken c.as_slice-decls.result.now c.loop-d.d-index c.loop-d.auto.d-index-end c.loop-d-test.false ∙ same in
    all-states (program_tree_of c.args.c.now.typed.program) c.loop-d.cells c.args.c.now.typed.formed.written.decls
    (c.loop-d.invariant.places ∙ ap (λ ds. state_places 0 (map decl_of ds)) all)
    (c.loop-d.invariant.next ∙ ap (λ ds. sum_by (λ d. bytes_in d.ty d.behaviour) (map decl_of ds)) all)
