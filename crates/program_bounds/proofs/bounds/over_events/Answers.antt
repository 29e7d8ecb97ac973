use Rattle.std.proofs.Common.{◌<◌, length, arith, ap, ◌∙◌}
use Rattle.frp_tree.specs.declared.syntax.Program.{Program}
use Rattle.frp_tree.specs.Tree.{program_tree_of}
use Rattle.efrp_types.specs.declared.typed.Typed.{Typed}
use Rattle.program_bounds.proofs.TotalFacts.{steps-fit, totals-all, totals-more, words-fit}
use Rattle.program_bounds.proofs.bounds.over_events.Goals as goal

pub overflow_add-all : goal.overflow_add-all
overflow_add-all c =
    let k = c.args.c.now in
    let p = program_tree_of k.typed.program in
    let long = c.len-event-end.ensures ∙ ap (λ (q : Program). length q.events) (c.program.ensures ∙ ap (λ (t : Typed). t.program) c.typed.ensures) in
    let less = c.loop-event-test.true in
    let inside : c.loop-event.event < length p.events = omega (arith, less, long) in
    let fits = words-fit p k.typed.formed c.args.copied c.args.off c.requires.copied c.requires.off c.loop-event.event inside c.loop-event.all c.loop-event.invariant c.in_ok-own.own c.in_ok-own.ensures in
    omega (arith, fits)

pub overflow_add-all-in-loop-event : goal.overflow_add-all-in-loop-event
overflow_add-all-in-loop-event c =
    let k = c.args.c.now in
    let p = program_tree_of k.typed.program in
    let long = c.len-event-end.ensures ∙ ap (λ (q : Program). length q.events) (c.program.ensures ∙ ap (λ (t : Typed). t.program) c.typed.ensures) in
    let less = c.loop-event-test.true in
    let inside : c.loop-event.event < length p.events = omega (arith, less, long) in
    let fits = words-fit p k.typed.formed c.args.copied c.args.off c.requires.copied c.requires.off c.loop-event.event inside c.loop-event.all c.loop-event.invariant c.in_ok-own.own c.in_ok-own.ensures in
    omega (arith, fits)

pub overflow_add-all-in-loop-event-2 : goal.overflow_add-all-in-loop-event-2
overflow_add-all-in-loop-event-2 c =
    let k = c.args.c.now in
    let p = program_tree_of k.typed.program in
    let long = c.len-event-end.ensures ∙ ap (λ (q : Program). length q.events) (c.program.ensures ∙ ap (λ (t : Typed). t.program) c.typed.ensures) in
    let less = c.loop-event-test.true in
    let inside : c.loop-event.event < length p.events = omega (arith, less, long) in
    let fits = words-fit p k.typed.formed c.args.copied c.args.off c.requires.copied c.requires.off c.loop-event.event inside c.loop-event.all c.loop-event.invariant c.in_ok-own.own c.in_ok-own.ensures in
    omega (arith, fits)

pub overflow_mul-all : goal.overflow_mul-all
overflow_mul-all c =
    let k = c.args.c.now in
    let p = program_tree_of k.typed.program in
    let long = c.len-event-end.ensures ∙ ap (λ (q : Program). length q.events) (c.program.ensures ∙ ap (λ (t : Typed). t.program) c.typed.ensures) in
    let less = c.loop-event-test.true in
    let inside : c.loop-event.event < length p.events = omega (arith, less, long) in
    let fits = steps-fit p k.typed.formed c.args.copied c.args.off c.requires.copied c.requires.off c.loop-event.event inside c.loop-event.all c.loop-event.invariant c.in_ok-own.own c.in_ok-own.ensures in
    omega (arith, fits)

pub overflow_add-all-in-loop-event-3 : goal.overflow_add-all-in-loop-event-3
overflow_add-all-in-loop-event-3 c =
    let k = c.args.c.now in
    let p = program_tree_of k.typed.program in
    let long = c.len-event-end.ensures ∙ ap (λ (q : Program). length q.events) (c.program.ensures ∙ ap (λ (t : Typed). t.program) c.typed.ensures) in
    let less = c.loop-event-test.true in
    let inside : c.loop-event.event < length p.events = omega (arith, less, long) in
    let fits = steps-fit p k.typed.formed c.args.copied c.args.off c.requires.copied c.requires.off c.loop-event.event inside c.loop-event.all c.loop-event.invariant c.in_ok-own.own c.in_ok-own.ensures in
    omega (arith, fits)

pub overflow_add-all-in-loop-event-4 : goal.overflow_add-all-in-loop-event-4
overflow_add-all-in-loop-event-4 c =
    let k = c.args.c.now in
    let p = program_tree_of k.typed.program in
    let long = c.len-event-end.ensures ∙ ap (λ (q : Program). length q.events) (c.program.ensures ∙ ap (λ (t : Typed). t.program) c.typed.ensures) in
    let less = c.loop-event-test.true in
    let inside : c.loop-event.event < length p.events = omega (arith, less, long) in
    let fits = steps-fit p k.typed.formed c.args.copied c.args.off c.requires.copied c.requires.off c.loop-event.event inside c.loop-event.all c.loop-event.invariant c.in_ok-own.own c.in_ok-own.ensures in
    omega (arith, fits)

pub loop-event-preserved : goal.loop-event-preserved
loop-event-preserved c =
    let k = c.args.c.now in
    let p = program_tree_of k.typed.program in
    let long = c.len-event-end.ensures ∙ ap (λ (q : Program). length q.events) (c.program.ensures ∙ ap (λ (t : Typed). t.program) c.typed.ensures) in
    let less = c.loop-event-test.true in
    let inside : c.loop-event.event < length p.events = omega (arith, less, long) in
    totals-more p k.typed.formed c.args.copied c.args.off c.requires.copied c.requires.off c.loop-event.event inside c.loop-event.all c.loop-event.invariant c.in_ok-own.own c.in_ok-own.ensures c.max.result c.max.ensures

pub returns : goal.returns
returns c =
    let k = c.args.c.now in
    let p = program_tree_of k.typed.program in
    let long = c.len-event-end.ensures ∙ ap (λ (q : Program). length q.events) (c.program.ensures ∙ ap (λ (t : Typed). t.program) c.typed.ensures) in
    let more = c.loop-event-test.false in
    totals-all p k.typed.formed c.args.copied c.args.off c.requires.copied c.requires.off c.loop-event.event c.loop-event.all (omega (arith, more, long)) c.loop-event.invariant
