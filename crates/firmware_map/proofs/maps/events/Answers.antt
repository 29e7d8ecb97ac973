use Rattle.std.proofs.Common.{◌≡◌, ◌+◌, ◌<◌, List, length, map, take, get_or, ap, sym, subst, ◌∙◌, refl, arith}
use Rattle.std.specs.Prelude.{slice_get}
use Rattle.frp_tree.specs.declared.syntax.Event.{Event}
use Rattle.frp_tree.specs.Priorities.{IsPriority}
use Rattle.frp_tree.specs.Tree.{program_tree_of}
use Rattle.efrp_types.proofs.GoodLaws.{no-fault-is-good}
use Rattle.event_needs.proofs.ListLaws.{each-at}
use Rattle.map_file.specs.declared.maps.MapEvent.{MapEvent}
use Rattle.glue_parts.specs.Marks.{mark, Committing, Opening}
use Rattle.firmware_promises.specs.Firmware.{event_of}
use Rattle.firmware_map.proofs.EventFacts.{events-before, events-more, stands-at}
use Rattle.firmware_map.proofs.RowFacts.{push-at}
use Rattle.firmware_map.proofs.maps.events.Goals as goal

pub overflow_cast-event : goal.overflow_cast-event
overflow_cast-event c =
    let typed = c.typed-typed.result.now in
    let all = c.as_slice-declared.ensures ∙ ap (λ x. x.events) c.program.ensures in
    let at = stands-at c.as_slice-declared.result.now c.loop-n.n c.index-declared-n.result c.loop-n-test.true c.index-declared-n.is in
    let priorities = (no-fault-is-good (program_tree_of typed.program) typed.checked.names).priorities in
    let its = each-at (λ (e : Event). IsPriority e.priority) typed.program.events c.loop-n.n c.index-declared-n.result priorities (ap (λ (es : List Event). slice_get es c.loop-n.n) (sym all) ∙ at) in
    let small = its.1 in
    omega (arith, small)

pub loop-n-preserved : goal.loop-n-preserved
loop-n-preserved c =
    let p = program_tree_of c.typed-typed.result.now.program in
    let marks = c.args.marks.now in
    let n = c.loop-n.n in
    let e = c.index-declared-n.result in
    let events = c.loop-n.events in
    let all = c.as_slice-declared.ensures ∙ ap (λ x. x.events) c.program.ensures in
    let at = ap (λ (es : List Event). slice_get es n) (sym all) ∙ stands-at c.as_slice-declared.result.now n e c.loop-n-test.true c.index-declared-n.is in
    let inside = subst (λ (es : List Event). n < length es) all c.loop-n-test.true in
    let made : MapEvent = record { name = c.in_ok-copy.field-0; source = c.event_source.result; priority = e.priority; «open» = c.address.result; commit = c.address-in-loop-n.result } in
    let named = c.loop-n.invariant.named ∙ ap (take n) all in
    let before = events-before p events n e made named at inside in
    let pushed = c.in_ok-push.ensures.ok in
    record {
      named = ap (map event_of) pushed ∙ events-more p events n e made named at inside c.in_ok-copy.ensures c.event_source.ensures refl ∙ ap (take (n + 1)) (sym all);
      opens = λ k x there.
          push-at (λ k (x : MapEvent). x.«open» ≡ get_or marks (mark (Opening k)) 0) events made c.loop-n.invariant.opens
          (c.address.ensures ∙ ap (λ m. get_or marks m 0) (c.opening.ensures ∙ ap (λ k. mark (Opening k)) (sym before))) k x (ap (λ es. slice_get es k) (sym pushed) ∙ there);
      commits = λ k x there.
          push-at (λ k (x : MapEvent). x.commit ≡ get_or marks (mark (Committing k)) 0) events made c.loop-n.invariant.commits
          (c.address-in-loop-n.ensures ∙ ap (λ m. get_or marks m 0) (c.committing.ensures ∙ ap (λ k. mark (Committing k)) (sym before))) k x (ap (λ es. slice_get es k) (sym pushed) ∙ there);
    }
