use Rattle.std.proofs.Common.{◌≡◌, subst, ◌∙◌, sym, ap, true, set, ◌≤◌}
use Rattle.std.specs.List.{list_all}
use Rattle.causality.proofs.SearchFacts.{no-more}
use Rattle.causality.proofs.SortFacts.{Sorting, sort-goes, sort-ends}
use Rattle.causality.proofs.sorts.sorted.Goals as goal

pub loop-i-preserved : goal.loop-i-preserved
loop-i-preserved c =
    let g = c.args.graph.now in
    let placed = c.loop-i.sort.placed.items in
    let i = c.in-Some.i in
    let goes = subst (Sorting g (set placed i true)) (sym c.in_ok-push.ensures.ok) (sort-goes g placed c.loop-i.order i c.loop-i.invariant.so_far c.in-Some.ensures.answer) in
    record {
      so_far = subst (λ ps. Sorting g ps c.push.new.self) (sym c.in-Some.ensures.marks) goes;
      nodes = subst (λ n. n ≤ 4352) (sym c.in-Some.ensures.nodes) c.loop-i.invariant.nodes;
      waits = c.in-Some.ensures.waits;
    }

pub returns-then-are_all : goal.returns-then-are_all
returns-then-are_all c =
    let placed = c.loop-i.sort.placed.items in
    let same = no-more c.next.result (c.next.new.self.placed.items ≡ placed) (λ i. c.next.new.self.placed.items ≡ set placed i true) c.in_default.not-Some c.next.ensures.marks in
    sort-ends c.args.graph.now placed c.loop-i.order c.loop-i.invariant.so_far
    (ap (list_all (λ b. b)) (sym same ∙ sym c.deref.ensures.value) ∙ sym c.are_all.ensures ∙ c.if-are_all.true)
