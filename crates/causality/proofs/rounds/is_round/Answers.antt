use Rattle.std.proofs.Common.{sym, ap, subst, ◌∙◌, arith, length, false}
use Rattle.std.proofs.lemmas.List.{length-replicate, get_or_read}
use Rattle.causality.specs.Graphs.{Marks}
use Rattle.causality.proofs.GraphFacts.{list-at, read-below}
use Rattle.causality.proofs.MarkFacts.{marked-below}
use Rattle.causality.proofs.SearchFacts.{Searching, search-goes, search-ends, y-marked, no-more, empty}
use Rattle.causality.proofs.rounds.is_round.Goals as goal

pub mark-requires : goal.mark-requires
mark-requires c =
    read-below c.args.graph.now c.args.x c.index-graph-x.result c.as_slice.result.now _ c.requires.graph c.requires.inside c.index-graph-x.is c.as_slice.ensures
    (sym (ap length c.in_ok-marked.ensures ∙ length-replicate _ _))

pub bounds-graph-y : goal.bounds-graph-y
bounds-graph-y c =
    let so_far = subst (λ l. Searching c.args.graph.now c.args.x c.loop-y.marked.items l) c.in-Some.ensures.items c.loop-y.invariant in
    let inside = marked-below c.loop-y.marked.items c.in-Some.y (y-marked c.args.graph.now c.args.x c.in-Some.y c.loop-y.marked.items _ so_far) in
    let len = c.loop-y.invariant.len in
    omega (arith, inside, len)

pub mark-requires-in-Some : goal.mark-requires-in-Some
mark-requires-in-Some c =
    let so_far = subst (λ l. Searching c.args.graph.now c.args.x c.loop-y.marked.items l) c.in-Some.ensures.items c.loop-y.invariant in
    let inside = marked-below c.loop-y.marked.items c.in-Some.y (y-marked c.args.graph.now c.args.x c.in-Some.y c.loop-y.marked.items _ so_far) in
    let len = c.loop-y.invariant.len in
    read-below c.args.graph.now c.in-Some.y c.index-graph-y.result c.as_slice-in-Some.result.now _ c.requires.graph (omega (arith, inside, len)) c.index-graph-y.is c.as_slice-in-Some.ensures (sym len)

pub loop-y-preserved : goal.loop-y-preserved
loop-y-preserved c =
    let so_far = subst (λ l. Searching c.args.graph.now c.args.x c.loop-y.marked.items l) c.in-Some.ensures.items c.loop-y.invariant in
    let inside = marked-below c.loop-y.marked.items c.in-Some.y (y-marked c.args.graph.now c.args.x c.in-Some.y c.loop-y.marked.items _ so_far) in
    let len = c.loop-y.invariant.len in
    let is = list-at c.args.graph.now c.in-Some.y c.index-graph-y.result c.as_slice-in-Some.result.now (omega (arith, inside, len)) c.index-graph-y.is c.as_slice-in-Some.ensures in
    search-goes c.args.graph.now c.args.x c.in-Some.y c.loop-y.marked.items _ so_far _ _
    (subst (λ ns. Marks ns c.loop-y.marked.items c.pop.new.self.items c.mark-in-Some.new.marked.items c.mark-in-Some.new.left.items) is c.in_ok-mark-2.ensures)

pub returns : goal.returns
returns c =
    let none = no-more c.pop.result _ _ c.in_default.not-Some c.pop.ensures.cases in
    let zero = none.0 in
    let len = c.loop-y.left.ok.0 in
    let done = subst (λ l. Searching c.args.graph.now c.args.x c.loop-y.marked.items l) (empty c.loop-y.left.items (omega (arith, zero, len))) c.loop-y.invariant in
    let less = c.requires.inside in
    let its = done.len in
    search-ends c.args.graph.now c.args.x c.loop-y.marked.items done c.index.result.now
    (sym (get_or_read c.loop-y.marked.items c.args.x c.index.result.now (omega (arith, less, its)) c.index.ensures false))
