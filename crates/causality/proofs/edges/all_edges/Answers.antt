use Rattle.std.proofs.Common.{sym, ap, subst, ◌∙◌, map, ◌++◌, length, ◌+◌, arith, ◌≡◌}
use Rattle.causality.specs.Waits.{AreEdges}
use Rattle.causality.proofs.GraphFacts.{list-at}
use Rattle.causality.proofs.EdgeFacts.{edges-begin, edges-go}
use Rattle.causality.proofs.edges.all_edges.Goals as goal

pub loop-i-init : goal.loop-i-init
loop-i-init c = subst (AreEdges c.args.graph.now 0) (sym c.new-edges.ensures.items) (edges-begin c.args.graph.now)

pub loop-i-preserved : goal.loop-i-preserved
loop-i-preserved c =
    let g = c.args.graph.now in
    let is = list-at g c.loop-i.i c.index-graph-i.result c.as_slice.result.now c.loop-i-test.true c.index-graph-i.is c.as_slice.ensures in
    subst (AreEdges g (c.loop-i.i + 1)) (sym (c.in_ok-put_edges.ensures ∙ ap (λ ns. c.loop-i.edges.items ++ map (λ m. record { user = c.loop-i.i; used = m }) ns) is))
    (edges-go g c.loop-i.i c.loop-i.edges.items c.requires.graph c.loop-i-test.true c.loop-i.invariant)

pub returns : goal.returns
returns c =
    let e : c.loop-i.i ≡ length c.args.graph.now = omega arith in
    subst (λ k. AreEdges c.args.graph.now k c.loop-i.edges.items) e c.loop-i.invariant
