use Rattle.std.proofs.Common.{ap, subst, sym, ◌∙◌, MatchOption, Err, option_map, ℕ, ◌<◌, ◌≤◌, length, get_or, refl, arith}
use Rattle.std.proofs.lemmas.List.{length-map}
use Rattle.std.proofs.lemmas.Option.{slice_get_read, slice_get-map}
use Rattle.frp_tree.specs.Tree.{decl_of, program_tree_of}
use Rattle.causality.specs.Answers.{OrdersOn}
use Rattle.causality.specs.Graphs.{IsFirstRound, IsGraph, IsSorted, IsStuck, edges_on, IsRound}
use Rattle.causality.specs.Waits.{edge_count}
use Rattle.causality.proofs.CountFacts.{few-edges}
use Rattle.causality.proofs.OrderFacts.{is-graph, is-order, sorted-is-causal, stuck-has-round, is-first-on}
use Rattle.causality.proofs.checks.order_on.Goals as goal

pub sorted-requires-clause-graph : goal.sorted-requires-clause-graph
sorted-requires-clause-graph c =
    subst IsGraph (sym (c.as_slice.ensures ∙ c.in_ok-graph.ensures)) (is-graph (program_tree_of c.args.t.now.program) c.args.event.now c.args.t.now.checked.names)

pub sorted-requires-clause-few_edges : goal.sorted-requires-clause-few_edges
sorted-requires-clause-few_edges c =
    subst (λ g. edge_count g ≤ 4096) (sym (c.as_slice.ensures ∙ c.in_ok-graph.ensures)) (few-edges (program_tree_of c.args.t.now.program) c.args.event.now c.args.t.now.formed)

pub returns-in-Some : goal.returns-in-Some
returns-in-Some c =
    let p = program_tree_of c.args.t.now.program in
    let found = subst (λ o. MatchOption o (IsStuck c.as_slice.result.now) (IsSorted c.as_slice.result.now)) c.in-Some.is c.in_ok-order.ensures in
    let its = subst (λ g. IsSorted g c.in-Some.order) (c.as_slice.ensures ∙ c.in_ok-graph.ensures) found in
    (is-order p c.args.event.now c.args.t.now.checked.names c.in-Some.order its, sorted-is-causal p c.args.event.now c.args.t.now.checked.names c.in-Some.order its)

pub first_round-requires-clause-graph : goal.first_round-requires-clause-graph
first_round-requires-clause-graph c =
    subst IsGraph (sym (c.as_slice-in-None.ensures ∙ c.in_ok-graph.ensures)) (is-graph (program_tree_of c.args.t.now.program) c.args.event.now c.args.t.now.checked.names)

pub first_round-requires-clause-some : goal.first_round-requires-clause-some
first_round-requires-clause-some c =
    let p = program_tree_of c.args.t.now.program in
    let found = subst (λ o. MatchOption o (IsStuck c.as_slice.result.now) (IsSorted c.as_slice.result.now)) c.in-None.is c.in_ok-order.ensures in
    let its = subst IsStuck (c.as_slice.ensures ∙ c.in_ok-graph.ensures) found in
    subst (λ g. (x : ℕ) × (x < length g) × IsRound g x) (sym (c.as_slice-in-None.ensures ∙ c.in_ok-graph.ensures))
    (stuck-has-round p c.args.event.now c.args.t.now.checked.names its)

pub returns : goal.returns
returns c =
    let p = program_tree_of c.args.t.now.program in
    let raw = c.args.t.now.program.decls in
    let i = c.in_ok-first-in-None.first in
    let d = c.index-as_slice-first.result in
    let first = subst (λ g. IsFirstRound g i) (c.as_slice-in-None.ensures ∙ c.in_ok-graph.ensures) c.in_ok-first-in-None.ensures in
    let a = first.inside in
    let b = length-map p.decls (edges_on p c.args.event.now) in
    let e = length-map raw decl_of in
    let is = c.index-as_slice-first.is ∙ ap (λ ds. get_or ds i d) (c.as_slice-in-None-2.ensures ∙ ap (λ q. q.decls) c.program.ensures) in
    let at = slice_get-map decl_of raw i ∙ ap (option_map decl_of) (slice_get_read raw (length raw) i d refl (omega (arith, a, b, e)) is) in
    subst (λ fault. OrdersOn p c.args.event.now (Err fault)) (sym c.in_ok-cycle-in-None.ensures)
    (refl, is-first-on p c.args.event.now c.args.t.now.checked.names i (decl_of d) first at)
