use Rattle.std.proofs.Common.{subst, arith, below_more}
use Rattle.std.specs.Bool.{MatchBool}
use Rattle.causality.specs.Graphs.{IsRound}
use Rattle.causality.proofs.rounds.first_round.Goals as goal

pub loop-x-preserved : goal.loop-x-preserved
loop-x-preserved c =
    let none = subst (λ b. MatchBool b (IsRound c.args.graph.now c.loop-x.x) (¬ IsRound c.args.graph.now c.loop-x.x)) c.if-branch.false c.in_ok-is_round.ensures in
    below_more _ _ c.loop-x.invariant none

pub unreachable-requires : goal.unreachable-requires
unreachable-requires c =
    let x = c.requires.some in
    let less = x.1 in
    c.loop-x.invariant x.0 (omega (arith, less)) x.2
