use Rattle.std.proofs.Common.{get_or}
use Rattle.std.proofs.lemmas.List.{get_or_default}
use Rattle.frp_tree.specs.declared.syntax.Lit.TheVariants.{Plain}
use Rattle.where_tool.specs.Visits.{entry_visits}
use Rattle.where_tool.proofs.WalkFacts.{gone-halts, gone-all, gone-more}
use Rattle.where_tool.proofs.type_walk.entries.Goals as goal

pub returns-in_err-met : goal.returns-in_err-met
returns-in_err-met c =
    λ p. gone-halts (entry_visits p c.args.owner.now c.args.wanted c.args.decl) c.args.entries.now c.loop-i.i (get_or c.args.entries.now c.loop-i.i (Plain 0)) _ c.from_residual.result c.loop-i-test.true
    (get_or_default c.args.entries.now c.loop-i.i (Plain 0) (get_or c.args.entries.now c.loop-i.i (Plain 0)) c.loop-i-test.true) (c.loop-i.invariant p) c.from_residual.ensures.1 (c.in_err-met.ensures _ (c.literal_as-told.ensures p))

pub returns : goal.returns
returns c = λ p. (gone-all (entry_visits p c.args.owner.now c.args.wanted c.args.decl) c.args.entries.now c.loop-i.i c.loop-i.auto.i-end c.loop-i-test.false (c.loop-i.invariant p), tt)

pub loop-i-preserved : goal.loop-i-preserved
loop-i-preserved c =
    λ p. let walked = c.in_ok-met.ensures _ (c.literal_as-told.ensures p) in
    gone-more (entry_visits p c.args.owner.now c.args.wanted c.args.decl) c.args.entries.now c.loop-i.i (get_or c.args.entries.now c.loop-i.i (Plain 0)) c.loop-i-test.true
    (get_or_default c.args.entries.now c.loop-i.i (Plain 0) (get_or c.args.entries.now c.loop-i.i (Plain 0)) c.loop-i-test.true) (c.loop-i.invariant p) walked.0
