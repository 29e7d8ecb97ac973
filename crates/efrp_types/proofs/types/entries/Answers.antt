use Rattle.std.specs.Prelude.{List}
use Rattle.std.proofs.Common.{get_or}
use Rattle.std.proofs.lemmas.List.{get_or_default}
use Rattle.frp_tree.specs.declared.syntax.Lit.{Lit}
use Rattle.frp_tree.specs.declared.syntax.Lit.TheVariants.{Plain}
use Rattle.efrp_types.specs.TypeFaults.{literal_faults}
use Rattle.efrp_types.proofs.AnswerLaws.{gone-more, gone-told, gone-all}
use Rattle.efrp_types.proofs.types.entries.Goals as goal

pub returns-in_err-literal_as : goal.returns-in_err-literal_as
returns-in_err-literal_as c =
    λ p. gone-told (λ (before : List Lit) (k : Lit). literal_faults p c.args.owner.now c.args.wanted k) c.args.entries.now c.loop-i.i (get_or c.args.entries.now c.loop-i.i (Plain 0)) _ c.from_residual.result c.loop-i-test.true
    (get_or_default c.args.entries.now c.loop-i.i (Plain 0) (get_or c.args.entries.now c.loop-i.i (Plain 0)) c.loop-i-test.true) (c.loop-i.invariant p) c.from_residual.ensures.1 (c.in_err-literal_as.ensures p)

pub returns : goal.returns
returns c = λ p. gone-all (λ (before : List Lit) (k : Lit). literal_faults p c.args.owner.now c.args.wanted k) c.args.entries.now c.loop-i.i c.loop-i.auto.i-end c.loop-i-test.false (c.loop-i.invariant p)

pub loop-i-preserved : goal.loop-i-preserved
loop-i-preserved c =
    λ p. gone-more (λ (before : List Lit) (k : Lit). literal_faults p c.args.owner.now c.args.wanted k) c.args.entries.now c.loop-i.i (get_or c.args.entries.now c.loop-i.i (Plain 0)) c.loop-i-test.true
    (get_or_default c.args.entries.now c.loop-i.i (Plain 0) (get_or c.args.entries.now c.loop-i.i (Plain 0)) c.loop-i-test.true) (c.loop-i.invariant p) (c.in_ok-literal_as.ensures p)
