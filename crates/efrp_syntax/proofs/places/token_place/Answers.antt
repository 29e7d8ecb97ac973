use Rattle.std.proofs.Common.{arith}
use Rattle.std.proofs.lemmas.Result.{err_from_is_err_and}
use Rattle.efrp_syntax.proofs.CuttingFacts.{cut_fault, prefix_shorter, fault_none}
use Rattle.efrp_syntax.proofs.PlaceFacts.{passed_skip, passed_token, passed_place, passed_end}
use Rattle.efrp_syntax.proofs.places.token_place.Goals as goal

pub loop-rest-preserved-in-Some : goal.loop-rest-preserved-in-Some
loop-rest-preserved-in-Some c = passed_skip c.args.text.now c.loop-rest.rest.now c.in-Some.more.now c.loop-rest.after_number c.loop-rest.left c.args.n c.loop-rest.invariant c.in-Some.ensures

pub returns-in_err-next-clause-none : goal.returns-in_err-next-clause-none
returns-in_err-next-clause-none c = λ others has.
    let p = err_from_is_err_and c.from_residual.result c.from_residual.ensures.1 in
    let h = c.loop-rest.invariant in
    rw (p.1, p.2) (fault_none c.args.text.now c.in_err-next.field-0.0 others
    (cut_fault c.args.text.now c.loop-rest.rest.now _ c.loop-rest.after_number h.found c.in_err-next.field-0.0 c.if-text-gt-LONGEST_SOURCE.false h.cut (omega (arith, h.cut.shorter)) c.loop-rest-test.ensures c.in_default.ensures c.in_err-next.ensures) has)

pub returns-then-left-eq0-clause-place : goal.returns-then-left-eq0-clause-place
returns-then-left-eq0-clause-place c =
    let h = c.loop-rest.invariant in
    let prefix = c.in_ok-next.ensures in
    passed_place c.args.text.now c.loop-rest.rest.now c.in_ok-next.more.now c.loop-rest.after_number c.loop-rest.left c.args.n _ c.in_ok-next.next h prefix.0 c.if-left-eq0.true (omega (arith, h.cut.shorter))

pub loop-rest-preserved-else-left-eq0 : goal.loop-rest-preserved-else-left-eq0
loop-rest-preserved-else-left-eq0 c =
    let prefix = c.in_ok-next.ensures in
    rw c.is_number-after_number.ensures (passed_token c.args.text.now c.loop-rest.rest.now c.in_ok-next.more.now c.loop-rest.after_number c.loop-rest.left c.args.n c.in_ok-next.next c.loop-rest.invariant prefix.0 prefix.1 c.if-left-eq0.false)

pub loop-rest-smaller : goal.loop-rest-smaller
loop-rest-smaller c = let prefix = c.in_ok-next.ensures in prefix_shorter c.loop-rest.after_number c.loop-rest.rest.now c.in_ok-next.more.now c.in_ok-next.next prefix.0

pub loop-rest-preserved : goal.loop-rest-preserved
loop-rest-preserved c =
    let prefix = c.in_ok-next.ensures in
    rw c.is_number-after_number.ensures (passed_token c.args.text.now c.loop-rest.rest.now c.in_ok-next.more.now c.loop-rest.after_number c.loop-rest.left c.args.n c.in_ok-next.next c.loop-rest.invariant prefix.0 prefix.1 c.if-left-eq0.false)

pub returns-clause-place : goal.returns-clause-place
returns-clause-place c = passed_end c.args.text.now c.loop-rest.rest.now c.loop-rest.after_number c.loop-rest.left c.args.n c.if-text-gt-LONGEST_SOURCE.false c.loop-rest.invariant c.loop-rest-test.ensures
