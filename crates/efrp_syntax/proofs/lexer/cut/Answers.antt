use Rattle.std.proofs.Common.{arith}
use Rattle.std.proofs.lemmas.Result.{err_from_is_err_and}
use Rattle.efrp_syntax.proofs.CuttingFacts.{cut_skip, cut_prefix, cut_fault, cut_end, prefix_shorter}
use Rattle.efrp_syntax.proofs.lexer.cut.Goals as goal

pub loop-rest-preserved-in-Some : goal.loop-rest-preserved-in-Some
loop-rest-preserved-in-Some c =
    cut_skip c.args.text.now c.loop-rest.rest.now c.in-Some.more.now c.loop-rest.after_number c.loop-rest.found c.loop-rest.invariant c.in-Some.ensures

pub returns-in_err-next : goal.returns-in_err-next
returns-in_err-next c =
    let p = err_from_is_err_and c.from_residual.result c.from_residual.ensures.1 in
    rw (p.1, p.2) (cut_fault c.args.text.now c.loop-rest.rest.now _ c.loop-rest.after_number c.loop-rest.found c.in_err-next.field-0.0 c.requires c.loop-rest.invariant (omega (arith, c.loop-rest.invariant.shorter)) c.loop-rest-test.ensures c.in_default.ensures c.in_err-next.ensures)

pub loop-rest-smaller : goal.loop-rest-smaller
loop-rest-smaller c =
    let prefix = c.in_ok-next.ensures in
    prefix_shorter c.loop-rest.after_number c.loop-rest.rest.now c.in_ok-next.more.now c.in_ok-next.next prefix.0

pub loop-rest-preserved : goal.loop-rest-preserved
loop-rest-preserved c =
    let prefix = c.in_ok-next.ensures in
    rw (c.in_ok-push.ensures.ok, c.is_number-after_number.ensures) (cut_prefix c.args.text.now c.loop-rest.rest.now c.in_ok-next.more.now c.loop-rest.after_number c.loop-rest.found c.in_ok-next.next c.loop-rest.invariant prefix.0 prefix.1)

pub returns : goal.returns
returns c = cut_end c.args.text.now c.loop-rest.rest.now c.loop-rest.after_number c.loop-rest.found c.requires c.loop-rest.invariant c.loop-rest-test.ensures
