use Rattle.std.proofs.Common.{sym, ◌∙◌}
use Rattle.std.proofs.lemmas.Bool.{false≢true}
use Rattle.where_tool.proofs.VerdictFacts.{unread-halts, told-long, told-another, works-memory}
use Rattle.where_tool.proofs.verdicts.of_unread.Goals as goal

pub returns-then-status-ne-REFUSED : goal.returns-then-status-ne-REFUSED
returns-then-status-ne-REFUSED c = λ before after why is due says. unread-halts _ before after why c.args.status c.args.line c.if-status-ne-REFUSED.true is due says

pub returns-in_err-is_it : goal.returns-in_err-is_it
returns-in_err-is_it c = λ before after why is due says. works-memory _ before after c.from_residual.result c.from_residual.ensures.1

pub returns-in_err-told : goal.returns-in_err-told
returns-in_err-told c = λ before after why is due says. works-memory _ before after c.from_residual-in_err-told.result c.from_residual-in_err-told.ensures.1

pub returns-in_err-told-2 : goal.returns-in_err-told-2
returns-in_err-told-2 c = λ before after why is due says. works-memory _ before after c.from_residual-in_err-told-2.result c.from_residual-in_err-told-2.ensures.1

pub returns : goal.returns
returns c =
    λ before after why is due says. told-another _ before after why c.args.status c.as_str-shown.result.now c.in_ok-told-2.told c.if-status-ne-REFUSED.false is due (c.as_str-shown.ensures.value ∙ says)
    (λ fits. false≢true (sym c.if-is_it.false ∙ c.in_ok-is_it.ensures.1 fits)) c.in_ok-told-2.ensures
