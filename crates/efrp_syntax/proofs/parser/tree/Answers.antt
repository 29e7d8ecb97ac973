use Rattle.efrp_syntax.specs.declared.faults.SyntaxFault.TheVariants.{Unexpected, TooDeep}
use Rattle.efrp_syntax.proofs.ParsedFacts.{told_exits, only_exits, ok_many, ok_told, ok_only, unexpected_many, unexpected_told, too_deep_many, too_deep_told, told_only, stop_at}
use Rattle.efrp_syntax.proofs.parser.tree.Goals as goal

pub returns-in_err-few-in-Ok-clause-told : goal.returns-in_err-few-in-Ok-clause-told
returns-in_err-few-in-Ok-clause-told c = told_exits _ _ _ c.from_residual.ensures.1 (ok_many c.new-begun.ensures c.as_slice.ensures c.in-Ok.ensures c.in_err-few-in-Ok.ensures)

pub returns-in_err-few-in-Ok-clause-only : goal.returns-in_err-few-in-Ok-clause-only
returns-in_err-few-in-Ok-clause-only c = only_exits _ _ _ c.from_residual.ensures.1 (ok_many c.new-begun.ensures c.as_slice.ensures c.in-Ok.ensures c.in_err-few-in-Ok.ensures)

pub returns-in_err-few-in-Err-Unexpected-clause-told : goal.returns-in_err-few-in-Err-Unexpected-clause-told
returns-in_err-few-in-Err-Unexpected-clause-told c = told_exits _ _ _ c.from_residual-in_err-few-in-Err-Unexpected.ensures.1 (unexpected_many c.new-begun.ensures c.as_slice-in-Err-Unexpected.ensures (stop_at c.in-Err-Unexpected.field-0-is c.in-Err-Unexpected.ensures) c.in_err-few-in-Err-Unexpected.ensures)

pub returns-in_err-few-in-Err-Unexpected-clause-only : goal.returns-in_err-few-in-Err-Unexpected-clause-only
returns-in_err-few-in-Err-Unexpected-clause-only c = only_exits _ _ _ c.from_residual-in_err-few-in-Err-Unexpected.ensures.1 (unexpected_many c.new-begun.ensures c.as_slice-in-Err-Unexpected.ensures (stop_at c.in-Err-Unexpected.field-0-is c.in-Err-Unexpected.ensures) c.in_err-few-in-Err-Unexpected.ensures)

pub returns-in_err-few-in-Err-TooDeep-clause-told : goal.returns-in_err-few-in-Err-TooDeep-clause-told
returns-in_err-few-in-Err-TooDeep-clause-told c = told_exits _ _ _ c.from_residual-in_err-few-in-Err-TooDeep.ensures.1 (too_deep_many c.new-begun.ensures c.as_slice-in-Err-TooDeep.ensures (stop_at c.in-Err-TooDeep.field-0-is c.in-Err-TooDeep.ensures) c.in_err-few-in-Err-TooDeep.ensures)

pub returns-in_err-few-in-Err-TooDeep-clause-only : goal.returns-in_err-few-in-Err-TooDeep-clause-only
returns-in_err-few-in-Err-TooDeep-clause-only c = only_exits _ _ _ c.from_residual-in_err-few-in-Err-TooDeep.ensures.1 (too_deep_many c.new-begun.ensures c.as_slice-in-Err-TooDeep.ensures (stop_at c.in-Err-TooDeep.field-0-is c.in-Err-TooDeep.ensures) c.in_err-few-in-Err-TooDeep.ensures)

pub returns-in-Ok-clause-told : goal.returns-in-Ok-clause-told
returns-in-Ok-clause-told c = ok_told c.new-begun.ensures c.as_slice.ensures c.in-Ok.ensures c.in_ok-few-in-Ok.ensures

pub returns-in-Ok-clause-only : goal.returns-in-Ok-clause-only
returns-in-Ok-clause-only c = ok_only c.new-begun.ensures c.in-Ok.ensures

pub returns-in-Err-Unexpected-clause-told : goal.returns-in-Err-Unexpected-clause-told
returns-in-Err-Unexpected-clause-told c = unexpected_told c.new-begun.ensures c.as_slice-in-Err-Unexpected.ensures (stop_at c.in-Err-Unexpected.field-0-is c.in-Err-Unexpected.ensures) c.in_ok-few-in-Err-Unexpected.ensures

pub returns-in-Err-TooDeep-clause-told : goal.returns-in-Err-TooDeep-clause-told
returns-in-Err-TooDeep-clause-told c = too_deep_told c.new-begun.ensures c.as_slice-in-Err-TooDeep.ensures (stop_at c.in-Err-TooDeep.field-0-is c.in-Err-TooDeep.ensures) c.in_ok-few-in-Err-TooDeep.ensures

pub returns-in-Err-Unexpected-clause-only : goal.returns-in-Err-Unexpected-clause-only
returns-in-Err-Unexpected-clause-only c = λ q h. told_only _ q (Unexpected _) (unexpected_told c.new-begun.ensures c.as_slice-in-Err-Unexpected.ensures (stop_at c.in-Err-Unexpected.field-0-is c.in-Err-Unexpected.ensures) c.in_ok-few-in-Err-Unexpected.ensures) h

pub returns-in-Err-TooDeep-clause-only : goal.returns-in-Err-TooDeep-clause-only
returns-in-Err-TooDeep-clause-only c = λ q h. told_only _ q (TooDeep _) (too_deep_told c.new-begun.ensures c.as_slice-in-Err-TooDeep.ensures (stop_at c.in-Err-TooDeep.field-0-is c.in-Err-TooDeep.ensures) c.in_ok-few-in-Err-TooDeep.ensures) h
