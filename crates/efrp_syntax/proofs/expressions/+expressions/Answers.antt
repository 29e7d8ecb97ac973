use Rattle.std.proofs.Common.{add-one, codes, length, ap, arith}
use Rattle.frp_tree.specs.declared.levels.Level.TheVariants as level
use Rattle.frp_tree.specs.declared.marks.TheConstants as mark
use Rattle.frp_tree.specs.declared.tokens.Token.TheVariants.{Word, Mark}
use Rattle.frp_tree.specs.Names.{type_name}
use Rattle.frp_tree.specs.Levels.{mark_of_sign}
use Rattle.frp_tree.specs.Tree.{tree_of, Name, Unary, If, Convert, Look}
use Rattle.efrp_syntax.specs.Expressions.{Stops}
use Rattle.efrp_syntax.proofs.PhraseLaws.{found_shorter, answers_stop, answers_like, answers_next, out_of_memory, fails_first, fails_next, fails_like, found_next, found_like, found_done}
use Rattle.efrp_syntax.proofs.RowFacts.{row_first, row_starts, row_goes, row_fails, row_ends}
use Rattle.efrp_syntax.proofs.ShiftFacts.{shifts_first, shifts_start, shifts_go, shifts_fail, shifts_end}
use Rattle.efrp_syntax.proofs.ComparisonFacts.{comparison_first, comparison_none, comparison_one, comparison_fails}
use Rattle.efrp_syntax.proofs.OperandFacts.{at_head, named_like, bracketed_like, signed_like, converted_like, indexed_like, plain_like, choice_like, looser_like, no_operand}
use Rattle.efrp_syntax.proofs.ExitFacts.{closed_first, closed_last, closed_found, parenthesis_stops, bracket_stops, done_fits, bracketed_fits, indexed_fits, signed_fits, converted_fits, inside_fits, if_fits, condition_fits, then_fits, yes_fits, else_fits, no_fits, name_fits, found_at, fails_at, found_in, fails_in}
use Rattle.efrp_syntax.proofs.expressions.+expressions.Goals as goal

-- An expression in brackets.

pub bracketed-returns-in_err-inside-clause-answer : goal.bracketed-returns-in_err-inside-clause-answer
bracketed-returns-in_err-inside-clause-answer t c =
    answers_stop _ _ _ _ _ _ _ _ c.from_residual.ensures.1 (fails_like (bracketed_like c.args.nesting c.args.tokens.now c.requires) (fails_first (bracketed_fits c.args.nesting) (at_head _ (Mark mark.OPENING_PARENTHESIS) c.requires c.in_err-inside.ensures.answer)))

pub bracketed-returns-in_err-inner-clause-answer : goal.bracketed-returns-in_err-inner-clause-answer
bracketed-returns-in_err-inner-clause-answer t c =
    let d = c.args.nesting in
    answers_stop _ _ _ _ _ _ _ _ c.from_residual-in_err-inner.ensures.1
    (fails_like (bracketed_like d c.args.tokens.now c.requires) (fails_next (bracketed_fits d) (at_head _ (Mark mark.OPENING_PARENTHESIS) c.requires c.in_ok-inside.ensures.answer)
    (closed_first mark.CLOSING_PARENTHESIS d (λ e. e) (Stops level.Operand) parenthesis_stops (fails_in (add-one d) c.in_err-inner.ensures.answer))))

pub bracketed-returns-in_err-rest-clause-answer : goal.bracketed-returns-in_err-rest-clause-answer
bracketed-returns-in_err-rest-clause-answer t c =
    let d = c.args.nesting in
    answers_stop _ _ _ _ _ _ _ _ c.from_residual-in_err-rest.ensures.1
    (fails_like (bracketed_like d c.args.tokens.now c.requires) (fails_next (bracketed_fits d) (at_head _ (Mark mark.OPENING_PARENTHESIS) c.requires c.in_ok-inside.ensures.answer)
    (closed_last mark.CLOSING_PARENTHESIS d (λ e. e) (Stops level.Operand) parenthesis_stops (found_in (add-one d) c.in_ok-inner.ensures.answer) c.in_err-rest.ensures)))

pub bracketed-returns-clause-answer : goal.bracketed-returns-clause-answer
bracketed-returns-clause-answer t c =
    let d = c.args.nesting in
    found_like (bracketed_like d c.args.tokens.now c.requires) (found_next (bracketed_fits d) (at_head _ (Mark mark.OPENING_PARENTHESIS) c.requires c.in_ok-inside.ensures.answer)
    (closed_found mark.CLOSING_PARENTHESIS d (λ e. e) (Stops level.Operand) parenthesis_stops (found_in (add-one d) c.in_ok-inner.ensures.answer) c.in_ok-rest.ensures))

-- A look-up.

pub looked-returns-in_err-inside-clause-answer : goal.looked-returns-in_err-inside-clause-answer
looked-returns-in_err-inside-clause-answer t c =
    answers_stop _ _ _ _ _ _ _ _ c.from_residual.ensures.1 (fails_like (indexed_like c.args.table c.args.nesting c.args.tokens.now c.requires) (fails_first (indexed_fits c.args.table c.args.nesting) (at_head _ (Mark mark.OPENING_BRACKET) c.requires c.in_err-inside.ensures.answer)))

pub looked-returns-in_err-index-clause-answer : goal.looked-returns-in_err-index-clause-answer
looked-returns-in_err-index-clause-answer t c =
    let d = c.args.nesting in
    answers_stop _ _ _ _ _ _ _ _ c.from_residual-in_err-index.ensures.1
    (fails_like (indexed_like c.args.table d c.args.tokens.now c.requires) (fails_next (indexed_fits c.args.table d) (at_head _ (Mark mark.OPENING_BRACKET) c.requires c.in_ok-inside.ensures.answer)
    (closed_first mark.CLOSING_BRACKET d (Look c.args.table) (Stops level.Operand) bracket_stops (fails_in (add-one d) c.in_err-index.ensures.answer))))

pub looked-returns-in_err-rest-clause-answer : goal.looked-returns-in_err-rest-clause-answer
looked-returns-in_err-rest-clause-answer t c =
    let d = c.args.nesting in
    answers_stop _ _ _ _ _ _ _ _ c.from_residual-in_err-rest.ensures.1
    (fails_like (indexed_like c.args.table d c.args.tokens.now c.requires) (fails_next (indexed_fits c.args.table d) (at_head _ (Mark mark.OPENING_BRACKET) c.requires c.in_ok-inside.ensures.answer)
    (closed_last mark.CLOSING_BRACKET d (Look c.args.table) (Stops level.Operand) bracket_stops (found_in (add-one d) c.in_ok-index.ensures.answer) c.in_err-rest.ensures)))

pub looked-returns-in_err-index-2-clause-answer : goal.looked-returns-in_err-index-2-clause-answer
looked-returns-in_err-index-2-clause-answer t c = out_of_memory _ _ _ _ _ _ _ c.from_residual-in_err-index-2.ensures.1

pub looked-returns-clause-answer : goal.looked-returns-clause-answer
looked-returns-clause-answer t c =
    let d = c.args.nesting in
    rw c.in_ok-index-2.ensures.ok (found_like (indexed_like c.args.table d c.args.tokens.now c.requires) (found_next (indexed_fits c.args.table d) (at_head _ (Mark mark.OPENING_BRACKET) c.requires c.in_ok-inside.ensures.answer)
    (closed_found mark.CLOSING_BRACKET d (Look c.args.table) (Stops level.Operand) bracket_stops (found_in (add-one d) c.in_ok-index.ensures.answer) c.in_ok-rest.ensures)))

-- A name.

pub named-returns-in_err-name-clause-answer : goal.named-returns-in_err-name-clause-answer
named-returns-in_err-name-clause-answer t c =
    answers_stop _ _ _ _ _ _ _ _ c.from_residual.ensures.1 (fails_like (named_like c.args.nesting c.args.tokens.now c.requires.0 c.requires.1 c.requires.2) (fails_first (name_fits c.args.nesting) c.in_err-name.ensures))

pub named-returns-in-None-clause-answer : goal.named-returns-in-None-clause-answer
named-returns-in-None-clause-answer t c =
    found_like (named_like c.args.nesting c.args.tokens.now c.requires.0 c.requires.1 c.requires.2) (found_next (name_fits c.args.nesting) c.in_ok-name.ensures
    (found_like (plain_like c.in_ok-name.name c.args.nesting c.in_ok-name.behind.now c.in-None.ensures) (found_done (Stops level.Operand) c.in_ok-name.behind.now (Name c.in_ok-name.name) _)))

pub named-returns-in-Some-clause-answer : goal.named-returns-in-Some-clause-answer
named-returns-in-Some-clause-answer t c =
    answers_like _ _ _ _ (named_like c.args.nesting c.args.tokens.now c.requires.0 c.requires.1 c.requires.2) (answers_next _ _ _ (name_fits c.args.nesting) c.in_ok-name.ensures c.looked.ensures.answer)

-- An operator with its operand.

pub signed-returns-in_err-behind-clause-answer : goal.signed-returns-in_err-behind-clause-answer
signed-returns-in_err-behind-clause-answer t c =
    answers_stop _ _ _ _ _ _ _ _ c.from_residual.ensures.1 (fails_like (signed_like c.args.op c.args.nesting c.args.tokens.now c.requires) (fails_first (signed_fits c.args.op c.args.nesting) (at_head _ (Mark (mark_of_sign c.args.op)) c.requires c.in_err-behind.ensures.answer)))

pub signed-returns-in_err-inner-clause-answer : goal.signed-returns-in_err-inner-clause-answer
signed-returns-in_err-inner-clause-answer t c =
    let d = c.args.nesting in
    answers_stop _ _ _ _ _ _ _ _ c.from_residual-in_err-inner.ensures.1
    (fails_like (signed_like c.args.op d c.args.tokens.now c.requires) (fails_next (signed_fits c.args.op d) (at_head _ (Mark (mark_of_sign c.args.op)) c.requires c.in_ok-behind.ensures.answer)
    (fails_first (done_fits (Stops level.Operand) (Unary c.args.op)) (fails_in (add-one d) c.in_err-inner.ensures.answer))))

pub signed-returns-in_err-inner-2-clause-answer : goal.signed-returns-in_err-inner-2-clause-answer
signed-returns-in_err-inner-2-clause-answer t c = out_of_memory _ _ _ _ _ _ _ c.from_residual-in_err-inner-2.ensures.1

pub signed-returns-clause-answer : goal.signed-returns-clause-answer
signed-returns-clause-answer t c =
    let d = c.args.nesting in
    rw c.in_ok-inner-2.ensures.ok (found_like (signed_like c.args.op d c.args.tokens.now c.requires) (found_next (signed_fits c.args.op d) (at_head _ (Mark (mark_of_sign c.args.op)) c.requires c.in_ok-behind.ensures.answer)
    (found_next (done_fits (Stops level.Operand) (Unary c.args.op)) (found_in (add-one d) c.in_ok-inner.ensures.answer) (found_done (Stops level.Operand) c.in_ok-inner.rest.now (Unary c.args.op (tree_of c.in_ok-inner.inner)) _))))

-- A conversion.

pub converted-returns-in_err-behind-clause-answer : goal.converted-returns-in_err-behind-clause-answer
converted-returns-in_err-behind-clause-answer t c =
    answers_stop _ _ _ _ _ _ _ _ c.from_residual.ensures.1 (fails_like (converted_like c.args.to c.args.nesting c.args.tokens.now c.requires.0 c.requires.1) (fails_first (converted_fits c.args.to c.args.nesting) (at_head _ (Word (type_name c.args.to)) c.requires.1 c.in_err-behind.ensures.answer)))

pub converted-returns-in_err-inside-clause-answer : goal.converted-returns-in_err-inside-clause-answer
converted-returns-in_err-inside-clause-answer t c =
    let d = c.args.nesting in
    answers_stop _ _ _ _ _ _ _ _ c.from_residual-in_err-inside.ensures.1
    (fails_like (converted_like c.args.to d c.args.tokens.now c.requires.0 c.requires.1) (fails_next (converted_fits c.args.to d) (at_head _ (Word (type_name c.args.to)) c.requires.1 c.in_ok-behind.ensures.answer)
    (fails_first (inside_fits c.args.to d) c.in_err-inside.ensures)))

pub converted-returns-in_err-inner-clause-answer : goal.converted-returns-in_err-inner-clause-answer
converted-returns-in_err-inner-clause-answer t c =
    let d = c.args.nesting in
    answers_stop _ _ _ _ _ _ _ _ c.from_residual-in_err-inner.ensures.1
    (fails_like (converted_like c.args.to d c.args.tokens.now c.requires.0 c.requires.1) (fails_next (converted_fits c.args.to d) (at_head _ (Word (type_name c.args.to)) c.requires.1 c.in_ok-behind.ensures.answer)
    (fails_next (inside_fits c.args.to d) c.in_ok-inside.ensures (closed_first mark.CLOSING_PARENTHESIS d (Convert c.args.to) (Stops level.Operand) parenthesis_stops (fails_in (add-one d) c.in_err-inner.ensures.answer)))))

pub converted-returns-in_err-rest-clause-answer : goal.converted-returns-in_err-rest-clause-answer
converted-returns-in_err-rest-clause-answer t c =
    let d = c.args.nesting in
    answers_stop _ _ _ _ _ _ _ _ c.from_residual-in_err-rest.ensures.1
    (fails_like (converted_like c.args.to d c.args.tokens.now c.requires.0 c.requires.1) (fails_next (converted_fits c.args.to d) (at_head _ (Word (type_name c.args.to)) c.requires.1 c.in_ok-behind.ensures.answer)
    (fails_next (inside_fits c.args.to d) c.in_ok-inside.ensures (closed_last mark.CLOSING_PARENTHESIS d (Convert c.args.to) (Stops level.Operand) parenthesis_stops (found_in (add-one d) c.in_ok-inner.ensures.answer) c.in_err-rest.ensures))))

pub converted-returns-in_err-inner-2-clause-answer : goal.converted-returns-in_err-inner-2-clause-answer
converted-returns-in_err-inner-2-clause-answer t c = out_of_memory _ _ _ _ _ _ _ c.from_residual-in_err-inner-2.ensures.1

pub converted-returns-clause-answer : goal.converted-returns-clause-answer
converted-returns-clause-answer t c =
    let d = c.args.nesting in
    rw c.in_ok-inner-2.ensures.ok (found_like (converted_like c.args.to d c.args.tokens.now c.requires.0 c.requires.1) (found_next (converted_fits c.args.to d) (at_head _ (Word (type_name c.args.to)) c.requires.1 c.in_ok-behind.ensures.answer)
    (found_next (inside_fits c.args.to d) c.in_ok-inside.ensures (closed_found mark.CLOSING_PARENTHESIS d (Convert c.args.to) (Stops level.Operand) parenthesis_stops (found_in (add-one d) c.in_ok-inner.ensures.answer) c.in_ok-rest.ensures))))

-- `if`.

pub choice-returns-in_err-behind_if-clause-answer : goal.choice-returns-in_err-behind_if-clause-answer
choice-returns-in_err-behind_if-clause-answer t c =
    answers_stop _ _ _ _ _ _ _ _ c.from_residual.ensures.1 (fails_like (choice_like c.args.nesting c.args.tokens.now c.requires) (fails_first (if_fits c.args.nesting) (at_head _ (Word (codes "if")) c.requires c.in_err-behind_if.ensures.answer)))

pub choice-returns-in_err-condition-clause-answer : goal.choice-returns-in_err-condition-clause-answer
choice-returns-in_err-condition-clause-answer t c =
    let d = c.args.nesting in
    answers_stop _ _ _ _ _ _ _ _ c.from_residual-in_err-condition.ensures.1
    (fails_like (choice_like d c.args.tokens.now c.requires) (fails_next (if_fits d) (at_head _ (Word (codes "if")) c.requires c.in_ok-behind_if.ensures.answer)
    (fails_first (condition_fits d) (fails_in (add-one d) c.in_err-condition.ensures.answer))))

pub choice-returns-in_err-behind_then-clause-answer : goal.choice-returns-in_err-behind_then-clause-answer
choice-returns-in_err-behind_then-clause-answer t c =
    let d = c.args.nesting in
    answers_stop _ _ _ _ _ _ _ _ c.from_residual-in_err-behind_then.ensures.1
    (fails_like (choice_like d c.args.tokens.now c.requires) (fails_next (if_fits d) (at_head _ (Word (codes "if")) c.requires c.in_ok-behind_if.ensures.answer)
    (fails_next (condition_fits d) (found_in (add-one d) c.in_ok-condition.ensures.answer) (fails_first (then_fits d (tree_of c.in_ok-condition.condition)) c.in_err-behind_then.ensures))))

pub choice-returns-in_err-yes-clause-answer : goal.choice-returns-in_err-yes-clause-answer
choice-returns-in_err-yes-clause-answer t c =
    let d = c.args.nesting in
    let x = tree_of c.in_ok-condition.condition in
    answers_stop _ _ _ _ _ _ _ _ c.from_residual-in_err-yes.ensures.1
    (fails_like (choice_like d c.args.tokens.now c.requires) (fails_next (if_fits d) (at_head _ (Word (codes "if")) c.requires c.in_ok-behind_if.ensures.answer)
    (fails_next (condition_fits d) (found_in (add-one d) c.in_ok-condition.ensures.answer) (fails_next (then_fits d x) c.in_ok-behind_then.ensures
    (fails_first (yes_fits d x) (fails_in (add-one d) c.in_err-yes.ensures.answer))))))

pub choice-returns-in_err-behind_else-clause-answer : goal.choice-returns-in_err-behind_else-clause-answer
choice-returns-in_err-behind_else-clause-answer t c =
    let d = c.args.nesting in
    let x = tree_of c.in_ok-condition.condition in
    let y = tree_of c.in_ok-yes.yes in
    answers_stop _ _ _ _ _ _ _ _ c.from_residual-in_err-behind_else.ensures.1
    (fails_like (choice_like d c.args.tokens.now c.requires) (fails_next (if_fits d) (at_head _ (Word (codes "if")) c.requires c.in_ok-behind_if.ensures.answer)
    (fails_next (condition_fits d) (found_in (add-one d) c.in_ok-condition.ensures.answer) (fails_next (then_fits d x) c.in_ok-behind_then.ensures
    (fails_next (yes_fits d x) (found_in (add-one d) c.in_ok-yes.ensures.answer) (fails_first (else_fits d x y) c.in_err-behind_else.ensures))))))

pub choice-returns-in_err-no-clause-answer : goal.choice-returns-in_err-no-clause-answer
choice-returns-in_err-no-clause-answer t c =
    let d = c.args.nesting in
    let x = tree_of c.in_ok-condition.condition in
    let y = tree_of c.in_ok-yes.yes in
    answers_stop _ _ _ _ _ _ _ _ c.from_residual-in_err-no.ensures.1
    (fails_like (choice_like d c.args.tokens.now c.requires) (fails_next (if_fits d) (at_head _ (Word (codes "if")) c.requires c.in_ok-behind_if.ensures.answer)
    (fails_next (condition_fits d) (found_in (add-one d) c.in_ok-condition.ensures.answer) (fails_next (then_fits d x) c.in_ok-behind_then.ensures
    (fails_next (yes_fits d x) (found_in (add-one d) c.in_ok-yes.ensures.answer) (fails_next (else_fits d x y) c.in_ok-behind_else.ensures
    (fails_first (no_fits d x y) (fails_in (add-one d) c.in_err-no.ensures.answer))))))))

pub choice-returns-in_err-condition-2-clause-answer : goal.choice-returns-in_err-condition-2-clause-answer
choice-returns-in_err-condition-2-clause-answer t c = out_of_memory _ _ _ _ _ _ _ c.from_residual-in_err-condition-2.ensures.1

pub choice-returns-in_err-yes-2-clause-answer : goal.choice-returns-in_err-yes-2-clause-answer
choice-returns-in_err-yes-2-clause-answer t c = out_of_memory _ _ _ _ _ _ _ c.from_residual-in_err-yes-2.ensures.1

pub choice-returns-in_err-no-2-clause-answer : goal.choice-returns-in_err-no-2-clause-answer
choice-returns-in_err-no-2-clause-answer t c = out_of_memory _ _ _ _ _ _ _ c.from_residual-in_err-no-2.ensures.1

pub choice-returns-clause-answer : goal.choice-returns-clause-answer
choice-returns-clause-answer t c =
    let d = c.args.nesting in
    let x = tree_of c.in_ok-condition.condition in
    let y = tree_of c.in_ok-yes.yes in
    let z = tree_of c.in_ok-no.no in
    rw (c.in_ok-condition-2.ensures.ok, c.in_ok-yes-2.ensures.ok, c.in_ok-no-2.ensures.ok)
    (found_like (choice_like d c.args.tokens.now c.requires) (found_next (if_fits d) (at_head _ (Word (codes "if")) c.requires c.in_ok-behind_if.ensures.answer)
    (found_next (condition_fits d) (found_in (add-one d) c.in_ok-condition.ensures.answer) (found_next (then_fits d x) c.in_ok-behind_then.ensures
    (found_next (yes_fits d x) (found_in (add-one d) c.in_ok-yes.ensures.answer) (found_next (else_fits d x y) c.in_ok-behind_else.ensures
    (found_next (no_fits d x y) (found_in (add-one d) c.in_ok-no.ensures.answer) (found_done (Stops level.Whole) c.in_ok-no.rest.now (If x y z) _))))))))

-- What is chosen by the first token.

pub operand-returns-in-Literal-clause-answer : goal.operand-returns-in-Literal-clause-answer
operand-returns-in-Literal-clause-answer t c = c.constant.ensures.answer c.args.nesting

pub operand-returns-in-Nothing-clause-answer : goal.operand-returns-in-Nothing-clause-answer
operand-returns-in-Nothing-clause-answer t c = no_operand c.args.nesting c.args.tokens.now c.args.begun.now c.in-Nothing.ensures

pub whole-returns-in-None-clause-answer : goal.whole-returns-in-None-clause-answer
whole-returns-in-None-clause-answer t c = answers_like _ _ _ _ (looser_like c.args.nesting c.args.tokens.now c.in-None.ensures) c.phrase.ensures.answer

-- A comparison.

pub comparison-returns-in_err-left-clause-answer : goal.comparison-returns-in_err-left-clause-answer
comparison-returns-in_err-left-clause-answer t c = answers_stop _ _ _ _ _ _ _ _ c.from_residual.ensures.1 (comparison_first c.args.nesting c.args.tokens.now _ _ _ c.in_err-left.ensures.answer)

pub comparison-returns-in_err-push-in-Some-clause-answer : goal.comparison-returns-in_err-push-in-Some-clause-answer
comparison-returns-in_err-push-in-Some-clause-answer t c = out_of_memory _ _ _ _ _ _ _ c.from_residual-in_err-push-in-Some.ensures.1

pub comparison-returns-in_err-right-in-Some-clause-answer : goal.comparison-returns-in_err-right-in-Some-clause-answer
comparison-returns-in_err-right-in-Some-clause-answer t c =
    answers_stop _ _ _ _ _ _ _ _ c.from_residual-in_err-right-in-Some.ensures.1
    (comparison_fails c.args.nesting c.args.tokens.now c.in_ok-left.rest.now c.in-Some.behind.now (tree_of c.in_ok-left.left) c.in-Some.op _ _ _ _ _ c.in-Some.ensures.0 c.in-Some.ensures.1 c.in_ok-push-in-Some.ensures.ok c.in_ok-left.ensures.answer c.in_err-right-in-Some.ensures.answer)

pub comparison-returns-in_err-left-in-Some-clause-answer : goal.comparison-returns-in_err-left-in-Some-clause-answer
comparison-returns-in_err-left-in-Some-clause-answer t c = out_of_memory _ _ _ _ _ _ _ c.from_residual-in_err-left-in-Some.ensures.1

pub comparison-returns-in_err-right-in-Some-2-clause-answer : goal.comparison-returns-in_err-right-in-Some-2-clause-answer
comparison-returns-in_err-right-in-Some-2-clause-answer t c = out_of_memory _ _ _ _ _ _ _ c.from_residual-in_err-right-in-Some-2.ensures.1

pub comparison-returns-in-None-clause-answer : goal.comparison-returns-in-None-clause-answer
comparison-returns-in-None-clause-answer t c = comparison_none c.args.nesting c.args.tokens.now c.in_ok-left.rest.now (tree_of c.in_ok-left.left) _ _ c.in_ok-left.ensures.answer c.in-None.ensures

pub comparison-returns-in_ok-right-in-Some-2-clause-answer : goal.comparison-returns-in_ok-right-in-Some-2-clause-answer
comparison-returns-in_ok-right-in-Some-2-clause-answer t c =
    rw (c.in_ok-left-in-Some.ensures.ok, c.in_ok-right-in-Some-2.ensures.ok)
    (comparison_one c.args.nesting c.args.tokens.now c.in_ok-left.rest.now c.in-Some.behind.now c.in_ok-right-in-Some.more.now (tree_of c.in_ok-left.left) (tree_of c.in_ok-right-in-Some.right) c.in-Some.op _ _ _ _ c.in-Some.ensures.0 c.in-Some.ensures.1 c.in_ok-push-in-Some.ensures.ok c.in_ok-left.ensures.answer c.in_ok-right-in-Some.ensures.answer)

-- A row of operators, and one of shifts.

pub row-row-init : goal.row-row-init
row-row-init t c = record {
  up_to = row_starts c.args.level c.args.nesting c.args.tokens.now c.in_ok-left.rest.now (tree_of c.in_ok-left.left) _ _ c.requires (found_at c.tighter.ensures c.in_ok-left.ensures.answer);
  shorter = c.in_ok-left.ensures.shorter;
}

pub row-row-preserved : goal.row-row-preserved
row-row-preserved t c =
    rw (c.in_ok-first.ensures.ok, c.in_ok-second.ensures.ok) (record {
      up_to = row_goes c.args.level c.args.nesting c.args.tokens.now c.row.rest.now c.in-Some.behind.now c.in_ok-right.more.now (tree_of c.row.left) (tree_of c.in_ok-right.right) c.in-Some.op _ _ _ _ c.in-Some.ensures.0 c.in-Some.ensures.1 c.in_ok-push.ensures.ok c.row.invariant.up_to (found_at c.tighter-in-Some.ensures c.in_ok-right.ensures.answer);
      shorter = omega (arith, c.in_ok-right.ensures.shorter, ap length c.in-Some.ensures.0, c.row.invariant.shorter);
    })

pub row-returns-in_err-left-clause-answer : goal.row-returns-in_err-left-clause-answer
row-returns-in_err-left-clause-answer t c = answers_stop _ _ _ _ _ _ _ _ c.from_residual.ensures.1 (row_first c.args.level c.args.nesting c.args.tokens.now _ _ _ c.requires (fails_at c.tighter.ensures c.in_err-left.ensures.answer))

pub row-returns-in_err-push-clause-answer : goal.row-returns-in_err-push-clause-answer
row-returns-in_err-push-clause-answer t c = out_of_memory _ _ _ _ _ _ _ c.from_residual-in_err-push.ensures.1

pub row-returns-in_err-right-clause-answer : goal.row-returns-in_err-right-clause-answer
row-returns-in_err-right-clause-answer t c =
    answers_stop _ _ _ _ _ _ _ _ c.from_residual-in_err-right.ensures.1
    (row_fails c.args.level c.args.nesting c.args.tokens.now c.row.rest.now c.in-Some.behind.now (tree_of c.row.left) c.in-Some.op _ _ _ _ _ c.in-Some.ensures.0 c.in-Some.ensures.1 c.in_ok-push.ensures.ok c.row.invariant.up_to (fails_at c.tighter-in-Some.ensures c.in_err-right.ensures.answer))

pub row-returns-in_err-first-clause-answer : goal.row-returns-in_err-first-clause-answer
row-returns-in_err-first-clause-answer t c = out_of_memory _ _ _ _ _ _ _ c.from_residual-in_err-first.ensures.1

pub row-returns-in_err-second-clause-answer : goal.row-returns-in_err-second-clause-answer
row-returns-in_err-second-clause-answer t c = out_of_memory _ _ _ _ _ _ _ c.from_residual-in_err-second.ensures.1

pub row-returns-clause-answer : goal.row-returns-clause-answer
row-returns-clause-answer t c = row_ends c.args.level c.args.nesting c.args.tokens.now c.row.rest.now (tree_of c.row.left) _ _ c.in_default.ensures c.row.invariant.up_to

pub shifts-row-init : goal.shifts-row-init
shifts-row-init t c = record {
  up_to = shifts_start c.args.nesting c.args.tokens.now c.in_ok-left.rest.now (tree_of c.in_ok-left.left) _ _ c.in_ok-left.ensures.answer;
  shorter = c.in_ok-left.ensures.shorter;
}

pub shifts-row-preserved : goal.shifts-row-preserved
shifts-row-preserved t c =
    rw c.in_ok-moved.ensures.ok (record {
      up_to = shifts_go c.args.nesting c.args.tokens.now c.row.rest.now c.in-Some.behind.now c.in_ok-amount.more.now (tree_of c.row.left) c.in-Some.side c.in_ok-amount.amount _ _ _ _ c.in-Some.ensures c.in_ok-push.ensures.ok c.row.invariant.up_to c.in_ok-amount.ensures;
      shorter = omega (arith, found_shorter c.in_ok-amount.ensures, ap length c.in-Some.ensures, c.row.invariant.shorter);
    })

pub shifts-returns-in_err-left-clause-answer : goal.shifts-returns-in_err-left-clause-answer
shifts-returns-in_err-left-clause-answer t c = answers_stop _ _ _ _ _ _ _ _ c.from_residual.ensures.1 (shifts_first c.args.nesting c.args.tokens.now _ _ _ c.in_err-left.ensures.answer)

pub shifts-returns-in_err-push-clause-answer : goal.shifts-returns-in_err-push-clause-answer
shifts-returns-in_err-push-clause-answer t c = out_of_memory _ _ _ _ _ _ _ c.from_residual-in_err-push.ensures.1

pub shifts-returns-in_err-amount-clause-answer : goal.shifts-returns-in_err-amount-clause-answer
shifts-returns-in_err-amount-clause-answer t c =
    answers_stop _ _ _ _ _ _ _ _ c.from_residual-in_err-amount.ensures.1
    (shifts_fail c.args.nesting c.args.tokens.now c.row.rest.now c.in-Some.behind.now (tree_of c.row.left) c.in-Some.side _ _ _ _ _ c.in-Some.ensures c.in_ok-push.ensures.ok c.row.invariant.up_to c.in_err-amount.ensures)

pub shifts-returns-in_err-moved-clause-answer : goal.shifts-returns-in_err-moved-clause-answer
shifts-returns-in_err-moved-clause-answer t c = out_of_memory _ _ _ _ _ _ _ c.from_residual-in_err-moved.ensures.1

pub shifts-returns-clause-answer : goal.shifts-returns-clause-answer
shifts-returns-clause-answer t c = shifts_end c.args.nesting c.args.tokens.now c.row.rest.now (tree_of c.row.left) _ _ c.in_default.ensures c.row.invariant.up_to
