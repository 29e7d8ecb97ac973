use Rattle.std.specs.Str.{bytes_eq}
use Rattle.std.proofs.Common.{◌∙◌}
use Rattle.frp_tree.specs.Tree.{ClauseTree, clause_of}
use Rattle.efrp_types.proofs.AnswerLaws.{told-first, rest-tells}
use Rattle.efrp_types.proofs.DeclFacts.{any-of}
use Rattle.efrp_types.proofs.names.clause_event.Goals as goal

pub returns-in_err-refuse_if : goal.returns-in_err-refuse_if
returns-in_err-refuse_if c = told-first _ _ _ c.from_residual.result c.from_residual.ensures.1 (rw (c.is_event-is_unknown.ensures, c.as_slice.ensures) at c.in_err-refuse_if.ensures)

pub returns : goal.returns
returns c =
    rest-tells _ _ _ (rw (c.is_event-is_unknown.ensures, c.as_slice.ensures) at c.in_ok-refuse_if.ensures)
    (rw (c.is_clause.ensures ∙ any-of clause_of (λ (b : ClauseTree). bytes_eq c.args.c.now.event b.event) c.args.before.now) at c.refuse_clause_if.ensures)
