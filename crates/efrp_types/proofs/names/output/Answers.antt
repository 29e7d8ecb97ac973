use Rattle.std.specs.Str.{bytes_eq}
use Rattle.std.proofs.Common.{◌∙◌}
use Rattle.frp_tree.specs.Tree.{OutputTree, output_of}
use Rattle.efrp_types.proofs.AnswerLaws.{told-first, rest-tells}
use Rattle.efrp_types.proofs.DeclFacts.{any-of}
use Rattle.efrp_types.proofs.names.output.Goals as goal

pub returns-in_err-port : goal.returns-in_err-port
returns-in_err-port c = told-first _ _ _ c.from_residual.result c.from_residual.ensures.1 c.in_err-port.ensures

pub returns : goal.returns
returns c =
    rest-tells _ _ _ c.in_ok-port.ensures
    (rw (c.is_output.ensures ∙ any-of output_of (λ (b : OutputTree). bytes_eq c.args.o.now.port b.port) c.args.before.now) at c.refuse_if.ensures)
