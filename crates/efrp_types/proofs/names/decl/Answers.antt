use Rattle.std.specs.Prelude.{◌||◌}
use Rattle.std.specs.Str.{bytes_eq}
use Rattle.std.proofs.Common.{◌∙◌, ap}
use Rattle.frp_tree.specs.Tree.{DeclTree, decl_of}
use Rattle.efrp_types.specs.NameFaults.{is_event}
use Rattle.efrp_types.proofs.AnswerLaws.{told-first, rest-tells}
use Rattle.efrp_types.proofs.DeclFacts.{any-of}
use Rattle.efrp_types.proofs.names.decl.Goals as goal

pub returns-in_err-refuse_if : goal.returns-in_err-refuse_if
returns-in_err-refuse_if c =
    told-first _ _ _ c.from_residual.result c.from_residual.ensures.1
    (rw (c.is_used.ensures ∙ ap (λ b. is_event c.args.events.now c.args.d.now.name || b) (any-of decl_of (λ (b : DeclTree). bytes_eq c.args.d.now.name b.name) c.args.before.now)) at c.in_err-refuse_if.ensures)

pub returns : goal.returns
returns c =
    rest-tells _ _ _
    (rw (c.is_used.ensures ∙ ap (λ b. is_event c.args.events.now c.args.d.now.name || b) (any-of decl_of (λ (b : DeclTree). bytes_eq c.args.d.now.name b.name) c.args.before.now)) at c.in_ok-refuse_if.ensures)
    c.input.ensures
