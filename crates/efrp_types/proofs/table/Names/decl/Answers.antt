use Rattle.std.specs.Prelude.{IsSome}
use Rattle.std.proofs.Common.{sym, ap, subst, get_or, ◌∙◌}
use Rattle.frp_tree.specs.Tree.{program_tree_of}
use Rattle.efrp_types.proofs.NumberLaws.{number_by_names, numbered, stands_at}
use Rattle.efrp_types.proofs.table.Names.decl.Goals as goal

pub unwrap-place-requires : goal.unwrap-place-requires
unwrap-place-requires c =
    subst IsSome
    (sym (c.decl_place.ensures ∙ number_by_names (program_tree_of c.args.p.now) c.args.self.now c.args.name.now c.requires.named))
    (numbered (program_tree_of c.args.p.now) c.args.name.now c.requires.there)

pub returns : goal.returns
returns c =
    stands_at c.args.p.now c.args.name.now c.unwrap-place.result c.index-as_slice-place.result
    (sym (number_by_names (program_tree_of c.args.p.now) c.args.self.now c.args.name.now c.requires.named) ∙ sym c.decl_place.ensures ∙ c.unwrap-place.ensures)
    (c.index-as_slice-place.is ∙ ap (λ ds. get_or ds c.unwrap-place.result c.index-as_slice-place.result) c.as_slice.ensures)
