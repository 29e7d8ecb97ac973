use Rattle.std.proofs.Common.{sym, ◌∙◌}
use Rattle.frp_tree.specs.Tree.{program_tree_of}
use Rattle.efrp_types.proofs.NumberLaws.{number_by_names}
use Rattle.efrp_types.proofs.typed.Typed.decl_number.Goals as goal

pub returns-in-Some : goal.returns-in-Some
returns-in-Some c =
    sym c.in-Some.is ∙ c.decl_place.ensures
    ∙ number_by_names (program_tree_of c.args.self.now.program) c.args.self.now.names c.args.name.now c.args.self.now.named

pub returns-in-None : goal.returns-in-None
returns-in-None c =
    sym c.in-None.is ∙ c.decl_place.ensures
    ∙ number_by_names (program_tree_of c.args.self.now.program) c.args.self.now.names c.args.name.now c.args.self.now.named
