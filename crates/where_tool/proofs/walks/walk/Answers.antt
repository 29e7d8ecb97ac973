use Rattle.std.proofs.Common.{sym, ◌∙◌}
use Rattle.frp_tree.specs.Tree.{program_tree_of}
use Rattle.where_tool.specs.Visits.{name_visits}
use Rattle.where_tool.proofs.VisitLaws.{met-names}
use Rattle.where_tool.proofs.WalkFacts.{handed-first, none-met, walks-rest}
use Rattle.where_tool.proofs.walks.walk.Goals as goal

pub returns-in_err-walk_names : goal.returns-in_err-walk_names
returns-in_err-walk_names c = handed-first _ _ (λ (done : Unit {0}). Unit {0}) _ c.from_residual.result c.from_residual.ensures.1 c.in_err-walk_names.ensures

pub of_program-requires : goal.of_program-requires
of_program-requires c =
    let walked = c.in_ok-walk_names.ensures in
    sym (met-names (program_tree_of c.args.p.now)) ∙ none-met (name_visits (program_tree_of c.args.p.now)) walked.0

pub walk_types-requires : goal.walk_types-requires
walk_types-requires c =
    let walked = c.in_ok-walk_names.ensures in
    record { named = c.in_ok-names.ensures; faultless = sym (met-names (program_tree_of c.args.p.now)) ∙ none-met (name_visits (program_tree_of c.args.p.now)) walked.0; formed = c.requires }

pub returns : goal.returns
returns c = let walked = c.in_ok-walk_names.ensures in walks-rest _ _ (λ (done : Unit {0}). Unit {0}) c.walk_types.result walked.0 c.walk_types.ensures
