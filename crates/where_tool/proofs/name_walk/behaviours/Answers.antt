use Rattle.std.specs.Prelude.{ℕ, List}
use Rattle.frp_tree.specs.declared.syntax.Decl.{Decl}
use Rattle.frp_tree.specs.Tree.{program_tree_of, behaviour_of}
use Rattle.where_tool.specs.Visits.{behaviour_visits}
use Rattle.efrp_types.proofs.RowLaws.{all-at}
use Rattle.where_tool.specs.Walks.{HaveFew}
use Rattle.where_tool.proofs.WalkFacts.{gone-halts, gone-all, gone-more}
use Rattle.where_tool.proofs.name_walk.behaviours.Goals as goal

pub returns-in_err-behaviour : goal.returns-in_err-behaviour
returns-in_err-behaviour c =
    gone-halts (λ (n : ℕ) (before : List Decl) (d : Decl). behaviour_visits (program_tree_of c.args.p.now) d.name n (behaviour_of d.behaviour)) c.args.decls.now c.loop-i.i c.index-decls-i.result _ c.from_residual.result c.loop-i-test.true c.index-decls-i.is c.loop-i.invariant c.from_residual.ensures.1 c.in_err-behaviour.ensures

pub returns : goal.returns
returns c = (gone-all (λ (n : ℕ) (before : List Decl) (d : Decl). behaviour_visits (program_tree_of c.args.p.now) d.name n (behaviour_of d.behaviour)) c.args.decls.now c.loop-i.i c.loop-i.auto.i-end c.loop-i-test.false c.loop-i.invariant, tt)

pub loop-i-preserved : goal.loop-i-preserved
loop-i-preserved c = let walked = c.in_ok-behaviour.ensures in gone-more (λ (n : ℕ) (before : List Decl) (d : Decl). behaviour_visits (program_tree_of c.args.p.now) d.name n (behaviour_of d.behaviour)) c.args.decls.now c.loop-i.i c.index-decls-i.result c.loop-i-test.true c.index-decls-i.is c.loop-i.invariant walked.0

pub behaviour-requires : goal.behaviour-requires
behaviour-requires c = all-at (λ (d : Decl). HaveFew (behaviour_of d.behaviour)) c.args.decls.now c.loop-i.i c.index-decls-i.result c.loop-i-test.true c.index-decls-i.is c.requires
