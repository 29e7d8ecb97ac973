use Rattle.std.specs.Prelude.{ℕ, List}
use Rattle.frp_tree.specs.declared.syntax.Decl.{Decl}
use Rattle.frp_tree.specs.Tree.{program_tree_of, behaviour_of}
use Rattle.efrp_types.specs.Ready.{AreFit}
use Rattle.efrp_types.proofs.RowLaws.{all-at}
use Rattle.where_tool.specs.Visits.{behaviour_type_visits}
use Rattle.where_tool.specs.Walks.{HaveFew}
use Rattle.where_tool.proofs.WalkFacts.{gone-halts, gone-all, gone-more}
use Rattle.where_tool.proofs.type_walk.decls.Goals as goal

pub returns-in_err-behaviour : goal.returns-in_err-behaviour
returns-in_err-behaviour c =
    gone-halts (λ (n : ℕ) (before : List Decl) (d : Decl). behaviour_type_visits (program_tree_of c.args.p.now) d.name d.ty n (behaviour_of d.behaviour)) c.args.decls.now c.loop-i.i c.index-decls-i.result
    _ c.from_residual.result c.loop-i-test.true c.index-decls-i.is c.loop-i.invariant c.from_residual.ensures.1 c.in_err-behaviour.ensures

pub returns : goal.returns
returns c = (gone-all (λ (n : ℕ) (before : List Decl) (d : Decl). behaviour_type_visits (program_tree_of c.args.p.now) d.name d.ty n (behaviour_of d.behaviour)) c.args.decls.now c.loop-i.i c.loop-i.auto.i-end c.loop-i-test.false c.loop-i.invariant, tt)

pub loop-i-preserved : goal.loop-i-preserved
loop-i-preserved c =
    let walked = c.in_ok-behaviour.ensures in
    gone-more (λ (n : ℕ) (before : List Decl) (d : Decl). behaviour_type_visits (program_tree_of c.args.p.now) d.name d.ty n (behaviour_of d.behaviour)) c.args.decls.now c.loop-i.i c.index-decls-i.result
    c.loop-i-test.true c.index-decls-i.is c.loop-i.invariant walked.0

pub behaviour-requires-clause-fit : goal.behaviour-requires-clause-fit
behaviour-requires-clause-fit c = all-at (λ (d : Decl). AreFit (program_tree_of c.args.p.now) (behaviour_of d.behaviour)) c.args.decls.now c.loop-i.i c.index-decls-i.result c.loop-i-test.true c.index-decls-i.is c.requires.fit

pub behaviour-requires-clause-few : goal.behaviour-requires-clause-few
behaviour-requires-clause-few c = all-at (λ (d : Decl). HaveFew (behaviour_of d.behaviour)) c.args.decls.now c.loop-i.i c.index-decls-i.result c.loop-i-test.true c.index-decls-i.is c.requires.few
