use Rattle.std.specs.Prelude.{List}
use Rattle.frp_tree.specs.declared.syntax.Decl.{Decl}
use Rattle.frp_tree.specs.Tree.{program_tree_of, behaviour_of}
use Rattle.efrp_types.specs.Ready.{AreFit}
use Rattle.efrp_types.specs.TypeFaults.{behaviour_type_faults}
use Rattle.efrp_types.proofs.AnswerLaws.{gone-more, gone-told, gone-all}
use Rattle.efrp_types.proofs.RowLaws.{all-at}
use Rattle.efrp_types.proofs.types.decls.Goals as goal

pub returns-in_err-behaviour : goal.returns-in_err-behaviour
returns-in_err-behaviour c =
    gone-told (λ (before : List Decl) (d : Decl). behaviour_type_faults (program_tree_of c.args.p.now) d.name d.ty (behaviour_of d.behaviour)) c.args.decls.now c.loop-i.i c.index-decls-i.result _ c.from_residual.result c.loop-i-test.true c.index-decls-i.is c.loop-i.invariant c.from_residual.ensures.1 c.in_err-behaviour.ensures

pub returns : goal.returns
returns c = gone-all (λ (before : List Decl) (d : Decl). behaviour_type_faults (program_tree_of c.args.p.now) d.name d.ty (behaviour_of d.behaviour)) c.args.decls.now c.loop-i.i c.loop-i.auto.i-end c.loop-i-test.false c.loop-i.invariant

pub loop-i-preserved : goal.loop-i-preserved
loop-i-preserved c = gone-more (λ (before : List Decl) (d : Decl). behaviour_type_faults (program_tree_of c.args.p.now) d.name d.ty (behaviour_of d.behaviour)) c.args.decls.now c.loop-i.i c.index-decls-i.result c.loop-i-test.true c.index-decls-i.is c.loop-i.invariant c.in_ok-behaviour.ensures

pub behaviour-requires-clause-fit : goal.behaviour-requires-clause-fit
behaviour-requires-clause-fit c = all-at (λ (d : Decl). AreFit (program_tree_of c.args.p.now) (behaviour_of d.behaviour)) c.args.decls.now c.loop-i.i c.index-decls-i.result c.loop-i-test.true c.index-decls-i.is c.requires.fit
