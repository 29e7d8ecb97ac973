use Rattle.std.specs.Prelude.{List, map}
use Rattle.frp_tree.specs.declared.syntax.Decl.{Decl}
use Rattle.frp_tree.specs.Tree.{decl_of}
use Rattle.efrp_types.specs.NameFaults.{decl_faults}
use Rattle.efrp_types.proofs.AnswerLaws.{gone-more, gone-told, gone-all}
use Rattle.efrp_types.proofs.names.decls.Goals as goal

pub returns-in_err-decl : goal.returns-in_err-decl
returns-in_err-decl c =
    gone-told (λ (before : List Decl) (d : Decl). decl_faults c.args.events.now (map decl_of before) (decl_of d)) c.args.decls.now c.loop-i.i c.index-decls-i.result _ c.from_residual.result c.loop-i-test.true c.index-decls-i.is c.loop-i.invariant c.from_residual.ensures.1 c.in_err-decl.ensures

pub returns : goal.returns
returns c = gone-all (λ (before : List Decl) (d : Decl). decl_faults c.args.events.now (map decl_of before) (decl_of d)) c.args.decls.now c.loop-i.i c.loop-i.auto.i-end c.loop-i-test.false c.loop-i.invariant

pub loop-i-preserved : goal.loop-i-preserved
loop-i-preserved c = gone-more (λ (before : List Decl) (d : Decl). decl_faults c.args.events.now (map decl_of before) (decl_of d)) c.args.decls.now c.loop-i.i c.index-decls-i.result c.loop-i-test.true c.index-decls-i.is c.loop-i.invariant c.in_ok-decl.ensures
