use Rattle.std.specs.Prelude.{ℕ, List, map}
use Rattle.frp_tree.specs.declared.syntax.Decl.{Decl}
use Rattle.frp_tree.specs.Tree.{decl_of}
use Rattle.where_tool.specs.Visits.{decl_visits}
use Rattle.where_tool.proofs.WalkFacts.{gone-halts, gone-all, gone-more}
use Rattle.where_tool.proofs.name_walk.decls.Goals as goal

pub returns-in_err-met : goal.returns-in_err-met
returns-in_err-met c =
    gone-halts (λ (n : ℕ) (before : List Decl) (d : Decl). decl_visits c.args.events.now n (map decl_of before) (decl_of d)) c.args.decls.now c.loop-i.i c.index-decls-i.result _ c.from_residual.result c.loop-i-test.true c.index-decls-i.is c.loop-i.invariant c.from_residual.ensures.1 (c.in_err-met.ensures _ c.decl.ensures)

pub returns : goal.returns
returns c = (gone-all (λ (n : ℕ) (before : List Decl) (d : Decl). decl_visits c.args.events.now n (map decl_of before) (decl_of d)) c.args.decls.now c.loop-i.i c.loop-i.auto.i-end c.loop-i-test.false c.loop-i.invariant, tt)

pub loop-i-preserved : goal.loop-i-preserved
loop-i-preserved c = let walked = c.in_ok-met.ensures _ c.decl.ensures in gone-more (λ (n : ℕ) (before : List Decl) (d : Decl). decl_visits c.args.events.now n (map decl_of before) (decl_of d)) c.args.decls.now c.loop-i.i c.index-decls-i.result c.loop-i-test.true c.index-decls-i.is c.loop-i.invariant walked.0
