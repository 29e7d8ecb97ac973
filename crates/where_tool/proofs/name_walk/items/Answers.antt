use Rattle.frp_tree.specs.Tree.{decl_of, output_of}
use Rattle.where_tool.specs.Visits.{decl_visits, output_visits}
use Rattle.where_tool.proofs.WalkFacts.{handed-first, walks-rest, visited-trees}
use Rattle.where_tool.proofs.name_walk.items.Goals as goal

pub returns-in_err-events : goal.returns-in_err-events
returns-in_err-events c = handed-first _ _ (λ (done : Unit {0}). Unit {0}) _ c.from_residual.result c.from_residual.ensures.1 (rw c.as_slice.ensures at c.in_err-events.ensures)

pub returns-in_err-setups : goal.returns-in_err-setups
returns-in_err-setups c =
    walks-rest _ _ (λ (done : Unit {0}). Unit {0}) c.from_residual-in_err-setups.result (rw c.as_slice.ensures at c.in_ok-events.ensures).0
    (handed-first _ _ (λ (done : Unit {0}). Unit {0}) _ c.from_residual-in_err-setups.result c.from_residual-in_err-setups.ensures.1 (rw c.as_slice-2.ensures at c.in_err-setups.ensures))

pub returns-in_err-decls : goal.returns-in_err-decls
returns-in_err-decls c =
    walks-rest _ _ (λ (done : Unit {0}). Unit {0}) c.from_residual-in_err-decls.result (rw c.as_slice.ensures at c.in_ok-events.ensures).0
    (walks-rest _ _ (λ (done : Unit {0}). Unit {0}) c.from_residual-in_err-decls.result (rw c.as_slice-2.ensures at c.in_ok-setups.ensures).0
    (handed-first _ _ (λ (done : Unit {0}). Unit {0}) _ c.from_residual-in_err-decls.result c.from_residual-in_err-decls.ensures.1
    (rw (c.as_slice-3.ensures, c.as_slice-4.ensures, visited-trees decl_of (decl_visits c.args.p.now.events) c.args.p.now.decls) at c.in_err-decls.ensures)))

pub returns : goal.returns
returns c =
    walks-rest _ _ (λ (done : Unit {0}). Unit {0}) c.outputs.result (rw c.as_slice.ensures at c.in_ok-events.ensures).0
    (walks-rest _ _ (λ (done : Unit {0}). Unit {0}) c.outputs.result (rw c.as_slice-2.ensures at c.in_ok-setups.ensures).0
    (walks-rest _ _ (λ (done : Unit {0}). Unit {0}) c.outputs.result (rw (c.as_slice-3.ensures, c.as_slice-4.ensures, visited-trees decl_of (decl_visits c.args.p.now.events) c.args.p.now.decls) at c.in_ok-decls.ensures).0
    (rw (c.as_slice-5.ensures, visited-trees output_of output_visits c.args.p.now.outputs) at c.outputs.ensures)))
