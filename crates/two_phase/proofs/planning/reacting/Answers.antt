use Rattle.std.specs.Prelude.{◌≡◌, ◌+◌, map, Some}
use Rattle.std.proofs.Common.{List, ℕ, sym, ap, subst, take, ◌∙◌}
use Rattle.frp_tree.specs.declared.syntax.Program.{Program}
use Rattle.frp_tree.specs.Tree.{DeclTree, decl_of, program_tree_of}
use Rattle.efrp_types.specs.Numbers.{decl_number}
use Rattle.event_needs.proofs.NumberLaws.{checked-differ, tree-at}
use Rattle.two_phase.proofs.AddFacts.{reacting-of, reacts-more, stays-more}
use Rattle.two_phase.proofs.planning.reacting.Goals as goal
use Rattle.two_phase.proofs.planning.reacting.Goals.{then-reacts+in_ok-push, else-reacts}

pub loop-n-preserved : goal.loop-n-preserved
loop-n-preserved c =
    let typed = c.args.typed.now in
    let p = program_tree_of typed.program in
    let event = c.args.event.now in
    let n = c.loop-n.n in
    let d = decl_of c.index-decls-n.result in
    let same = c.as_slice-decls.ensures ∙ ap (λ (q : Program). q.decls) c.program.ensures in
    let at = tree-at decl_of c.as_slice-decls.result.now typed.program.decls n c.index-decls-n.result same c.loop-n-test.true c.index-decls-n.is in
    let AreTo : List ℕ → Type 0 = λ ns. map Some ns ≡ map (λ (k : DeclTree). decl_number p k.name) (reacting-of event (take (n + 1) p.decls)) in
    elim c.if-reacts.branch [
      | then-reacts+in_ok-push w ↦
          subst AreTo (sym (w.numbers-is ∙ w.in_ok-push.ensures.ok))
          (reacts-more p (checked-differ p typed.checked) event n d at c.loop-n.numbers (sym c.reacts.ensures ∙ w.if-reacts.true) c.loop-n.invariant)
      | else-reacts w ↦
          subst AreTo (sym w.numbers-is) (stays-more p (checked-differ p typed.checked) event n d at c.loop-n.numbers (sym c.reacts.ensures ∙ w.if-reacts.false) c.loop-n.invariant)
    ]
