use Rattle.std.specs.Prelude.{◌≡◌, ◌++◌, ◌∷◌, [], true}
use Rattle.std.specs.List.{flat_map, range_with_len}
use Rattle.std.proofs.Common.{List, ℕ, sym, ap, subst, zero-add, ◌∙◌}
use Rattle.frp_tree.specs.Tree.{program_tree_of}
use Rattle.two_phase.specs.Assigned.{assigned}
use Rattle.two_phase.proofs.AddFacts.{range-more, rows-more}
use Rattle.two_phase.proofs.planning.assign_states.Goals as goal

pub loop-decl-preserved : goal.loop-decl-preserved
loop-decl-preserved c =
    let p = program_tree_of c.args.typed.now.program in
    let event = c.args.event.now in
    let n = c.loop-decl.decl in
    subst (λ (ns : List ℕ). c.assign.new.work ≡ c.args.work.now ++ flat_map (assigned p event true) ns) (sym (range-more 0 n ∙ ap (λ (k : ℕ). range_with_len 0 n ++ k ∷ []) (zero-add n)))
    (rows-more (assigned p event true) c.args.work.now c.loop-decl.work c.assign.new.work (range_with_len 0 n) n c.loop-decl.invariant c.in_ok-assign.ensures)
