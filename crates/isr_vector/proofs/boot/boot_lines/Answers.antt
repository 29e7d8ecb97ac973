use Rattle.std.proofs.Common.{ap, arith, length, subst, sym, ◌<◌, ◌∙◌}
use Rattle.std.specs.List.{AllByRecursion}
use Rattle.frp_tree.specs.declared.syntax.Program.{Program}
use Rattle.frp_tree.specs.declared.syntax.Setup.{Setup}
use Rattle.frp_tree.specs.Tree.{program_tree_of}
use Rattle.efrp_types.specs.declared.typed.Typed.{Typed}
use Rattle.efrp_types.proofs.TypedLaws.{no-fault-is-typed}
use Rattle.isr_vector.specs.Booting.{filled}
use Rattle.isr_vector.proofs.BootFacts.{boot_added}
use Rattle.isr_vector.proofs.StateLaws.{first-length}
use Rattle.isr_vector.proofs.boot.boot_lines.Goals as goal

pub write_states-requires : goal.write_states-requires
write_states-requires c =
    let typed = c.args.c.now.typed in
    let p = program_tree_of typed.program in
    let count = first-length p (no-fault-is-typed p typed.formed typed.checked.names typed.checked.types).0 in
    let placed = c.requires.placed in
    let same = ap length (c.deref.ensures.value ∙ c.in_ok-bytes.ensures) in
    omega (arith, count, placed, same)

pub write_setups-requires : goal.write_setups-requires
write_setups-requires c =
    let typed = c.args.c.now.typed in
    let p = program_tree_of typed.program in
    subst (AllByRecursion (λ (s : Setup). s.byte < 256)) (sym (c.as_slice.ensures ∙ ap (λ (q : Program). q.setups) (c.program.ensures ∙ ap (λ (t : Typed). t.program) c.typed.ensures)))
    (no-fault-is-typed p typed.formed typed.checked.names typed.checked.types).1

pub returns : goal.returns
returns c =
    let p = program_tree_of c.args.c.now.typed.program in
    let enables = c.heard_at.result in (
      enables,
      c.heard_at.ensures p c.requires.levels,
      c.in_ok-fill_up.ensures
          ∙ ap filled
          (boot_added p c.args.places.now.need enables c.deref.result.now c.as_slice.result.now c.new-lines.result c.write_states.new.lines c.write_setups.new.lines c.write_enables.new.lines
          c.new-lines.ensures.lines c.new-lines.ensures.bank (c.deref.ensures.value ∙ c.in_ok-bytes.ensures)
          (c.as_slice.ensures ∙ ap (λ (q : Program). q.setups) (c.program.ensures ∙ ap (λ (t : Typed). t.program) c.typed.ensures))
          c.in_ok-write_states.ensures c.in_ok-write_setups.ensures c.in_ok-write_enables.ensures),
    )
