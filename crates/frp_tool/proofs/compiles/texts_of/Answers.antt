use Rattle.std.proofs.Common.{◌∙◌, subst, sym, refl}
use Rattle.map_file.specs.MapText.{map_text}
use Rattle.firmware_promises.specs.Firmware.{IsFirmware}
use Rattle.core_steps.specs.Scheduled.{IsScheduled}
use Rattle.frp_tree.specs.Tree.{program_tree_of}
use Rattle.frp_tool.proofs.SummaryFacts.{summary_same}
use Rattle.frp_tool.proofs.compiles.texts_of.Goals as goal

pub returns : goal.returns
returns c =
    let p = program_tree_of c.args.c.now.typed.program in
    let m = c.args.built.now.map in
    let bounds = c.in_ok-bounds.ensures in (
      m,
      c.in_ok-write-2.ensures,
      subst (λ hex. IsFirmware p hex (map_text m)) (sym c.in_ok-write.ensures) c.requires.firmware,
      subst (λ hex. IsScheduled p hex (map_text m)) (sym c.in_ok-write.ensures) c.requires.scheduled,
      c.requires.reported,
      c.in_ok-summary_line.ensures ∙ summary_same m m _ _ _ _ _ _ refl bounds.words bounds.ram bounds.settle,
      c.requires.buildable,
    )
