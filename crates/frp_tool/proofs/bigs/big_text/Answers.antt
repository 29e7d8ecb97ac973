use Rattle.std.proofs.Common.{◌∙◌, ap}
use Rattle.large_run.specs.Tallies.{script_of, steps_of}
use Rattle.frp_tool.proofs.BigTextFacts.{big_written}
use Rattle.frp_tool.proofs.bigs.big_text.Goals as goal

pub returns : goal.returns
returns c =
    let n = c.args.number in
    let built = c.args.built.now in
    let ran = c.in_ok-ran.ensures in
    big_written n built.map built.image (script_of n built.map) (steps_of n built.map) c.in_ok-ran.ran.tally _ _ _ _ ran.tally (c.regs.ensures ∙ ap (λ chip. chip.regs) ran.chip) c.new-text.ensures.bytes
    c.in_ok-add_tally.ensures c.in_ok-end_with_states.ensures
