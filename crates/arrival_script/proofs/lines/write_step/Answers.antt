use Rattle.std.proofs.Common.{◌≡◌, ◌++◌, ◌%◌, string_bytes, sym, ap, ◌∙◌, arith}
use Rattle.std.specs.List.{flat_map}
use Rattle.pic_regs.specs.Bytes.{num}
use Rattle.pic_regs.proofs.ByteLaws.{num-bits}
use Rattle.pic_machine.specs.State.{chip_of}
use Rattle.arrival_script.specs.Trace.{sample_line, open_line, commit_line}
use Rattle.arrival_script.proofs.TraceFacts.{on_ok, step-written}
use Rattle.arrival_script.proofs.lines.write_step.Goals as goal

pub returns : goal.returns
returns c = λ told report chip.
    let samples = c.in_ok-write_samples.ensures ∙ ap (λ samples. string_bytes c.write_take.new.text ++ flat_map (sample_line c.args.step c.args.report.now.did c.w.result) samples) c.as_slice.ensures in
    let opens = c.in_ok-write_opens.ensures ∙ ap (λ events. string_bytes c.write_samples.new.text ++ flat_map (open_line c.args.step c.args.report.now.did) events) c.as_slice-2.ensures in
    let w : c.w.result ≡ num (chip_of c.args.chip.now).w = let small : c.w.result % 256 ≡ c.w.result = omega arith in sym (num-bits c.w.result ∙ small) ∙ ap num c.w.ensures in
    on_ok c.write_commits.result
    (λ written. step-written c.args.map.now c.args.step told c.args.report.now (chip_of c.args.chip.now) c.w.result _ _ _ _ _ _ _ report chip w
    c.in_ok-write_arrivals.ensures c.in_ok-write_take.ensures samples opens c.in_ok-write_port.ensures
    (written ∙ ap (λ r. string_bytes c.write_port.new.text ++ flat_map (commit_line c.args.map.now c.args.step c.args.report.now.did r) c.args.map.now.events) c.regs.ensures))
    c.write_commits.ensures
