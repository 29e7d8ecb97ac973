use Rattle.std.proofs.lemmas.Result.{err_from_is_err_and}
use Rattle.run_inputs.specs.RunFaults.{RunRequest}
use Rattle.run_inputs.proofs.RunStepLaws.{first_halts, second_halts, third_halts}
use Rattle.run_inputs.proofs.inputs.read_inputs.Goals as goal

pub returns-in_err-input-clause-gives : goal.returns-in_err-input-clause-gives
returns-in_err-input-clause-gives g c =
    let r : RunRequest = record { hex = c.args.hex.now; map = c.args.map.now; script = c.args.script.now } in
    let p = err_from_is_err_and c.from_residual.result c.from_residual.ensures.1 in
    rw (p.1, p.2) (first_halts r (g.F.Files.seen c.args.files.now) (g.F.Files.seen c.input.new.files) _ c.in_err-input.ensures.gives)

pub returns-in_err-input-2-clause-gives : goal.returns-in_err-input-2-clause-gives
returns-in_err-input-2-clause-gives g c =
    let r : RunRequest = record { hex = c.args.hex.now; map = c.args.map.now; script = c.args.script.now } in
    let p = err_from_is_err_and c.from_residual-in_err-input-2.result c.from_residual-in_err-input-2.ensures.1 in
    let first = c.in_ok-input.ensures in
    rw (p.1, p.2) (second_halts r (g.F.Files.seen c.args.files.now) (g.F.Files.seen c.input.new.files) (g.F.Files.seen c.input-2.new.files) _ c.in_ok-input.field-0 first.unchanged first.read_count first.gives c.in_err-input-2.ensures.gives)

pub returns-in_err-input-3-clause-gives : goal.returns-in_err-input-3-clause-gives
returns-in_err-input-3-clause-gives g c =
    let r : RunRequest = record { hex = c.args.hex.now; map = c.args.map.now; script = c.args.script.now } in
    let p = err_from_is_err_and c.from_residual-in_err-input-3.result c.from_residual-in_err-input-3.ensures.1 in
    let first = c.in_ok-input.ensures in
    let second = c.in_ok-input-2.ensures in
    rw (p.1, p.2) (third_halts r (g.F.Files.seen c.args.files.now) (g.F.Files.seen c.input.new.files) (g.F.Files.seen c.input-2.new.files) (g.F.Files.seen c.input-3.new.files) _ c.in_ok-input.field-0 c.in_ok-input-2.field-0 first.unchanged second.unchanged first.read_count second.read_count first.gives second.gives c.in_err-input-3.ensures.gives)
