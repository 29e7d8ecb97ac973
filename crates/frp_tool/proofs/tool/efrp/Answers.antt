use Rattle.command_parts.specs.Outsides.{Outside}
use Rattle.frp_tool.specs.Requests.{request_of}
use Rattle.frp_tool.proofs.PromiseLaws.{compile_keeps, run_keeps, none_keeps, check_keeps, model_keeps, big_keeps}
use Rattle.frp_tool.proofs.tool.efrp.Goals as goal
use Rattle.frp_tool.proofs.tool.efrp.Goals.{in-Some-Compile, in-Some-Run, in-Some-Check, in-Some-Model, in-Some-Big, in-None}

pub returns : goal.returns
returns g c =
    let before : Outside = record { files = g.F.Files.seen c.args.files.now; out = g.S.Sink.seen c.args.out.now } in
    let words = request_of c.args.words.now in
    let out = g.S.Sink.seen c.finish.new.out in
    elim c.match-request_in.branch [
      | in-Some-Compile w ↦
          rw w.files-is
          (compile_keeps words before out c.finish.result w.compile-work.result (rw (w.out-is, w.work-is) at c.finish.ensures) w.in-Some-Compile.source.now w.in-Some-Compile.hex.now w.in-Some-Compile.map.now
          (g.F.Files.seen w.compile-work.new.files) (rw w.in-Some-Compile.field-0-is at w.in-Some-Compile.ensures.is) w.compile-work.ensures)
      | in-Some-Run w ↦
          rw w.files-is
          (run_keeps words before (record { files = g.F.Files.seen w.run-work.new.files; out = g.S.Sink.seen w.run-work.new.out }) out c.finish.result w.run-work.result (rw (w.out-is, w.work-is) at c.finish.ensures)
          w.in-Some-Run.hex.now w.in-Some-Run.map.now w.in-Some-Run.script.now (rw w.in-Some-Run.field-0-is at w.in-Some-Run.ensures.is) w.run-work.ensures.count w.run-work.ensures.works)
      | in-Some-Check w ↦
          rw w.files-is
          (check_keeps words before out c.finish.result w.check-work.result (rw (w.out-is, w.work-is) at c.finish.ensures) w.in-Some-Check.source.now (g.F.Files.seen w.check-work.new.files)
          (rw w.in-Some-Check.field-0-is at w.in-Some-Check.ensures.is) w.check-work.ensures.unchanged w.check-work.ensures.works)
      | in-Some-Model w ↦
          rw w.files-is
          (model_keeps words before out c.finish.result w.model-work.result (rw (w.out-is, w.work-is) at c.finish.ensures) w.in-Some-Model.source.now w.in-Some-Model.events.now (g.F.Files.seen w.model-work.new.files)
          (rw w.in-Some-Model.field-0-is at w.in-Some-Model.ensures.is) w.model-work.ensures.unchanged w.model-work.ensures.works)
      | in-Some-Big w ↦
          rw w.files-is
          (big_keeps words before out c.finish.result w.big-work.result (rw (w.out-is, w.work-is) at c.finish.ensures) w.in-Some-Big.number w.in-Some-Big.hex.now w.in-Some-Big.map.now
          (g.F.Files.seen w.big-work.new.files) (rw w.in-Some-Big.field-0-is at w.in-Some-Big.ensures.is) w.big-work.ensures)
      | in-None w ↦
          rw w.files-is
          (none_keeps words before out c.finish.result w.explain-work.result (rw (w.out-is, w.work-is) at c.finish.ensures) w.in-None.ensures.is w.explain-work.ensures)
    ]
