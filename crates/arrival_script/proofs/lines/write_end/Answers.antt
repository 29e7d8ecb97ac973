use Rattle.pic_regs.specs.State.{registers_of}
use Rattle.arrival_script.proofs.TraceFacts.{on_ok, end-written}
use Rattle.arrival_script.proofs.lines.write_end.Goals as goal

pub returns : goal.returns
returns c = on_ok c.end_with_states.result (end-written c.args.map.now c.args.steps c.args.deepest (registers_of c.args.regs.now) _ _ _ c.in_ok-begin_end.ensures) c.end_with_states.ensures
