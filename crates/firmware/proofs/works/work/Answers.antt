use Rattle.std.proofs.Common.{◌+◌, ◌≤◌, arith}
use Rattle.std.proofs.lemmas.Result.{IfOk-weaker}
use Rattle.frp_tree.specs.Tree.{program_tree_of}
use Rattle.bank_alloc.specs.Needs.{bytes_of}
use Rattle.event_code.specs.Works.{IsWorkOf}
use Rattle.causality.proofs.CycleLaws.{checked-passes}
use Rattle.firmware.specs.Making.{IsWorkFor}
use Rattle.firmware.proofs.LookFacts.{no-looks}
use Rattle.firmware.proofs.WorkFacts.{can_be_coded, has_room}
use Rattle.firmware.proofs.works.work.Goals as goal

pub event_ops-requires-clause-no_look : goal.event_ops-requires-clause-no_look
event_ops-requires-clause-no_look c =
    no-looks (program_tree_of c.args.c.now.typed.program) c.requires.has_code.no_tables (checked-passes c.args.c.now).checked.names

pub event_ops-requires-clause-room : goal.event_ops-requires-clause-room
event_ops-requires-clause-room c =
    let need = c.args.places.now.need in
    let room = has_room (program_tree_of c.args.c.now.typed.program) need c.args.event c.requires.needs c.requires.event in
    let fits : bytes_of need ≤ 352 = c.args.places.now.fits in
    omega (arith, room, fits)

pub work_of-requires : goal.work_of-requires
work_of-requires c =
    can_be_coded (program_tree_of c.args.c.now.typed.program) c.args.places.now.need c.args.event c.in_ok-ops.ops c.requires.needs c.requires.event c.in_ok-ops.ensures

pub returns : goal.returns
returns c =
    let p = program_tree_of c.args.c.now.typed.program in
    let need = c.args.places.now.need in
    IfOk-weaker c.work_of.result (IsWorkOf need c.in_ok-ops.ops) (IsWorkFor p need c.args.event)
    (λ work is. record { ops = c.in_ok-ops.ops; works = c.in_ok-ops.ensures; is_work = is }) c.work_of.ensures
