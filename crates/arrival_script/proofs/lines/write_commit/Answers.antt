use Rattle.std.proofs.Common.{[], ◌∷◌, ◌++◌, cond, codes, string_bytes, sym, ap, ◌∙◌}
use Rattle.pic_regs.specs.State.{registers_of}
use Rattle.arrival_script.specs.Trace.{step_line, state_fields}
use Rattle.arrival_script.proofs.TraceFacts.{on_ok, commit-written}
use Rattle.arrival_script.proofs.lines.write_commit.Goals as goal

pub returns : goal.returns
returns c =
    let regs = registers_of c.args.regs.now in
    let text = step_line c.args.step (codes "commit" ∷ c.args.event.now.name ∷ state_fields c.args.map.now regs) in
    on_ok c.end_with_states.result
    (λ written.
    commit-written c.args.map.now c.args.step regs c.args.event.now.name _ _ _ c.in_ok-begin_commit.ensures written
    ∙ ap (λ b. string_bytes c.args.text.now ++ cond b text []) (sym c.if-not-is_run_at.false ∙ c.is_run_at.ensures))
    c.end_with_states.ensures
