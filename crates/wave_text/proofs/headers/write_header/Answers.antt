use Rattle.std.proofs.Common.{codes, string_bytes}
use Rattle.std.specs.List.{flat_map}
use Rattle.wave_text.specs.Waves.{epilogue, event_vars, port_var, preface, scope_line, state_var, upscope_line}
use Rattle.wave_text.proofs.TextFacts.{on_ok, pushed, ten}
use Rattle.wave_text.proofs.headers.write_header.Goals as goal

pub returns : goal.returns
returns c =
    let m = c.args.map.now in
    on_ok c.push_str-2.result
    (λ written. ten _ preface (scope_line (codes "events")) (flat_map event_vars m.events) upscope_line (scope_line (codes "ports")) (flat_map port_var m.outputs) upscope_line
    (scope_line (codes "states")) (flat_map state_var m.states) epilogue _ _ _ _ _ _ _ _ _ _
    c.in_ok-push_str.ensures.bytes c.in_ok-write_scope.ensures (rw c.as_slice.ensures at c.in_ok-write_events.ensures) c.in_ok-write_upscope.ensures c.in_ok-write_scope-2.ensures
    (rw c.as_slice-2.ensures at c.in_ok-write_ports.ensures) c.in_ok-write_upscope-2.ensures c.in_ok-write_scope-3.ensures (rw c.as_slice-3.ensures at c.in_ok-write_states.ensures) written)
    (pushed c.push_str-2.result (string_bytes c.write_states.new.text) epilogue (string_bytes c.push_str-2.new.self) c.push_str-2.ensures.bytes)
