use Rattle.std.proofs.Common.{[], ◌∷◌, codes}
use Rattle.std.specs.List.{flat_map}
use Rattle.text_parts.specs.Digits.{hex4}
use Rattle.map_file.specs.MapText.{line, event_line, state_line, output_line, sample_line, range_line, report_line}
use Rattle.map_file.proofs.LineFacts.{eight_parts}
use Rattle.map_file.proofs.writer.write.Goals as goal

pub returns : goal.returns
returns c =
    let map = c.args.map.now in
    simp (
      c.from_vec.ensures,
      c.into_bytes.ensures.value,
      c.in_ok-write_report.ensures,
      c.in_ok-write_ranges.ensures,
      c.in_ok-write_ready.ensures,
      c.in_ok-write_samples.ensures,
      c.in_ok-write_outputs.ensures,
      c.in_ok-write_states.ensures,
      c.in_ok-write_events.ensures,
      c.in_ok-writeln.ensures.bytes,
      c.new-text.ensures.bytes,
      c.as_slice.ensures,
      c.as_slice-2.ensures,
      c.as_slice-3.ensures,
      c.as_slice-4.ensures,
      c.as_slice-5.ensures,
    ) (eight_parts (codes "efrp map 1\n") (flat_map event_line map.events) (flat_map state_line map.states) (flat_map output_line map.outputs) (flat_map sample_line map.samples)
    (line (codes "ready" ∷ hex4 map.ready ∷ [])) (flat_map range_line map.regs) (report_line map))
