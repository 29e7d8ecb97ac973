use Rattle.std.proofs.Common.{◌≡◌, ℕ, List, max, length, sym, ap, subst, ◌∙◌}
use Rattle.std.proofs.lemmas.Result.{IfOk-weaker}
use Rattle.efrp_meaning.specs.Bounds.{state_bytes}
use Rattle.pic_isa.specs.declared.sources.Source.{Source}
use Rattle.scratch_commit.specs.declared.frames.Frame.{Frame}
use Rattle.firmware_map.specs.Maps.{IsMapOf, made_of}
use Rattle.firmware_map.specs.Written.{Used}
use Rattle.firmware_layout.specs.Codes.{makings_of, program_in}
use Rattle.firmware_written.specs.Written.{IsMapped}
use Rattle.firmware.specs.Making.{AreFrames}
use Rattle.firmware.proofs.MadeFacts.{are_parts}
use Rattle.firmware.proofs.MapFacts.{cells_of, cells_within, is_mapped, states_within}
use Rattle.firmware.proofs.making.map_in.Goals as goal

pub frames-requires : goal.frames-requires
frames-requires c = are_parts c.args.parts.now c.requires.parts

pub map_of-requires : goal.map_of-requires
map_of-requires c =
    let parts = c.args.parts.now in
    let cells = c.most_cells.ensures ∙ ap (λ n. max n (cells_of parts.works.now)) c.requires.bounds.states in
    record {
      cells = record {
        states = states_within parts c.requires.parts c.most_cells.result cells;
        placed = cells_within parts c.requires.parts c.most_cells.result cells;
      };
    }

pub returns : goal.returns
returns c =
    let parts = c.args.parts.now in
    let cells = c.most_cells.ensures ∙ ap (λ n. max n (cells_of parts.works.now)) c.requires.bounds.states in
    let frames = c.as_slice.result.now in
    let used : Used = record { need = parts.places.now.need; frames = frames; cells = c.most_cells.result; pages = c.args.spread.pages } in
    IfOk-weaker c.map_of.result (IsMapOf (program_in parts) used (made_of c.as_slice-marks.result.now c.len-words.result c.report_of-report.result.depth c.report_of-report.result.settle))
    (λ m. (source : ℕ → Source) → IsMapped (makings_of parts c.args.spread source) c.args.laid.now m)
    (λ m its source.
    let are = subst (AreFrames (makings_of parts c.args.spread source)) (sym c.as_slice.ensures.value) (c.in_ok-frames.ensures source) in
    is_mapped parts c.requires.parts c.most_cells.result cells c.args.spread source frames c.args.laid.now m
    c.as_slice-marks.result.now c.len-words.result c.report_of-report.result.depth c.report_of-report.result.settle are c.as_slice-marks.ensures c.len-words.ensures
    (c.report_of-report.ensures.depth (program_in parts) c.requires.parts.levels) (c.report_of-report.ensures.settle (program_in parts) c.requires.bounds) its)
    c.map_of.ensures
