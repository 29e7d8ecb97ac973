use Rattle.std.proofs.Common.{[], ◌∷◌, ◌++◌, ◌+◌, ap, codes, length, refl, ◌∙◌}
use Rattle.where_tool.specs.Spots.{margin, report_of, shown}
use Rattle.where_tool.proofs.LineFacts.{report-whole}
use Rattle.where_tool.proofs.reports.report.Goals as goal

pub returns : goal.returns
returns c =
    let spot = c.spot_of-spot.result in
    let begun = c.in_ok-extend_from_slice.ensures.ok ∙ ap (λ r. r ++ c.as_bytes.result.now) c.new-report.ensures in
    let front = c.in_ok-add_shown.ensures ∙ ap (λ r. r ++ shown spot.front.now) begun in
    let line = c.in_ok-add_shown-2.ensures ∙ ap (λ r. r ++ shown spot.back.now) front in
    let ended = c.in_ok-push.ensures.ok ∙ ap (λ r. r ++ 10 ∷ []) line in
    let below = c.in_ok-add_margin.ensures ∙ ap (λ r. r ++ margin spot.front.now) ended in
    let whole = c.in_ok-extend_from_slice-2.ensures.ok ∙ ap (λ r. r ++ codes "^\n") below in
    record {
      line = spot.line;
      front = spot.front.now;
      back = spot.back.now;
      spot = c.spot_of-spot.ensures;
      whole =
          whole ∙ report-whole c.args.name.now c.as_str.result.now c.as_bytes.result.now spot.front.now spot.back.now spot.line (length spot.front.now + 1) refl (c.as_bytes.ensures.value ∙ c.in_ok-head.ensures)
          ∙ ap (λ message. report_of c.args.name.now spot.line spot.front.now spot.back.now message) c.as_str.ensures.value;
    }
