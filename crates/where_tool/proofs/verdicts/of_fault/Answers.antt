use Rattle.std.proofs.Common.{refl, sym, ◌∙◌}
use Rattle.std.proofs.lemmas.Bool.{false≢true}
use Rattle.checked_source.specs.Readings.{Reading}
use Rattle.where_tool.specs.PointParts.{PointsFor}
use Rattle.where_tool.specs.Verdicts.{Another, Fits, Pointed}
use Rattle.where_tool.proofs.PointFacts.{ok-map}
use Rattle.where_tool.proofs.PointLaws.{point-within}
use Rattle.where_tool.proofs.VerdictFacts.{read-fault, at-some}
use Rattle.where_tool.proofs.verdicts.of_fault.Goals as goal

pub returns-then-not-is_it : goal.returns-then-not-is_it
returns-then-not-is_it c =
    let (reading, of, line) = c.in_ok-line.ensures in
    let (read, refused) = read-fault c.args.text.now c.args.fault.now reading of c.requires in
    let unfit : Fits (record { source = c.args.source.now; line = c.args.given.now }) c.as_str-shown.result.now → ⊥ = λ fits. false≢true (sym c.if-not-is_it.true ∙ c.in_ok-is_it.ensures.1 fits) in
    ok-map _ _ c.another.result (λ told verdict. (Another c.as_str-shown.result.now, (reading, read, refused, c.as_str-shown.ensures.value ∙ line, unfit), verdict)) c.another.ensures

pub report-requires : goal.report-requires
report-requires c =
    let (reading, of, line) = c.in_ok-line.ensures in
    let (read, refused) = read-fault c.args.text.now c.args.fault.now reading of c.requires in
    let points = at-some (λ (r : Reading). PointsFor c.args.text.now r c.in_ok-point.point) _ reading of c.in_ok-point.ensures in
    point-within c.args.text.now reading _ _ read.0 points

pub returns : goal.returns
returns c =
    let (reading, of, line) = c.in_ok-line.ensures in
    let (read, refused) = read-fault c.args.text.now c.args.fault.now reading of c.requires in
    let points = at-some (λ (r : Reading). PointsFor c.args.text.now r c.in_ok-point.point) _ reading of c.in_ok-point.ensures in
    let fits = c.in_ok-is_it.ensures.0 c.if-not-is_it.false ∙ c.as_str-shown.ensures.value ∙ line in
    (Pointed c.in_ok-bytes.bytes, (reading, _, _, read, fits, points, c.in_ok-bytes.ensures), record { status = refl; bytes = refl })
