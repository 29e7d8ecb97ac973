use Rattle.std.proofs.Common.{sym, ◌∙◌}
use Rattle.std.proofs.lemmas.Slice.Eq.{bytes_eq-Decides}
use Rattle.where_tool.proofs.verdicts.fits.Goals as goal

pub returns : goal.returns
returns c =
    let same = c.as_str.ensures.value ∙ c.in_ok-given.ensures in
    let decides = bytes_eq-Decides c.as_str.result.now c.args.line.now in
    (λ yes. sym same ∙ decides.0 (sym c.eq.ensures ∙ yes), λ is. c.eq.ensures ∙ decides.1 (same ∙ is))
