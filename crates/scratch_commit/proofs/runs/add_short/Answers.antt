use Rattle.std.proofs.Common.{[], ◌∷◌, ◌++◌, ap, append_assoc, map, ◌∙◌}
use Rattle.glue_steps.specs.Lines.{item_of}
use Rattle.scratch_commit.specs.Deeds.{LowerFlag}
use Rattle.scratch_commit.specs.Plans.{glue}
use Rattle.scratch_commit.proofs.DeedLaws.{does_one, is_stretch}
use Rattle.scratch_commit.proofs.NameFacts.{instructions_raised}
use Rattle.scratch_commit.proofs.runs.add_short.Goals as goal

pub returns-clause-items : goal.returns-clause-items
returns-clause-items c =
    let old = c.args.code.now.items in
    let source = c.args.run.now.source in
    let work = c.args.run.now.work.now.code.items in
    let bank = c.args.run.now.work.now.bank in
    let its = is_stretch bank (LowerFlag source ∷ []) c.new-flag.result c.lower.new.self c.new-flag.ensures.lines c.new-flag.ensures.bank
    (does_one c.new-flag.result c.lower.new.self (LowerFlag source) c.in_ok-lower.ensures) in
    c.in_ok-add_lines.ensures.ok
    ∙ ap (λ items. items ++ map item_of c.deref.result.now) c.in_ok-append.ensures.ok
    ∙ (λ j. (old ++ instructions_raised work c.requires j) ++ map item_of ((c.deref.ensures.value ∙ its.lines) j))
    ∙ append_assoc old work (glue bank (LowerFlag source ∷ []))
