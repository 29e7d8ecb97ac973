use Rattle.std.proofs.Common.{[], ◌∷◌, ◌++◌}
use Rattle.code_steps.specs.declared.banks.Bank.TheVariants.{Known}
use Rattle.scratch_commit.specs.Deeds.{Choose, LowerFlag}
use Rattle.scratch_commit.specs.Frames.{saving_context, saving_enables}
use Rattle.scratch_commit.specs.Masks.{masking}
use Rattle.scratch_commit.specs.Plans.{entering, starting}
use Rattle.scratch_commit.proofs.DeedLaws.{does_both, does_one, is_stretch}
use Rattle.scratch_commit.proofs.runs.start.Goals as goal

pub returns : goal.returns
returns c =
    let kind = c.args.run.now.kind in
    let source = c.args.run.now.source in
    let masks = c.args.terms.now.masks in
    let frame = c.args.terms.now.frame in
    let s0 = c.new-lines.result in
    let s1 = c.save_context.new.lines in
    let s2 = c.save_enables.new.lines in
    let s3 = c.mask.new.lines in
    let s4 = c.choose.new.self in
    let s5 = c.lower.new.self in
    is_stretch (Known 0) (starting kind source masks frame) s0 s5 c.new-lines.ensures.lines c.new-lines.ensures.bank
    (does_both s0 s4 s5 (entering kind masks frame) (LowerFlag source ∷ [])
    (does_both s0 s1 s4 (saving_context kind frame) (saving_enables frame ++ (masking masks ++ Choose 0 ∷ [])) c.in_ok-save_context.ensures
    (does_both s1 s2 s4 (saving_enables frame) (masking masks ++ Choose 0 ∷ []) c.in_ok-save_enables.ensures
    (does_both s2 s3 s4 (masking masks) (Choose 0 ∷ []) c.in_ok-mask.ensures (does_one s3 s4 (Choose 0) c.in_ok-choose.ensures))))
    (does_one s4 s5 (LowerFlag source) c.in_ok-lower.ensures))
