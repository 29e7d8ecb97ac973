use Rattle.std.proofs.Common.{[], ◌∷◌, ◌++◌}
use Rattle.std.proofs.lemmas.Result.{on_ok_weaker}
use Rattle.pic_isa.specs.declared.bits.TheConstants.{INTE, PEIE, T0IE}
use Rattle.pic_regs.specs.declared.places.Place.TheVariants as place
use Rattle.scratch_commit.specs.Deeds.{Change}
use Rattle.scratch_commit.specs.Masks.{mask_bit}
use Rattle.scratch_commit.proofs.DeedLaws.{does_both, does_one}
use Rattle.scratch_commit.proofs.masks.Masks.mask.Goals as goal

pub returns : goal.returns
returns c =
    let m = c.args.self.now in
    let first = Change place.Pie1 m.pie1.cleared m.pie1.own in
    let second = Change place.Pie2 m.pie2.cleared m.pie2.own in
    let s0 = c.args.lines.now in
    let s1 = c.mask_bit.new.lines in
    let s2 = c.mask_bit-2.new.lines in
    let s3 = c.mask_bit-3.new.lines in
    let s4 = c.change.new.self in
    let s5 = c.change-2.new.self in
    on_ok_weaker c.change-2.result
    (λ last. does_both s0 s1 s5 (mask_bit T0IE m.intcon) (mask_bit INTE m.intcon ++ (mask_bit PEIE m.intcon ++ (first ∷ second ∷ []))) c.in_ok-mask_bit.ensures
    (does_both s1 s2 s5 (mask_bit INTE m.intcon) (mask_bit PEIE m.intcon ++ (first ∷ second ∷ [])) c.in_ok-mask_bit-2.ensures
    (does_both s2 s3 s5 (mask_bit PEIE m.intcon) (first ∷ second ∷ []) c.in_ok-mask_bit-3.ensures
    (does_both s3 s4 s5 (first ∷ []) (second ∷ []) (does_one s3 s4 first c.in_ok-change.ensures) (does_one s4 s5 second last)))))
    c.change-2.ensures
