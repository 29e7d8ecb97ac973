use Rattle.std.proofs.Common.{◌+◌, List, [], ◌∷◌, ◌++◌, ap, sym, subst, ◌∙◌}
use Rattle.std.proofs.lemmas.Result.{on_ok_weaker}
use Rattle.map_file.specs.declared.maps.Range.{Range}
use Rattle.firmware_map.specs.Ranges.{HoldBelow}
use Rattle.firmware_map.proofs.RangeFacts.{held-apart, held-grown}
use Rattle.firmware_map.proofs.ranges.add_address.Goals as goal

pub returns-then-last-address : goal.returns-then-last-address
returns-then-last-address c =
    let a = c.args.address in
    on_ok_weaker c.push_range-then-last-address.result
    (λ pushed test held passes.
    subst (HoldBelow (a + 1) test) (sym pushed)
    (held-grown test c.pop.new.self.items c.in-Some.last a c.requires.below c.if-last-address.true (subst (HoldBelow a test) c.in-Some.ensures.items held) passes))
    c.push_range-then-last-address.ensures

pub returns : goal.returns
returns c =
    let a = c.args.address in
    on_ok_weaker c.push_range-3.result
    (λ pushed test held passes.
    subst (HoldBelow (a + 1) test) (sym (pushed ∙ ap (λ (rs : List Range). rs ++ record { from = a; to = a } ∷ []) c.in_ok-push_range.ensures))
    (held-apart test c.pop.new.self.items c.in-Some.last a c.requires.below c.if-last-address.false (subst (HoldBelow a test) c.in-Some.ensures.items held) passes))
    c.push_range-3.ensures
