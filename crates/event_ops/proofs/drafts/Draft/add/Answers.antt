use Rattle.std.proofs.Common.{◌++◌, List, ap, refl, ◌∙◌}
use Rattle.byte_ops.specs.declared.operations.Op.{Op}
use Rattle.event_ops.proofs.drafts.Draft.add.Goals as goal

pub returns : goal.returns
returns c t is =
    let lowers = c.in_ok-lowered.ensures.lowers t is in
    record {
      ops = c.in_ok-lowered.lowered.ops;
      lowers = lowers;
      goes_on = record {
        ops = c.in_ok-extend_from_slice.ensures.ok ∙ ap (λ (xs : List Op). c.args.self.now.ops ++ xs) c.as_slice.ensures;
        places = lowers.places;
        copies = refl;
        states = refl;
      };
    }
