use Rattle.std.proofs.Common.{ℕ, ◌+◌, Bool, ap, sym, subst, ◌∙◌}
use Rattle.firmware_map.specs.Ranges.{HoldBelow}
use Rattle.firmware_map.specs.Written.{is_written, program_of, used_by}
use Rattle.firmware_map.proofs.RangeFacts.{held-without}
use Rattle.firmware_map.proofs.uses.Uses.ranges.Goals as goal
use Rattle.firmware_map.proofs.uses.Uses.ranges.Goals.{then-is_written+in_ok-add_address, else-is_written}

pub loop-address-preserved : goal.loop-address-preserved
loop-address-preserved c =
    let a = c.loop-address.address in
    let test : ℕ → Bool = λ k. is_written (program_of c.args.self.now) (used_by c.args.self.now) k in
    elim c.if-is_written.branch [
      | then-is_written+in_ok-add_address w ↦
          subst (HoldBelow (a + 1) test) (sym (ap (λ v. v.items) w.ranges-is))
          (w.in_ok-add_address.ensures test c.loop-address.invariant (sym c.is_written.ensures ∙ w.if-is_written.true))
      | else-is_written w ↦
          subst (HoldBelow (a + 1) test) (sym (ap (λ v. v.items) w.ranges-is))
          (held-without test c.loop-address.ranges.items a c.loop-address.invariant (sym c.is_written.ensures ∙ w.if-is_written.false))
    ]
