use Rattle.std.proofs.Common.{◌≡◌, ℕ, ◌&&◌, Bool, true, false, sym, ◌∙◌, arith}
use Rattle.std.proofs.lemmas.Bool.{and_from, and_left, and_right}
use Rattle.firmware_promises.specs.Firmware.{count_below, is_banked}
use Rattle.firmware_map.specs.Written.{is_written, program_of, used_by}
use Rattle.firmware_map.proofs.CellFacts.{count-most, count-none, count-step}
use Rattle.firmware_map.proofs.uses.Uses.banked_bytes.Goals as goal
use Rattle.firmware_map.proofs.uses.Uses.banked_bytes.Goals.{then-is_written+then-is_banked, else-is_written, else-is_written-via-then-is_written+else-is_banked, else-is_written-via-else-is_written}

pub loop-address-init : goal.loop-address-init
loop-address-init c = sym (count-none (λ a. is_written (program_of c.args.self.now) (used_by c.args.self.now) a && is_banked a))

pub overflow_add-count : goal.overflow_add-count
overflow_add-count c =
    let test : ℕ → Bool = λ a. is_written (program_of c.args.self.now) (used_by c.args.self.now) a && is_banked a in
    let most = count-most c.loop-address.address test in
    let is : c.loop-address.count ≡ count_below c.loop-address.address test = c.loop-address.invariant in
    let below = c.loop-address-test.true in
    omega (arith, most, is, below)

pub loop-address-preserved : goal.loop-address-preserved
loop-address-preserved c =
    let a = c.loop-address.address in
    let written : Bool = is_written (program_of c.args.self.now) (used_by c.args.self.now) a in
    let test : ℕ → Bool = λ a. is_written (program_of c.args.self.now) (used_by c.args.self.now) a && is_banked a in
    let is : c.loop-address.count ≡ count_below a test = c.loop-address.invariant in
    elim c.if-is_written.branch [
      | then-is_written+then-is_banked w ↦
          let more = w.count-is in
          count-step a test true c.loop-address.count c.if-is_written.count is
          (and_from written (is_banked a) (sym c.is_written.ensures ∙ w.if-is_written.true) (sym w.is_banked.ensures ∙ w.if-is_banked.true)) (omega (arith, more))
      | else-is_written w ↦
          let same = w.count-is in
          count-step a test false c.loop-address.count c.if-is_written.count is
          (elim w.else-is_written.branch [
            | else-is_written-via-then-is_written+else-is_banked v ↦ and_right written (is_banked a) (sym v.is_banked.ensures ∙ v.if-is_banked.false)
            | else-is_written-via-else-is_written v ↦ and_left written (is_banked a) (sym c.is_written.ensures ∙ v.if-is_written.false)
          ]) (omega (arith, same))
    ]
