use Rattle.std.specs.Prelude.{◌+◌, ◌<◌, bit_or, length}
use Rattle.std.proofs.Common.{arith, sym, ap, subst, ◌∙◌, get_or}
use Rattle.pic_isa.specs.declared.sources.Source.TheVariants.{T0}
use Rattle.pic_isa.specs.declared.sources.BitAt.{BitAt}
use Rattle.priority_masks.proofs.EnableFacts.{HasEnablesOf, kept, added}
use Rattle.priority_masks.proofs.tables.Levels.enables_in.Goals as goal
use Rattle.priority_masks.proofs.tables.Levels.enables_in.Goals.{then-is_above+then-enable-from, else-is_above, else-is_above-via-then-is_above+else-enable-from, else-is_above-via-else-is_above}

pub loop-event-preserved : goal.loop-event-preserved
loop-event-preserved c =
    λ p are.
    let l = c.args.self.now in
    let n = c.loop-event.event in
    let s = get_or l.sources n T0 in
    let level = c.args.level in
    let register = c.args.register in
    let byte = c.loop-event.byte in
    let test = c.loop-event-test.true in
    let events = are.events in
    let inside : n < length p.events = omega (arith, test, events) in
    let own = are.sources n inside in
    let its = c.level.ensures p are in
    let before = c.loop-event.invariant p are in
    let Next = HasEnablesOf p level register (n + 1) in
    elim c.if-is_above.branch [
      | then-is_above+then-enable-from w ↦
          let there = ap (λ (b : BitAt). b.address) (sym w.enable.ensures) ∙ w.if-enable-from.true ∙ w.from.ensures in
          subst Next (sym (w.byte-is ∙ ap (bit_or byte) w.enable_bit-byte.ensures)) (added p level register n byte s own (subst (λ k. level < k) its w.if-is_above.true) there before)
      | else-is_above w ↦
          subst Next (sym w.byte-is)
          (elim w.else-is_above.branch [
            | else-is_above-via-then-is_above+else-enable-from v ↦
                kept p level register n byte s own (λ above same. v.if-enable-from.false (ap (λ (b : BitAt). b.address) v.enable.ensures ∙ same ∙ sym v.from.ensures)) before
            | else-is_above-via-else-is_above v ↦ let not = v.if-is_above.false in kept p level register n byte s own (λ above same. absurd (omega (arith, not, above, its))) before
          ])
    ]
