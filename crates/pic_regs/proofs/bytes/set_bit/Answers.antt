use Rattle.std.proofs.Common.{ap, sym, ◌∙◌}
use Rattle.pic_regs.specs.Bytes.{bits, with_bit}
use Rattle.pic_regs.proofs.BitLaws.{pick-set, pick-clear}
use Rattle.pic_regs.proofs.bytes.set_bit.Goals as goal

pub returns-then-value : goal.returns-then-value
returns-then-value c =
    c.select.ensures ∙ pick-set c.args.number (bits c.args.byte) c.requires
    ∙ ap (λ v. with_bit c.args.number v (bits c.args.byte)) (sym c.if-value.true)

pub returns-else-value : goal.returns-else-value
returns-else-value c =
    c.select-else-value.ensures ∙ pick-clear c.args.number (bits c.args.byte) c.requires
    ∙ ap (λ v. with_bit c.args.number v (bits c.args.byte)) (sym c.if-value.false)
