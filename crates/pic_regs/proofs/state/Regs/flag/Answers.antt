use Rattle.std.proofs.Common.{◌<◌, subst, sym, ap, ◌∙◌}
use Rattle.pic_isa.specs.declared.sources.BitAt.{BitAt}
use Rattle.pic_regs.specs.Bytes.{bit}
use Rattle.pic_regs.specs.FlagBits.{flags_at}
use Rattle.pic_regs.specs.State.{registers_of}
use Rattle.pic_regs.proofs.ArrivalLaws.{flag-at, flag_bit-below}
use Rattle.pic_regs.proofs.state.Regs.flag.Goals as goal

pub bit_is_set-requires : goal.bit_is_set-requires
bit_is_set-requires c = subst (λ (at : BitAt). at.bit < 8) (sym c.flag-at.ensures) (flag_bit-below c.args.source)

pub returns : goal.returns
returns c =
    c.bit_is_set.ensures ∙ ap (bit c.flag-at.result.bit) c.flags_at.ensures
    ∙ ap (λ (at : BitAt). bit at.bit (flags_at at.address (registers_of c.args.self.now))) c.flag-at.ensures ∙ flag-at c.args.source (registers_of c.args.self.now)
