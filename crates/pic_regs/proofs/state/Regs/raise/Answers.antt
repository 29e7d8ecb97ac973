use Rattle.std.proofs.Common.{◌<◌, subst, sym, ap, ◌∙◌}
use Rattle.pic_isa.specs.declared.sources.BitAt.{BitAt}
use Rattle.pic_regs.specs.FlagBits.{with_flag_at}
use Rattle.pic_regs.specs.State.{registers_of}
use Rattle.pic_regs.proofs.ArrivalLaws.{flag-raised, flag_bit-below}
use Rattle.pic_regs.proofs.state.Regs.raise.Goals as goal

pub set_flag_at-requires : goal.set_flag_at-requires
set_flag_at-requires c = subst (λ (at : BitAt). at.bit < 8) (sym c.flag.ensures) (flag_bit-below c.args.source)

pub returns : goal.returns
returns c = c.set_flag_at.ensures ∙ ap (λ at. with_flag_at at (registers_of c.args.self.now)) c.flag.ensures ∙ flag-raised c.args.source (registers_of c.args.self.now)
