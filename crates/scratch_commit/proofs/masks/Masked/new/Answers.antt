use Rattle.std.proofs.Common.{ap, arith}
use Rattle.pic_regs.proofs.BitLaws.{num_of}
use Rattle.scratch_commit.proofs.masks.Masked.new.Goals as goal

pub returns : goal.returns
returns c = ap (λ n. record { cleared = n; own = c.args.own; beneath = c.args.beneath }) (num_of c.differing.result _ (omega arith) c.differing.ensures)
