use Rattle.std.proofs.Common.{◌∙◌, arith, length-set}
use Rattle.pic_regs.specs.Start.{plain_start}
use Rattle.pic_regs.proofs.PowerFacts.{filled, filled-more, past-plain}
use Rattle.pic_regs.proofs.power.plain_bytes.Goals as goal

pub loop-address-preserved : goal.loop-address-preserved
loop-address-preserved c = record {
  length = length-set c.loop-address.plain c.from.result c.plain_byte.result ∙ c.loop-address.invariant.length;
  bytes = filled-more (plain_start c.args.start.now) c.loop-address.plain c.loop-address.address c.from.result c.plain_byte.result c.from.ensures (omega arith) c.plain_byte.ensures c.loop-address.invariant.bytes;
}

pub returns : goal.returns
returns c =
    filled (plain_start c.args.start.now) c.loop-address.plain 512 c.loop-address.invariant.length
    (λ k small. c.loop-address.invariant.bytes k (omega (arith, small))) (past-plain c.args.start.now)
