use Rattle.std.proofs.Common.{◌<◌, ◌^◌, arith, ap}
use Rattle.std.specs.Prelude.{not}
use Rattle.glue_parts.proofs.HeardFacts.{heard}
use Rattle.glue_parts.proofs.heard.heard_at.Goals as goal

pub returns : goal.returns
returns c = λ p are.
    let its = c.enables-above.ensures p are in
    heard p c.args.level c.enables-above.result.intcon c.enables-above.result.pie1 c.enables-above.result.pie2 c.either.result c.set_bit.result
    (not c.has_no_bit-peripheral.result) (omega arith) (omega arith) (omega arith) (omega arith) (omega arith) c.either.ensures (ap not c.has_no_bit-peripheral.ensures) c.set_bit.ensures its.intcon its.pie1 its.pie2
