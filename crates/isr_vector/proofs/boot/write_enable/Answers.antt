use Rattle.std.proofs.Common.{true, false, sym, ◌∙◌}
use Rattle.isr_vector.proofs.BootFacts.{adds_none, enable_by}
use Rattle.isr_vector.proofs.boot.write_enable.Goals as goal

pub returns-in_ok-add : goal.returns-in_ok-add
returns-in_ok-add c = enable_by c.args.all.now c.args.bit true c.args.lines.now c.add.new.self (sym c.bit_is_set.ensures ∙ c.if-bit_is_set.true) c.in_ok-add.ensures

pub returns-else-bit_is_set : goal.returns-else-bit_is_set
returns-else-bit_is_set c =
    enable_by c.args.all.now c.args.bit false c.args.lines.now c.args.lines.now (sym c.bit_is_set.ensures ∙ c.if-bit_is_set.false) (adds_none c.args.lines.now)
