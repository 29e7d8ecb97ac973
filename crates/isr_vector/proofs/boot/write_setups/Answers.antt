use Rattle.std.proofs.Common.{ap, sym, ◌∙◌}
use Rattle.pic_isa.specs.Names.{register_at}
use Rattle.isr_vector.specs.Booting.{setup_writes}
use Rattle.isr_vector.proofs.BootFacts.{no_setup, one_setup}
use Rattle.isr_vector.proofs.boot.write_setups.Goals as goal
use Rattle.isr_vector.proofs.boot.write_setups.Goals.{in-Some+in_ok-write, in_default}

pub loop-setup-preserved : goal.loop-setup-preserved
loop-setup-preserved c =
    elim c.match-register_named.branch [
      | in-Some+in_ok-write w ↦
          one_setup c.args.setups.now c.loop-setup.setup-index w.in-Some.address c.setup-item.result w.place_at.result c.loop-setup.lines w.write.new.self c.match-register_named.lines c.args.lines.now
          (setup_writes c.args.setups.now) c.loop-setup-test.true c.setup-item.is (ap register_at (sym c.as_str.ensures) ∙ sym w.in-Some.ensures) w.place_at.ensures.place
          w.lines-is w.in_ok-write.ensures c.loop-setup.invariant
      | in_default w ↦
          no_setup c.args.setups.now c.loop-setup.setup-index c.setup-item.result c.loop-setup.lines c.match-register_named.lines c.args.lines.now
          (setup_writes c.args.setups.now) c.loop-setup-test.true c.setup-item.is (ap register_at (sym c.as_str.ensures) ∙ sym c.register_named.ensures ∙ w.in_default.is) w.lines-is c.loop-setup.invariant
    ]
