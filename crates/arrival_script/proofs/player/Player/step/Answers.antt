use Rattle.std.proofs.Common.{refl, ap, ◌∙◌}
use Rattle.pic_regs.specs.Arrivals.{number_of}
use Rattle.pic_regs.specs.Registers.{Registers, flag}
use Rattle.arrival_script.proofs.PlayFacts.{played-more, seen-is}
use Rattle.arrival_script.proofs.player.Player.step.Goals as goal

pub returns-clause-seen : goal.returns-clause-seen
returns-clause-seen c = λ image s inside so.
    seen-is image s c.args.boundary c.next_arrivals-sources.result.0 c.is_late_at.result c.set_pins-self.new.chip c.arrive.new.self c.step-report.result c.args.self.now
    (record { chip = c.step-report.new.self; late = c.args.self.now.late; pending = c.next_arrivals-sources.result.1; changes = c.set_pins-self.result }) _ inside
    (record {
      arriving = c.next_arrivals-sources.ensures.set;
      pinned_is = c.set_pins-self.ensures.chip;
      pinned_memory = c.set_pins-self.ensures.memory;
      come_is = c.arrive.ensures.chip;
      come_memory = c.arrive.ensures.memory;
      flags = c.flags-arrived.ensures.set ∙ ap (λ (r : Registers). number_of (λ source. flag source r)) c.regs.ensures;
      is_late = c.is_late_at.ensures;
      report_is = c.step-report.ensures.report;
      chip = c.step-report.ensures.chip;
      memory = c.step-report.ensures.memory;
      rise = c.next_arrivals-sources.ensures.rise;
      later = c.next_arrivals-sources.ensures.later;
      change = c.set_pins-self.ensures.change;
      pins = c.set_pins-self.ensures.later;
      late_same = refl;
      did = refl;
      port = refl;
    })
    so

pub returns-clause-played : goal.returns-clause-played
returns-clause-played c = λ image s inside so.
    played-more image s c.args.boundary c.next_arrivals-sources.result.0 c.is_late_at.result c.set_pins-self.new.chip c.arrive.new.self c.step-report.result c.args.self.now _
    (record { arrived = c.flags-arrived.result; did = c.step-report.result.did; port = c.step-report.result.port }) inside
    (record {
      arriving = c.next_arrivals-sources.ensures.set;
      pinned_is = c.set_pins-self.ensures.chip;
      pinned_memory = c.set_pins-self.ensures.memory;
      come_is = c.arrive.ensures.chip;
      come_memory = c.arrive.ensures.memory;
      flags = c.flags-arrived.ensures.set ∙ ap (λ (r : Registers). number_of (λ source. flag source r)) c.regs.ensures;
      is_late = c.is_late_at.ensures;
      report_is = c.step-report.ensures.report;
      chip = c.step-report.ensures.chip;
      memory = c.step-report.ensures.memory;
      rise = c.next_arrivals-sources.ensures.rise;
      later = c.next_arrivals-sources.ensures.later;
      change = c.set_pins-self.ensures.change;
      pins = c.set_pins-self.ensures.later;
      late_same = refl;
      did = refl;
      port = refl;
    })
    so
