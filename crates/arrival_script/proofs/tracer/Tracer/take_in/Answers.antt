use Rattle.std.proofs.Common.{refl}
use Rattle.arrival_script.proofs.RunFacts.{ready}
use Rattle.arrival_script.proofs.tracer.Tracer.take_in.Goals as goal

pub returns-clause-ready : goal.returns-clause-ready
returns-clause-ready c = λ m image s old new inside so.
    ready m image s c.args.boundary c.next_arrivals-sources.result.0 c.arrive.result c.set_pins-self.new.chip c.args.self.now _ old new (record {
      arriving = c.next_arrivals-sources.ensures.set;
      pinned_is = c.set_pins-self.ensures.chip;
      pinned_memory = c.set_pins-self.ensures.memory;
      latched_is = c.arrive.ensures.latched;
      merged_is = c.arrive.ensures.merged;
      chip = c.arrive.ensures.chip;
      memory = c.arrive.ensures.memory;
      rise = c.next_arrivals-sources.ensures.rise;
      later = c.next_arrivals-sources.ensures.later;
      change = c.set_pins-self.ensures.change;
      pins = c.set_pins-self.ensures.later;
      late = refl;
      greatest = refl;
      text = refl;
    }) inside so
