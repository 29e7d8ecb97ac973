use Rattle.std.proofs.Common.{◌∙◌, refl}
use Rattle.firmware_promises.specs.MapNames.{is_in}
use Rattle.firmware_promises.specs.Firmware.{is_banked}
use Rattle.firmware_map.specs.Written.{is_written, program_of, used_by}
use Rattle.firmware_map.proofs.CellFacts.{count-listed}
use Rattle.firmware_map.proofs.maps.map_of.Goals as goal

pub returns : goal.returns
returns c =
    let p = program_of c.args.uses.now in
    let u = used_by c.args.uses.now in
    record {
      events = c.in_ok-events.ensures;
      states = c.in_ok-states.ensures;
      outputs = c.in_ok-outputs.ensures;
      samples = c.new.ensures;
      ready = c.address.ensures;
      ranges = c.in_ok-ranges.ensures.rise;
      listed = c.in_ok-ranges.ensures.written;
      depth = refl;
      ram = c.banked_bytes.ensures ∙ count-listed (is_in c.in_ok-ranges.field-0) (is_written p u) is_banked c.in_ok-ranges.ensures.written;
      words = refl;
      settle = refl;
    }
