use Rattle.std.proofs.Common.{◌≡◌, ℕ, map, take, get_or, Some}
use Rattle.std.specs.Prelude.{slice_get}
use Rattle.map_file.specs.declared.maps.MapEvent.{MapEvent}
use Rattle.glue_parts.specs.Marks.{mark, Committing, Opening}
use Rattle.firmware_promises.specs.Firmware.{event_of}
use Rattle.firmware_map.proofs.maps.events.Given as goal

abbrev pub invariant-loop-n : goal.invariant-loop-n
invariant-loop-n l = record {
  named : map event_of l.events ≡ take l.n l.declared;
  opens : (k : ℕ) (e : MapEvent) → slice_get l.events k ≡ Some e → e.«open» ≡ get_or l.marks (mark (Opening k)) 0;
  commits : (k : ℕ) (e : MapEvent) → slice_get l.events k ≡ Some e → e.commit ≡ get_or l.marks (mark (Committing k)) 0;
}
