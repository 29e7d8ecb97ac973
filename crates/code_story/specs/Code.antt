-- The code of firmware with all that is known of it: what its parts do, and how they are arranged.
use Rattle.std.specs.Prelude.{◌≡◌, ℕ, ◌<◌, true, List, []}
use Rattle.frp_tree.specs.Tree.{ProgramTree}
use Rattle.pic_machine.specs.Chip.{Chip}
use Rattle.map_file.specs.declared.maps.Map.{Map}
use Rattle.timed_core.specs.Timing.{Timing}
use Rattle.code_steps.specs.Steps.{next}
use Rattle.code_steps.specs.Ends.{Holds}
use Rattle.glue_steps.specs.Still.{Off}
use Rattle.firmware_parts.specs.Layout.{Layout, Easy}
use Rattle.firmware_parts.specs.Layout.Part.{Exit}
use Rattle.firmware_parts.specs.Contexts.{SameEnables}
use Rattle.firmware_parts.specs.Runs.{Leads, AtReturn, DoesRun}
use Rattle.firmware_parts.specs.Vector.{DoesVector}
use Rattle.code_story.specs.Arranged.{Arranged}

-- The chip `c` in the run of an event has what is needed to give back the context of the chip `x`: behind the commit the code comes to
-- the return with it, from wherever the enables and the run's frame are as on `c`. It is the widest that a run may take as saved.
abbrev pub GivesBack : Timing → Layout → ℕ → (x c : Chip) → Type 0
GivesBack t l e x c =
    (d : Chip) → SameEnables c d → ((address : ℕ) → l.frame e address ≡ true → d.regs.plain address ≡ c.regs.plain address) → d.pc ≡ next (l.commits e) → Off d → Easy l d
    → Holds (l.exit_bank e) d → Leads l (Exit e) (AtReturn l x) [] t.exiting d

-- The program `p` and the map `m` that the code is made for, the times `t` that it keeps, and its layout `l`.
pub record Code : Type 0 where
  pub p : ProgramTree
  pub m : Map
  pub t : Timing
  pub l : Layout
  pub initial : List ℕ
  pub booting : ℕ
  pub dispatching : ℕ
  pub starting : ℕ
  pub arranged : Arranged p m t l initial booting dispatching starting
  pub vector : DoesVector p l initial booting dispatching
  pub runs : (e : ℕ) → 0 < l.level e → DoesRun p m t l (GivesBack t l) starting e
