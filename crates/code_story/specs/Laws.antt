-- What the laws of `laws.rt` promise of code that is arranged, and of what its parts do.
use Rattle.std.specs.Prelude.{◌≡◌, ℕ, ◌+◌, ◌<◌, ◌==◌, ◌↔◌, ◌⊎◌, Bool, true, false, ◌||◌, Some}
use Rattle.frp_tree.specs.Tree.{ProgramTree}
use Rattle.pic_regs.specs.Registers.{flag, enable, requested}
use Rattle.pic_machine.specs.Chip.{Chip}
use Rattle.pic_machine.specs.Run.{program_of}
use Rattle.hex_file.specs.declared.images.Image.{Image}
use Rattle.map_file.specs.declared.maps.MapEvent.{MapEvent}
use Rattle.map_file.specs.declared.maps.Map.{Map}
use Rattle.firmware_promises.specs.Urgent.{is_in_intcon}
use Rattle.core_story.specs.Values.{item}
use Rattle.core_story.specs.Interface.{AreSetUp, Simulated}
use Rattle.core_story.specs.Laws.{Maps}
use Rattle.code_steps.specs.Between.{Others}
use Rattle.firmware_parts.specs.Layout.{Layout, Part}
use Rattle.firmware_parts.specs.Layout.Part.{Open, Commit}
use Rattle.firmware_parts.specs.Contexts.{AtLevel}
use Rattle.firmware_parts.specs.Runs.{Void}
use Rattle.code_story.specs.Arranged.{IsPart, IsLevel, EnablesAgree, PlacesAgree, WritesAgree, WrittenBy, is_boot_part}
use Rattle.code_story.specs.Code.{Code}
use Rattle.code_story.specs.Relation.{Sim}

-- With the enables of a level each event above it is heard; and with interrupts on, one is requested exactly where the flag of such an
-- event is set.
abbrev pub HearsAbove : Layout → (level : ℕ) → Chip → (x : ℕ) → Type 0
HearsAbove l level c x =
    EnablesAgree l → IsLevel l level → AtLevel l level c → level < l.level x → (enable (l.source x) c.regs ≡ true) × ((is_in_intcon (l.source x) || c.regs.intcon.b6) ≡ true)

abbrev pub RequestsExactly : Layout → (level : ℕ) → Chip → Type 0
RequestsExactly l level c =
    EnablesAgree l → IsLevel l level → AtLevel l level c → c.regs.intcon.b7 ≡ true
    → (requested c.regs ≡ true) ↔ ((x : ℕ) × (level < l.level x) × (flag (l.source x) c.regs ≡ true))

-- Work that others interrupt comes to its lock from where they return, in as many steps of its own.
abbrev pub GoesOnAfterOthers : Layout → (e k : ℕ) → (c d : Chip) → Type 0
GoesOnAfterOthers l e k c d = Others c d → Void l e k c → Void l e k d

-- What a part may have written, and RBIE.
pub record Touches (l : Layout) (part : Part) (c d : Chip) : Type 0 where
  pub plain : WrittenBy l part c.regs.plain d.regs.plain
  pub tris : (n : ℕ) → (d.regs.tris n ≡ c.regs.tris n) ⊎ (l.may part (0x085 + n) ≡ true)
  pub rbie : d.regs.intcon.b3 ≡ c.regs.intcon.b3

-- What is set up stands behind each part but the boot.
abbrev pub LeavesSetUps : ProgramTree → Map → Layout → Part → (c d : Chip) → Type 0
LeavesSetUps p m l part c d = WritesAgree p m l → IsPart l part → is_boot_part part ≡ false → Touches l part c d → AreSetUp p c.regs → AreSetUp p d.regs

-- Parts but the open and the commit.
abbrev pub is_window_part : Part → Bool
is_window_part (Open e) = true
is_window_part (Commit e) = true
is_window_part _ = false

-- At their places no event of the map opens or commits.
abbrev pub LiesElsewhere : Map → Layout → Part → (place : ℕ) → Type 0
LiesElsewhere m l part place =
    PlacesAgree m l → IsPart l part → is_window_part part ≡ false → l.inside part place ≡ true
    → (x : ℕ) (e : MapEvent) → item m.events x ≡ Some e → ((place == e.«open») ≡ false) × ((place == e.commit) ≡ false)

-- The relation between the core and the chip that runs the code holds at power-on, is kept at each boundary, whatever comes from
-- outside, and shows what is to be seen.
abbrev pub IsSimulated : Code → Type 0
IsSimulated f = Simulated f.p f.m f.t f.l.program (Sim f)

-- An image has this code, and the map is the program's by it.
pub record IsImageOf (f : Code) (image : Image) : Type 0 where
  pub has : f.l.program ≡ program_of image
  pub maps : Maps f.p image f.m
