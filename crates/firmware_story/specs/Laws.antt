-- What the laws of `laws.rt` promise: that the vector and each run stand in their layout, and that all of it is code of firmware.
use Rattle.std.specs.Prelude.{◌≡◌, ℕ, ◌<◌, Some, List, length}
use Rattle.frp_tree.specs.Tree.{ProgramTree}
use Rattle.efrp_meaning.specs.Meaning.{initial_state}
use Rattle.map_file.specs.declared.maps.Map.{Map}
use Rattle.firmware_parts.specs.Times.{starting, times}
use Rattle.run_steps.specs.Premises.{IsRunIn}
use Rattle.vector_steps.specs.Standing.{HasVector}
use Rattle.code_story.specs.Code.{Code}
use Rattle.firmware_layout.specs.Laws.{layout_with}
use Rattle.firmware_layout.specs.Layouts.{spots_in}
use Rattle.firmware_layout.specs.Made.{IsMade}
use Rattle.firmware_layout.specs.Pieces.{Makings, plan_in}
use Rattle.firmware_layout.specs.Sound.{IsCodeIn, IsMapIn}

-- Each word of program memory has 14 bits.
abbrev pub AreWords : (ℕ → ℕ) → Type 0
AreWords program = (place : ℕ) → program place < 0x4000

-- The vector stands in the layout, for the program's initial state.
abbrev pub VectorIsHad : Makings → (program marks : ℕ → ℕ) → Map → (initial : List ℕ) → Type 0
VectorIsHad f program marks m initial =
    IsMade f → IsCodeIn f program marks → IsMapIn f marks m → initial_state f.p ≡ Some initial
    → HasVector f.p f.need f.spread (layout_with f program marks m) initial

-- The run of an event stands in the layout, from its entry on, with the times of the program.
abbrev pub RunIsIn : Makings → (program marks : ℕ → ℕ) → Map → (event : ℕ) → Type 0
RunIsIn f program marks m event =
    IsMade f → IsCodeIn f program marks → IsMapIn f marks m → AreWords program → event < length f.p.events
    → IsRunIn f.p m (times f.p m) (layout_with f program marks m) marks (starting f.p) (spots_in f marks event).entry (plan_in f event) event

-- There is code of the program with this map, whose parts do what they are to do and lie as they should, in this program memory.
pub record HasCode (p : ProgramTree) (m : Map) (program : ℕ → ℕ) : Type 0 where
  pub code : Code
  pub for_program : code.p ≡ p
  pub for_map : code.m ≡ m
  pub in_memory : code.l.program ≡ program

abbrev pub FirmwareHasCode : Makings → (program marks : ℕ → ℕ) → Map → (initial : List ℕ) → Type 0
FirmwareHasCode f program marks m initial =
    IsMade f → IsCodeIn f program marks → IsMapIn f marks m → AreWords program → initial_state f.p ≡ Some initial → HasCode f.p m program
