-- What is reported of a program's firmware, and within what its code stays.
use Rattle.std.specs.Prelude.{◌≡◌, ℕ, ◌+◌, ◌<◌, ◌≤◌, List, true}
use Rattle.frp_tree.specs.Tree.{ProgramTree}
use Rattle.efrp_meaning.specs.Bounds.{levels, settle_bound}
use Rattle.pic_isa.specs.declared.sources.Source.{Source}
use Rattle.pic_regs.specs.declared.starts.Start.{Start}
use Rattle.pic_regs.specs.Start.{IsStart}
use Rattle.pic_machine.specs.Boundary.{Outer}
use Rattle.pic_machine.specs.Run.{outer_of, run}
use Rattle.hex_file.specs.declared.images.Image.{Image}
use Rattle.map_file.specs.declared.maps.Map.{Map}
use Rattle.firmware_promises.specs.Counts.{chip_after}
use Rattle.firmware_promises.specs.Settled.{Settled}
use Rattle.code_story.specs.Code.{Code}
use Rattle.code_story.specs.Laws.{IsImageOf}
use Rattle.stack_bound.specs.declared.reports.Report.{Report}

-- The map reports the program's levels as its depth, and the program's bound on settling as its settle, and nothing less.
pub record IsReported (p : ProgramTree) (m : Map) : Type 0 where
  pub depth : m.depth ≡ levels p
  pub settle : m.settle ≡ settle_bound p

-- So many steps have passed, counted from power-on and from each boundary before with an arrival.
abbrev pub HavePassed : (settle : ℕ) → List Outer → ℕ → Type 0
HavePassed settle outers n = (settle ≤ n) × ((k : ℕ) (source : Source) → k < n → (outer_of outers k).arrivals source ≡ true → k + settle ≤ n)

-- In every run of the image, from every start and whatever comes from outside, the return stack is at most so deep after each step;
-- and all has settled where no source has arrived for so many steps.
pub record StaysWithin (image : Image) (m : Map) (depth settle : ℕ) : Type 0 where
  pub deep : (start : Start) (outers : List Outer) (n : ℕ) → IsStart start → (chip_after (run image start outers) n).depth ≤ depth
  pub settled : (start : Start) (outers : List Outer) (n : ℕ) → IsStart start → HavePassed settle outers n → Settled m (run image start outers) n

-- So does code that is laid out, under a map with this report.
abbrev pub CodeStaysWithin : Code → Image → Report → Type 0
CodeStaysWithin f image r = IsImageOf f image → f.m.depth ≡ r.depth → f.m.settle ≡ r.settle → StaysWithin image f.m r.depth r.settle
