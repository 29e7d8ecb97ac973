-- What is made of a program's firmware: its code laid out, the image and the map; and what is promised of what is written of them.
use Rattle.std.specs.Prelude.{◌≡◌, ℕ, ◌%◌, ◌<◌, ◌≤◌, [], length, slice_get, Some}
use Rattle.frp_tree.specs.Tree.{ProgramTree}
use Rattle.efrp_meaning.specs.Bounds.{levels, settle_bound, state_bytes}
use Rattle.hex_file.specs.declared.images.Image.{Image}
use Rattle.hex_file.specs.ImageOf.{IsImageOf}
use Rattle.hex_file.specs.Written.{IsWritable, RisesFrom, written}
use Rattle.pic_machine.specs.Run.{word_at}
use Rattle.map_file.specs.declared.maps.Map.{Map}
use Rattle.map_file.specs.MapRules.{IsMap}
use Rattle.map_file.specs.MapText.{map_text}
use Rattle.bank_alloc.specs.Needs.{bytes_of}
use Rattle.code_items.specs.Items.{has_pages, times, words_in}
use Rattle.code_items.specs.Lines.{Stands}
use Rattle.page_layout.specs.declared.laid.Laid.{Laid}
use Rattle.page_layout.specs.Emitted.{places}
use Rattle.page_layout.specs.Marks.{marks_end}
use Rattle.page_layout.specs.Words.{FollowFrom}
use Rattle.scratch_commit.specs.Plans.{frame_in}
use Rattle.firmware_promises.specs.Firmware.{IsFirmware}
use Rattle.core_steps.specs.Scheduled.{IsScheduled}
use Rattle.stack_bound.specs.Reports.{IsReported}
use Rattle.firmware_map.specs.Laws.{HasNames}
use Rattle.firmware_map.specs.Maps.{IsMapOf, made_of}
use Rattle.firmware_map.specs.Written.{Used}
use Rattle.firmware_layout.specs.Made.{IsMade, IsSpread}
use Rattle.firmware_layout.specs.Pieces.{Makings, items_of, plan_in}

-- The firmware's items are laid out: at most 8,192 words, at addresses from 0 on without a gap, in which the items stand; and the
-- address of each mark, 0 at a number that is no mark.
pub record IsLaidOut (f : Makings) (laid : Laid) : Type 0 where
  pub few : length laid.words ≤ 8192
  pub stands : Stands (has_pages (items_of f)) (word_at laid.words) (places laid.marks) 0 (items_of f) (length laid.words % 8192)
  pub follow : FollowFrom 0 laid.words
  pub rise : RisesFrom 0 laid.words
  pub number : length laid.words ≡ words_in (has_pages (items_of f)) (items_of f)
  pub absent : (m : ℕ) → times m (items_of f) ≡ 0 → places laid.marks m ≡ 0
  pub marks : length laid.marks ≡ marks_end (items_of f)

-- What the firmware uses: the bytes that are placed, page settings where its code has any, the cells of states and of each event's
-- work, and for each event the frame of its run.
pub record IsUsedBy (f : Makings) (u : Used) : Type 0 where
  pub need : u.need ≡ f.need
  pub pages : u.pages ≡ f.spread.pages
  pub states : state_bytes f.p ≤ u.cells
  pub cells : (event : ℕ) → event < length f.p.events → f.cells event ≤ u.cells
  pub placed : u.cells ≤ bytes_of f.need
  pub number : length u.frames ≡ length f.p.events
  pub frames : (event : ℕ) → event < length f.p.events → slice_get u.frames event ≡ Some (frame_in (plan_in f event))

-- The map is that of the program by the code that is laid out: with the addresses of its marks and the number of its words, and the
-- program's levels and bound on the steps until all has settled.
pub record IsMapped (f : Makings) (laid : Laid) (m : Map) : Type 0 where
  pub used : Used
  pub is_used : IsUsedBy f used
  pub is_map : IsMapOf f.p used (made_of laid.marks (length laid.words) (levels f.p) (settle_bound f.p)) m

-- The image of code that is laid out: its words, the configuration word 3F3Ah, and no other bytes.
abbrev pub image_of : Laid → Image
image_of laid = record { words = laid.words; config = Some 0x3F3A; aside = [] }

-- An image and a map can be written, and their bytes mean them, are firmware for the program and treat its events in time and in
-- order.
pub record IsWritten (p : ProgramTree) (image : Image) (m : Map) : Type 0 where
  pub writable : IsWritable image
  pub means : IsImageOf (written image) image
  pub rules : IsMap m
  pub firmware : IsFirmware p (written image) (map_text m)
  pub scheduled : IsScheduled p (written image) (map_text m)
  pub reported : IsReported p m

-- So are those of firmware whose pieces each do their own, whose code is laid out, and whose map is made by it.
abbrev pub WrittenIsFirmware : Makings → Laid → Map → Type 0
WrittenIsFirmware f laid m =
    IsMade f → IsSpread f → f.spread.pages ≡ has_pages (items_of f) → HasNames f.p → IsLaidOut f laid → IsMapped f laid m → IsWritten f.p (image_of laid) m
