-- What the laws of `laws.rt` promise: of what is heard, of where the pieces of code stand, and of how the code is arranged.
use Rattle.std.specs.Prelude.{◌≡◌, ℕ, ◌+◌, ◌%◌, ◌<◌, ◌≤◌, ◌⊎◌, true, false, List, [], ◌∷◌, ◌++◌, length, Some}
use Rattle.frp_tree.specs.Tree.{ProgramTree}
use Rattle.efrp_meaning.specs.Bounds.{boot}
use Rattle.efrp_meaning.specs.Meaning.{initial_state}
use Rattle.map_file.specs.declared.maps.Map.{Map}
use Rattle.code_items.specs.Lines.{Stands}
use Rattle.glue_parts.specs.Heard.{IsHeardAt}
use Rattle.glue_parts.specs.Marks.{mark, Committing, Opening, Ready}
use Rattle.firmware_promises.specs.MapNames.{is_listed}
use Rattle.scratch_commit.specs.Plans.{is_short}
use Rattle.run_steps.specs.Spots.{Spots}
use Rattle.isr_vector.specs.Urgency.{by_urgency}
use Rattle.core_story.specs.Interface.{Fitted}
use Rattle.firmware_parts.specs.Layout.{Layout}
use Rattle.firmware_parts.specs.Times.{dispatching, starting, times}
use Rattle.code_story.specs.Arranged.{Arranged, EnablesAgree, LevelsAgree, PlacesAgree, StatesAgree, WritesAgree}
use Rattle.firmware_layout.specs.Heard.{heard}
use Rattle.firmware_layout.specs.Layouts.{boot_start, boot_turn, head_end, layout_of, spots_in}
use Rattle.firmware_layout.specs.Pieces.{Makings, boot_of, head_of, kind_of, run_of}
use Rattle.firmware_layout.specs.Sound.{AreMakings, IsCodeIn, IsMapIn}

-- What is computed is what is heard.
abbrev pub IsHeard : ProgramTree → (level : ℕ) → Type 0
IsHeard p level = IsHeardAt p level (heard p level)

-- The places of a run rise; those of a run with interrupts on lie between the clearing of its flag and its open.
pub record SpotsRise (is_long : Type 0) (s : Spots) : Type 0 where
  pub entry : s.entry ≤ s.clear
  pub clear : s.clear < s.opens
  pub on : is_long → (s.clear < s.on) × (s.on + 1 ≡ s.work) × (s.work ≤ s.lock) × (s.lock < s.opens)
  pub opens : s.opens < s.commits
  pub commits : s.commits < s.stops

-- The run of an event stands from its entry to behind its return, its marks are its places, and these rise.
pub record RunStands (f : Makings) (program marks : ℕ → ℕ) (event : ℕ) : Type 0 where
  pub stands : Stands f.spread.pages program marks (spots_in f marks event).entry (run_of f event) (((spots_in f marks event).stops + 1) % 8192)
  pub room : (spots_in f marks event).stops < 8192
  pub page : f.spread.pages ≡ false → (spots_in f marks event).stops < 2048
  pub opens : marks (mark (Opening event)) ≡ (spots_in f marks event).opens
  pub commits : marks (mark (Committing event)) ≡ (spots_in f marks event).commits
  pub rise : SpotsRise (is_short (kind_of f event) ≡ false) (spots_in f marks event)

abbrev pub EachRunStands : Makings → (program marks : ℕ → ℕ) → (event : ℕ) → Type 0
EachRunStands f program marks event = AreMakings f → IsCodeIn f program marks → event < length f.p.events → RunStands f program marks event

-- The head stands from address 0 on, and the rest of the boot at its mark, on several pages directly behind the head; on one page the
-- least urgent run stands there. The ready address is behind the step that turns interrupts on.
pub record VectorStands (f : Makings) (program marks : ℕ → ℕ) : Type 0 where
  pub head : Stands f.spread.pages program marks 0 (head_of f) (head_end f % 8192)
  pub boot : Stands f.spread.pages program marks (boot_start marks) (boot_of f) ((boot_turn f marks + 2) % 8192)
  pub room : boot_turn f marks + 2 ≤ 8192
  pub page : f.spread.pages ≡ false → boot_turn f marks + 2 ≤ 2048
  pub ready : marks (mark Ready) ≡ boot_turn f marks + 1
  pub behind : head_end f ≤ boot_start marks
  pub at : f.spread.pages ≡ true → boot_start marks ≡ head_end f
  pub last : f.spread.pages ≡ false → (tested : List ℕ) (least : ℕ) → by_urgency f.p ≡ tested ++ least ∷ [] → (spots_in f marks least).entry ≡ head_end f

abbrev pub VectorOfCodeStands : Makings → (program marks : ℕ → ℕ) → Type 0
VectorOfCodeStands f program marks = AreMakings f → IsCodeIn f program marks → VectorStands f program marks

-- Runs lie apart from each other, from the head and from the rest of the boot.
pub record IsApart (f : Makings) (marks : ℕ → ℕ) (event : ℕ) : Type 0 where
  pub runs : (other : ℕ) → other < length f.p.events → (other ≡ event → ⊥)
      → ((spots_in f marks other).stops < (spots_in f marks event).entry) ⊎ ((spots_in f marks event).stops < (spots_in f marks other).entry)
  pub head : head_end f ≤ (spots_in f marks event).entry
  pub boot : ((spots_in f marks event).stops < boot_start marks) ⊎ (boot_turn f marks + 1 < (spots_in f marks event).entry)

abbrev pub RunsLieApart : Makings → (program marks : ℕ → ℕ) → (event : ℕ) → Type 0
RunsLieApart f program marks event = AreMakings f → IsCodeIn f program marks → event < length f.p.events → IsApart f marks event

-- The layout of code, with what the map lists.
abbrev pub layout_with : Makings → (program marks : ℕ → ℕ) → Map → Layout
layout_with f program marks m = layout_of f program marks (is_listed m)

abbrev pub LayoutLevels : Makings → (program marks : ℕ → ℕ) → Map → Type 0
LayoutLevels f program marks m = AreMakings f → IsMapIn f marks m → LevelsAgree (times f.p m) (layout_with f program marks m)

abbrev pub LayoutEnables : Makings → (program marks : ℕ → ℕ) → Map → Type 0
LayoutEnables f program marks m = AreMakings f → EnablesAgree (layout_with f program marks m)

abbrev pub LayoutPlaces : Makings → (program marks : ℕ → ℕ) → Map → Type 0
LayoutPlaces f program marks m = AreMakings f → IsCodeIn f program marks → IsMapIn f marks m → PlacesAgree m (layout_with f program marks m)

abbrev pub LayoutWrites : Makings → (program marks : ℕ → ℕ) → Map → Type 0
LayoutWrites f program marks m = AreMakings f → IsMapIn f marks m → WritesAgree f.p m (layout_with f program marks m)

abbrev pub LayoutStates : Makings → (program marks : ℕ → ℕ) → Map → List ℕ → Type 0
LayoutStates f program marks m initial =
    AreMakings f → IsMapIn f marks m → initial_state f.p ≡ Some initial → StatesAgree f.p m (layout_with f program marks m) initial

abbrev pub LayoutTimes : Makings → (marks : ℕ → ℕ) → Map → Type 0
LayoutTimes f marks m = AreMakings f → IsMapIn f marks m → Fitted f.p m (times f.p m)

-- So the code is arranged, with the times of its program.
abbrev pub LayoutArranged : Makings → (program marks : ℕ → ℕ) → Map → List ℕ → Type 0
LayoutArranged f program marks m initial =
    AreMakings f → IsCodeIn f program marks → IsMapIn f marks m → initial_state f.p ≡ Some initial
    → Arranged f.p m (times f.p m) (layout_with f program marks m) initial (boot f.p) (dispatching f.p) (starting f.p)
