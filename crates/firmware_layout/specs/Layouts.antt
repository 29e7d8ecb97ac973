-- The layout of firmware: where its parts lie and what they may write.
use Rattle.std.specs.Prelude.{ℕ, ◌+◌, ◌-◌, ◌==◌, Bool, false, not, nat_le, nat_lt, ◌&&◌, ◌||◌, if◌then◌else◌, List, length, drop}
use Rattle.std.specs.List.{list_any, range_with_len}
use Rattle.efrp_meaning.specs.Bounds.{state_bytes}
use Rattle.pic_regs.specs.Bytes.{bits, is_zero}
use Rattle.pic_regs.specs.Map.{lowest, within}
use Rattle.pic_regs.specs.Places.{reg_of}
use Rattle.bank_alloc.specs.Addresses.{address_of}
use Rattle.priority_masks.specs.Levels.{level_of}
use Rattle.code_items.specs.Items.{words_in}
use Rattle.glue_parts.specs.declared.moves.Move.{Move}
use Rattle.glue_parts.specs.Marks.{Boot as BootMark, Entry, mark}
use Rattle.glue_parts.specs.Moves.{puts_by}
use Rattle.firmware_promises.specs.Firmware.{is_at}
use Rattle.scratch_commit.specs.Frames.{is_in_frame}
use Rattle.scratch_commit.specs.Plans.{Plan, frame_in, is_short, masks_in, over_idle}
use Rattle.run_steps.specs.Spots.{Spots, exit_bank, is_locked, open_bank, spots_of}
use Rattle.isr_vector.specs.Taking.{context_of}
use Rattle.event_code.specs.Moves.{next_by}
use Rattle.event_code.specs.States.{state_in}
use Rattle.firmware_parts.specs.Layout.{Layout, Part}
use Rattle.firmware_parts.specs.Layout.Part.{Boot, Taking, Start, Begin, Work, Lock, Open, Copying, Commit, Exit}
use Rattle.firmware_layout.specs.Heard.{heard}
use Rattle.firmware_layout.specs.Pieces.{Makings, kind_of, lines_of_boot, plan_in, taking_of}

-- From one place on and before another.
abbrev pub lies : (start stop : ℕ) → ℕ → Bool
lies start stop place = nat_le start place && nat_lt place stop

-- The places of an event's run, counted from the mark of its start.
abbrev pub spots_in : Makings → (marks : ℕ → ℕ) → ℕ → Spots
spots_in f marks event = spots_of f.spread.pages (marks (mark (Entry event))) (plan_in f event)

-- Where the rest of the boot stands, and its step that turns interrupts on, directly before the ready address.
abbrev pub boot_start : (marks : ℕ → ℕ) → ℕ
boot_start marks = marks (mark BootMark)

abbrev pub boot_turn : Makings → (marks : ℕ → ℕ) → ℕ
boot_turn f marks = boot_start marks + length (drop 3 (lines_of_boot f))

-- The end of the head: behind the four words before address 4 the taking stands.
abbrev pub head_end : Makings → ℕ
head_end f = 4 + words_in f.spread.pages (taking_of f)

-- The level of an event; that of any other number is 0.
abbrev pub event_level : Makings → ℕ → ℕ
event_level f event = if nat_lt event (length f.p.events) then level_of f.p event else 0

-- The run of an event has a lock.
abbrev pub has_lock : Makings → ℕ → Bool
has_lock f event = is_locked (kind_of f event)

-- The places of a part.
abbrev pub lies_in_run : Spots → (locked : Bool) → Part → ℕ → Bool
lies_in_run s locked (Start e) place = lies s.entry (s.clear + 1) place
lies_in_run s locked (Begin e) place = lies (s.clear + 1) (s.on + 1) place || (locked && lies (s.lock + 1) s.opens place)
lies_in_run s locked (Work e) place = lies s.work s.opens place
lies_in_run s locked (Lock e) place = lies (s.lock + 1) s.opens place
lies_in_run s locked (Open e) place = s.opens == place
lies_in_run s locked (Copying e) place = lies (s.opens + 1) s.commits place
lies_in_run s locked (Commit e) place = s.commits == place
lies_in_run s locked (Exit e) place = lies (s.commits + 1) (s.stops + 1) place
lies_in_run s locked _ place = false

abbrev pub lies_in : Makings → (marks : ℕ → ℕ) → Part → ℕ → Bool
lies_in f marks Boot place = nat_le place 3 || lies (boot_start marks) (boot_turn f marks + 1) place
lies_in f marks Taking place = lies 4 (head_end f) place
lies_in f marks (Start e) place = lies_in_run (spots_in f marks e) (has_lock f e) (Start e) place
lies_in f marks (Begin e) place = lies_in_run (spots_in f marks e) (has_lock f e) (Begin e) place
lies_in f marks (Work e) place = lies_in_run (spots_in f marks e) (has_lock f e) (Work e) place
lies_in f marks (Lock e) place = lies_in_run (spots_in f marks e) (has_lock f e) (Lock e) place
lies_in f marks (Open e) place = lies_in_run (spots_in f marks e) (has_lock f e) (Open e) place
lies_in f marks (Copying e) place = lies_in_run (spots_in f marks e) (has_lock f e) (Copying e) place
lies_in f marks (Commit e) place = lies_in_run (spots_in f marks e) (has_lock f e) (Commit e) place
lies_in f marks (Exit e) place = lies_in_run (spots_in f marks e) (has_lock f e) (Exit e) place

-- A register of enables of which a run's masks clear a bit: these bits of it.
abbrev pub is_changed : (cleared : ℕ) → Bool
is_changed cleared = not (is_zero (bits cleared))

abbrev pub is_masked : Plan → ℕ → Bool
is_masked plan address =
    is_changed (masks_in plan).intcon.cleared && address == 0x00B || is_changed (masks_in plan).pie1.cleared && address == 0x08C
    || is_changed (masks_in plan).pie2.cleared && address == 0x08D

-- An operand byte, or one of an event's cells beside those of states.
abbrev pub is_scratch : Makings → (event : ℕ) → ℕ → Bool
is_scratch f event address =
    list_any (λ cell. address_of f.need cell == address) (range_with_len (state_bytes f.p) (f.cells event - state_bytes f.p))

abbrev pub is_of_work : Makings → (event : ℕ) → ℕ → Bool
is_of_work f event address = within 0x074 0x07F address || is_scratch f event address

-- A register to which a window moves a byte.
abbrev pub is_target : List Move → ℕ → Bool
is_target moves address = list_any (λ (move : Move). is_at address (lowest (reg_of move.to))) moves

-- PCLATH, where there are page settings.
abbrev pub is_page : Makings → ℕ → Bool
is_page f address = f.spread.pages && address == 0x00A

-- What a part may write. The boot may write whatever is listed.
abbrev pub writes_in : Makings → (listed : ℕ → Bool) → Part → ℕ → Bool
writes_in f listed Boot address = listed address
writes_in f listed Taking address = address == 0x071 || address == 0x072 || is_page f address
writes_in f listed (Start e) address =
    is_in_frame (frame_in (plan_in f e)) address || is_masked (plan_in f e) address || is_short (kind_of f e) && is_of_work f e address
writes_in f listed (Begin e) address = address == 0x073 || is_page f address
writes_in f listed (Work e) address = is_of_work f e address || has_lock f e && is_page f address
writes_in f listed (Lock e) address = is_page f address
writes_in f listed (Open e) address = is_target (f.moves e) address
writes_in f listed (Copying e) address = is_target (f.moves e) address
writes_in f listed (Commit e) address = is_target (f.moves e) address || address == 0x073
writes_in f listed (Exit e) address = is_masked (plan_in f e) address || is_page f address

-- The layout of code with this program memory and these addresses of marks, where these registers are listed.
abbrev pub layout_of : Makings → (program marks : ℕ → ℕ) → (listed : ℕ → Bool) → Layout
layout_of f program marks listed = record {
  program = program;
  paged = f.spread.pages;
  saves_status = (context_of f.p f.spread).status;
  saves_pclath = (context_of f.p f.spread).pclath;
  level = event_level f;
  source = f.source;
  is_short = λ e. is_short (kind_of f e);
  is_locked = has_lock f;
  is_telling = λ e. not (over_idle (plan_in f e));
  enables = heard f.p;
  ready = boot_turn f marks + 1;
  boot_end = boot_turn f marks;
  entry = λ e. (spots_in f marks e).entry;
  clear = λ e. (spots_in f marks e).clear;
  on = λ e. (spots_in f marks e).on;
  work = λ e. (spots_in f marks e).work;
  lock = λ e. (spots_in f marks e).lock;
  opens = λ e. (spots_in f marks e).opens;
  commits = λ e. (spots_in f marks e).commits;
  bank = λ e. open_bank (plan_in f e);
  exit_bank = λ e. exit_bank (plan_in f e);
  inside = lies_in f marks;
  may = writes_in f listed;
  frame = λ e. is_in_frame (frame_in (plan_in f e));
  states = state_in f.p f.need;
  next_of = λ e. next_by f.p f.need (f.moves e);
  puts_of = λ e. puts_by (f.moves e);
}
