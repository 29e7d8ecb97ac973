-- The map of the firmware: what it uses is placed, and the map is one of its code.
use Rattle.std.proofs.Common.{◌≡◌, ℕ, ◌%◌, ◌<◌, ◌≤◌, true, length, ap, arith, subst, sym, ◌∙◌}
use Rattle.std.specs.Prelude.{◌&&◌, slice_get, Some}
use Rattle.std.proofs.lemmas.Option.{same_Some, slice_get_within}
use Rattle.efrp_meaning.specs.Bounds.{levels, ram_bound, settle_bound}
use Rattle.map_file.specs.declared.maps.Map.{Map}
use Rattle.pic_machine.specs.Run.{word_at}
use Rattle.bank_alloc.specs.declared.needs.Needs.{Needs}
use Rattle.bank_alloc.specs.Addresses.{address_of}
use Rattle.bank_alloc.specs.Needs.{bytes_of}
use Rattle.priority_masks.specs.Levels.{level_of}
use Rattle.priority_masks.proofs.LevelLaws.{levels-rise}
use Rattle.event_code.specs.States.{states_of}
use Rattle.event_needs.proofs.ListLaws.{all-from}
use Rattle.firmware_promises.specs.MapNames.{is_listed}
use Rattle.scratch_commit.specs.declared.frames.Frame.{Frame}
use Rattle.scratch_commit.specs.Frames.{is_between, is_over_runs}
use Rattle.scratch_commit.specs.Masks.{saved_of}
use Rattle.scratch_commit.specs.Plans.{Plan, context_in, frame_in, masks_in}
use Rattle.code_items.specs.Items.{has_pages}
use Rattle.page_layout.specs.declared.laid.Laid.{Laid}
use Rattle.page_layout.specs.Emitted.{places}
use Rattle.firmware_map.specs.Laws.{FitsMap, IsFrame, IsPlaced, ListsWritten as Lists}
use Rattle.firmware_map.specs.Maps.{made_of}
use Rattle.firmware_map.specs.Written.{Used}
use Rattle.firmware_map.proofs.FrameLaws.{lies}
use Rattle.firmware_map.proofs.MapLaws.{map-lists-written, map-reports-few}
use Rattle.firmware_layout.specs.Made.{IsMade}
use Rattle.firmware_layout.specs.Pieces.{Makings, items_of, kind_of, plan_in}
use Rattle.firmware_layout.specs.Sound.{IsMapIn, ListsWritten}
use Rattle.program_bounds.proofs.BoundLaws.{settle-few}
use Rattle.firmware_written.specs.Written.{IsLaidOut, IsMapped, IsUsedBy}
use Rattle.firmware_written.proofs.LastFacts.{marks-are_addresses}

-- The bytes that are placed are those of the bound.
pub bytes-bound : (f : Makings) → IsMade f → bytes_of f.need ≡ ram_bound f.p
bytes-bound f made = let states = made.states in let frames = made.frames in let scratch = made.scratch in omega (arith, states, frames, scratch)

-- The frame of each run lies in the bytes of its level, or where a taking saves.
frame-placed : (f : Makings) → IsMade f → (event : ℕ) → event < length f.p.events → IsFrame f.need (frame_in (plan_in f event))
frame-placed f made event real =
    let rise = levels-rise f.p in
    let from = rise.from_one event real in
    let most = rise.to_all event real in
    let count = made.frames in
    let plan : Plan = plan_in f event in
    lies f.need (level_of f.p event) from (omega (arith, most, count))
    (is_between (kind_of f event)) (is_over_runs (kind_of f event) && (context_in plan).status) (is_over_runs (kind_of f event) && (context_in plan).pclath)
    (saved_of (masks_in plan)).intcon (saved_of (masks_in plan)).pie1 (saved_of (masks_in plan)).pie2

module _ (f : Makings) (made : IsMade f) (u : Used) (used : IsUsedBy f u) where
  frame-at : (event : ℕ) (frame : Frame) → slice_get u.frames event ≡ Some frame → IsFrame u.need frame
  frame-at event frame at =
      let number = used.number in
      let inside = slice_get_within u.frames event frame at in
      let real : event < length f.p.events = omega (arith, number, inside) in
      let is = same_Some (frame_in (plan_in f event)) frame (sym (used.frames event real) ∙ at) in
      subst (λ (need : Needs). IsFrame need frame) (sym used.need) (subst (IsFrame f.need) is (frame-placed f made event real))

  pub placed : IsPlaced f.p u
  placed =
      let bytes = bytes-bound f made in
      let fits = made.fits in
      let same = ap bytes_of used.need in
      let few = used.placed in
      record {
        fits = omega (arith, bytes, fits, same);
        cells = record { states = used.states; placed = omega (arith, few, same) };
        frames = all-from (IsFrame u.need) u.frames frame-at;
      }

module _ (f : Makings) (made : IsMade f) (laid : Laid) (m : Map) (mapped : IsMapped f laid m) where
  abbrev u : Used
  u = mapped.used

  pub used_placed : IsPlaced f.p mapped.used
  used_placed = placed f made mapped.used mapped.is_used

  lists : Lists f.p u m
  lists = map-lists-written f.p u (made_of laid.marks (length laid.words) (levels f.p) (settle_bound f.p)) m used_placed mapped.is_map

  cell-listed : (cell : ℕ) → cell < u.cells → is_listed m (address_of f.need cell) ≡ true
  cell-listed cell below = subst (λ (need : Needs). is_listed m (address_of need cell) ≡ true) mapped.is_used.need (lists.cells cell below)

  pub lists_written : ListsWritten f m
  lists_written = record {
    status = lists.status;
    intcon = lists.intcon;
    pclath = λ several. lists.pclath (mapped.is_used.pages ∙ several);
    common = lists.common;
    states = λ cell below. let all = mapped.is_used.states in cell-listed cell (omega (arith, below, all));
    cells = λ event cell real below. let all = mapped.is_used.cells event real in cell-listed cell (omega (arith, below, all));
    frames = λ event address real. lists.frames event (frame_in (plan_in f event)) address (mapped.is_used.frames event real);
    flags = λ event real. lists.flags event (f.source event) (real, made.sources event real);
    outputs = lists.outputs;
    setups = lists.setups;
    pie1 = lists.pie1;
    pie2 = lists.pie2;
  }

  pub is_map_in : IsMapIn f (places laid.marks) m
  is_map_in =
      let depth = mapped.is_map.depth in
      let settle = mapped.is_map.settle in
      record {
        events = mapped.is_map.events.named;
        opens = mapped.is_map.events.opens;
        commits = mapped.is_map.events.commits;
        ready = mapped.is_map.ready;
        states = mapped.is_map.states ∙ ap (λ (need : Needs). states_of need f.p) mapped.is_used.need;
        depth = omega (arith, depth);
        settle = omega (arith, settle);
        lists = lists_written;
      }

  pub few_bytes : m.ram ≤ ram_bound f.p
  few_bytes =
      let few = map-reports-few f.p u (made_of laid.marks (length laid.words) (levels f.p) (settle_bound f.p)) m used_placed mapped.is_map in
      let bytes = bytes-bound f made in
      let same = ap bytes_of mapped.is_used.need in
      omega (arith, few, bytes, same)

  pub fits_map : IsLaidOut f laid → FitsMap (made_of laid.marks (length laid.words) (levels f.p) (settle_bound f.p))
  fits_map is = record {
    marks = marks-are_addresses (has_pages (items_of f)) (word_at laid.words) (places laid.marks) (items_of f) 0 (length laid.words % 8192) (omega arith) is.stands is.absent;
    words = is.few;
    depth = made.few;
    settle = settle-few f.p made.written;
  }
