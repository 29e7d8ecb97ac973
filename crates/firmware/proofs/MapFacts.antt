-- The frames of runs, the most cells of a work, and that what firmware uses is told by these.
use Rattle.std.proofs.Common.{◌≡◌, ℕ, suc, ◌+◌, ◌<◌, ◌≤◌, ◌⊎◌, nat_lt, List, [], ◌∷◌, ◌++◌, length, length-append, map, max, get_or, take, slice_get, Some, refl, sym, ap, subst, ◌∙◌, arith, inl, inr}
use Rattle.std.proofs.lemmas.Bool.{cases_lt}
use Rattle.std.proofs.lemmas.List.{get_or_append_left, get_or_push}
use Rattle.std.proofs.lemmas.List.Recursion.{max_bounds, max_least, max_push}
use Rattle.std.proofs.lemmas.Option.{get_or_from_slice_get, slice_get-get_or, slice_get_within}
use Rattle.efrp_meaning.specs.Bounds.{greatest, levels, settle_bound, state_bytes}
use Rattle.pic_isa.specs.declared.sources.Source.{Source}
use Rattle.map_file.specs.declared.maps.Map.{Map}
use Rattle.bank_alloc.specs.Needs.{bytes_of}
use Rattle.glue_parts.specs.declared.spread.Spread.{Spread}
use Rattle.page_layout.specs.declared.laid.Laid.{Laid}
use Rattle.scratch_commit.specs.declared.frames.Frame.{Frame}
use Rattle.scratch_commit.specs.Plans.{frame_in}
use Rattle.event_needs.proofs.ListLaws.{take-one}
use Rattle.event_code.specs.declared.works.Work.{Work}
use Rattle.firmware_map.specs.Maps.{IsMapOf, Made, made_of}
use Rattle.firmware_map.specs.Written.{Used}
use Rattle.firmware_layout.specs.declared.code.Parts.{Parts}
use Rattle.firmware_layout.specs.Codes.{makings_of, program_in}
use Rattle.firmware_layout.specs.Pieces.{Makings, plan_in}
use Rattle.firmware_written.specs.Written.{IsMapped, IsUsedBy}
use Rattle.firmware.specs.Making.{AreFrames, AreFramesOf, AreMade}
use Rattle.firmware.proofs.MadeFacts.{cells_at, work_at}
use Rattle.firmware.proofs.WorkFacts.{has_room}

pub one_frame_more : (f : Makings) (count : ℕ) (frames : List Frame) (one : Frame) → AreFramesOf f count frames → one ≡ frame_in (plan_in f count)
    → AreFramesOf f (count + 1) (frames ++ one ∷ [])
one_frame_more f count frames one are its = record {
  number = long;
  each = λ event less. let inside : event < length (frames ++ one ∷ []) = omega (arith, less, long) in
      slice_get-get_or (frames ++ one ∷ []) event (frame_in (plan_in f event)) inside ∙ ap Some (by_place event less (cases_lt event count));
}
  where
    long : length (frames ++ one ∷ []) ≡ count + 1
    long = let both = length-append frames (one ∷ []) in let number = are.number in omega (arith, both, number)

    by_place : (event : ℕ) → event < count + 1 → (event < count) ⊎ (count ≤ event) → get_or (frames ++ one ∷ []) event (frame_in (plan_in f event)) ≡ frame_in (plan_in f event)
    by_place event less (inl before) =
        let number = are.number in
        get_or_append_left frames (one ∷ []) (frame_in (plan_in f event)) event (omega (arith, before, number))
        ∙ get_or_from_slice_get frames event (frame_in (plan_in f event)) (frame_in (plan_in f event)) (are.each event before)
    by_place event less (inr most) =
        let last : event ≡ count = omega (arith, less, most) in
        get_or_push frames one (frame_in (plan_in f event)) event (are.number ∙ sym last) ∙ its ∙ ap (λ n. frame_in (plan_in f n)) (sym last)

-- The most cells of a work.
abbrev pub cells_of : List Work → ℕ
cells_of works = greatest (map (λ (w : Work). w.cells) works)

pub one_more_cells : (works : List Work) (n : ℕ) (w : Work) (states cells : ℕ) → slice_get works n ≡ Some w → cells ≡ max states (cells_of (take n works))
    → max cells w.cells ≡ max states (cells_of (take (n + 1) works))
one_more_cells works n w states cells found is =
    let more = max_push cells_of (λ (w : Work). w.cells) refl (λ w ws. refl) (take n works) w in
    let taken = ap cells_of (take-one works n w found) in
    omega (arith, is, more, taken)

-- What the firmware uses.
module _ (parts : Parts) (made : AreMade parts) (cells : ℕ) (is : cells ≡ max (state_bytes (program_in parts)) (cells_of parts.works.now)) where
  few_cells : (event : ℕ) (w : Work) → slice_get parts.works.now event ≡ Some w → w.cells ≤ bytes_of parts.places.now.need
  few_cells event w found =
      let its = made.works.each event w found in
      let number = made.works.number in
      let inside = slice_get_within parts.works.now event w found in
      let room = has_room (program_in parts) parts.places.now.need event made.needs (omega (arith, number, inside)) in
      let own = its.works.room in
      let same = its.is_work.cells in
      omega (arith, room, own, same)

  least : cells_of parts.works.now ≤ bytes_of parts.places.now.need
  least = least_of parts.works.now (λ n w found. few_cells n w found)
    where
      least_of : (works : List Work) → ((n : ℕ) (w : Work) → slice_get works n ≡ Some w → w.cells ≤ bytes_of parts.places.now.need) → cells_of works ≤ bytes_of parts.places.now.need
      least_of [] each = omega arith
      least_of (w ∷ ws) each =
          let first = each 0 w refl in
          let rest = least_of ws (λ n v found. each (suc n) v found) in
          omega (arith, first, rest)

  pub states_within : state_bytes (program_in parts) ≤ cells
  states_within = omega (arith, is)

  pub cells_within : cells ≤ bytes_of parts.places.now.need
  cells_within = let all = least in let states = made.needs.states in omega (arith, is, all, states)

  pub is_used : (spread : Spread) (source : ℕ → Source) (frames : List Frame) → AreFrames (makings_of parts spread source) frames
      → IsUsedBy (makings_of parts spread source) (record { need = parts.places.now.need; frames = frames; cells = cells; pages = spread.pages })
  is_used spread source frames are = record {
    need = refl;
    pages = refl;
    states = states_within;
    cells = λ event inside.
        let w = work_at parts made event inside in
        let same = cells_at parts spread source event w.0 w.1 in
        let within = slice_get_within parts.works.now event w.0 w.1 in
        let here = get_or_from_slice_get parts.works.now event w.0 w.0 w.1 in
        let most = max_bounds cells_of (λ (w : Work). w.cells) refl (λ w ws. refl) parts.works.now event w.0 within in
        let own = ap (λ (v : Work). v.cells) here in
        omega (arith, is, same, most, own);
    placed = cells_within;
    number = are.number;
    frames = are.each;
  }

  -- And the map is made by it.
  pub is_mapped : (spread : Spread) (source : ℕ → Source) (frames : List Frame) (laid : Laid) (m : Map) (marks : List ℕ) (words depth settle : ℕ)
      → AreFrames (makings_of parts spread source) frames → marks ≡ laid.marks → words ≡ length laid.words → depth ≡ levels (program_in parts) → settle ≡ settle_bound (program_in parts)
      → IsMapOf (program_in parts) (record { need = parts.places.now.need; frames = frames; cells = cells; pages = spread.pages }) (made_of marks words depth settle) m
      → IsMapped (makings_of parts spread source) laid m
  is_mapped spread source frames laid m marks words depth settle are marks_are words_are depths settles its =
      let used : Used = record { need = parts.places.now.need; frames = frames; cells = cells; pages = spread.pages } in
      record {
        used = used;
        is_used = is_used spread source frames are;
        is_map = subst (λ (made : Made). IsMapOf (program_in parts) used made m) (λ j. made_of (marks_are j) (words_are j) (depths j) (settles j)) its;
      }
