-- In the run of any firmware for a number's program all have reacted.
use Rattle.std.proofs.Common.{◌≡◌, ℕ, zero, suc, ◌+◌, ◌<◌, ◌≤◌, List, [], ◌∷◌, length, map, Some, refl, sym, ap, ap₂, subst, ◌∙◌, arith}
use Rattle.std.specs.List.{All, repeat, sum_by}
use Rattle.std.proofs.lemmas.List.Elements.{All-cons, All-nil}
use Rattle.std.proofs.lemmas.List.Sums.{sum_by-cons}
use Rattle.frp_tree.specs.declared.syntax.Event.{Event}
use Rattle.efrp_meaning.specs.Bounds.{off}
use Rattle.efrp_meaning.specs.Meaning.{state_after}
use Rattle.pic_isa.specs.declared.sources.Source.{Source}
use Rattle.pic_isa.specs.Sources.{sources}
use Rattle.pic_isa.proofs.UniqueNameLaws.{one_source}
use Rattle.pic_regs.specs.Start.{IsStart}
use Rattle.pic_regs.specs.Bytes.{one_if}
use Rattle.pic_machine.specs.Boundary.{Outer}
use Rattle.pic_machine.specs.Run.{Log, outer_of, power_on, program_of}
use Rattle.hex_file.specs.declared.images.Image.{Image}
use Rattle.hex_file.proofs.ImageLaws.{image_determined}
use Rattle.map_file.specs.declared.maps.MapEvent.{MapEvent}
use Rattle.map_file.specs.declared.maps.Map.{Map}
use Rattle.map_file.specs.MapRules.{IsMap}
use Rattle.map_file.proofs.EntryRowLaws.{one_text}
use Rattle.arrival_script.specs.Trace.{outers_of, set_at, start_of}
use Rattle.firmware_promises.specs.Counts.{chip_after, commit_count, commits, count, latched_count, latches}
use Rattle.firmware_promises.specs.Firmware.{AlwaysKeeps, AlwaysSettles, IsQuietLongEnough, Names, event_of}
use Rattle.firmware_promises.specs.Follows.{Alternates, ClosesInTime, Follows, NoWindow}
use Rattle.firmware_promises.specs.Laws.{unsampled}
use Rattle.firmware_promises.specs.MapNames.{states_in}
use Rattle.firmware_promises.specs.Settled.{Settled}
use Rattle.firmware_promises.proofs.SampleLaws.{reactions_are_commits}
use Rattle.large_program.specs.Arrivals.{arrivals, last_boundary}
use Rattle.large_program.specs.LargePrograms.{event_on, large_program}
use Rattle.large_program.specs.Laws.{ArrivalsRise}
use Rattle.large_program.proofs.LargeLaws.{arrivals_rise}
use Rattle.large_run.specs.Laws.{LargeReacts}
use Rattle.large_run.specs.Tallies.{AllReacted, as_script, latched_in, merged_in, run_of, script_of, steps_of}
use Rattle.large_run.proofs.ArriveFacts.{all-come, all-within, arrives-within, first-boundary, outer-arrives}
use Rattle.large_run.proofs.CountFacts.{arrived-in, below-agree, commits-by_event, sums-agree}
use Rattle.large_run.proofs.RunFacts.{arrivals-rise, known-sources}
use Rattle.large_run.proofs.TallyFacts.{more-of_all}
use Rattle.large_run.proofs.WindowFacts.{never-falls, no-window}

-- The map's events are on the eleven sources, in order.
same-sources : (es : List MapEvent) (ss : List Source) → map event_of es ≡ map event_on ss → map (λ (e : MapEvent). e.source) es ≡ ss
same-sources [] [] h = refl
same-sources [] (s ∷ ss) h = let it = h in cc
same-sources (e ∷ es) [] h = let it = h in cc
same-sources (e ∷ es) (s ∷ ss) h =
    let head : event_of e ≡ event_on s = let it = h in cc in
    let tail : map event_of es ≡ map event_on ss = let it = h in cc in
    ap₂ (λ x xs. x ∷ xs) (one_source e.source s (ap (λ (x : Event). x.source) head)) (same-sources es ss tail)

by-source : (f : Source → ℕ) (es : List MapEvent) → sum_by (λ (e : MapEvent). f e.source) es ≡ sum_by f (map (λ (e : MapEvent). e.source) es)
by-source f [] = refl
by-source f (e ∷ es) = sum_by-cons (λ (x : MapEvent). f x.source) e es ∙ ap (λ n. f e.source + n) (by-source f es) ∙ sym (sum_by-cons f e.source (map (λ (x : MapEvent). x.source) es))

-- RAM is filled with 0.
all-small : (count : ℕ) → All (λ (byte : ℕ). byte < 256) (repeat count (0 ∷ []))
all-small zero = All-nil (λ (byte : ℕ). byte < 256)
all-small (suc count) = All-cons (λ (byte : ℕ). byte < 256) 0 (repeat count (0 ∷ [])) (omega arith) (all-small count)

module _ (n : ℕ) (image : Image) (m : Map) (names : Names (large_program n) image m) (rules : IsMap m) (keeps : AlwaysKeeps (large_program n) image m) (settles : AlwaysSettles (large_program n) image m) where
  abbrev log : Log
  log = run_of n image m

  abbrev outers : List Outer
  outers = outers_of (script_of n m)

  law : (i : ℕ) → ArrivalsRise n i
  law = arrivals_rise n

  starts : IsStart (start_of (script_of n m))
  starts = record { places = refl; bytes = all-small 368; w = omega arith; flags = omega arith }

  arrives : (k : ℕ) → (outer_of outers k).arrivals ≡ set_at (as_script (arrivals n)) k
  arrives k = outer-arrives (script_of n m) (last_boundary n) k (all-within n law) (omega arith)

  -- Past the last boundary all 200 have come; and once settle steps have passed behind it, all have reacted.
  all-arrived : (k : ℕ) → last_boundary n < k → latched_in log k + merged_in log k ≡ 200
  all-arrived k past =
      arrived-in (program_of image) (power_on (start_of (script_of n m))) (outer_of outers) k
      ∙ below-agree _ _ (λ j. ap (λ set. sum_by (λ source. one_if (set source)) sources) (arrives j)) k
      ∙ all-come n law (arrivals-rise n law) (known-sources n law) k past

  quiet : (k : ℕ) → last_boundary n + m.settle ≤ k → IsQuietLongEnough m outers k
  quiet k enough =
      (omega (arith, enough), λ j source below at. let within = arrives-within (as_script (arrivals n)) (last_boundary n) j source (all-within n law) (sym (ap (λ set. set source) (arrives j)) ∙ at) in omega (arith, within, enough))

  settled : (k : ℕ) → last_boundary n + m.settle ≤ k → Settled m log k
  settled k enough = settles (start_of (script_of n m)) outers k starts (quiet k enough)

  all-committed : (k : ℕ) → last_boundary n + m.settle ≤ k → length (commits m log k) ≡ latched_in log k
  all-committed k enough =
      sym (commits-by_event m log rules.event_names k)
      ∙ sums-agree (λ e. commit_count m log e k) (λ e. latched_count log e k) m.events (settled k enough).reacted
      ∙ by-source (λ source. count log (latches source) k) m.events
      ∙ ap (sum_by (λ source. count log (latches source) k)) (same-sources m.events sources names.events)

  latches-grow : (a d : ℕ) → latched_in log a ≤ latched_in log (a + d)
  latches-grow = never-falls (latched_in log) (λ k. let more = more-of_all log latches k in omega (arith, more))

  merges-grow : (a d : ℕ) → merged_in log a ≤ merged_in log (a + d)
  merges-grow = never-falls (merged_in log) (λ k. let more = more-of_all log (λ source step. step.merged source) k in omega (arith, more))

  abbrev k : ℕ
  k = steps_of n m

  abbrev past : ℕ
  past = off (large_program n) + 1

  no-more : length (commits m log (k + past)) ≡ length (commits m log k)
  no-more =
      let now = all-committed k (omega arith) in
      let then = all-committed (k + past) (omega arith) in
      let here = all-arrived k (omega arith) in
      let there = all-arrived (k + past) (omega arith) in
      let latched = latches-grow k past in
      let merged = merges-grow k past in
      omega (arith, now, then, here, there, latched, merged)

  follows : Follows (large_program n) m log (k + past)
  follows = (keeps (start_of (script_of n m)) outers (k + past) starts).follows

  closed : NoWindow m log k
  closed =
      let e : k + past ≡ k + off (large_program n) + 1 = omega arith in
      no-window (large_program n) m log k names.code_differs (subst (λ j. Alternates m log j) e follows.turns)
      (subst (λ j. ClosesInTime (large_program n) m log j) e follows.closes) (sym (ap (λ j. length (commits m log j)) e) ∙ no-more)

  states-are : state_after (large_program n) (map unsampled (commits m log k)) ≡ Some (states_in m (chip_after log k))
  states-are =
      let far = first-boundary n law in
      let ready = follows.ready (omega (arith, far)) in
      let soon = ready.1 in
      ap (state_after (large_program n)) (sym (reactions_are_commits (large_program n) m log refl k)) ∙ follows.states ready.0 k ready.2 (omega (arith, soon, far)) (omega arith) closed

  pub reacted : AllReacted n m log k
  reacted = record {
    arrived = all-arrived k (omega arith);
    committed = all-committed k (omega arith);
    states = states-are;
  }

pub large_reacts : (n : ℕ) → LargeReacts n
large_reacts n hex image m firm rules means =
    let image_is = image_determined hex firm.image image firm.means means in
    let map_is = one_text firm.firmware_map m firm.rules rules (sym firm.is_text) in
    reacted n image m (subst (λ (i : Image). Names (large_program n) i m) image_is (subst (λ (x : Map). Names (large_program n) firm.image x) map_is firm.names)) rules
    (subst (λ (i : Image). AlwaysKeeps (large_program n) i m) image_is (subst (λ (x : Map). AlwaysKeeps (large_program n) firm.image x) map_is firm.keeps))
    (subst (λ (i : Image). AlwaysSettles (large_program n) i m) image_is (subst (λ (x : Map). AlwaysSettles (large_program n) firm.image x) map_is firm.settles))
