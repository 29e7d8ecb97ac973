-- The order of a map's entries: section by section, and what each section holds.
use Rattle.std.proofs.Common.{◌≡◌, ◌≢◌, ℕ, Bool, true, false, List, [], ◌∷◌, ◌++◌, map, Option, Some, None, option_and_then, refl, sym, ap, ◌∙◌}
use Rattle.std.specs.List.{cons_option, filter_map}
use Rattle.std.proofs.lemmas.List.{append-nil}
use Rattle.std.proofs.lemmas.List.Elements.{filter_map-append}
use Rattle.map_file.specs.declared.maps.MapEvent.{MapEvent}
use Rattle.map_file.specs.declared.maps.MapState.{MapState}
use Rattle.map_file.specs.declared.maps.MapSample.{MapSample}
use Rattle.map_file.specs.declared.maps.Range.{Range}
use Rattle.map_file.specs.declared.maps.Map.{Map}
use Rattle.map_file.specs.declared.entries.Report.{Report as Reports}
use Rattle.map_file.specs.declared.entries.Entry.{Entry}
use Rattle.map_file.specs.declared.entries.Entry.TheVariants as entry
use Rattle.map_file.specs.declared.entries.Section.{Section}
use Rattle.map_file.specs.declared.entries.Section.TheVariants as section
use Rattle.map_file.specs.Entries.{section_after, entries_of, report_of}

-- The section after a row of entries, where each may stand at its place.
abbrev pub run : Section → List Entry → Option Section
run s [] = Some s
run s (e ∷ es) = option_and_then (λ t. run t es) (section_after s e)

pub run-append : (s : Section) (xs ys : List Entry) → run s (xs ++ ys) ≡ option_and_then (λ t. run t ys) (run s xs)
run-append s [] ys = refl
run-append s (x ∷ xs) ys = go (section_after s x) (λ t. run-append t xs ys)
  where
    go : (o : Option Section) → ((t : Section) → run t (xs ++ ys) ≡ option_and_then (λ u. run u ys) (run t xs)) → option_and_then (λ t. run t (xs ++ ys)) o ≡ option_and_then (λ t. run t ys) (option_and_then (λ t. run t xs) o)
    go None after = refl
    go (Some t) after = after t

run_ranges : (rs : List Range) (r : Reports) → run section.Registers (map entry.Regs rs ++ (entry.Report r ∷ [])) ≡ Some section.End
run_ranges [] r = refl
run_ranges (x ∷ rs) r = run_ranges rs r

run_samples : (ss : List MapSample) (address : ℕ) (rest : List Entry) → run section.Samples (map entry.Sample ss ++ (entry.Ready address ∷ rest)) ≡ run section.Registers rest
run_samples [] address rest = refl
run_samples (x ∷ ss) address rest = run_samples ss address rest

-- Samples may follow each of the sections before them.
IsEarly : Section → Type 0
IsEarly s = ((x : MapSample) → section_after s (entry.Sample x) ≡ Some section.Samples) × ((address : ℕ) → section_after s (entry.Ready address) ≡ Some section.Registers)

samples_after : (s : Section) (ss : List MapSample) (address : ℕ) (rest : List Entry) → IsEarly s → run s (map entry.Sample ss ++ (entry.Ready address ∷ rest)) ≡ run section.Registers rest
unfolding IsEarly
samples_after s [] address rest early = ap (option_and_then (λ t. run t rest)) (early.1 address)
samples_after s (x ∷ ss) address rest early = ap (option_and_then (λ t. run t (map entry.Sample ss ++ (entry.Ready address ∷ rest)))) (early.0 x) ∙ run_samples ss address rest

run_outputs : (os : List ℕ) (ss : List MapSample) (address : ℕ) (rest : List Entry) → run section.Outputs (map entry.Output os ++ (map entry.Sample ss ++ (entry.Ready address ∷ rest))) ≡ run section.Registers rest
unfolding IsEarly
run_outputs [] ss address rest = samples_after section.Outputs ss address rest (λ x. refl, λ a. refl)
run_outputs (x ∷ os) ss address rest = run_outputs os ss address rest

outputs_after_states : (os : List ℕ) (ss : List MapSample) (address : ℕ) (rest : List Entry) → run section.States (map entry.Output os ++ (map entry.Sample ss ++ (entry.Ready address ∷ rest))) ≡ run section.Registers rest
unfolding IsEarly
outputs_after_states [] ss address rest = samples_after section.States ss address rest (λ x. refl, λ a. refl)
outputs_after_states (x ∷ os) ss address rest = run_outputs os ss address rest

outputs_after_events : (os : List ℕ) (ss : List MapSample) (address : ℕ) (rest : List Entry) → run section.Events (map entry.Output os ++ (map entry.Sample ss ++ (entry.Ready address ∷ rest))) ≡ run section.Registers rest
unfolding IsEarly
outputs_after_events [] ss address rest = samples_after section.Events ss address rest (λ x. refl, λ a. refl)
outputs_after_events (x ∷ os) ss address rest = run_outputs os ss address rest

run_states : (xs : List MapState) (os : List ℕ) (ss : List MapSample) (address : ℕ) (rest : List Entry) → run section.States (map entry.State xs ++ (map entry.Output os ++ (map entry.Sample ss ++ (entry.Ready address ∷ rest)))) ≡ run section.Registers rest
run_states [] os ss address rest = outputs_after_states os ss address rest
run_states (x ∷ xs) os ss address rest = run_states xs os ss address rest

states_after_events : (xs : List MapState) (os : List ℕ) (ss : List MapSample) (address : ℕ) (rest : List Entry) → run section.Events (map entry.State xs ++ (map entry.Output os ++ (map entry.Sample ss ++ (entry.Ready address ∷ rest)))) ≡ run section.Registers rest
states_after_events [] os ss address rest = outputs_after_events os ss address rest
states_after_events (x ∷ xs) os ss address rest = run_states xs os ss address rest

run_events : (es : List MapEvent) (rest : List Entry) → run section.Events (map entry.Event es ++ rest) ≡ run section.Events rest
run_events [] rest = refl
run_events (x ∷ es) rest = run_events es rest

-- A map's entries are in order, up to the end.
pub run_map : (m : Map) → run section.Start (entries_of m) ≡ Some section.End
run_map m = run_events m.events _ ∙ states_after_events m.states m.outputs m.samples m.ready _ ∙ run_ranges m.regs (report_of m)

-- What follows some of a map's entries ends where the map does.
rest_ends : (m : Map) (s : Section) (xs more : List Entry) → run section.Start xs ≡ Some s → entries_of m ≡ xs ++ more → run s more ≡ Some section.End
rest_ends m s xs more reached same = sym (ap (option_and_then (λ t. run t more)) reached) ∙ sym (run-append section.Start xs more) ∙ sym (ap (run section.Start) same) ∙ run_map m

-- An entry that can't stand at its place is in no map's row there.
pub out_of_order : (m : Map) (s : Section) (xs more : List Entry) (e : Entry) → run section.Start xs ≡ Some s → entries_of m ≡ xs ++ (e ∷ more) → section_after s e ≢ None
out_of_order m s xs more e reached same none =
    let clash : None ≡ Some section.End = sym (ap (option_and_then (λ t. run t more)) none) ∙ rest_ends m s xs (e ∷ more) reached same in
    cc clash

-- The kinds of entries of which a map may have several.
pub data Kind : Type 0 where
  Events : Kind
  States : Kind
  Outputs : Kind
  Samples : Kind
  Ranges : Kind

abbrev pub Of : Kind → Type 0
Of Events = MapEvent
Of States = MapState
Of Outputs = ℕ
Of Samples = MapSample
Of Ranges = Range

-- What a map has of a kind, and what an entry of this kind states.
abbrev pub all_of : (k : Kind) → Map → List (Of k)
all_of Events m = m.events
all_of States m = m.states
all_of Outputs m = m.outputs
all_of Samples m = m.samples
all_of Ranges m = m.regs

abbrev pub stated : (k : Kind) → Entry → Option (Of k)
stated Events (entry.Event e) = Some e
stated States (entry.State s) = Some s
stated Outputs (entry.Output port) = Some port
stated Samples (entry.Sample s) = Some s
stated Ranges (entry.Regs r) = Some r
stated k e = None

abbrev ready_in : Entry → Option ℕ
ready_in (entry.Ready address) = Some address
ready_in e = None

abbrev report_in : Entry → Option Reports
report_in (entry.Report r) = Some r
report_in e = None

-- From the samples on no event stands.
abbrev is_late : Section → Bool
is_late section.Samples = true
is_late section.Registers = true
is_late section.End = true
is_late s = false

IsLateStep : Section → Entry → Type 0
IsLateStep t e = (is_late t ≡ true) × (stated Events e ≡ None)

late_step : (s t : Section) (e : Entry) → is_late s ≡ true → section_after s e ≡ Some t → IsLateStep t e
unfolding IsLateStep
late_step section.Samples t (entry.Sample x) late after = let same : section.Samples ≡ t = cc after in (sym (ap is_late same), refl)
late_step section.Samples t (entry.Ready x) late after = let same : section.Registers ≡ t = cc after in (sym (ap is_late same), refl)
late_step section.Registers t (entry.Regs x) late after = let same : section.Registers ≡ t = cc after in (sym (ap is_late same), refl)
late_step section.Registers t (entry.Report x) late after = let same : section.End ≡ t = cc after in (sym (ap is_late same), refl)
late_step s t e late after = cc

no_events_late : (s : Section) (es : List Entry) → is_late s ≡ true → run s es ≡ Some section.End → filter_map (stated Events) es ≡ []
unfolding IsLateStep
no_events_late s [] late ends = refl
no_events_late s (e ∷ es) late ends = go (section_after s e) refl (λ t. no_events_late t es)
  where
    go : (o : Option Section) → section_after s e ≡ o → ((t : Section) → is_late t ≡ true → run t es ≡ Some section.End → filter_map (stated Events) es ≡ []) → filter_map (stated Events) (e ∷ es) ≡ []
    go None next rest = let none : None ≡ Some section.End = sym (ap (option_and_then (λ t. run t es)) next) ∙ ends in cc none
    go (Some t) next rest =
        let step = late_step s t e late next in
        let more = rest t step.0 (sym (ap (option_and_then (λ u. run u es)) next) ∙ ends) in
        rw (step.1, more)

sample_is_late : (s t : Section) (x : MapSample) → section_after s (entry.Sample x) ≡ Some t → is_late t ≡ true
sample_is_late section.Events t x after = let same : section.Samples ≡ t = cc after in sym (ap is_late same)
sample_is_late section.States t x after = let same : section.Samples ≡ t = cc after in sym (ap is_late same)
sample_is_late section.Outputs t x after = let same : section.Samples ≡ t = cc after in sym (ap is_late same)
sample_is_late section.Samples t x after = let same : section.Samples ≡ t = cc after in sym (ap is_late same)
sample_is_late s t x after = absurd (cc after)

-- No event of a map stands after one of its samples.
pub no_event_after_sample : (m : Map) (s : Section) (xs more : List Entry) (x : MapSample) → run section.Start xs ≡ Some s → entries_of m ≡ xs ++ (entry.Sample x ∷ more) → filter_map (stated Events) more ≡ []
no_event_after_sample m s xs more x reached same = go (section_after s (entry.Sample x)) refl
  where
    ends : run s (entry.Sample x ∷ more) ≡ Some section.End
    ends = rest_ends m s xs (entry.Sample x ∷ more) reached same

    go : (o : Option Section) → section_after s (entry.Sample x) ≡ o → filter_map (stated Events) more ≡ []
    go None next = let none : None ≡ Some section.End = sym (ap (option_and_then (λ t. run t more)) next) ∙ ends in cc none
    go (Some t) next = no_events_late t more (sample_is_late s t x next) (sym (ap (option_and_then (λ u. run u more)) next) ∙ ends)

-- The entries of a map state what it has of each kind.
picks : {X Y : Type 0} (h : Entry → Option Y) (f : X → Entry) (xs : List X) → filter_map h (map f xs) ≡ filter_map (λ x. h (f x)) xs
picks h f [] = refl
picks h f (x ∷ xs) = ap (cons_option (h (f x))) (picks h f xs)

all_kept : {X : Type 0} (xs : List X) → filter_map (λ x. Some x) xs ≡ xs
all_kept [] = refl
all_kept (x ∷ xs) = ap (λ more. x ∷ more) (all_kept xs)

none_kept : {X Y : Type 0} (xs : List X) → filter_map {X = X} {Y = Y} (λ x. None) xs ≡ []
none_kept [] = refl
none_kept (x ∷ xs) = none_kept xs

by_entry : {Y : Type 0} (h : Entry → Option Y) (m : Map)
    → filter_map h (entries_of m)
    ≡ cons_option (h entry.Head) (filter_map (λ x. h (entry.Event x)) m.events ++ (filter_map (λ x. h (entry.State x)) m.states
    ++ (filter_map (λ x. h (entry.Output x)) m.outputs ++ (filter_map (λ x. h (entry.Sample x)) m.samples
    ++ cons_option (h (entry.Ready m.ready)) (filter_map (λ x. h (entry.Regs x)) m.regs ++ filter_map h (entry.Report (report_of m) ∷ []))))))
by_entry h m = simp (filter_map-append, picks)

pub told : (k : Kind) (m : Map) → filter_map (stated k) (entries_of m) ≡ all_of k m
told Events m = by_entry (stated Events) m ∙ simp (all_kept, none_kept, append-nil)
told States m = by_entry (stated States) m ∙ simp (all_kept, none_kept, append-nil)
told Outputs m = by_entry (stated Outputs) m ∙ simp (all_kept, none_kept, append-nil)
told Samples m = by_entry (stated Samples) m ∙ simp (all_kept, none_kept, append-nil)
told Ranges m = by_entry (stated Ranges) m ∙ simp (all_kept, none_kept, append-nil)

ready_of : (m : Map) → filter_map ready_in (entries_of m) ≡ m.ready ∷ []
ready_of m = by_entry ready_in m ∙ simp none_kept

report_told : (m : Map) → filter_map report_in (entries_of m) ≡ report_of m ∷ []
report_told m = by_entry report_in m ∙ simp none_kept

-- A map is told by its entries.
pub one_map : (m n : Map) → entries_of m ≡ entries_of n → m ≡ n
one_map m n e =
    let same : (k : Kind) → all_of k m ≡ all_of k n = λ k. sym (told k m) ∙ ap (filter_map (stated k)) e ∙ told k n in
    let readies = sym (ready_of m) ∙ ap (filter_map ready_in) e ∙ ready_of n in
    let reports = sym (report_told m) ∙ ap (filter_map report_in) e ∙ report_told n in
    let ready : m.ready ≡ n.ready = cc readies in
    let report : report_of m ≡ report_of n = cc reports in
    λ i. record {
      events = same Events i;
      states = same States i;
      outputs = same Outputs i;
      samples = same Samples i;
      ready = ready i;
      regs = same Ranges i;
      depth = (report i).depth;
      ram = (report i).ram;
      words = (report i).words;
      settle = (report i).settle;
    }
