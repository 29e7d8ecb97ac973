-- What a draft of a map says of the entries read so far.
use Rattle.std.proofs.Common.{◌≡◌, ◌≢◌, ℕ, ◌+◌, ◌<◌, ◌≤◌, Bool, true, false, not, ◌&&◌, ◌||◌, ◌==◌, nat_lt, List, [], ◌∷◌, ◌++◌, length, map, Option, Some, option_and_then, inl, inr, refl, sym, ap, subst, ◌∙◌, arith}
use Rattle.std.specs.List.{filter_map, list_all, AllByRecursion}
use Rattle.std.specs.Map.{lookup}
use Rattle.std.specs.Str.{bytes_eq}
use Rattle.std.proofs.lemmas.Bool.{and_parts, and_from, ltb-true, lt-ltb, leb-true, le-leb, not-true, eqb-true, eq-eqb, both_ways}
use Rattle.std.proofs.lemmas.List.{append_assoc, append-nil, map-append, length-append}
use Rattle.std.proofs.lemmas.List.Elements.{filter_map-append}
use Rattle.std.proofs.lemmas.Slice.Eq.{bytes_eq-Decides}
use Rattle.pic_isa.specs.declared.sources.Source.{Source}
use Rattle.pic_isa.specs.declared.sources.Source.TheVariants as source
use Rattle.pic_isa.specs.Sources.{source_number}
use Rattle.map_file.specs.declared.maps.MapEvent.{MapEvent}
use Rattle.map_file.specs.declared.maps.MapState.{MapState}
use Rattle.map_file.specs.declared.maps.MapSample.{MapSample}
use Rattle.map_file.specs.declared.maps.Range.{Range}
use Rattle.map_file.specs.declared.maps.Map.{Map}
use Rattle.map_file.specs.declared.drafts.Draft.{Draft}
use Rattle.map_file.specs.declared.entries.Entry.{Entry}
use Rattle.map_file.specs.declared.entries.Entry.TheVariants as entry
use Rattle.map_file.specs.declared.entries.Section.{Section}
use Rattle.map_file.specs.declared.entries.Section.TheVariants as section
use Rattle.map_file.specs.MapRules.{IsMap, IsEvent, IsSample, IsState, AllDiffer, RangesRise, names_event, pair}
use Rattle.map_file.specs.Entries.{section_after, entries_of, report_of, IsEntry, IsRange}
use Rattle.map_file.specs.Drafts.{admits, with_entry, lowest_with, Added, events_differ, states_differ, samples_differ, empty_draft}
use Rattle.map_file.proofs.FieldCutFacts.{all_append}
use Rattle.map_file.proofs.EntryOrderFacts.{run, run-append, out_of_order, no_event_after_sample, Kind, Events, States, Outputs, Samples, Ranges, all_of, stated, told}

-- Names and sources that differ.

differ_push : {A B : Type 0} (f : A → B) (xs : List A) (x : A) → AllDiffer f xs → AllByRecursion (λ y. f x ≢ f y) xs → AllDiffer f (xs ++ x ∷ [])
differ_push f [] x h k = (tt, tt)
differ_push f (y ∷ ys) x h k = (all_append (λ z. f z ≢ f y) ys (x ∷ []) h.0 (k.0, tt), differ_push f ys x h.1 k.1)

all_front : {A : Type 0} (P : A → Type 0) (xs : List A) (x : A) (more : List A) → AllByRecursion P (xs ++ x ∷ more) → P x
all_front P [] x more h = h.0
all_front P (y ∷ ys) x more h = all_front P ys x more h.1

differ_front : {A B : Type 0} (f : A → B) (xs : List A) (x : A) (more : List A) → AllDiffer f (xs ++ x ∷ more) → AllByRecursion (λ y. f x ≢ f y) xs
differ_front f [] x more h = tt
differ_front f (y ∷ ys) x more h = (all_front (λ z. f z ≢ f y) ys x more h.0, differ_front f ys x more h.1)

names_apart : (a b : List ℕ) → not (bytes_eq a b) ≡ true → b ≢ a
names_apart a b h e = both_ways (bytes_eq a b) (not-true (bytes_eq a b) h) ((bytes_eq-Decides a b).1 (sym e))

names_differ : (a b : List ℕ) → b ≢ a → not (bytes_eq a b) ≡ true
names_differ a b h = go (bytes_eq a b) refl
  where
    go : (t : Bool) → bytes_eq a b ≡ t → not t ≡ true
    go false e = refl
    go true e = absurd (h (sym ((bytes_eq-Decides a b).0 e)))

sources_apart : (a b : Source) → not (source_number a == source_number b) ≡ true → b ≢ a
sources_apart a b h e = both_ways (source_number a == source_number b) (not-true (source_number a == source_number b) h) (eq-eqb (source_number a) (source_number b) (ap source_number (sym e)))

abbrev sources : List (ℕ × Source)
sources =
    (0, source.T0) ∷ (1, source.Int) ∷ (2, source.Psp) ∷ (3, source.Ad) ∷ (4, source.Ssp) ∷ (5, source.Ccp1)
    ∷ (6, source.Tmr2) ∷ (7, source.Tmr1) ∷ (8, source.Ee) ∷ (9, source.Bcl) ∷ (10, source.Ccp2) ∷ []

abbrev source_at : ℕ → Option Source
source_at n = lookup (λ k. k == n) sources

source_back : (s : Source) → source_at (source_number s) ≡ Some s
source_back source.T0 = refl
source_back _ = refl

one_number : (a b : Source) → source_number a ≡ source_number b → a ≡ b
one_number a b e = let found : Some a ≡ Some b = sym (source_back a) ∙ ap source_at e ∙ source_back b in cc found

sources_differ : (a b : Source) → b ≢ a → not (source_number a == source_number b) ≡ true
sources_differ a b h = go (source_number a == source_number b) refl
  where
    go : (t : Bool) → (source_number a == source_number b) ≡ t → not t ≡ true
    go false e = refl
    go true e = absurd (h (sym (one_number a b (eqb-true (source_number a) (source_number b) e))))

events_apart : (xs : List MapEvent) (e : MapEvent) → list_all (λ other. events_differ other e) xs ≡ true → AllByRecursion (λ other. e.name ≢ other.name) xs × AllByRecursion (λ other. e.source ≢ other.source) xs
events_apart [] e h = (tt, tt)
events_apart (x ∷ xs) e h =
    let (here, rest) = and_parts (events_differ x e) (list_all (λ other. events_differ other e) xs) h in
    let (name, source) = and_parts (not (bytes_eq x.name e.name)) (not (source_number x.source == source_number e.source)) here in
    let (names, sources) = events_apart xs e rest in
    ((names_apart x.name e.name name, names), (sources_apart x.source e.source source, sources))

events_pass : (xs : List MapEvent) (e : MapEvent) → AllByRecursion (λ other. e.name ≢ other.name) xs → AllByRecursion (λ other. e.source ≢ other.source) xs → list_all (λ other. events_differ other e) xs ≡ true
events_pass [] e h k = refl
events_pass (x ∷ xs) e h k =
    and_from (events_differ x e) (list_all (λ other. events_differ other e) xs) (and_from (not (bytes_eq x.name e.name)) (not (source_number x.source == source_number e.source)) (names_differ x.name e.name h.0) (sources_differ x.source e.source k.0))
    (events_pass xs e h.1 k.1)

states_apart : (xs : List MapState) (s : MapState) → list_all (λ other. states_differ other s) xs ≡ true → AllByRecursion (λ other. s.name ≢ other.name) xs
states_apart [] s h = tt
states_apart (x ∷ xs) s h = let (here, rest) = and_parts (states_differ x s) (list_all (λ other. states_differ other s) xs) h in (names_apart x.name s.name here, states_apart xs s rest)

states_pass : (xs : List MapState) (s : MapState) → AllByRecursion (λ other. s.name ≢ other.name) xs → list_all (λ other. states_differ other s) xs ≡ true
states_pass [] s h = refl
states_pass (x ∷ xs) s h = and_from (states_differ x s) (list_all (λ other. states_differ other s) xs) (names_differ x.name s.name h.0) (states_pass xs s h.1)

-- Samples of other pairs.

pairs_apart : (a b : MapSample) → samples_differ a b ≡ true → pair b ≢ pair a
pairs_apart a b h e =
    let events = (bytes_eq-Decides a.event b.event).1 (sym (ap (λ (p : List ℕ × List ℕ). p.0) e)) in
    let inputs = (bytes_eq-Decides a.input b.input).1 (sym (ap (λ (p : List ℕ × List ℕ). p.1) e)) in
    let test = bytes_eq a.event b.event && bytes_eq a.input b.input in
    both_ways test (not-true test h) (and_from (bytes_eq a.event b.event) (bytes_eq a.input b.input) events inputs)

pairs_differ : (a b : MapSample) → pair b ≢ pair a → samples_differ a b ≡ true
pairs_differ a b h = go (bytes_eq a.event b.event && bytes_eq a.input b.input) refl
  where
    go : (t : Bool) → (bytes_eq a.event b.event && bytes_eq a.input b.input) ≡ t → not t ≡ true
    go false e = refl
    go true e =
        let (events, inputs) = and_parts (bytes_eq a.event b.event) (bytes_eq a.input b.input) e in
        let event = sym ((bytes_eq-Decides a.event b.event).0 events) in
        let input = sym ((bytes_eq-Decides a.input b.input).0 inputs) in
        absurd (h (λ i. (event i, input i)))

samples_apart : (xs : List MapSample) (s : MapSample) → list_all (λ other. samples_differ other s) xs ≡ true → AllByRecursion (λ other. pair s ≢ pair other) xs
samples_apart [] s h = tt
samples_apart (x ∷ xs) s h = let (here, rest) = and_parts (samples_differ x s) (list_all (λ other. samples_differ other s) xs) h in (pairs_apart x s here, samples_apart xs s rest)

samples_pass : (xs : List MapSample) (s : MapSample) → AllByRecursion (λ other. pair s ≢ pair other) xs → list_all (λ other. samples_differ other s) xs ≡ true
samples_pass [] s h = refl
samples_pass (x ∷ xs) s h = and_from (samples_differ x s) (list_all (λ other. samples_differ other s) xs) (pairs_differ x s h.0) (samples_pass xs s h.1)

-- With one more event each sample is still of an event.
named_more : (es : List MapEvent) (e : MapEvent) (name : List ℕ) → names_event es name ≡ true → names_event (es ++ e ∷ []) name ≡ true
named_more [] e name h = cc
named_more (x ∷ es) e name h = go (bytes_eq x.name name) (named_more es e name) h
  where
    go : (t : Bool) → (names_event es name ≡ true → names_event (es ++ e ∷ []) name ≡ true) → (t || names_event es name) ≡ true → (t || names_event (es ++ e ∷ []) name) ≡ true
    go true more k = refl
    go false more k = more k

samples_more : (es : List MapEvent) (e : MapEvent) (ss : List MapSample) → AllByRecursion (IsSample es) ss → AllByRecursion (IsSample (es ++ e ∷ [])) ss
samples_more es e [] h = tt
samples_more es e (s ∷ ss) h = (record { event = named_more es e s.event h.0.event; input = h.0.input; at = h.0.at }, samples_more es e ss h.1)

-- Ranges that rise.

abbrev pub lowest_after : ℕ → List Range → ℕ
lowest_after low [] = low
lowest_after low (r ∷ rs) = lowest_after (r.to + 2) rs

lowest_push : (low : ℕ) (rs : List Range) (r : Range) → lowest_after low (rs ++ r ∷ []) ≡ r.to + 2
lowest_push low [] r = refl
lowest_push low (x ∷ rs) r = lowest_push (x.to + 2) rs r

rise_push : (low : ℕ) (rs : List Range) (r : Range) → RangesRise low rs → lowest_after low rs ≤ r.from → IsRange r → RangesRise low (rs ++ r ∷ [])
rise_push low [] r h k v = (k, v.0, v.1, tt)
rise_push low (x ∷ rs) r h k v = (h.0, h.1, h.2, rise_push (x.to + 2) rs r h.3 k v)

rise_front : (low : ℕ) (rs : List Range) (r : Range) (more : List Range) → RangesRise low (rs ++ r ∷ more) → lowest_after low rs ≤ r.from
rise_front low [] r more h = h.0
rise_front low (x ∷ rs) r more h = rise_front (x.to + 2) rs r more h.3

-- The entries that a draft was made from.

abbrev pub so_far : Section → Map → List Entry
so_far section.Start m = []
so_far section.Events m = entry.Head ∷ map entry.Event m.events
so_far section.States m = entry.Head ∷ (map entry.Event m.events ++ map entry.State m.states)
so_far section.Outputs m = entry.Head ∷ (map entry.Event m.events ++ (map entry.State m.states ++ map entry.Output m.outputs))
so_far section.Samples m = entry.Head ∷ (map entry.Event m.events ++ (map entry.State m.states ++ (map entry.Output m.outputs ++ map entry.Sample m.samples)))
so_far section.Registers m = entry.Head ∷ (map entry.Event m.events ++ (map entry.State m.states ++ (map entry.Output m.outputs ++ (map entry.Sample m.samples ++ (entry.Ready m.ready ∷ map entry.Regs m.regs)))))
so_far section.End m = entries_of m

-- What later sections hold is still empty.
abbrev pub IsLater : Section → Map → Type 0
IsLater section.Start m = (m.events ≡ []) × (m.states ≡ []) × (m.outputs ≡ []) × (m.samples ≡ []) × (m.regs ≡ [])
IsLater section.Events m = (m.states ≡ []) × (m.outputs ≡ []) × (m.samples ≡ []) × (m.regs ≡ [])
IsLater section.States m = (m.outputs ≡ []) × (m.samples ≡ []) × (m.regs ≡ [])
IsLater section.Outputs m = (m.samples ≡ []) × (m.regs ≡ [])
IsLater section.Samples m = m.regs ≡ []
IsLater section.Registers m = Unit {0}
IsLater section.End m = Unit {0}

pub record IsDraft (xs : List Entry) (d : Draft) : Type 0 where
  pub entries : xs ≡ so_far d.section d.map
  pub reached : run section.Start xs ≡ Some d.section
  pub parts : (k : Kind) → filter_map (stated k) xs ≡ all_of k d.map
  pub lowest : d.lowest ≡ lowest_after 0 d.map.regs
  pub later : IsLater d.section d.map
  pub rules : IsMap d.map

no_parts : (k : Kind) → [] ≡ all_of k empty_draft.map
no_parts Events = refl
no_parts _ = refl

pub empty_is_draft : IsDraft [] empty_draft
empty_is_draft = record { entries = refl; reached = refl; parts = no_parts; lowest = refl; later = (refl, refl, refl, refl, refl); rules = search (arith) }

-- Each draft's entries are a prefix of its map's.
pub still_to_come : (s : Section) (m : Map) → (more : List Entry) × (entries_of m ≡ so_far s m ++ more)
still_to_come section.Start m = (entries_of m, refl)
still_to_come section.Events m = (_, refl)
still_to_come section.States m = (_, ap (λ u. entry.Head ∷ u) (sym (append_assoc (map entry.Event m.events) (map entry.State m.states) _)))
still_to_come section.Outputs m = (map entry.Sample m.samples ++ (entry.Ready m.ready ∷ (map entry.Regs m.regs ++ (entry.Report (report_of m) ∷ []))), simp append_assoc)
still_to_come section.Samples m = (entry.Ready m.ready ∷ (map entry.Regs m.regs ++ (entry.Report (report_of m) ∷ [])), simp append_assoc)
still_to_come section.Registers m = (entry.Report (report_of m) ∷ [], simp append_assoc)
still_to_come section.End m = ([], sym (append-nil (entries_of m)))

-- One more entry.

Pushed : Section → Map → Entry → List Entry → Type 0
Pushed t m e xs = (so_far t (with_entry m e) ≡ xs ++ e ∷ []) × IsLater t (with_entry m e)

placed : (u t : Section) (m : Map) (e : Entry) (xs : List Entry) → Some u ≡ Some t → Pushed u m e xs → Pushed t m e xs
placed u t m e xs same it = let there : u ≡ t = cc same in subst (λ v. Pushed v m e xs) there it

pushed : (s t : Section) (m : Map) (e : Entry) → IsLater s m → section_after s e ≡ Some t → Pushed t m e (so_far s m)
unfolding Pushed
pushed section.Start t m entry.Head l h = placed section.Events t m entry.Head [] h (simp l.0, (l.1, l.2, l.3, l.4))
pushed section.Events t m (entry.Event e) l h = placed section.Events t m (entry.Event e) (so_far section.Events m) h (simp map-append, l)
pushed section.Events t m (entry.State s) l h = placed section.States t m (entry.State s) (so_far section.Events m) h (simp l.0, (l.1, l.2, l.3))
pushed section.Events t m (entry.Output port) l h = placed section.Outputs t m (entry.Output port) (so_far section.Events m) h (simp (l.0, l.1), (l.2, l.3))
pushed section.Events t m (entry.Sample s) l h = placed section.Samples t m (entry.Sample s) (so_far section.Events m) h (simp (l.0, l.1, l.2), l.3)
pushed section.Events t m (entry.Ready address) l h = placed section.Registers t m (entry.Ready address) (so_far section.Events m) h (simp (l.0, l.1, l.2, l.3), tt)
pushed section.States t m (entry.State s) l h = placed section.States t m (entry.State s) (so_far section.States m) h (simp (map-append, append_assoc), l)
pushed section.States t m (entry.Output port) l h = placed section.Outputs t m (entry.Output port) (so_far section.States m) h (simp (l.0, append_assoc), (l.1, l.2))
pushed section.States t m (entry.Sample s) l h = placed section.Samples t m (entry.Sample s) (so_far section.States m) h (simp (l.0, l.1, append_assoc), l.2)
pushed section.States t m (entry.Ready address) l h = placed section.Registers t m (entry.Ready address) (so_far section.States m) h (simp (l.0, l.1, l.2, append_assoc), tt)
pushed section.Outputs t m (entry.Output port) l h = placed section.Outputs t m (entry.Output port) (so_far section.Outputs m) h (simp (map-append, append_assoc), l)
pushed section.Outputs t m (entry.Sample s) l h = placed section.Samples t m (entry.Sample s) (so_far section.Outputs m) h (simp (l.0, append_assoc), l.1)
pushed section.Outputs t m (entry.Ready address) l h = placed section.Registers t m (entry.Ready address) (so_far section.Outputs m) h (simp (l.0, l.1, append_assoc), tt)
pushed section.Samples t m (entry.Sample s) l h = placed section.Samples t m (entry.Sample s) (so_far section.Samples m) h (simp (map-append, append_assoc), l)
pushed section.Samples t m (entry.Ready address) l h = placed section.Registers t m (entry.Ready address) (so_far section.Samples m) h (simp (l, append_assoc), tt)
pushed section.Registers t m (entry.Regs r) l h = placed section.Registers t m (entry.Regs r) (so_far section.Registers m) h (simp (map-append, append_assoc), tt)
pushed section.Registers t m (entry.Report r) l h = placed section.End t m (entry.Report r) (so_far section.Registers m) h (simp append_assoc, tt)
pushed s t m e l h = absurd (cc h)

with_one : (k : Kind) (m : Map) (e : Entry) → all_of k m ++ filter_map (stated k) (e ∷ []) ≡ all_of k (with_entry m e)
with_one Events m (entry.Event e) = refl
with_one States m (entry.State s) = refl
with_one Outputs m (entry.Output port) = refl
with_one Samples m (entry.Sample s) = refl
with_one Ranges m (entry.Regs r) = refl
with_one k m e = append-nil (all_of k m)

lowest_same : (m : Map) (e : Entry) → lowest_with (lowest_after 0 m.regs) e ≡ lowest_after 0 (with_entry m e).regs
lowest_same m (entry.Regs r) = sym (lowest_push 0 m.regs r)
lowest_same m e = refl

-- The rules with one more entry, which the draft admits.
rules_with : (d : Draft) (e : Entry) → IsMap d.map → d.lowest ≡ lowest_after 0 d.map.regs → IsEntry e → admits d e ≡ true → IsMap (with_entry d.map e)
rules_with d entry.Head h low v a = h
rules_with d (entry.Event e) h low v a =
    let (room, new) = and_parts (nat_lt (length d.map.events) 11) (list_all (λ other. events_differ other e) d.map.events) a in
    let apart = events_apart d.map.events e new in
    let events = all_append IsEvent d.map.events (e ∷ []) h.events (v, tt) in
    let names = differ_push (λ (x : MapEvent). x.name) d.map.events e h.event_names apart.0 in
    let sources = differ_push (λ (x : MapEvent). x.source) d.map.events e h.sources apart.1 in
    let limit : length (d.map.events ++ e ∷ []) ≤ 11 = omega (arith, length-append d.map.events (e ∷ []), ltb-true (length d.map.events) 11 room) in
    let samples = samples_more d.map.events e d.map.samples h.samples in
    assumption (events, names, sources, limit, samples)
rules_with d (entry.State s) h low v a =
    let (room, new) = and_parts (nat_lt (length d.map.states) 128) (list_all (λ other. states_differ other s) d.map.states) a in
    let states = all_append IsState d.map.states (s ∷ []) h.states (v, tt) in
    let names = differ_push (λ (x : MapState). x.name) d.map.states s h.state_names (states_apart d.map.states s new) in
    let limit : length (d.map.states ++ s ∷ []) ≤ 128 = omega (arith, length-append d.map.states (s ∷ []), ltb-true (length d.map.states) 128 room) in
    assumption (states, names, limit)
rules_with d (entry.Output port) h low v a =
    let outputs = all_append (λ p. p < 5) d.map.outputs (port ∷ []) h.outputs (v, tt) in
    let limit : length (d.map.outputs ++ port ∷ []) ≤ 5 = omega (arith, length-append d.map.outputs (port ∷ []), ltb-true (length d.map.outputs) 5 a) in
    assumption (outputs, limit)
rules_with d (entry.Sample s) h low v a =
    let (known, new) = and_parts (names_event d.map.events s.event) (list_all (λ other. samples_differ other s) d.map.samples) a in
    let samples = all_append (IsSample d.map.events) d.map.samples (s ∷ []) h.samples (record { event = known; input = v.input; at = v.at }, tt) in
    let pairs = differ_push pair d.map.samples s h.sample_pairs (samples_apart d.map.samples s new) in
    assumption (samples, pairs)
rules_with d (entry.Ready address) h low v a = assumption (v)
rules_with d (entry.Regs r) h low v a =
    let above = subst (λ n. n ≤ r.from) low (leb-true d.lowest r.from a) in
    let ranges = rise_push 0 d.map.regs r h.ranges above v in
    assumption (ranges)
rules_with d (entry.Report r) h low v a = assumption (v)

drafted : (xs : List Entry) (d : Draft) (t : Section) (e : Entry) → IsDraft xs d → IsEntry e → admits d e ≡ true → section_after d.section e ≡ Some t
    → IsDraft (xs ++ e ∷ []) (record { section = t; map = with_entry d.map e; lowest = lowest_with d.lowest e })
unfolding Pushed
drafted xs d t e h v a after =
    let next = pushed d.section t d.map e h.later after in
    record {
      entries = ap (λ u. u ++ e ∷ []) h.entries ∙ sym next.0;
      reached = run-append section.Start xs (e ∷ []) ∙ ap (option_and_then (λ u. run u (e ∷ []))) h.reached ∙ ap (option_and_then (λ u. Some u)) after;
      parts = λ k. filter_map-append (stated k) xs (e ∷ []) ∙ ap (λ u. u ++ filter_map (stated k) (e ∷ [])) (h.parts k) ∙ with_one k d.map e;
      lowest = ap (λ n. lowest_with n e) h.lowest ∙ lowest_same d.map e;
      later = next.1;
      rules = rules_with d e h.rules h.lowest v a;
    }

-- The draft with an entry that it admits is that of the entries and this one.
pub draft_more : (xs : List Entry) (d d' : Draft) (e : Entry) → IsDraft xs d → IsEntry e → Added d e true d' → IsDraft (xs ++ e ∷ []) d'
draft_more xs d d' e h v a =
    let same : record { section = d'.section; map = with_entry d.map e; lowest = lowest_with d.lowest e } ≡ d' = λ i. record { section = d'.section; map = (sym a.2) i; lowest = (sym a.3) i } in
    subst (IsDraft (xs ++ e ∷ [])) same (drafted xs d d'.section e h v a.0 a.1)

-- What a map has of a kind is what the draft has, and what follows.
what_follows : (k : Kind) (m : Map) (xs more : List Entry) (d : Draft) (e : Entry) → entries_of m ≡ xs ++ (e ∷ more) → IsDraft xs d → all_of k m ≡ all_of k d.map ++ filter_map (stated k) (e ∷ more)
what_follows k m xs more d e same h =
    sym (told k m) ∙ ap (filter_map (stated k)) same ∙ filter_map-append (stated k) xs (e ∷ more) ∙ ap (λ u. u ++ filter_map (stated k) (e ∷ more)) (h.parts k)

-- An entry that stands next in a map's row is admitted.
admitted : (m : Map) (xs more : List Entry) (d : Draft) (e : Entry) → IsMap m → entries_of m ≡ xs ++ (e ∷ more) → IsDraft xs d → admits d e ≡ true
admitted m xs more d entry.Head rules same h = refl
admitted m xs more d (entry.Ready address) rules same h = refl
admitted m xs more d (entry.Report r) rules same h = refl
admitted m xs more d (entry.Event e) rules same h =
    let later = filter_map (stated Events) more in
    let all : m.events ≡ d.map.events ++ (e ∷ later) = what_follows Events m xs more d (entry.Event e) same h in
    let names = differ_front (λ (x : MapEvent). x.name) d.map.events e later (subst (AllDiffer (λ (x : MapEvent). x.name)) all rules.event_names) in
    let sources = differ_front (λ (x : MapEvent). x.source) d.map.events e later (subst (AllDiffer (λ (x : MapEvent). x.source)) all rules.sources) in
    let room : length d.map.events < 11 = omega (arith, rules.event_limit, ap length all, length-append d.map.events (e ∷ later)) in
    and_from (nat_lt (length d.map.events) 11) (list_all (λ other. events_differ other e) d.map.events) (lt-ltb (length d.map.events) 11 room) (events_pass d.map.events e names sources)
admitted m xs more d (entry.State s) rules same h =
    let later = filter_map (stated States) more in
    let all : m.states ≡ d.map.states ++ (s ∷ later) = what_follows States m xs more d (entry.State s) same h in
    let names = differ_front (λ (x : MapState). x.name) d.map.states s later (subst (AllDiffer (λ (x : MapState). x.name)) all rules.state_names) in
    let room : length d.map.states < 128 = omega (arith, rules.state_limit, ap length all, length-append d.map.states (s ∷ later)) in
    and_from (nat_lt (length d.map.states) 128) (list_all (λ other. states_differ other s) d.map.states) (lt-ltb (length d.map.states) 128 room) (states_pass d.map.states s names)
admitted m xs more d (entry.Output port) rules same h =
    let later = filter_map (stated Outputs) more in
    let all : m.outputs ≡ d.map.outputs ++ (port ∷ later) = what_follows Outputs m xs more d (entry.Output port) same h in
    lt-ltb (length d.map.outputs) 5 (omega (arith, rules.output_limit, ap length all, length-append d.map.outputs (port ∷ later)))
admitted m xs more d (entry.Sample s) rules same h =
    let later = filter_map (stated Samples) more in
    let all : m.samples ≡ d.map.samples ++ (s ∷ later) = what_follows Samples m xs more d (entry.Sample s) same h in
    let events : m.events ≡ d.map.events =
    what_follows Events m xs more d (entry.Sample s) same h ∙ ap (λ u. d.map.events ++ u) (no_event_after_sample m d.section xs more s h.reached same) ∙ append-nil d.map.events in
    let pairs = differ_front pair d.map.samples s later (subst (AllDiffer pair) all rules.sample_pairs) in
    let fits = all_front (IsSample m.events) d.map.samples s later (subst (AllByRecursion (IsSample m.events)) all rules.samples) in
    let known = subst (λ es. names_event es s.event ≡ true) events fits.event in
    and_from (names_event d.map.events s.event) (list_all (λ other. samples_differ other s) d.map.samples) known (samples_pass d.map.samples s pairs)
admitted m xs more d (entry.Regs r) rules same h =
    let later = filter_map (stated Ranges) more in
    let all : m.regs ≡ d.map.regs ++ (r ∷ later) = what_follows Ranges m xs more d (entry.Regs r) same h in
    le-leb d.lowest r.from (subst (λ n. n ≤ r.from) (sym h.lowest) (rise_front 0 d.map.regs r later (subst (RangesRise 0) all rules.ranges)))

-- An entry that the draft doesn't admit stands next in no map's row.
pub draft_refuses : (m : Map) (xs more : List Entry) (d d' : Draft) (e : Entry) → IsMap m → IsDraft xs d → Added d e false d' → entries_of m ≢ xs ++ (e ∷ more)
draft_refuses m xs more d d' e rules h (inl none) same = out_of_order m d.section xs more e h.reached same none
draft_refuses m xs more d d' e rules h (inr unfit) same = both_ways (admits d e) unfit (admitted m xs more d e rules same h)
