-- The map names what is the program's; the code addresses that it names differ, and have words in the image.
use Rattle.std.proofs.Common.{◌≡◌, ◌≢◌, ℕ, suc, ◌+◌, ◌<◌, ◌==◌, List, [], ◌∷◌, ◌++◌, length, map, ⊎_elim, ap, arith, refl, subst, sym, ◌∙◌}
use Rattle.std.specs.Prelude.{slice_get, IsTrue, Some}
use Rattle.std.specs.List.{AllByRecursion, flat_map, list_any}
use Rattle.std.proofs.lemmas.List.{length-map}
use Rattle.std.proofs.lemmas.Option.{slice_get_within}
use Rattle.efrp_meaning.specs.Bounds.{levels, settle_bound}
use Rattle.hex_file.specs.declared.images.Word.{Word}
use Rattle.pic_machine.specs.Run.{word_at}
use Rattle.map_file.specs.declared.maps.MapEvent.{MapEvent}
use Rattle.map_file.specs.declared.maps.MapSample.{MapSample}
use Rattle.map_file.specs.declared.maps.Map.{Map}
use Rattle.map_file.specs.MapRules.{AllDiffer}
use Rattle.code_items.specs.Items.{has_pages}
use Rattle.page_layout.specs.declared.laid.Laid.{Laid}
use Rattle.page_layout.specs.Emitted.{places}
use Rattle.firmware_promises.specs.Firmware.{Names, event_of}
use Rattle.firmware_map.specs.Maps.{made_of}
use Rattle.firmware_map.proofs.MapLaws.{map-names-items}
use Rattle.firmware_layout.specs.Layouts.{boot_turn, spots_in}
use Rattle.firmware_layout.specs.Made.{IsMade}
use Rattle.firmware_layout.specs.Pieces.{Makings, items_of}
use Rattle.firmware_layout.specs.Sound.{AreMakings, IsCodeIn}
use Rattle.firmware_layout.proofs.StandLaws.{each-run-stands, runs-lie-apart, vector-of-code-stands}
use Rattle.firmware_written.specs.Written.{IsLaidOut, IsMapped, image_of}
use Rattle.firmware_written.proofs.CodeFacts.{is_code, ready_inside, run_inside}
use Rattle.firmware_written.proofs.MapFacts.{used_placed}
use Rattle.firmware_written.proofs.WordFacts.{word-is_there}

-- The code addresses of events, of which no samples are.
abbrev named_by : List MapEvent → List MapSample → List ℕ
named_by es ss = flat_map (λ (e : MapEvent). e.«open» ∷ e.commit ∷ []) es ++ map (λ (s : MapSample). s.at) ss

-- What holds of the two of each event holds of all.
all-named : (P : ℕ → Type 0) (es : List MapEvent) → ((n : ℕ) (e : MapEvent) → slice_get es n ≡ Some e → P e.«open» × P e.commit) → AllByRecursion P (named_by es [])
all-named P [] each = tt
all-named P (e ∷ es) each = let own = each 0 e refl in (own.0, (own.1, all-named P es (λ n d at. each (suc n) d at)))

module _ (f : Makings) (laid : Laid) (m : Map) (made : IsMade f) (makings : AreMakings f) (pages : f.spread.pages ≡ has_pages (items_of f)) (is : IsLaidOut f laid)
    (mapped : IsMapped f laid m) where
  abbrev program : ℕ → ℕ
  program = word_at laid.words

  abbrev marks : ℕ → ℕ
  marks = places laid.marks

  code : IsCodeIn f program marks
  code = is_code f laid makings pages is

  -- An address lies in the run of an event, behind its start and before its return.
  record Lies (x a : ℕ) : Type 0 where
    low : (spots_in f marks x).entry < a
    high : a < (spots_in f marks x).stops

  -- So do those of the map's event with this number, in order.
  record IsAt (x : ℕ) (e : MapEvent) : Type 0 where
    real : x < length f.p.events
    opens : Lies x e.«open»
    commits : Lies x e.commit
    order : e.«open» < e.commit

  is_at : (n : ℕ) (e : MapEvent) → slice_get m.events n ≡ Some e → IsAt n e
  is_at n e at =
      let number : length m.events ≡ length f.p.events = sym (length-map m.events event_of) ∙ ap length mapped.is_map.events.named in
      let inside = slice_get_within m.events n e at in
      let real : n < length f.p.events = omega (arith, number, inside) in
      let run = each-run-stands f program marks n makings code real in
      let entry = run.rise.entry in
      let clear = run.rise.clear in
      let opens = run.rise.opens in
      let commits = run.rise.commits in
      let first : e.«open» ≡ (spots_in f marks n).opens = mapped.is_map.events.opens n e at ∙ run.opens in
      let last : e.commit ≡ (spots_in f marks n).commits = mapped.is_map.events.commits n e at ∙ run.commits in
      record {
        real = real;
        opens = record { low = omega (arith, first, entry, clear); high = omega (arith, first, opens, commits) };
        commits = record { low = omega (arith, last, entry, clear, opens); high = omega (arith, last, commits) };
        order = omega (arith, first, last, opens);
      }

  -- Those of different events differ.
  lie_apart : (x y a b : ℕ) → x < length f.p.events → y < length f.p.events → (y ≡ x → ⊥) → Lies x a → Lies y b → b ≢ a
  lie_apart x y a b real also differ first second same =
      let low = first.low in
      let high = first.high in
      let from = second.low in
      let to = second.high in
      ⊎_elim
      (λ before. omega (arith, low, high, from, to, same, before))
      (λ behind. omega (arith, low, high, from, to, same, behind))
      ((runs-lie-apart f program marks x makings code real).runs y also differ)

  events_differ : (k : ℕ) (es : List MapEvent) → ((n : ℕ) (e : MapEvent) → slice_get es n ≡ Some e → IsAt (k + n) e) → AllDiffer (λ (a : ℕ). a) (named_by es [])
  events_differ k [] each = tt
  events_differ k (e ∷ es) each =
      let start : k + 0 ≡ k = omega arith in
      let own : IsAt k e = subst (λ x. IsAt x e) start (each 0 e refl) in
      let order = own.order in
      let later : (n : ℕ) (d : MapEvent) → slice_get es n ≡ Some d → IsAt (suc k + n) d =
      λ n d at. let onward : k + suc n ≡ suc k + n = omega arith in subst (λ x. IsAt x d) onward (each (suc n) d at) in
      let others : (a : ℕ) → Lies k a → AllByRecursion (λ b. b ≢ a) (named_by es []) =
      λ a lies. all-named (λ b. b ≢ a) es (λ n d at.
      let its = later n d at in
      let differ : (suc k + n ≡ k → ⊥) = λ same. omega (arith, same) in
      (lie_apart k (suc k + n) a d.«open» own.real its.real differ lies its.opens, lie_apart k (suc k + n) a d.commit own.real its.real differ lies its.commits)) in
      ((λ same. omega (arith, order, same), others e.«open» own.opens), (others e.commit own.commits, events_differ (suc k) es later))

  -- The ready address lies in the boot.
  ready_is : m.ready ≡ boot_turn f marks + 1
  ready_is = mapped.is_map.ready ∙ (vector-of-code-stands f program marks makings code).ready

  ready_differs : (x a : ℕ) → x < length f.p.events → Lies x a → a ≢ m.ready
  ready_differs x a real lies same =
      let low = lies.low in
      let high = lies.high in
      let ready = ready_is in
      ⊎_elim
      (λ before. omega (arith, low, high, ready, same, before))
      (λ behind. omega (arith, low, high, ready, same, behind))
      (runs-lie-apart f program marks x makings code real).boot

  -- Each has a word.
  is_there : (a : ℕ) → a < length laid.words → IsTrue (list_any (λ (w : Word). w.address == a) laid.words)
  is_there a below = word-is_there 0 laid.words is.follow a (omega arith) (omega (arith, below))

  is_there_in_run : (x a : ℕ) → x < length f.p.events → Lies x a → IsTrue (list_any (λ (w : Word). w.address == a) laid.words)
  is_there_in_run x a real lies = let high = lies.high in let below = run_inside f laid makings pages is x real in is_there a (omega (arith, high, below))

  pub names_rightly : Names f.p (image_of laid) m
  names_rightly =
      let items = map-names-items f.p mapped.used (made_of laid.marks (length laid.words) (levels f.p) (settle_bound f.p)) m made.no_inputs (used_placed f made laid m mapped) mapped.is_map in
      let none = sym mapped.is_map.samples in
      let ready = ready_is in
      let below = ready_inside f laid makings pages is in
      record {
        events = items.events;
        states = items.states;
        outputs = items.outputs;
        samples = items.samples;
        code_differs = subst (λ ss. AllDiffer (λ (a : ℕ). a) (m.ready ∷ named_by m.events ss)) none (
          all-named (λ a. a ≢ m.ready) m.events (λ n e at. let its = is_at n e at in (ready_differs n e.«open» its.real its.opens, ready_differs n e.commit its.real its.commits)),
          events_differ 0 m.events (λ n e at. let from : n ≡ 0 + n = omega arith in subst (λ x. IsAt x e) from (is_at n e at)),
        );
        code_is_there = subst (λ ss. AllByRecursion (λ a. IsTrue (list_any (λ (w : Word). w.address == a) laid.words)) (m.ready ∷ named_by m.events ss)) none (
          is_there m.ready (omega (arith, ready, below)),
          all-named (λ a. IsTrue (list_any (λ (w : Word). w.address == a) laid.words)) m.events
              (λ n e at. let its = is_at n e at in (is_there_in_run n e.«open» its.real its.opens, is_there_in_run n e.commit its.real its.commits)),
        );
        states_differ = items.states_differ;
        states_are_general = items.states_are_general;
        states_are_listed = items.states_are_listed;
      }
