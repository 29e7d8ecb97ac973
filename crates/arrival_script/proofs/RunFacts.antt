-- The run of a script, step by step.
use Rattle.std.proofs.Common.{◌≡◌, ℕ, zero, suc, ◌+◌, ◌<◌, ◌≤◌, true, false, ◌||◌, Bool, cond, max, List, [], ◌∷◌, length, map, get_or, Option, Result, Ok, Err, IsErrAnd, is_none, codes, string_bytes, refl, sym, ap, subst, ◌∙◌, add-one, arith}
use Rattle.std.specs.Fmt.{decimal}
use Rattle.std.specs.List.{All, list_any}
use Rattle.std.specs.List.Sorted.{IsStrictlyIncreasing, IsNonDecreasingBy}
use Rattle.std.proofs.Math.Path.{fun_ext}
use Rattle.std.proofs.lemmas.Bool.{ne_eqb}
use Rattle.std.proofs.lemmas.List.FromFn.{get_or-map-range_with_len}
use Rattle.hex_file.specs.declared.images.Image.{Image}
use Rattle.pic_regs.specs.Registers.{Registers}
use Rattle.pic_regs.specs.declared.arriving.Arrived.{Arrived}
use Rattle.pic_regs.specs.Arrivals.{Sources, no_source, set_of, number_of, latched, merged}
use Rattle.pic_machine.specs.declared.steps.Stepped.{Stepped}
use Rattle.pic_machine.specs.Chip.{Chip}
use Rattle.pic_machine.specs.declared.chip.Chip.{Chip as CodeChip}
use Rattle.pic_machine.specs.Boundary.{Outer, Step, no_outer, no_pins, with_arrivals, with_changed_pins, boundary, stepped}
use Rattle.pic_machine.specs.Run.{Log, power_on, program_of, outer_of}
use Rattle.pic_machine.specs.State.{chip_of, memory_of}
use Rattle.map_file.specs.declared.maps.Map.{Map}
use Rattle.map_file.specs.MapText.{line}
use Rattle.arrival_script.specs.declared.scripts.Arrival.{Arrival}
use Rattle.arrival_script.specs.declared.scripts.PinChange.{PinChange}
use Rattle.arrival_script.specs.declared.scripts.Script.{Script}
use Rattle.arrival_script.specs.declared.tracer.Tracer.{Tracer}
use Rattle.arrival_script.specs.declared.traces.TraceFault.{TraceFault}
use Rattle.arrival_script.specs.Scripts.{has_pair, is_same_pin, IsArrival, IsPinChange, IsScript}
use Rattle.arrival_script.specs.Sends.{ChangeFrom, RiseFrom, Sends, Tells}
use Rattle.arrival_script.specs.Trace.{Traces, end_line, state_fields, start_of, set_at, pins_at, is_late_at, outer_at, outers_of, lines_of, step_lines, registers_after, deepest}
use Rattle.arrival_script.specs.TraceParts.{is_silent, is_quiet}
use Rattle.arrival_script.specs.Running.{log_of, chip_at, Running, Ready, Ran, Advances, with_arrived}
use Rattle.arrival_script.proofs.PinFacts.{none-here}
use Rattle.arrival_script.proofs.SourceFacts.{set_of-zero}
use Rattle.arrival_script.proofs.SendFacts.{sends-none, sends-quiet, sends-then, goes-more, lines-more, step-fails}
use Rattle.arrival_script.proofs.TraceFacts.{quiet, quiet-goes}

-- No source arrives where no arrival is left, or the first that is left comes later.
none-set : set_of 0 ≡ no_source
none-set = fun_ext set_of-zero

none-later : (pending : List Arrival) (low k : ℕ) → RiseFrom low pending → k < low → set_at pending k ≡ no_source
none-later [] low k rise h = refl
none-later (a ∷ more) low k rise h =
    ap (λ b. cond b (set_of a.sources) (set_at more k)) (ne_eqb a.at k (λ e. let l = rise.0 in absurd (omega arith)))
    ∙ none-later more (a.at + 1) k rise.2 (let l = rise.0 in omega arith)

pub later-pending : (pending : List Arrival) (k : ℕ) (d : Arrival) → RiseFrom k pending → 1 ≤ length pending → ((get_or pending 0 d).at ≡ k → ⊥) → set_of 0 ≡ set_at pending k
later-pending [] k d rise h none = absurd (omega arith)
later-pending (a ∷ more) k d rise h none =
    none-set
    ∙ sym (ap (λ b. cond b (set_of a.sources) (set_at more k)) (ne_eqb a.at k none) ∙ none-later more (a.at + 1) k rise.2 (let l = rise.0 in omega arith))

rise-below : (pending : List Arrival) (high low : ℕ) → RiseFrom high pending → low ≤ high → RiseFrom low pending
rise-below [] high low rise h = tt
rise-below (a ∷ more) high low rise h = let l = rise.0 in (omega arith, rise.1, rise.2)

change-below : (changes : List PinChange) (high low : ℕ) → ChangeFrom high changes → low ≤ high → ChangeFrom low changes
change-below [] high low change h = tt
change-below (p ∷ more) high low change h = let l = change.0 in (omega arith, change.1, change.2, change.3)

-- A script's arrivals rise.
abbrev starts : ℕ → List Arrival → Type 0
starts low [] = Unit {0}
starts low (a ∷ more) = low ≤ a.at

next-starts : (a : Arrival) (more : List Arrival) → IsStrictlyIncreasing (map (λ b. b.at) (a ∷ more)) → starts (a.at + 1) more
next-starts a [] rises = tt
next-starts a (b ∷ more) rises = let h = rises 0 (omega arith) in omega arith

rise-low : (steps : ℕ) (arrivals : List Arrival) (low : ℕ) → starts low arrivals → IsStrictlyIncreasing (map (λ a. a.at) arrivals) → All (IsArrival steps) arrivals → RiseFrom low arrivals
rise-low steps [] low s rises all = tt
rise-low steps (a ∷ more) low s rises all = (
  s,
  (all 0 a (omega arith)).known,
  rise-low steps more (a.at + 1) (next-starts a more rises)
      (λ k h. let e : suc k + 1 ≡ suc (k + 1) = omega arith in
      let P : ℕ → Type 0 = λ i. get_or (map (λ b. b.at) more) k 0 < get_or (a.at ∷ map (λ b. b.at) more) i 0 in
      subst P e (rises (suc k) (omega arith)))
      (λ k d h. all (suc k) d (omega arith)),
)

pub script-rises : (s : Script) → IsScript s → RiseFrom 0 s.arrivals
script-rises s is = rise-low s.steps s.arrivals 0 (first s.arrivals) is.rising is.arrivals
  where
    first : (arrivals : List Arrival) → starts 0 arrivals
    first [] = tt
    first (a ∷ more) = omega arith

-- A script's changes of pins are in order.
abbrev begins_at : ℕ → List PinChange → Type 0
begins_at low [] = Unit {0}
begins_at low (p ∷ more) = low ≤ p.at

next-begins : (p : PinChange) (more : List PinChange) → IsNonDecreasingBy (λ q. q.at) (p ∷ more) → begins_at p.at more
next-begins p [] order = tt
next-begins p (q ∷ more) order = order 0 1 p (omega arith) (omega arith)

change-low : (steps : ℕ) (pins : List PinChange) (low : ℕ) → begins_at low pins → IsNonDecreasingBy (λ p. p.at) pins → All (IsPinChange steps) pins → has_pair is_same_pin pins ≡ false → ChangeFrom low pins
change-low steps [] low s order all once = tt
change-low steps (p ∷ more) low s order all once =
    let apart = or_parts (list_any (is_same_pin p) more) (has_pair is_same_pin more) once in (
      s,
      (all 0 p (omega arith)).port,
      apart.0,
      change-low steps more p.at (next-begins p more order) (λ i j d below inside. order (suc i) (suc j) d (omega arith) (omega arith)) (λ k d h. all (suc k) d (omega arith)) apart.1,
    )
  where
    or_parts : (a b : Bool) → (a || b) ≡ false → (a ≡ false) × (b ≡ false)
    or_parts true b h = cc
    or_parts false b h = (refl, h)

pub script-changes : (s : Script) → IsScript s → ChangeFrom 0 s.pins
script-changes s is = change-low s.steps s.pins 0 (first s.pins) is.order is.pins is.once
  where
    first : (pins : List PinChange) → begins_at 0 pins
    first [] = tt
    first (p ∷ more) = omega arith

-- What comes from outside at a step.
pub outer-at : (s : Script) (k : ℕ) → k < s.steps → outer_of (outers_of s) k ≡ outer_at s k
outer-at s k h = get_or-map-range_with_len (outer_at s) 0 s.steps k k no_outer h (omega arith)

pub running-none : (m : Map) (image : Image) (s : Script) (t : Tracer) (o : Option (List ℕ)) → IsScript s → chip_of t.chip ≡ power_on (start_of s) → memory_of t.chip ≡ program_of image
    → t.late ≡ s.late → t.pending.now ≡ s.arrivals → t.changes.now ≡ s.pins → t.deepest ≡ 0 → string_bytes t.text ≡ [] → Running m image s 0 t o o
running-none m image s t o is c p late pending changes deep e = record {
  kept = record {
    memory = p;
    goes = λ i h. absurd (omega arith);
    late = late;
    rise = subst (RiseFrom 0) (sym pending) (script-rises s is);
    left = λ i h. ap (λ arrivals. set_at arrivals i) pending;
    change = subst (ChangeFrom 0) (sym changes) (script-changes s is);
    pins = λ i h. ap (λ pins. pins_at pins i) changes;
    sends = subst (λ l. Sends o [] o l []) (sym e) (sends-none o);
  };
  chip = c;
  greatest = deep;
}

-- What comes at a boundary: the sources and the pins that it is given are the script's.
came : (X : Type 0) (f : Sources → Chip → X) (m : Map) (image : Image) (s : Script) (k : ℕ) (t : Tracer) (old new : Option (List ℕ)) (set : Sources) (pinned : Chip) → k < s.steps → Running m image s k t old new
    → set ≡ set_at t.pending.now k → pinned ≡ with_changed_pins (pins_at t.changes.now k) (chip_of t.chip)
    → f set pinned ≡ f (outer_of (outers_of s) k).arrivals (with_changed_pins (outer_of (outers_of s) k).pins (chip_at image s k))
came X f m image s k t old new set pinned inside so arriving pins =
    ap (f set) (pins ∙ ap (λ p. with_changed_pins p (chip_of t.chip)) (so.kept.pins k (omega arith)) ∙ ap (with_changed_pins (pins_at s.pins k)) so.chip)
    ∙ ap (λ a. f a (with_changed_pins (pins_at s.pins k) (chip_at image s k))) (arriving ∙ so.kept.left k (omega arith))
    ∙ ap (λ o. f o.arrivals (with_changed_pins o.pins (chip_at image s k))) (sym (outer-at s k inside))

-- It is taken in: the pins are set, and then the sources arrive.
pub record TakenIn (k sources : ℕ) (a : Arrived) (pinned : CodeChip) (t next : Tracer) : Type 0 where
  pub arriving : set_of sources ≡ set_at t.pending.now k
  pub pinned_is : chip_of pinned ≡ with_changed_pins (pins_at t.changes.now k) (chip_of t.chip)
  pub pinned_memory : memory_of pinned ≡ memory_of t.chip
  pub latched_is : a.latched ≡ number_of (latched (set_of sources) (chip_of pinned).regs)
  pub merged_is : a.merged ≡ number_of (merged (set_of sources) (chip_of pinned).regs)
  pub chip : chip_of next.chip ≡ with_arrivals (set_of sources) (chip_of pinned)
  pub memory : memory_of next.chip ≡ memory_of pinned
  pub rise : RiseFrom (k + 1) next.pending.now
  pub later : (i : ℕ) → k < i → set_at next.pending.now i ≡ set_at t.pending.now i
  pub change : ChangeFrom (k + 1) next.changes.now
  pub pins : (i : ℕ) → k < i → pins_at next.changes.now i ≡ pins_at t.changes.now i
  pub late : next.late ≡ t.late
  pub greatest : next.deepest ≡ t.deepest
  pub text : next.text ≡ t.text

pub ready : (m : Map) (image : Image) (s : Script) (k sources : ℕ) (a : Arrived) (pinned : CodeChip) (t next : Tracer) (old new : Option (List ℕ)) → TakenIn k sources a pinned t next → k < s.steps
    → Running m image s k t old new → Ready m image s k a next old new
ready m image s k sources a pinned t next old new did inside so = record {
  kept = record {
    memory = did.memory ∙ did.pinned_memory ∙ so.kept.memory;
    goes = so.kept.goes;
    late = did.late ∙ so.kept.late;
    rise = did.rise;
    left = λ i h. did.later i (omega arith) ∙ so.kept.left i (omega arith);
    change = did.change;
    pins = λ i h. did.pins i (omega arith) ∙ so.kept.pins i (omega arith);
    sends = subst (λ text. Sends old [] new (string_bytes text) (lines_of m (log_of image s) k)) (sym did.text) so.kept.sends;
  };
  chip = did.chip ∙ came Chip with_arrivals m image s k t old new (set_of sources) (chip_of pinned) inside so did.arriving did.pinned_is;
  latched = did.latched_is ∙ came ℕ (λ set c. number_of (latched set c.regs)) m image s k t old new (set_of sources) (chip_of pinned) inside so did.arriving did.pinned_is;
  merged = did.merged_is ∙ came ℕ (λ set c. number_of (merged set c.regs)) m image s k t old new (set_of sources) (chip_of pinned) inside so did.arriving did.pinned_is;
  greatest = did.greatest ∙ so.greatest;
}

-- Where nothing comes at a boundary, it is ready as it is.
pub ready-alone : (m : Map) (image : Image) (s : Script) (k until : ℕ) (a : Arrived) (t : Tracer) (old new : Option (List ℕ)) → k < until → until ≤ s.steps → a.latched ≡ 0 → a.merged ≡ 0
    → RiseFrom until t.pending.now → ChangeFrom until t.changes.now → Running m image s k t old new → Ready m image s k a t old new
ready-alone m image s k until a t old new h inside no_latched no_merged rise change so =
    let none : no_source ≡ set_at t.pending.now k = sym (none-later t.pending.now until k rise h) in
    let same : chip_of t.chip ≡ with_changed_pins (pins_at t.changes.now k) (chip_of t.chip) =
    ap (λ pins. with_changed_pins pins (chip_of t.chip)) (sym (fun_ext (λ port. none-here t.changes.now until k port change h))) in
    record {
      kept = record {
        memory = so.kept.memory;
        goes = so.kept.goes;
        late = so.kept.late;
        rise = rise-below t.pending.now until (k + 1) rise (omega arith);
        left = λ i above. so.kept.left i (omega arith);
        change = change-below t.changes.now until (k + 1) change (omega arith);
        pins = λ i above. so.kept.pins i (omega arith);
        sends = so.kept.sends;
      };
      chip = came Chip with_arrivals m image s k t old new no_source (chip_of t.chip) (omega arith) so none same;
      latched = no_latched ∙ came ℕ (λ set c. number_of (latched set c.regs)) m image s k t old new no_source (chip_of t.chip) (omega arith) so none same;
      merged = no_merged ∙ came ℕ (λ set c. number_of (merged set c.regs)) m image s k t old new no_source (chip_of t.chip) (omega arith) so none same;
      greatest = so.greatest;
    }

-- A step is run after what came at its boundary.
abbrev pub outer_with : Sources → Bool → Outer
outer_with set late = record { arrivals = set; pins = no_pins; late = late }

pub record StepRun (late : Bool) (t next : Tracer) (report : Stepped) : Type 0 where
  pub report_is : report ≡ stepped (boundary (memory_of t.chip) (outer_with (set_of 0) late) (chip_of t.chip))
  pub chip : chip_of next.chip ≡ (boundary (memory_of t.chip) (outer_with (set_of 0) late) (chip_of t.chip)).after
  pub memory : memory_of next.chip ≡ memory_of t.chip
  pub greatest : next.deepest ≡ max t.deepest (chip_of next.chip).depth
  pub rise : next.pending ≡ t.pending
  pub change : next.changes ≡ t.changes
  pub late_same : next.late ≡ t.late
  pub text : next.text ≡ t.text

step-is : (X : Type 0) (f : Step → X) (m : Map) (image : Image) (s : Script) (k : ℕ) (a : Arrived) (late : Bool) (t : Tracer) (old new : Option (List ℕ))
    → k < s.steps → late ≡ is_late_at s.late k → Ready m image s k a t old new
    → f (boundary (memory_of t.chip) (outer_with (set_of 0) late) (chip_of t.chip))
    ≡ f (boundary (program_of image) (outer_with no_source (outer_of (outers_of s) k).late) (log_of image s k).arrived)
step-is X f m image s k a late t old new inside is_late so =
    ap (λ program. f (boundary program (outer_with (set_of 0) late) (chip_of t.chip))) so.kept.memory
    ∙ ap (λ c. f (boundary (program_of image) (outer_with (set_of 0) late) c)) so.chip
    ∙ ap (λ set. f (boundary (program_of image) (outer_with set late) (log_of image s k).arrived)) none-set
    ∙ ap (λ l. f (boundary (program_of image) (outer_with no_source l) (log_of image s k).arrived)) (is_late ∙ ap (λ (o : Outer). o.late) (sym (outer-at s k inside)))

pub ran : (m : Map) (image : Image) (s : Script) (k : ℕ) (a : Arrived) (late : Bool) (t next : Tracer) (report : Stepped) (old new : Option (List ℕ)) → StepRun late t next report → k < s.steps
    → late ≡ is_late_at s.late k → Ready m image s k a t old new → Ran m image s k (with_arrived a report) next old new
ran m image s k a late t next report old new did inside is_late so =
    let lg = log_of image s k in
    let chip = did.chip ∙ step-is Chip (λ step. step.after) m image s k a late t old new inside is_late so in
    record {
      kept = record {
        memory = did.memory ∙ so.kept.memory;
        goes = so.kept.goes;
        late = did.late_same ∙ so.kept.late;
        rise = subst (λ pending. RiseFrom (k + 1) pending.now) (sym did.rise) so.kept.rise;
        left = λ i h. ap (λ pending. set_at pending.now i) did.rise ∙ so.kept.left i h;
        change = subst (λ changes. ChangeFrom (k + 1) changes.now) (sym did.change) so.kept.change;
        pins = λ i h. ap (λ changes. pins_at changes.now i) did.change ∙ so.kept.pins i h;
        sends = subst (λ text. Sends old [] new (string_bytes text) (lines_of m (log_of image s) k)) (sym did.text) so.kept.sends;
      };
      report_is = ap (with_arrived a) did.report_is ∙ step-is Stepped (λ step. with_arrived a (stepped step)) m image s k a late t old new inside is_late so
          ∙ ap (λ n. with_arrived (record { latched = n; merged = a.merged }) (stepped lg)) so.latched
          ∙ ap (λ n. with_arrived (record { latched = number_of lg.latched; merged = n }) (stepped lg)) so.merged;
      chip = chip;
      greatest = did.greatest ∙ ap (λ d. max d (chip_of next.chip).depth) so.greatest ∙ ap (λ (x : Chip). max (deepest (log_of image s) k) x.depth) chip ∙ sym (ap (deepest (log_of image s)) (add-one k));
    }

-- A step is told.
abbrev pub told-of : ℕ → Result (Unit {0}) TraceFault → Result ℕ TraceFault
told-of done (Ok _) = Ok done
told-of done (Err f) = Err f

pub advanced : (m : Map) (image : Image) (s : Script) (k : ℕ) (report : Stepped) (t next : Tracer) (old mid new : Option (List ℕ)) (answer : Result (Unit {0}) TraceFault)
    → k < s.steps → record t { text = next.text } ≡ next → Ran m image s k report t old mid
    → ((told : Step) → report ≡ stepped told → chip_of t.chip ≡ told.after → Tells k told mid (string_bytes t.text) new (string_bytes next.text) (step_lines m k told) answer)
    → Advances m image s old new next (told-of (k + 1) answer)
advanced m image s k report t next old mid new answer inside same so tells =
    subst (λ n. Advances m image s old new n (told-of (k + 1) answer)) same (go answer (tells (log_of image s k) so.report_is so.chip))
  where
    lg : Log
    lg = log_of image s

    go : (a : Result (Unit {0}) TraceFault) → Tells k (lg k) mid (string_bytes t.text) new (string_bytes next.text) (step_lines m k (lg k)) a → Advances m image s old new (record t { text = next.text }) (told-of (k + 1) a)
    go (Ok done) told = record {
      kept = record {
        memory = so.kept.memory;
        goes = goes-more lg k so.kept.goes told.0;
        late = so.kept.late;
        rise = so.kept.rise;
        left = so.kept.left;
        change = so.kept.change;
        pins = so.kept.pins;
        sends = subst (Sends old [] new (string_bytes next.text)) (sym (lines-more m lg k)) (sends-then old mid new [] (string_bytes t.text) (string_bytes next.text) (lines_of m lg k) (step_lines m k (lg k)) so.kept.sends told.1);
      };
      chip = so.chip ∙ sym (ap (chip_at image s) (add-one k));
      greatest = so.greatest;
    }
    go (Err f) told = step-fails m lg s.steps k old mid new (string_bytes t.text) (string_bytes next.text) f inside so.kept.goes so.kept.sends told

-- A step that has no line.
quiet-told : (m : Map) (k : ℕ) (report : Stepped) (o : Option (List ℕ)) (held : List ℕ) → is_quiet m (is_silent report) report.did ≡ true
    → (told : Step) → report ≡ stepped told → Tells k told o held o held (step_lines m k told) (Ok tt)
quiet-told m k report o held h told e = (quiet-goes m k told report e h, sends-quiet o held (step_lines m k told) (quiet m k told report e h))

-- An answer that is an error is this one.
pub advances-error : (m : Map) (image : Image) (s : Script) (old new : Option (List ℕ)) (t : Tracer) (answer : Result ℕ TraceFault) (f : TraceFault) → IsErrAnd answer (λ e. e ≡ f)
    → Advances m image s old new t (Err f) → Advances m image s old new t answer
advances-error m image s old new t (Ok done) f is told = absurd is
advances-error m image s old new t (Err e) f is told = subst (λ x. Traces m (log_of image s) s.steps old new (Err x)) (sym is) told

pub went : (m : Map) (image : Image) (s : Script) (k : ℕ) (a : Arrived) (report : Stepped) (t : Tracer) (old new : Option (List ℕ)) → k < s.steps → a.latched ≡ 0 → a.merged ≡ 0
    → is_quiet m (is_none report.port) report.did ≡ true → Ran m image s k (with_arrived a report) t old new → Running m image s (k + 1) t old new
went m image s k a report t old new inside no_latched no_merged quiet so =
    let silent : is_quiet m (is_silent (with_arrived a report)) report.did ≡ true =
    ap (λ n. is_quiet m (is_silent (with_arrived (record { latched = n; merged = a.merged }) report)) report.did) no_latched
    ∙ ap (λ n. is_quiet m (is_silent (with_arrived (record { latched = 0; merged = n }) report)) report.did) no_merged ∙ quiet in
    advanced m image s k (with_arrived a report) t t old new new (Ok tt) inside refl so (λ told e chip. quiet-told m k (with_arrived a report) new (string_bytes t.text) silent told e)

-- The line behind the last step.
registers-after : (image : Image) (s : Script) (n : ℕ) → registers_after (log_of image s) n ≡ (chip_at image s n).regs
registers-after image s zero = refl
registers-after image s (suc n) = refl

pub end-is : (m : Map) (image : Image) (s : Script) (n : ℕ) (t : Tracer) (r : Registers) (old new : Option (List ℕ)) → Running m image s n t old new → r ≡ (chip_of t.chip).regs
    → line (codes "end" ∷ decimal n ∷ codes "deepest" ∷ decimal t.deepest ∷ state_fields m r) ≡ end_line m (log_of image s) n
end-is m image s n t r old new so e =
    ap (λ x. line (codes "end" ∷ decimal n ∷ codes "deepest" ∷ decimal x ∷ state_fields m r)) so.greatest
    ∙ ap (λ x. line (codes "end" ∷ decimal n ∷ codes "deepest" ∷ decimal (deepest (log_of image s) n) ∷ state_fields m x)) (e ∙ ap (λ (x : Chip). x.regs) so.chip ∙ sym (registers-after image s n))

-- An answer that is an error is this one.
pub traces-error : (m : Map) (lg : Log) (n : ℕ) (old new : Option (List ℕ)) (answer : Result (Unit {0}) TraceFault) (f : TraceFault) → IsErrAnd answer (λ e. e ≡ f) → Traces m lg n old new (Err f) → Traces m lg n old new answer
traces-error m lg n old new (Ok done) f is t = absurd is
traces-error m lg n old new (Err e) f is t = subst (λ x. Traces m lg n old new (Err x)) (sym is) t
