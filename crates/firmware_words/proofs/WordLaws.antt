-- The code of firmware can be laid out, and has no more words than the program's bound.
use Rattle.std.proofs.Common.{◌≡◌, ℕ, ◌+◌, ◌-◌, ◌*◌, ◌/◌, ◌%◌, ◌<◌, ◌≤◌, ◌^◌, Bool, true, false, if◌then◌else◌, List, [], ◌∷◌, ◌++◌, length, map, drop, reverse, sum_by, Some, refl, sym, ap, subst, ◌∙◌, arith, inl, inr, length-drop, lit<}
use Rattle.std.specs.Prelude.{◌⊎◌}
use Rattle.std.specs.List.{AllByRecursion}
use Rattle.std.proofs.lemmas.Bool.Decides.{eqb_tells}
use Rattle.std.proofs.lemmas.List.{length-reverse}
use Rattle.std.proofs.lemmas.List.Sums.{sum_by-cons}
use Rattle.frp_tree.specs.declared.syntax.Event.{Event}
use Rattle.frp_tree.specs.Tree.{ProgramTree}
use Rattle.efrp_meaning.specs.Bounds.{body, boot, commit_bytes, state_bytes, words_bound}
use Rattle.efrp_types.specs.Laws.{HasTypes}
use Rattle.efrp_types.specs.Numbers.{event_name}
use Rattle.efrp_types.proofs.TypedLaws.{no-fault-is-typed}
use Rattle.pic_isa.specs.declared.instructions.Instr.{Instr}
use Rattle.pic_isa.specs.Instructions.{FieldsFit}
use Rattle.pic_isa.specs.declared.bits.TheConstants.{PEIE}
use Rattle.pic_regs.specs.Bytes.{bit, bits}
use Rattle.pic_regs.proofs.ByteLaws.{num-below}
use Rattle.pic_machine.specs.Exec.{field}
use Rattle.bank_alloc.specs.Needs.{bytes_of}
use Rattle.code_items.specs.declared.items.Item.{Item}
use Rattle.code_items.specs.Items.{times, words_in}
use Rattle.code_items.specs.Places.{joined}
use Rattle.code_items.proofs.ItemLaws.{times-append, words-append}
use Rattle.glue_steps.specs.declared.lines.Line.{Line}
use Rattle.glue_steps.specs.Lines.{LineFits}
use Rattle.scratch_commit.specs.Masks.{masked, masks_of, no_masks, unmasked}
use Rattle.scratch_commit.specs.Plans.{is_short}
use Rattle.isr_vector.specs.Taking.{context_of}
use Rattle.isr_vector.specs.Urgency.{by_urgency}
use Rattle.isr_vector.specs.Vector.{boot_place, ready_place}
use Rattle.isr_vector.proofs.BootCountLaws.{boot-is_short, boot_few, three_lines}
use Rattle.isr_vector.proofs.ListLaws.{all_mapped}
use Rattle.isr_vector.proofs.TestLaws.{taking-words}
use Rattle.isr_vector.proofs.UrgencyLaws.{all-are_events, order-length}
use Rattle.event_code.proofs.MoveLaws.{moves-few}
use Rattle.program_bounds.proofs.BoundLaws.{states-few, words-few}
use Rattle.firmware_layout.specs.Heard.{enables_in, heard}
use Rattle.firmware_layout.specs.Made.{IsMade, on_one_page}
use Rattle.firmware_layout.specs.Pieces.{Makings, boot_of, filler_of, head_of, items_of, lines_of_boot, plan_in, run_of, runs_of, taking_of}
use Rattle.firmware_words.specs.Laws.{CodeCanBeLaid, WordsAreBounded}
use Rattle.firmware_words.proofs.DeedFacts.{MasksFit}
use Rattle.firmware_words.proofs.ItemFacts.{Sound, joined-last, sound_both, sound_instructions, sound_last, sound_none, sound_pauses, sound_wider, words-few as words_few}
use Rattle.firmware_words.proofs.MarkFacts.{RunMarks, RunsMarks, boot-elsewhere, boot-once, head-unmarked, none_in_instructions, none_in_pauses, run-marks, runs-marks, taking-unmarked}
use Rattle.firmware_words.proofs.OrderFacts.{events-sum, is_it, once-in-order, order-sum, reverse-all, reverse-sum}
use Rattle.firmware_words.proofs.RunFacts.{sound_run}
use Rattle.firmware_words.proofs.VectorFacts.{boot-fits, boot-sound, head-sound, taking-sound}

-- Enables are bytes.
heard-low : (p : ProgramTree) (level : ℕ) → ((heard p level).pie1 < 256) × ((heard p level).pie2 < 256)
unfolding heard
heard-low p level = (num-below (enables_in p level 0x08C), num-below (enables_in p level 0x08D))

either : {A : Type 0} (like : A) (P : A → Type 0) (b : Bool) (x y : A) → P x → P y → P (if b then x else y)
either like P true x y first second = first
either like P false x y first second = second

-- Runs are joined.
sound_runs : (run : ℕ → List Item) (g : ℕ → ℕ) (events : List ℕ) → AllByRecursion (λ e. Sound (g e) 2 (run e)) events
    → Sound (sum_by g events) (2 * length events) (joined (map run events))
sound_runs run g [] all = sound_none
sound_runs run g (e ∷ events) all =
    let first = sum_by-cons g e events in
    sound_wider (g e + sum_by g events) (sum_by g (e ∷ events)) (2 + 2 * length events) (2 * length (e ∷ events)) (joined (map run (e ∷ events))) (omega (arith, first)) (omega arith)
    (sound_both (g e) (sum_by g events) 2 (2 * length events) (run e) (joined (map run events)) all.0 (sound_runs run g events all.1))

-- The bound has 20 words more for each event than its run has items.
more_each : (g : Event → ℕ) (copied : ℕ) (es : List Event) → sum_by (λ (e : Event). 108 + g e + copied) es + 20 * length es ≡ sum_by (λ (e : Event). 128 + g e + copied) es
more_each g copied [] = refl
more_each g copied (e ∷ es) =
    let less = sum_by-cons (λ (e : Event). 108 + g e + copied) e es in
    let more = sum_by-cons (λ (e : Event). 128 + g e + copied) e es in
    let rest = more_each g copied es in
    omega (arith, less, more, rest)

module _ (f : Makings) (made : IsMade f) where
  abbrev count : ℕ
  count = length f.p.events

  abbrev order : List ℕ
  order = by_urgency f.p

  few_events : count ≤ 11
  few_events = made.written.written.events

  typed : HasTypes f.p
  typed = no-fault-is-typed f.p made.written made.passes.checked.names made.passes.checked.types

  bytes : bytes_of f.need ≤ 352
  bytes =
      let states = made.states in
      let frames = made.frames in
      let scratch = made.scratch in
      let fits = made.fits in omega (arith, states, frames, scratch, fits)

  placed : state_bytes f.p ≤ f.need.states
  placed = let states = made.states in omega (arith, states)

  all_events : AllByRecursion (λ e. e < count) (reverse order)
  all_events = reverse-all (λ e. e < count) order (all-are_events f.p)

  turned_length : length (reverse order) ≤ count
  turned_length = let same = length-reverse order in let few = order-length f.p in omega (arith, same, few)

  -- The run of an event.
  abbrev copied : ℕ
  copied = 6 * commit_bytes f.p

  abbrev run_most : List ℕ → ℕ
  run_most name = 108 + body f.p name + copied

  abbrev all_most : ℕ
  all_most = sum_by (λ (e : Event). run_most e.name) f.p.events

  masks_fit : (event : ℕ) → MasksFit (plan_in f event)
  masks_fit event =
      let plan = plan_in f event in
      let h = plan.heard in
      let own = heard-low f.p plan.level in
      let beneath = heard-low f.p (plan.level - 1) in
      let zeros : (0 < 256) × (0 < 256) × (0 < 256) × (0 < 256) = (lit< tt, lit< tt, lit< tt, lit< tt) in
      let low =
      either no_masks (λ m. (m.pie1.own < 256) × (m.pie2.own < 256) × (m.pie1.beneath < 256) × (m.pie2.beneath < 256)) (is_short plan.kind) no_masks (masks_of h) zeros
      (either no_masks (λ m. (m.pie1.own < 256) × (m.pie2.own < 256) × (m.pie1.beneath < 256) × (m.pie2.beneath < 256)) (bit PEIE (bits h.own.intcon))
      (record {
        intcon = masked h.idle.intcon h.own.intcon h.beneath.intcon;
        pie1 = masked h.idle.pie1 h.own.pie1 h.beneath.pie1;
        pie2 = masked h.idle.pie2 h.own.pie2 h.beneath.pie2;
      })
      (record { intcon = masked h.idle.intcon h.own.intcon h.beneath.intcon; pie1 = unmasked; pie2 = unmasked })
      (own.0, own.1, beneath.0, beneath.1) zeros) in
      record { own1 = low.0; own2 = low.1; beneath1 = low.2; beneath2 = low.3 }

  work_sound : (event : ℕ) → event < count → Sound (body f.p (event_name f.p event)) 0 (f.work event)
  work_sound event inside =
      let does = made.events event inside in
      let fields = all_mapped (λ (i : Instr). FieldsFit i × (field i ≡ Some 0x0A → ⊥)) FieldsFit (λ i its. its.0) does.code.instrs does.code.are.fit in
      let few = does.code.words in
      let weight = does.works.weight in
      sound_instructions (body f.p (event_name f.p event)) (f.work event) does.code.instrs does.code.are.all fields (omega (arith, few, weight))

  run_sound : (event : ℕ) → event < count → Sound (run_most (event_name f.p event)) 2 (run_of f event)
  run_sound event inside =
      let does = made.events event inside in
      let own : ℕ = body f.p (event_name f.p event) in
      let moves = ap length does.moves in
      let few = moves-few f.p (event_name f.p event) f.need does.ops does.works in
      sound_wider (108 + own + 6 * length (f.moves event)) (run_most (event_name f.p event)) 2 2 (run_of f event) (omega (arith, moves, few)) (omega arith)
      (sound_run own (plan_in f event) (masks_fit event) (work_sound event inside))

  runs_sound : Sound all_most (2 * count) (joined (runs_of f))
  runs_sound =
      let g = λ (e : ℕ). run_most (event_name f.p e) in
      let same = reverse-sum g order in
      let within = order-sum f.p g in
      let whole = events-sum f.p run_most in
      let few = turned_length in
      sound_wider (sum_by g (reverse order)) all_most (2 * length (reverse order)) (2 * count) (joined (runs_of f)) (omega (arith, same, within, whole)) (omega (arith, few))
      (sound_runs (run_of f) g (reverse order) (all_mapped (λ e. e < count) (λ e. Sound (g e) 2 (run_of f e)) run_sound (reverse order) all_events))

  -- The vector.
  abbrev paged : Bool
  paged = f.spread.pages

  abbrev lines : List Line
  lines = lines_of_boot f

  lines_fit : AllByRecursion LineFits lines
  lines_fit = let low = heard-low f.p 0 in boot-fits f.p f.need (heard f.p 0) typed.0 typed.1 low.0 low.1

  taking_long : words_in true (taking_of f) ≤ 49
  taking_long =
      let words = taking-words f.source (context_of f.p f.spread) true paged order in
      let few = order-length f.p in
      let events = few_events in omega (arith, words, few, events)

  boot_low : boot_place (taking_of f) < 2048
  boot_low = let taking = taking_long in omega (arith, taking)

  ready_low : ready_place (taking_of f) (drop 3 lines) < 2048
  ready_low =
      let taking = taking_long in
      let few = (boot_few f.p f.need (heard f.p 0) lines typed.0 made.written.written.setups bytes placed refl).most in
      let rest = length-drop 3 lines in
      omega (arith, taking, few, rest)

  head_sound : Sound (9 + 2 * count) (1 + count) (head_of f)
  head_sound =
      let n : ℕ = 5 + 2 * length order in
      let j : ℕ = 0 + length order in
      let few = order-length f.p in
      sound_wider (3 + (1 + n)) (9 + 2 * count) (0 + (1 + j)) (1 + count) (head_of f) (omega (arith, few)) (omega (arith, few))
      (head-sound paged lines lines_fit n j (taking_of f) (taking-sound f.source (context_of f.p f.spread) paged order) boot_low)

  -- Of the boot's lines three stand in the head.
  boot_sound : Sound (boot f.p - 1) 1 (boot_of f)
  boot_sound =
      let n : ℕ = 5 + 2 * length order in
      let j : ℕ = 0 + length order in
      let rest = length-drop 3 lines in
      let short = boot-is_short f.p f.need (heard f.p 0) typed.0 bytes placed in
      let three = three_lines f.p f.need (heard f.p 0) in
      sound_wider (1 + (length (drop 3 lines) + 3)) (boot f.p - 1) 1 1 (boot_of f) (omega (arith, rest, short, three)) (omega arith)
      (boot-sound paged lines lines_fit n j (taking_of f) (taking-sound f.source (context_of f.p f.spread) paged order) (length (drop 3 lines)) (omega arith) ready_low)

  -- All code but what fills up, in both orders.
  abbrev most : ℕ
  most = 8 + 2 * count + boot f.p + all_most

  abbrev jumps : ℕ
  jumps = 2 + 3 * count

  abbrev others : List Item
  others = joined (head_of f ∷ boot_of f ∷ runs_of f)

  others_sound : Sound most jumps others
  others_sound =
      sound_wider (9 + 2 * count + (boot f.p - 1 + all_most)) most (1 + count + (1 + 2 * count)) jumps others (omega arith) (omega arith)
      (sound_both (9 + 2 * count) (boot f.p - 1 + all_most) (1 + count) (1 + 2 * count) (head_of f) (boot_of f ++ joined (runs_of f)) head_sound
      (sound_both (boot f.p - 1) all_most 1 (2 * count) (boot_of f) (joined (runs_of f)) boot_sound runs_sound))

  abbrev in_one : List Item
  in_one = joined (head_of f ∷ (runs_of f ++ boot_of f ∷ []))

  pub one_sound : Sound most jumps in_one
  one_sound =
      sound_wider (9 + 2 * count + (all_most + (boot f.p - 1))) most (1 + count + (2 * count + 1)) jumps in_one (omega arith) (omega arith)
      (sound_both (9 + 2 * count) (all_most + (boot f.p - 1)) (1 + count) (2 * count + 1) (head_of f) (joined (runs_of f ++ boot_of f ∷ [])) head_sound
      (sound_last all_most (boot f.p - 1) (2 * count) 1 (runs_of f) (boot_of f) runs_sound boot_sound))

  abbrev missing : ℕ
  missing = 2049 - words_in false others

  abbrev in_several : List Item
  in_several = joined (head_of f ∷ boot_of f ∷ (runs_of f ++ filler_of f ∷ []))

  several_is : in_several ≡ others ++ filler_of f
  several_is = joined-last (head_of f ∷ boot_of f ∷ runs_of f) (filler_of f)

  several_sound : Sound (most + missing) (jumps + 0) in_several
  several_sound = subst (Sound (most + missing) (jumps + 0)) (sym several_is) (sound_both most missing jumps 0 others (filler_of f) others_sound (sound_pauses missing))

  items_sound : (b : Bool) → Sound (most + 2049) jumps (joined (if b then head_of f ∷ boot_of f ∷ (runs_of f ++ filler_of f ∷ []) else head_of f ∷ (runs_of f ++ boot_of f ∷ [])))
  items_sound true = sound_wider (most + missing) (most + 2049) (jumps + 0) jumps in_several (omega arith) (omega arith) several_sound
  items_sound false = sound_wider most (most + 2049) jumps jumps in_one (omega arith) (omega arith) one_sound

  -- They are within the bound, and few.
  within_bound : most + 2 * jumps ≤ words_bound f.p
  within_bound = let more = more_each (λ (e : Event). body f.p e.name) copied f.p.events in omega (arith, more)

  few_items : most + 2049 < 2 ^ 29
  few_items =
      let states = states-few f.p made.written in
      let setups = made.written.written.setups in
      let outputs = made.written.written.outputs in
      let events = few_events in
      let words = words-few f.p made.written copied (omega (arith, states, outputs)) in
      let more = more_each (λ (e : Event). body f.p e.name) copied f.p.events in
      omega (arith, states, setups, events, words, more)

  -- Words on several pages.
  several_words : 2048 < most → words_in true in_several ≤ most + 2 * jumps
  several_words many =
      let parts = ap (words_in true) several_is in
      let both = words-append true others (filler_of f) in
      let settings = others_sound.settings in
      let few = words_few others in
      let all = others_sound.count in
      let fills = (sound_pauses missing).settings in
      let no_more = words_few (filler_of f) in
      let filled = (sound_pauses missing).count in
      omega (arith, many, parts, both, settings, few, all, fills, no_more, filled)

  words_by : (b : Bool) → 2048 < most ⊎ (b ≡ false)
      → words_in b (joined (if b then head_of f ∷ boot_of f ∷ (runs_of f ++ filler_of f ∷ []) else head_of f ∷ (runs_of f ++ boot_of f ∷ []))) ≤ most + 2 * jumps
  words_by true (inl many) = several_words many
  words_by true (inr one) = absurd (cc)
  words_by false either = let few = words_few in_one in let all = one_sound.count in omega (arith, few, all)

  -- Marks.
  work_unmarked : (m event : ℕ) → event < count → times m (f.work event) ≡ 0
  work_unmarked m event inside = let are = (made.events event inside).code.are.all in ap (times m) are ∙ none_in_instructions m (made.events event inside).code.instrs

  run_marked : (m event : ℕ) → event < count → RunMarks m event (run_of f event)
  run_marked m event inside = let few = few_events in run-marks m (plan_in f event) (omega (arith, inside, few)) (work_unmarked m event inside)

  runs_marked : (m : ℕ) → RunsMarks m (reverse order) (joined (runs_of f))
  runs_marked m = runs-marks m (run_of f) (reverse order) (all_mapped (λ e. e < count) (λ e. RunMarks m e (run_of f e)) (run_marked m) (reverse order) all_events)

  head_unmarked : (m : ℕ) → times m (head_of f) ≡ 0
  head_unmarked m = head-unmarked m paged lines (taking_of f) (taking-unmarked m f.source (context_of f.p f.spread) paged order)

  both_once : (m : ℕ) → times m (boot_of f) + times m (joined (runs_of f)) < 2
  both_once m =
      let boots = boot-once m paged lines (taking_of f) in
      let runs = runs_marked m in
      elim (eqb_tells (m / 16) 3) [
        | inl at ↦ let never = runs.none at.1 in omega (arith, boots, never)
        | inr differ ↦
            let never = boot-elsewhere m paged lines (taking_of f) differ.1 in
            let within = runs.once in
            let same = reverse-sum (is_it (m % 16)) order in
            let once = once-in-order f.p (m % 16) in
            omega (arith, never, within, same, once)
      ]

  once_by : (m : ℕ) (b : Bool) → times m (joined (if b then head_of f ∷ boot_of f ∷ (runs_of f ++ filler_of f ∷ []) else head_of f ∷ (runs_of f ++ boot_of f ∷ []))) < 2
  once_by m true =
      let once = both_once m in
      let head = head_unmarked m in
      let fills = none_in_pauses m missing in
      let parts = ap (times m) several_is in
      let all = times-append m others (filler_of f) in
      let first = times-append m (head_of f) (boot_of f ++ joined (runs_of f)) in
      let second = times-append m (boot_of f) (joined (runs_of f)) in
      omega (arith, once, head, fills, parts, all, first, second)
  once_by m false =
      let once = both_once m in
      let head = head_unmarked m in
      let first = times-append m (head_of f) (joined (runs_of f ++ boot_of f ∷ [])) in
      let parts = ap (times m) (joined-last (runs_of f) (boot_of f)) in
      let second = times-append m (joined (runs_of f)) (boot_of f) in
      omega (arith, once, head, first, parts, second)

pub code-can-be-laid : (f : Makings) → CodeCanBeLaid f
code-can-be-laid f made =
    let sound = items_sound f made f.spread.pages in
    let all = sound.count in
    let few = few_items f made in
    record { few = omega (arith, all, few); fit = sound.fit; once = λ m. once_by f made m f.spread.pages }

-- The same is made for one page.
made_on_one_page : (f : Makings) → IsMade f → IsMade (on_one_page f)
made_on_one_page f made = record {
  written = made.written;
  passes = made.passes;
  no_inputs = made.no_inputs;
  few = made.few;
  sources = made.sources;
  states = made.states;
  frames = made.frames;
  scratch = made.scratch;
  fits = made.fits;
  banks = made.banks;
  events = λ event inside. let does = made.events event inside in record { ops = does.ops; works = does.works; code = does.code; moves = does.moves; cells = does.cells };
}

pub words-are-bounded : (f : Makings) → WordsAreBounded f
words-are-bounded f made spread =
    let within = within_bound f made in
    let all = words_by f made f.spread.pages (by f.spread.pages refl) in
    omega (arith, within, all)
  where
    by : (b : Bool) → f.spread.pages ≡ b → (2048 < most f made) ⊎ (f.spread.pages ≡ false)
    by false is = inr is
    by true is =
        let one = one_sound (on_one_page f) (made_on_one_page f made) in
        let count = one.count in
        let few = words_few (items_of (on_one_page f)) in
        let many = spread is in
        inl (omega (arith, count, few, many))
