-- The code of firmware from its pieces: the items of a run as they are made, and all items where there are page settings and where not.
use Rattle.std.proofs.Common.{◌≡◌, ℕ, zero, suc, ◌+◌, ◌-◌, ◌<◌, ◌≤◌, ◌==◌, Bool, true, false, if◌then◌else◌, nat_le, nat_lt, Option, Some, None, List, [], ◌∷◌, ◌++◌, length, map, min, replicate, reverse, drop, get_or, refl, sym, ap, subst, ◌∙◌, append_assoc, arith, lt-ltb}
use Rattle.std.specs.List.{AllByRecursion}
use Rattle.std.proofs.Math.Seq.{drop-cons}
use Rattle.std.proofs.lemmas.Bool.{eq-eqb, le-ltb, ne_eqb}
use Rattle.std.proofs.lemmas.List.{append-nil, map-append, reverse-append}
use Rattle.std.proofs.lemmas.Option.{slice_get-get_or}
use Rattle.frp_tree.specs.Tree.{ProgramTree}
use Rattle.efrp_meaning.specs.Bounds.{levels}
use Rattle.pic_isa.specs.declared.instructions.Instr.TheVariants.{Nop}
use Rattle.pic_isa.specs.declared.sources.Source.{Source}
use Rattle.priority_masks.specs.declared.tables.Enables.{Enables}
use Rattle.priority_masks.specs.Levels.{level_of}
use Rattle.code_steps.specs.declared.banks.Bank.{Bank}
use Rattle.code_steps.specs.declared.banks.Bank.TheVariants.{Known}
use Rattle.code_items.specs.declared.items.Item.{Item}
use Rattle.code_items.specs.declared.items.Item.TheVariants.{Ins}
use Rattle.code_items.specs.Items.{has_pages, words_in}
use Rattle.code_items.specs.Places.{joined}
use Rattle.code_items.proofs.ItemLaws.{words-append}
use Rattle.glue_parts.specs.declared.moves.Move.{Move}
use Rattle.glue_parts.specs.declared.spread.Spread.{Spread}
use Rattle.glue_parts.specs.Heard.{IsHeardAt}
use Rattle.scratch_commit.specs.declared.kinds.Kind.{Kind}
use Rattle.scratch_commit.specs.declared.kinds.Kind.TheVariants.{Short, Long, Bottom, Middle}
use Rattle.scratch_commit.specs.declared.frames.Frame.{Frame}
use Rattle.scratch_commit.specs.declared.runs.Run.{Run}
use Rattle.scratch_commit.specs.Masks.{AreHeard}
use Rattle.scratch_commit.specs.Plans.{IsCodeOf, IsFrameOf, Plan, frame_in, plan_of, run_items}
use Rattle.scratch_commit.proofs.EnableLaws.{heard_once}
use Rattle.isr_vector.specs.declared.code.VectorCode.{VectorCode}
use Rattle.isr_vector.specs.Booting.{boot_lines}
use Rattle.isr_vector.specs.Taking.{context_of, taking_items}
use Rattle.isr_vector.specs.Urgency.{by_urgency}
use Rattle.isr_vector.specs.Vector.{IsVector, boot_items, head_items}
use Rattle.isr_vector.proofs.UrgencyLaws.{all-are_events, order-length}
use Rattle.firmware_parts.specs.Times.{short_work}
use Rattle.event_code.specs.declared.works.Work.{Work}
use Rattle.firmware_layout.specs.declared.code.Parts.{Parts}
use Rattle.firmware_layout.specs.Codes.{IsRunFor, makings_of}
use Rattle.firmware_layout.specs.Heard.{heard}
use Rattle.firmware_layout.specs.Made.{IsSpread}
use Rattle.firmware_layout.specs.Pieces.{Makings, boot_of, filler_of, head_of, items_of, kind_of, plan_in, run_of, runs_of}
use Rattle.firmware_layout.proofs.HeardLaws.{is_heard}

-- The plan of a run with what is heard as in a plan, and with this source. With that of its event it is the event's plan.
abbrev plan_with : ProgramTree → Run → Plan → Source → Plan
plan_with p run plan source = record (plan_of p run plan.heard) { source = source }

plan_is : (f : Makings) (event : ℕ) (run : Run) (plan : Plan) → AreHeard f.p (level_of f.p run.event) plan.heard → IsRunFor f event run
    → plan_with f.p run plan (f.source event) ≡ plan_in f event
plan_is f event run plan are same =
    let level = level_of f.p run.event in
    let idle = heard_once f.p 0 plan.heard.idle (heard f.p 0) are.idle (is_heard f.p 0) in
    let own = heard_once f.p level plan.heard.own (heard f.p level) are.own (is_heard f.p level)
    ∙ ap (λ n. heard f.p (level_of f.p n)) same.event_is in
    let beneath = heard_once f.p (level - 1) plan.heard.beneath (heard f.p (level - 1)) are.beneath (is_heard f.p (level - 1))
    ∙ ap (λ n. heard f.p (level_of f.p n - 1)) same.event_is in
    (λ j. record {
      event = same.event_is j;
      source = f.source event;
      kind = same.kind j;
      level = level_of f.p (same.event_is j);
      levels = levels f.p;
      heard = record { idle = idle j; own = own j; beneath = beneath j };
      need = same.need j;
      spread = same.spread j;
      work = same.work j;
      bank = same.bank j;
      moves = same.moves j;
    })

-- So the items that are made for an event's run are those of its plan, and so is its frame.
pub run_is : (f : Makings) (event : ℕ) (run : Run) (items : List Item) → IsCodeOf f.p run items → run.source ≡ f.source event → IsRunFor f event run → items ≡ run_of f event
run_is f event run items its source same =
    its.are_its
    ∙ ap (λ s. run_items (plan_with f.p run (plan_of f.p run its.heard) s)) source
    ∙ ap run_items (plan_is f event run (plan_of f.p run its.heard) its.are_heard same)

pub frame_is : (f : Makings) (event : ℕ) (run : Run) (frame : Frame) → IsFrameOf f.p run frame → IsRunFor f event run → frame ≡ frame_in (plan_in f event)
frame_is f event run frame its same = its.is_its ∙ ap frame_in (plan_is f event run (plan_of f.p run its.heard) its.are_heard same)

-- Pieces one after another.
pub joined-append : (xs ys : List (List Item)) → joined (xs ++ ys) ≡ joined xs ++ joined ys
joined-append [] ys = refl
joined-append (x ∷ xs) ys = ap (λ items. x ++ items) (joined-append xs ys) ∙ sym (append_assoc x (joined xs) (joined ys))

pub joined_one : (x : List Item) → joined (x ∷ []) ≡ x
joined_one x = append-nil x

-- All items, in code of one page and of several.
joined_by : (paged : Bool) (head boot filler : List Item) (runs : List (List Item))
    → joined (if paged then head ∷ boot ∷ (runs ++ filler ∷ []) else head ∷ (runs ++ boot ∷ []))
    ≡ (if paged then ((head ++ boot) ++ joined runs) ++ filler else (head ++ joined runs) ++ boot)
joined_by true head boot filler runs =
    ap (λ items. head ++ (boot ++ items)) (joined-append runs (filler ∷ []) ∙ ap (λ items. joined runs ++ items) (joined_one filler))
    ∙ simp append_assoc
joined_by false head boot filler runs =
    ap (λ items. head ++ items) (joined-append runs (boot ∷ []) ∙ ap (λ items. joined runs ++ items) (joined_one boot))
    ∙ simp append_assoc

abbrev pub all_of : Makings → List Item
all_of f = (head_of f ++ boot_of f) ++ joined (runs_of f)

filler_is : (f : Makings) → filler_of f ≡ replicate (2049 - words_in false (all_of f)) (Ins Nop)
filler_is f = ap (λ items. replicate (2049 - words_in false items) (Ins Nop)) (sym (append_assoc (head_of f) (boot_of f) (joined (runs_of f))))

pub one_page : (f : Makings) → f.spread.pages ≡ false → items_of f ≡ (head_of f ++ joined (runs_of f)) ++ boot_of f
one_page f one =
    joined_by f.spread.pages (head_of f) (boot_of f) (filler_of f) (runs_of f)
    ∙ ap (λ b. if b then all_of f ++ filler_of f else (head_of f ++ joined (runs_of f)) ++ boot_of f) one

pub several : (f : Makings) → f.spread.pages ≡ true → items_of f ≡ all_of f ++ replicate (2049 - words_in false (all_of f)) (Ins Nop)
several f many =
    joined_by f.spread.pages (head_of f) (boot_of f) (filler_of f) (runs_of f)
    ∙ ap (λ b. if b then all_of f ++ filler_of f else (head_of f ++ joined (runs_of f)) ++ boot_of f) many
    ∙ ap (λ items. all_of f ++ items) (filler_is f)

-- Code of several pages has more words than a page.
words_of_pauses : (n : ℕ) → words_in false (replicate n (Ins Nop)) ≡ n
words_of_pauses zero = refl
words_of_pauses (suc n) = let rest = words_of_pauses n in omega (arith, rest)

pub filled_has_pages : (items : List Item) → has_pages (items ++ replicate (2049 - words_in false items) (Ins Nop)) ≡ true
filled_has_pages items =
    let both = words-append false items (replicate (2049 - words_in false items) (Ins Nop)) in
    let pauses = words_of_pauses (2049 - words_in false items) in
    lt-ltb 2048 (words_in false (items ++ replicate (2049 - words_in false items) (Ins Nop))) (omega (arith, both, pauses))

-- One more run behind those of later events.
pub one_more_run : (run : ℕ → List Item) (order : List ℕ) (n k : ℕ) (before : List Item) → k ≡ n + 1 → n < length order
    → (before ++ joined (map run (reverse (drop k order)))) ++ run (get_or order n 0) ≡ before ++ joined (map run (reverse (drop n order)))
one_more_run run order n k before onward inside =
    let event = get_or order n 0 in
    let later = drop k order in
    let next : k ≡ suc n = omega (arith, onward) in
    let first : drop n order ≡ event ∷ drop k order = drop-cons order n 0 inside ∙ ap (λ i. event ∷ drop i order) (sym next) in
    append_assoc before (joined (map run (reverse later))) (run event)
    ∙ ap (λ items. before ++ items)
    (ap (λ items. joined (map run (reverse later)) ++ items) (sym (joined_one (run event)))
    ∙ sym (joined-append (map run (reverse later)) (run event ∷ []))
    ∙ ap joined (sym (map-append run (reverse later) (event ∷ [])))
    ∙ ap (λ events. joined (map run events)) (sym (reverse-append (event ∷ []) later) ∙ ap reverse (sym first)))

-- The kind of a run, by the tests of its level and its work.
abbrev kind_by : (below lowest few : Bool) → Kind
kind_by below lowest few = if below then (if lowest then Bottom else Middle) else if few then Short else Long

kind_tests : (f : Makings) (event : ℕ) (below lowest few : Bool) → nat_lt (level_of f.p event) (levels f.p) ≡ below → (level_of f.p event == 1) ≡ lowest
    → nat_le (length (f.work event)) (short_work f.p) ≡ few → kind_by below lowest few ≡ kind_of f event
kind_tests f event below lowest few first second third = λ j. kind_by (sym first j) (sym second j) (sym third j)

module _ (f : Makings) (event level count : ℕ) (level_is : level ≡ level_of f.p event) (count_is : count ≡ levels f.p) where
  is_below : level < count → nat_lt (level_of f.p event) (levels f.p) ≡ true
  is_below less = lt-ltb (level_of f.p event) (levels f.p) (omega (arith, level_is, count_is, less))

  is_top : count ≤ level → nat_lt (level_of f.p event) (levels f.p) ≡ false
  is_top most = le-ltb (level_of f.p event) (levels f.p) (omega (arith, level_is, count_is, most))

  pub bottom_kind : level < count → level ≡ 1 → Bottom ≡ kind_of f event
  bottom_kind less one =
      kind_tests f event true true (nat_le (length (f.work event)) (short_work f.p)) (is_below less) (eq-eqb (level_of f.p event) 1 (sym level_is ∙ one)) refl

  pub middle_kind : level < count → (level ≡ 1 → ⊥) → Middle ≡ kind_of f event
  middle_kind less more =
      kind_tests f event true false (nat_le (length (f.work event)) (short_work f.p)) (is_below less) (ne_eqb (level_of f.p event) 1 (λ same. more (level_is ∙ same))) refl

  pub short_kind : count ≤ level → nat_le (length (f.work event)) (short_work f.p) ≡ true → Short ≡ kind_of f event
  short_kind most few = kind_tests f event false (level_of f.p event == 1) true (is_top most) refl few

  pub long_kind : count ≤ level → nat_le (length (f.work event)) (short_work f.p) ≡ false → Long ≡ kind_of f event
  long_kind most many = kind_tests f event false (level_of f.p event == 1) false (is_top most) refl many

-- What stands as an event's work among the parts.
pub record IsWorkAt (parts : Parts) (spread : Spread) (source : ℕ → Source) (event : ℕ) (w : Work) : Type 0 where
  pub work : w.coded.code.items ≡ (makings_of parts spread source).work event
  pub bank : w.coded.bank ≡ (makings_of parts spread source).bank event
  pub moves : w.moves.items ≡ (makings_of parts spread source).moves event

pub work_at : (parts : Parts) (spread : Spread) (source : ℕ → Source) (event : ℕ) (w : Work) → event < length parts.works.now
    → IsWorkAt parts spread source event (get_or parts.works.now event w)
work_at parts spread source event w inside =
    let found = slice_get-get_or parts.works.now event w inside in
    record {
      work = ap work_in (sym found);
      bank = ap bank_in (sym found);
      moves = ap moves_in (sym found);
    }
  where
    work_in : Option Work → List Item
    work_in (Some k) = k.coded.code.items
    work_in None = []

    bank_in : Option Work → Bank
    bank_in (Some k) = k.coded.bank
    bank_in None = Known 0

    moves_in : Option Work → List Move
    moves_in (Some k) = k.moves.items
    moves_in None = []

-- The vector that is made is that of the pieces.
pub record IsVectorFor (f : Makings) (code : VectorCode) : Type 0 where
  pub head : code.head.items ≡ head_of f
  pub boot : code.boot.items ≡ boot_of f

pub vector_is : (f : Makings) (enables : Enables) (order : List ℕ) (code : VectorCode) → IsHeardAt f.p 0 enables → IsVector f.p f.need enables f.source order f.spread code
    → order ≡ by_urgency f.p → IsVectorFor f code
vector_is f enables order code heard_there its same =
    let set = heard_once f.p 0 enables (heard f.p 0) heard_there (is_heard f.p 0) in
    record {
      head = its.head
          ∙ (λ j. head_items f.spread.pages (boot_lines f.p f.need (set j)) (taking_items f.source (context_of f.p f.spread) f.spread.pages (same j)));
      boot = its.boot
          ∙ (λ j. boot_items f.spread.pages (boot_lines f.p f.need (set j)) (taking_items f.source (context_of f.p f.spread) f.spread.pages (same j)));
    }

-- All items as they are added, in code of one page and of several.
pub made_one_page : (f : Makings) (code : VectorCode) (order : List ℕ) (with_runs all : List Item) → f.spread.pages ≡ false → IsVectorFor f code → order ≡ by_urgency f.p
    → with_runs ≡ code.head.items ++ joined (map (run_of f) (reverse order)) → all ≡ with_runs ++ code.boot.items → all ≡ items_of f
made_one_page f code order with_runs all one its same runs is =
    is
    ∙ (λ j. runs j ++ its.boot j)
    ∙ (λ j. (its.head j ++ joined (map (run_of f) (reverse (same j)))) ++ boot_of f)
    ∙ sym (one_page f one)

pub made_several : (f : Makings) (code : VectorCode) (order : List ℕ) (with_boot with_runs all : List Item) → f.spread.pages ≡ true → IsVectorFor f code → order ≡ by_urgency f.p
    → with_boot ≡ code.head.items ++ code.boot.items → with_runs ≡ with_boot ++ joined (map (run_of f) (reverse order))
    → all ≡ with_runs ++ replicate (2049 - words_in false with_runs) (Ins Nop) → all ≡ items_of f
made_several f code order with_boot with_runs all many its same boot runs is =
    let whole : with_runs ≡ all_of f =
    runs ∙ (λ j. boot j ++ joined (map (run_of f) (reverse (same j)))) ∙ (λ j. (its.head j ++ its.boot j) ++ joined (runs_of f)) in
    is ∙ ap (λ items. items ++ replicate (2049 - words_in false items) (Ins Nop)) whole ∙ sym (several f many)

-- The order of events has the program's events alone, and few.
pub order_events : (p : ProgramTree) (order : List ℕ) (n : ℕ) → order ≡ by_urgency p → n ≡ length p.events → AllByRecursion (λ event. event < n) order
order_events p order n same count =
    subst (λ k. AllByRecursion (λ event. event < k) order) (sym count) (subst (AllByRecursion (λ event. event < length p.events)) (sym same) (all-are_events p))

pub order_few : (p : ProgramTree) (order : List ℕ) → order ≡ by_urgency p → length p.events ≤ 11 → length order ≤ 11
order_few p order same few = let lengths = ap length same in let most = order-length p in omega (arith, lengths, most, few)

-- Code has page settings only where it has more words on one page than a page has.
pub is_spread : (parts : Parts) (one several : Spread) (source : ℕ → Source) (items : List Item) (count : ℕ) → one.pages ≡ false → one.banks ≡ several.banks
    → items ≡ items_of (makings_of parts one source) → count ≡ min (words_in false items) 2049 → 2048 < count → IsSpread (makings_of parts several source)
is_spread parts one several source items count page banks is counted many paged =
    let same : one ≡ record (several) { pages = false } = λ j. record { banks = banks j; pages = page j } in
    let words = ap (words_in false) (is ∙ ap (λ s. items_of (makings_of parts s source)) same) in
    omega (arith, words, counted, many)
