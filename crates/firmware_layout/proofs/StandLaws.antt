-- Where the pieces of firmware's code stand: each run from its mark on, with its marks at its places; the head and the boot; and apart.
use Rattle.std.proofs.Common.{◌≡◌, ℕ, zero, suc, ◌+◌, ◌-◌, ◌%◌, ◌<◌, ◌≤◌, Bool, true, false, List, [], ◌∷◌, ◌++◌, length, map, reverse, drop, refl, sym, ap, subst, ◌∙◌, arith, inl, inr, length-append, replicate}
use Rattle.std.specs.Prelude.{◌⊎◌}
use Rattle.std.specs.List.{AllByRecursion}
use Rattle.std.proofs.lemmas.Bool.{cases_lt, ltb-false}
use Rattle.std.proofs.lemmas.List.{reverse-append}
use Rattle.pic_isa.specs.declared.instructions.Instr.TheVariants.{Nop}
use Rattle.code_items.specs.declared.items.Item.{Item}
use Rattle.code_items.specs.declared.items.Item.TheVariants.{Ins, Mark}
use Rattle.code_items.specs.Items.{ends_skipping, words_in}
use Rattle.code_items.specs.Lines.{Stands}
use Rattle.code_items.specs.Places.{NoneSkips, base, joined, piece_at}
use Rattle.code_items.proofs.PieceLaws.{base-ends, base-next, base-rises, piece-stands}
use Rattle.code_items.proofs.StandLaws.{stands-mark}
use Rattle.glue_parts.specs.Marks.{Entry, Ready, mark}
use Rattle.scratch_commit.specs.declared.kinds.Kind.{Kind}
use Rattle.scratch_commit.specs.declared.kinds.Kind.TheVariants.{Short, Long, Bottom, Middle}
use Rattle.scratch_commit.specs.Plans.{Plan}
use Rattle.run_steps.specs.Spots.{spots_by}
use Rattle.isr_vector.specs.Taking.{context_of}
use Rattle.isr_vector.specs.Urgency.{by_urgency}
use Rattle.isr_vector.proofs.UrgencyLaws.{all-are_events, all_events}
use Rattle.firmware_layout.specs.Heard.{heard}
use Rattle.firmware_layout.specs.Laws.{EachRunStands, IsApart, RunStands, RunsLieApart, VectorOfCodeStands, VectorStands}
use Rattle.firmware_layout.specs.Layouts.{boot_start, boot_turn, head_end, spots_in}
use Rattle.firmware_layout.specs.Pieces.{Makings, boot_of, filler_of, head_of, items_of, lines_of_boot, pieces_of, plan_in, run_of, runs_of, taking_of}
use Rattle.firmware_layout.specs.Sound.{AreMakings, IsCodeIn}
use Rattle.firmware_layout.proofs.HeadFacts.{before_ready, before_ready_ends, before_ready_words, boot_ends, boot_parts, boot_long, boot_words, goto, head_ends, head_words, taking_ends}
use Rattle.firmware_layout.proofs.PieceFacts.{StandsIn, all_stand, boot_inside, boot_number, boot_piece, boot_positive, has_number, head_inside, head_piece, in_map, in_reverse, none_skips, pieces_by, run_inside, run_no_boot, run_number, run_numbers, run_piece, run_positive}
use Rattle.firmware_layout.proofs.RunFacts.{WindowStands, run_ends, run_words, spots_rise, window_stands}

spots_entry : (kind : Kind) (paged : Bool) (start : ℕ) (plan : Plan) → (spots_by kind paged start plan).entry ≡ start
spots_entry Short paged start plan = refl
spots_entry Long paged start plan = refl
spots_entry Bottom paged start plan = refl
spots_entry Middle paged start plan = refl

pub entry_is : (f : Makings) (marks : ℕ → ℕ) (event : ℕ) → (spots_in f marks event).entry ≡ marks (mark (Entry event))
entry_is f marks event = spots_entry (plan_in f event).kind f.spread.pages (marks (mark (Entry event))) (plan_in f event)

all_made : {A B : Type 0} (P : B → Type 0) (g : A → B) → ((x : A) → P (g x)) → (xs : List A) → AllByRecursion P (map g xs)
all_made P g each [] = tt
all_made P g each (x ∷ xs) = (each x, all_made P g each xs)

-- Lines that do nothing end in no skip.
pauses_end : (n : ℕ) (held : Bool) → held ≡ false → ends_skipping held (replicate n (Ins Nop)) ≡ false
pauses_end zero held none = none
pauses_end (suc n) held none = pauses_end n false refl

base-zero : (paged : Bool) (pieces : List (List Item)) → base paged pieces 0 ≡ 0
base-zero paged [] = refl
base-zero paged (piece ∷ pieces) = refl

module _ (f : Makings) (program marks : ℕ → ℕ) (made : AreMakings f) (code : IsCodeIn f program marks) where
  abbrev paged : Bool
  paged = f.spread.pages

  abbrev pieces : List (List Item)
  pieces = pieces_of f

  abbrev total : ℕ
  total = words_in paged (items_of f)

  abbrev at : ℕ → ℕ
  at k = base paged pieces k

  head_long : words_in paged (head_of f) ≡ head_end f
  head_long = head_words paged (lines_of_boot f) (taking_of f) (boot_long f.p f.need (heard f.p 0))

  boot_length : words_in paged (boot_of f) ≡ length (drop 3 (lines_of_boot f)) + 2
  boot_length = boot_words paged (lines_of_boot f) (taking_of f)

  none : NoneSkips pieces
  none =
      none_skips (head_of f) (boot_of f) (filler_of f) (runs_of f) paged
      (head_ends paged (lines_of_boot f) (taking_of f) (taking_ends f.source (context_of f.p f.spread) paged (by_urgency f.p)))
      (boot_ends paged (lines_of_boot f) (taking_of f))
      (pauses_end (2049 - words_in false (joined (head_of f ∷ boot_of f ∷ runs_of f))) false refl)
      (all_made (λ piece. ends_skipping false piece ≡ false) (run_of f) (λ event. run_ends (plan_in f event)) (reverse (by_urgency f.p)))

  below_total : (k : ℕ) → k ≤ length pieces → at k ≤ total
  below_total k inside = let top = base-ends paged pieces in let rise = base-rises paged pieces k (length pieces) inside in omega (arith, top, rise)

  -- A piece that has words stands at its base, up to the next.
  record PieceStands (k : ℕ) (piece : List Item) : Type 0 where
    stands : Stands paged program marks (at k) piece ((at k + words_in paged piece) % 8192)
    behind : at (suc k) ≡ at k + words_in paged piece
    top : at k + words_in paged piece ≤ total

  piece_stands : (k : ℕ) (piece : List Item) → k < length pieces → piece_at pieces k ≡ piece → 0 < words_in paged piece → PieceStands k piece
  piece_stands k piece inside is some =
      let onward = base-next paged pieces k inside in
      let words = ap (words_in paged) is in
      let behind : at (suc k) ≡ at k + words_in paged piece = omega (arith, onward, words) in
      let high = below_total (suc k) inside in
      let fits = code.fits in
      let here : at k % 8192 ≡ at k = omega (arith, behind, high, fits, some) in
      let stood = piece-stands paged program marks pieces code.stop k none inside code.stands in
      let at_here = subst (λ r. Stands paged program marks r (piece_at pieces k) (at (suc k) % 8192)) here stood in
      let its_own = subst (λ piece. Stands paged program marks (at k) piece (at (suc k) % 8192)) is at_here in
      record {
        stands = subst (λ r. Stands paged program marks (at k) piece (r % 8192)) behind its_own;
        behind = behind;
        top = omega (arith, behind, high);
      }

  -- Each event's run is a piece.
  record RunPiece (event : ℕ) : Type 0 where
    number : ℕ
    inside : number < length (runs_of f)
    is : piece_at (runs_of f) number ≡ run_of f event

  run_is_piece : (event : ℕ) → event < length f.p.events → RunPiece event
  run_is_piece event inside =
      let among = all_events f.p (StandsIn (by_urgency f.p)) (all_stand (by_urgency f.p)) event inside in
      let found = has_number (runs_of f) (run_of f event) (in_map (run_of f) (reverse (by_urgency f.p)) event (in_reverse (by_urgency f.p) event among)) in
      record { number = found.number; inside = found.inside; is = found.is }

  -- It stands from its mark on, up to behind its return.
  record RunIs (event k : ℕ) : Type 0 where
    piece : PieceStands k (run_of f event)
    entry : (spots_in f marks event).entry ≡ at k
    stops : (spots_in f marks event).stops + 1 ≡ at (suc k)
    below : (spots_in f marks event).stops + 1 ≤ total

  run_at : (event k : ℕ) → event < length f.p.events → k < length pieces → piece_at pieces k ≡ run_of f event → RunIs event k
  run_at event k real inside is =
      let work = made.works event real in
      let own = run_words paged (marks (mark (Entry event))) (plan_in f event) work.instructions in
      let from_zero = run_words paged 0 (plan_in f event) work.instructions in
      let some : 0 < words_in paged (run_of f event) = omega (arith, from_zero) in
      let its = piece_stands k (run_of f event) inside is some in
      let there : marks (mark (Entry event)) ≡ at k = its.stands.0 in
      let behind = its.behind in
      let top = its.top in
      record {
        piece = its;
        entry = entry_is f marks event ∙ there;
        stops = omega (arith, own, there, behind);
        below = omega (arith, own, there, top);
      }

  run_is : (event : ℕ) → event < length f.p.events → (its : RunPiece event) → RunIs event (run_number paged its.number)
  run_is event real its =
      run_at event (run_number paged its.number) real
      (run_inside (head_of f) (boot_of f) (filler_of f) (runs_of f) paged its.number its.inside)
      (run_piece (head_of f) (boot_of f) (filler_of f) (runs_of f) paged its.number its.inside ∙ its.is)

  short_total : paged ≡ false → total ≤ 2048
  short_total one =
      let few : words_in false (items_of f) ≤ 2048 = ltb-false 2048 (words_in false (items_of f)) (sym code.pages ∙ one) in
      let same = ap (λ b. words_in b (items_of f)) one in
      omega (arith, few, same)

  -- It stands from its mark on, and so does its window.
  run_room : (event : ℕ) → event < length f.p.events → (spots_in f marks event).stops < 8192
  run_room event real =
      let its = run_is event real (run_is_piece event real) in
      let below = its.below in
      let fits = code.fits in omega (arith, below, fits)

  run_at_mark : (event : ℕ) → event < length f.p.events
      → Stands paged program marks (marks (mark (Entry event))) (run_of f event) (((spots_in f marks event).stops + 1) % 8192)
  run_at_mark event real =
      let found = run_is_piece event real in
      let its = run_is event real found in
      let k : ℕ = run_number paged found.number in
      let behind = its.piece.behind in
      let stops = its.stops in
      let there : (at k + words_in paged (run_of f event)) % 8192 ≡ ((spots_in f marks event).stops + 1) % 8192 = omega (arith, behind, stops) in
      let at_base = subst (λ r. Stands paged program marks (at k) (run_of f event) r) there its.piece.stands in
      subst (λ r. Stands paged program marks r (run_of f event) (((spots_in f marks event).stops + 1) % 8192)) (sym its.entry ∙ entry_is f marks event) at_base

  pub run_window : (event : ℕ) → event < length f.p.events → WindowStands program marks (plan_in f event) (spots_in f marks event).opens (spots_in f marks event).commits
  run_window event real =
      let work = made.works event real in
      window_stands paged program marks (marks (mark (Entry event))) (((spots_in f marks event).stops + 1) % 8192) (plan_in f event)
      (run_at_mark event real) work.instructions work.last (run_room event real)

  run_stands : (event : ℕ) → event < length f.p.events → RunStands f program marks event
  run_stands event real =
      let its = run_is event real (run_is_piece event real) in
      let below = its.below in
      let window = run_window event real in
      record {
        stands = subst (λ r. Stands paged program marks r (run_of f event) (((spots_in f marks event).stops + 1) % 8192)) (sym (entry_is f marks event)) (run_at_mark event real);
        room = run_room event real;
        page = λ one. let few = short_total one in omega (arith, below, few);
        opens = window.opens;
        commits = window.commits;
        rise = spots_rise paged (marks (mark (Entry event))) (plan_in f event);
      }

  -- The vector.
  head_stands : PieceStands 0 (head_of f)
  head_stands =
      let words = head_long in
      piece_stands 0 (head_of f) (head_inside (head_of f) (boot_of f) (filler_of f) (runs_of f) paged)
      (head_piece (head_of f) (boot_of f) (filler_of f) (runs_of f) paged) (omega (arith, words))

  after_head : at 1 ≡ head_end f
  after_head =
      let behind = head_stands.behind in
      let words = head_long in
      let zero_base = base-zero paged pieces in
      omega (arith, behind, words, zero_base)

  boot_stands : PieceStands (boot_number paged (length (runs_of f))) (boot_of f)
  boot_stands =
      let words = boot_length in
      piece_stands (boot_number paged (length (runs_of f))) (boot_of f) (boot_inside (head_of f) (boot_of f) (filler_of f) (runs_of f) paged)
      (boot_piece (head_of f) (boot_of f) (filler_of f) (runs_of f) paged) (omega (arith, words))

  boot_is : (boot_start marks ≡ at (boot_number paged (length (runs_of f)))) × (boot_turn f marks + 2 ≡ at (suc (boot_number paged (length (runs_of f)))))
  boot_is =
      let there : boot_start marks ≡ at (boot_number paged (length (runs_of f))) = boot_stands.stands.0 in
      let behind = boot_stands.behind in
      let words = boot_length in (there, omega (arith, there, behind, words))

  ready_is : marks (mark Ready) ≡ boot_turn f marks + 1
  ready_is =
      let k : ℕ = boot_number paged (length (runs_of f)) in
      let words = boot_length in
      let top = boot_stands.top in
      let fits = code.fits in
      let there = boot_is.0 in
      let before = before_ready_words paged (lines_of_boot f) (taking_of f) in
      let whole = subst (λ items. Stands paged program marks (at k) items ((at k + words_in paged (boot_of f)) % 8192)) (boot_parts paged (lines_of_boot f) (taking_of f)) boot_stands.stands in
      let ready = stands-mark paged program marks (at k) ((at k + words_in paged (boot_of f)) % 8192) (mark Ready) (before_ready paged (lines_of_boot f) (taking_of f))
      (goto paged (lines_of_boot f) (taking_of f) ∷ [])
      (omega (arith, top, fits, words)) (before_ready_ends paged (lines_of_boot f) (taking_of f)) whole in
      omega (arith, ready, before, there, top, fits, words)

  vector_stands : VectorStands f program marks
  vector_stands =
      let k : ℕ = boot_number paged (length (runs_of f)) in
      let words = boot_length in
      let head_words = head_long in
      let zero_base = base-zero paged pieces in
      let whole_head : 0 + words_in paged (head_of f) ≡ head_end f = omega (arith, head_words) in
      let one = after_head in
      let there = boot_is.0 in
      let stop = boot_is.1 in
      let behind = boot_stands.behind in
      let top = boot_stands.top in
      let fits = code.fits in
      let rise = base-rises paged pieces 1 k (boot_positive paged (length (runs_of f))) in
      let turn : at k + words_in paged (boot_of f) ≡ boot_turn f marks + 2 = omega (arith, stop, behind) in
      record {
        head = subst (λ r. Stands paged program marks 0 (head_of f) (r % 8192)) whole_head
            (subst (λ r. Stands paged program marks r (head_of f) ((r + words_in paged (head_of f)) % 8192)) zero_base head_stands.stands);
        boot = subst (λ r. Stands paged program marks (boot_start marks) (boot_of f) (r % 8192)) turn
            (subst (λ r. Stands paged program marks r (boot_of f) ((at k + words_in paged (boot_of f)) % 8192)) (sym there) boot_stands.stands);
        room = omega (arith, top, fits, turn);
        page = λ one_page. let few = short_total one_page in omega (arith, top, few, turn);
        ready = ready_is;
        behind = omega (arith, rise, one, there);
        at = λ several. there ∙ ap at (ap (λ b. boot_number b (length (runs_of f))) several) ∙ one;
        last = last_stands;
      }
    where
      last_stands : paged ≡ false → (tested : List ℕ) (least : ℕ) → by_urgency f.p ≡ tested ++ least ∷ [] → (spots_in f marks least).entry ≡ head_end f
      last_stands one_page tested least order =
          let others = map (run_of f) (reverse tested) in
          let turned : reverse (by_urgency f.p) ≡ least ∷ reverse tested = ap reverse order ∙ reverse-append tested (least ∷ []) in
          let first : runs_of f ≡ run_of f least ∷ others = ap (map (run_of f)) turned in
          let second = second_piece paged one_page (run_of f least) others first in
          let real = at_end (λ event. event < length f.p.events) tested least (subst (AllByRecursion (λ event. event < length f.p.events)) order (all-are_events f.p)) in
          (run_at least 1 real second.0 second.1).entry ∙ after_head
        where
          second_piece : (b : Bool) → b ≡ false → (piece : List Item) (others : List (List Item)) → runs_of f ≡ piece ∷ others
              → (1 < length (pieces_by b (head_of f) (boot_of f) (filler_of f) (runs_of f))) × (piece_at (pieces_by b (head_of f) (boot_of f) (filler_of f) (runs_of f)) 1 ≡ piece)
          second_piece true is piece others first = absurd (cc)
          second_piece false is piece others first =
              let second : piece_at (runs_of f ++ boot_of f ∷ []) 0 ≡ piece = ap (λ rs. piece_at (rs ++ boot_of f ∷ []) 0) first in
              let many = length-append (runs_of f) (boot_of f ∷ []) in (omega (arith, many), second)

          at_end : (P : ℕ → Type 0) (xs : List ℕ) (y : ℕ) → AllByRecursion P (xs ++ y ∷ []) → P y
          at_end P [] y all = all.0
          at_end P (x ∷ xs) y all = at_end P xs y all.1

  -- Runs lie apart.
  abbrev first_mark : List Item → ℕ
  first_mark (Mark m ∷ items) = m
  first_mark _ = 0

  runs_apart : (event other : ℕ) → event < length f.p.events → other < length f.p.events → (other ≡ event → ⊥)
      → ((spots_in f marks other).stops < (spots_in f marks event).entry) ⊎ ((spots_in f marks event).stops < (spots_in f marks other).entry)
  runs_apart event other real also differ = by (cases_lt j k) (cases_lt k j)
    where
      own : RunPiece event
      own = run_is_piece event real

      its : RunPiece other
      its = run_is_piece other also

      k : ℕ
      k = run_number paged own.number

      j : ℕ
      j = run_number paged its.number

      here : RunIs event (run_number paged own.number)
      here = run_is event real own

      there : RunIs other (run_number paged its.number)
      there = run_is other also its

      by : (j < k) ⊎ (k ≤ j) → (k < j) ⊎ (j ≤ k)
          → ((spots_in f marks other).stops < (spots_in f marks event).entry) ⊎ ((spots_in f marks event).stops < (spots_in f marks other).entry)
      by (inl before) more =
          let rise = base-rises paged pieces (suc j) k before in
          let entry = here.entry in
          let stops = there.stops in inl (omega (arith, rise, entry, stops))
      by (inr most) (inl before) =
          let rise = base-rises paged pieces (suc k) j before in
          let entry = there.entry in
          let stops = here.stops in inr (omega (arith, rise, entry, stops))
      by (inr most) (inr least) =
          let same : j ≡ k = omega (arith, most, least) in
          let number = run_numbers paged its.number own.number same in
          absurd (differ (ap first_mark (sym its.is ∙ ap (piece_at (runs_of f)) number ∙ own.is)))

  apart : (event : ℕ) → event < length f.p.events → IsApart f marks event
  apart event real =
      record {
        runs = λ other also differ. runs_apart event other real also differ;
        head = head_first;
        boot = by (cases_lt k b) (cases_lt b k);
      }
    where
      own : RunPiece event
      own = run_is_piece event real

      k : ℕ
      k = run_number paged own.number

      b : ℕ
      b = boot_number paged (length (runs_of f))

      here : RunIs event (run_number paged own.number)
      here = run_is event real own

      head_first : head_end f ≤ (spots_in f marks event).entry
      head_first =
          let rise = base-rises paged pieces 1 k (run_positive paged own.number) in
          let one = after_head in
          let entry = here.entry in omega (arith, rise, one, entry)

      by : (k < b) ⊎ (b ≤ k) → (b < k) ⊎ (k ≤ b) → ((spots_in f marks event).stops < boot_start marks) ⊎ (boot_turn f marks + 1 < (spots_in f marks event).entry)
      by (inl before) more =
          let rise = base-rises paged pieces (suc k) b before in
          let start = boot_is.0 in
          let stops = here.stops in inl (omega (arith, rise, start, stops))
      by (inr most) (inl behind) =
          let rise = base-rises paged pieces (suc b) k behind in
          let stop = boot_is.1 in
          let entry = here.entry in inr (omega (arith, rise, stop, entry))
      by (inr most) (inr least) = absurd (run_no_boot paged own.number (length (runs_of f)) own.inside (omega (arith, most, least)))

pub each-run-stands : (f : Makings) (program marks : ℕ → ℕ) (event : ℕ) → EachRunStands f program marks event
each-run-stands f program marks event made code real = run_stands f program marks made code event real

pub vector-of-code-stands : (f : Makings) (program marks : ℕ → ℕ) → VectorOfCodeStands f program marks
vector-of-code-stands f program marks made code = vector_stands f program marks made code

pub runs-lie-apart : (f : Makings) (program marks : ℕ → ℕ) (event : ℕ) → RunsLieApart f program marks event
runs-lie-apart f program marks event made code real = apart f program marks made code event real
