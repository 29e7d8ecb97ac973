-- Drafts of lines, with one line more and at the end.
use Rattle.std.proofs.Common.{◌≡◌, ℕ, ◌+◌, ◌-◌, ◌<◌, ◌≤◌, Bool, true, false, not, ◌&&◌, ◌||◌, ◌==◌, cond, nat_lt, nat_le, List, [], ◌∷◌, ◌++◌, length, map, Option, Some, None, IfSome, is_some, Result, Ok, Err, slice_get, codes, refl, sym, ap, subst, ◌∙◌, arith, length-append}
use Rattle.std.specs.List.{All, find, filter, list_all, list_any}
use Rattle.std.specs.List.Sorted.{IsStrictlyIncreasing}
use Rattle.std.specs.Option.{option_map}
use Rattle.std.specs.Str.{bytes_eq}
use Rattle.std.proofs.Math.Bool.{and-true, and-false, or-false, or-true}
use Rattle.std.proofs.lemmas.Bool.{lt-ltb, le-leb, leb-true, leb-false, and_parts}
use Rattle.std.proofs.lemmas.List.{map-append}
use Rattle.std.proofs.lemmas.List.Folds.{list_all-append}
use Rattle.std.proofs.lemmas.List.Elements.{All-cons, All-push}
use Rattle.std.proofs.lemmas.List.Sorted.{IsNonDecreasingBy-push}
use Rattle.std.proofs.lemmas.Slice.Eq.{bytes_eq-Decides}
use Rattle.text_parts.specs.Bytes.{begins}
use Rattle.text_parts.specs.Numbers.{value_after}
use Rattle.arrival_script.specs.declared.scripts.Arrival.{Arrival}
use Rattle.arrival_script.specs.declared.scripts.PinChange.{PinChange}
use Rattle.arrival_script.specs.declared.scripts.Late.{Late}
use Rattle.arrival_script.specs.declared.scripts.Late.TheVariants.{Never}
use Rattle.arrival_script.specs.declared.scripts.Cause.{Cause}
use Rattle.arrival_script.specs.declared.scripts.Cause.TheVariants.{BadLine, NotRising, PinTwice, NoSteps, PastEnd}
use Rattle.arrival_script.specs.declared.scripts.ScriptFault.{ScriptFault}
use Rattle.arrival_script.specs.declared.scripts.ScriptFault.TheVariants as fault
use Rattle.arrival_script.specs.declared.entries.Entry.{Entry}
use Rattle.arrival_script.specs.declared.entries.Entry.TheVariants as entry
use Rattle.arrival_script.specs.declared.drafts.Draft.{Draft}
use Rattle.arrival_script.specs.Scripts.{Line, Fault, word, is_fill, is_late, is_at, is_pin, is_timed, is_steps, value, second, late_in, arrival_of, pin_of, is_same_pin, last_of, is_twice, line_cause, fault_at_end, fill_of, late_of, arrivals_in, pins_in, steps_of}
use Rattle.arrival_script.specs.Entries.{own_cause, Says}
use Rattle.arrival_script.specs.Drafts.{HasSources, IsCount, IsChangeUpTo, AreChangesUpTo, boundary_of, timed_of, IsDraftOf, is_above, refusal, with_entry, Extends, Adds, Takes, past_number, Ends}
use Rattle.arrival_script.proofs.ListFacts.{find-no, find-yes, filter-no, filter-yes, any-find, find-filter, find-map, has_pair-push, last-push, last_below, last_below-map, rising-push}
use Rattle.arrival_script.proofs.CauseFacts.{by_place, cause-behind}

-- There is a `steps` line where the draft has the steps.
steps-some : (before : List Line) → list_any is_steps before ≡ is_some (steps_of before)
steps-some before = any-find is_steps before ∙ go (find is_steps before)
  where
    go : (o : Option Line) → is_some o ≡ is_some (elim o as (λ _. Option ℕ) [ None ↦ None | Some line ↦ Some (value line) ])
    go None = refl
    go (Some line) = refl

pub steps-told : (before : List Line) (d : Draft) → IsDraftOf before d → list_any is_steps before ≡ is_some d.steps
steps-told before d is = steps-some before ∙ ap is_some (sym is.steps)

no_steps : (before : List Line) → list_any is_steps before ≡ false → find is_steps before ≡ None
no_steps before h = go (find is_steps before) (sym (any-find is_steps before) ∙ h)
  where
    go : (o : Option Line) → is_some o ≡ false → o ≡ None
    go None e = refl
    go (Some line) e = cc

-- No `late` line stands among `fill` lines.
fill_late : (line : Line) → is_fill line ≡ true → is_late line ≡ false
fill_late line h = ap (λ w. bytes_eq w (codes "late")) ((bytes_eq-Decides (word line) (codes "fill")).0 h)

no_late : (before : List Line) → list_all is_fill before ≡ true → find is_late before ≡ None
no_late [] h = refl
no_late (line ∷ more) h =
    let both = and_parts (is_fill line) (list_all is_fill more) h in
    ap (λ b. cond b (Some line) (find is_late more)) (fill_late line both.0) ∙ no_late more both.1

-- What a line adds that isn't of a kind.
fill-no : (before : List Line) (line : Line) → is_fill line ≡ false → fill_of (before ++ line ∷ []) ≡ fill_of before
fill-no before line h = ap (λ o. elim o [ None ↦ 0 | Some l ↦ value_after 16 0 (second l) ]) (find-no is_fill before line h)

late-no : (before : List Line) (line : Line) → is_late line ≡ false → late_of (before ++ line ∷ []) ≡ late_of before
late-no before line h = ap (λ o. elim o as (λ _. Late) [ None ↦ Never | Some l ↦ late_in l ]) (find-no is_late before line h)

steps-no : (before : List Line) (line : Line) → is_steps line ≡ false → steps_of (before ++ line ∷ []) ≡ steps_of before
steps-no before line h = ap (λ o. elim o as (λ _. Option ℕ) [ None ↦ None | Some l ↦ Some (value l) ]) (find-no is_steps before line h)

at-no : (before : List Line) (line : Line) → is_at line ≡ false → arrivals_in (before ++ line ∷ []) ≡ arrivals_in before
at-no before line h = ap (map arrival_of) (filter-no is_at before line h)

pin-no : (before : List Line) (line : Line) → is_pin line ≡ false → pins_in (before ++ line ∷ []) ≡ pins_in before
pin-no before line h = ap (map pin_of) (filter-no is_pin before line h)

timed-no : (before : List Line) (line : Line) → is_timed line ≡ false → map timed_of (filter is_timed (before ++ line ∷ [])) ≡ map timed_of (filter is_timed before)
timed-no before line h = ap (map timed_of) (filter-no is_timed before line h)

reached-no : (before : List Line) (line : Line) → is_timed line ≡ false → boundary_of (before ++ line ∷ []) ≡ boundary_of before
reached-no before line h = ap (λ found. elim (slice_get found (length found - 1)) [ None ↦ 0 | Some last ↦ value last ]) (filter-no is_timed before line h)

-- What a line adds that is of a kind.
at-yes : (before : List Line) (line : Line) → is_at line ≡ true → arrivals_in (before ++ line ∷ []) ≡ arrivals_in before ++ arrival_of line ∷ []
at-yes before line h = ap (map arrival_of) (filter-yes is_at before line h) ∙ map-append arrival_of (filter is_at before) (line ∷ [])

pin-yes : (before : List Line) (line : Line) → is_pin line ≡ true → pins_in (before ++ line ∷ []) ≡ pins_in before ++ pin_of line ∷ []
pin-yes before line h = ap (map pin_of) (filter-yes is_pin before line h) ∙ map-append pin_of (filter is_pin before) (line ∷ [])

timed-yes : (before : List Line) (line : Line) → is_timed line ≡ true → map timed_of (filter is_timed (before ++ line ∷ [])) ≡ map timed_of (filter is_timed before) ++ timed_of line ∷ []
timed-yes before line h = ap (map timed_of) (filter-yes is_timed before line h) ∙ map-append timed_of (filter is_timed before) (line ∷ [])

reached-yes : (before : List Line) (line : Line) → is_timed line ≡ true → boundary_of (before ++ line ∷ []) ≡ value line
reached-yes before line h =
    ap (λ found. elim (slice_get found (length found - 1)) [ None ↦ 0 | Some last ↦ value last ]) (filter-yes is_timed before line h)
    ∙ ap (λ o. elim o [ None ↦ 0 | Some last ↦ value last ]) (last-push (filter is_timed before) line)

started-more : (before : List Line) (line : Line) → nat_lt 0 (length (before ++ line ∷ [])) ≡ true
started-more before line = lt-ltb 0 (length (before ++ line ∷ [])) (let e = length-append before (line ∷ []) in omega arith)

opening-no : (before : List Line) (line : Line) → is_fill line ≡ false → list_all is_fill (before ++ line ∷ []) ≡ false
opening-no before line h = list_all-append is_fill before (line ∷ []) ∙ ap (λ b. list_all is_fill before && (b && true)) h ∙ and-false (list_all is_fill before)

-- Changes of pins up to a later boundary, and with one more.
later-changes : (low high : ℕ) (pins : List PinChange) → low ≤ high → AreChangesUpTo low pins → AreChangesUpTo high pins
later-changes low high pins h are = record {
  order = are.order;
  each = λ k d inside. let p = are.each k d inside in record { in_time = let t = p.in_time in omega arith; port = p.port; byte = p.byte };
}

more-changes : (pins : List PinChange) (p : PinChange) → p.port < 5 → p.byte < 256 → AreChangesUpTo p.at pins → AreChangesUpTo p.at (pins ++ p ∷ [])
more-changes pins p port byte are = record {
  order = IsNonDecreasingBy-push (λ x. x.at) pins p are.order (λ d some. (are.each (length pins - 1) d (omega arith)).in_time);
  each = All-push (IsChangeUpTo p.at) pins p are.each (record { in_time = omega arith; port = port; byte = byte });
}

same_sym : (a b : PinChange) → is_same_pin a b ≡ is_same_pin b a
same_sym a b = ap (λ t. t && a.port == b.port) (eqb-sym a.at b.at) ∙ ap (λ t. b.at == a.at && t) (eqb-sym a.port b.port)
  where
    eqb-sym : (m n : ℕ) → (m == n) ≡ (n == m)
    eqb-sym m n = grind arith

-- The draft with a line's entry is one of the lines with that line.
more-fill : (before : List Line) (line : Line) (d : Draft) (byte : ℕ) → IsDraftOf before d → Says line (entry.Fill byte)
    → d.started ≡ false → IsDraftOf (before ++ line ∷ []) (with_entry d line.number (entry.Fill byte))
more-fill [] line d byte is says new =
    let fill : is_fill line ≡ true = ap (λ w. bytes_eq w (codes "fill")) says.0 in
    record {
      fill = says.1 ∙ sym (ap (λ b. elim (cond b (Some line) None) as (λ _. ℕ) [ None ↦ 0 | Some l ↦ value_after 16 0 (second l) ]) fill);
      byte = says.2;
      late = is.late ∙ sym (late-no [] line (ap (λ w. bytes_eq w (codes "late")) says.0));
      arrivals = is.arrivals ∙ sym (at-no [] line (ap (λ w. bytes_eq w (codes "at")) says.0));
      pins = is.pins ∙ sym (pin-no [] line (ap (λ w. bytes_eq w (codes "pin")) says.0));
      timed = is.timed ∙ sym (timed-no [] line (ap (λ w. bytes_eq w (codes "at") || bytes_eq w (codes "pin")) says.0));
      reached = is.reached ∙ sym (reached-no [] line (ap (λ w. bytes_eq w (codes "at") || bytes_eq w (codes "pin")) says.0));
      steps = is.steps ∙ sym (steps-no [] line (ap (λ w. bytes_eq w (codes "steps")) says.0));
      started = sym (started-more [] line);
      opening = is.opening ∙ sym (ap (λ b. b && true) fill);
      rising = is.rising;
      sources = is.sources;
      changes = is.changes;
      once = is.once;
      count = is.count;
    }
more-fill (first ∷ more) line d byte is says new = absurd (let e : nat_lt 0 (length (first ∷ more)) ≡ true = lt-ltb 0 (length (first ∷ more)) (omega arith) in let s = is.started in cc)

more-late : (before : List Line) (line : Line) (d : Draft) (late : Late) → IsDraftOf before d → Says line (entry.Late late)
    → d.opening ≡ true → IsDraftOf (before ++ line ∷ []) (with_entry d line.number (entry.Late late))
more-late before line d late is says new = record {
  fill = is.fill ∙ sym (fill-no before line (ap (λ w. bytes_eq w (codes "fill")) says.0));
  byte = is.byte;
  late = sym (ap (λ o. elim o as (λ _. Late) [ None ↦ Never | Some l ↦ late_in l ]) (find-yes is_late before line (no_late before (sym is.opening ∙ new)) (ap (λ w. bytes_eq w (codes "late")) says.0))
      ∙ ap (λ o. elim o as (λ _. Late) [ None ↦ Never | Some l ↦ l ]) says.1);
  arrivals = is.arrivals ∙ sym (at-no before line (ap (λ w. bytes_eq w (codes "at")) says.0));
  pins = is.pins ∙ sym (pin-no before line (ap (λ w. bytes_eq w (codes "pin")) says.0));
  timed = is.timed ∙ sym (timed-no before line (ap (λ w. bytes_eq w (codes "at") || bytes_eq w (codes "pin")) says.0));
  reached = is.reached ∙ sym (reached-no before line (ap (λ w. bytes_eq w (codes "at") || bytes_eq w (codes "pin")) says.0));
  steps = is.steps ∙ sym (steps-no before line (ap (λ w. bytes_eq w (codes "steps")) says.0));
  started = sym (started-more before line);
  opening = sym (opening-no before line (ap (λ w. bytes_eq w (codes "fill")) says.0));
  rising = is.rising;
  sources = is.sources;
  changes = is.changes;
  once = is.once;
  count = is.count;
}

above-last : (before : List Line) (d : Draft) (n : ℕ) → IsDraftOf before d → is_above d.arrivals n ≡ last_below value (filter is_at before) n
above-last before d n is = ap (λ arrivals. is_above arrivals n) is.arrivals ∙ last_below-map (λ a. a.at) arrival_of (filter is_at before) n

more-at : (before : List Line) (line : Line) (d : Draft) (a : Arrival) → IsDraftOf before d → Says line (entry.At a)
    → nat_le d.reached a.at ≡ true → is_above d.arrivals a.at ≡ true → IsDraftOf (before ++ line ∷ []) (with_entry d line.number (entry.At a))
more-at before line d a is says falls above =
    let timed : is_timed line ≡ true = ap (λ w. bytes_eq w (codes "at") || bytes_eq w (codes "pin")) says.0 in
    let boundary : a.at ≡ value line = ap (λ (b : Arrival). b.at) says.1 in
    record {
      fill = is.fill ∙ sym (fill-no before line (ap (λ w. bytes_eq w (codes "fill")) says.0));
      byte = is.byte;
      late = is.late ∙ sym (late-no before line (ap (λ w. bytes_eq w (codes "late")) says.0));
      arrivals = ap (λ bs. bs ++ a ∷ []) is.arrivals ∙ ap (λ b. arrivals_in before ++ b ∷ []) says.1 ∙ sym (at-yes before line (ap (λ w. bytes_eq w (codes "at")) says.0));
      pins = is.pins ∙ sym (pin-no before line (ap (λ w. bytes_eq w (codes "pin")) says.0));
      timed = ap (λ ts. ts ++ record { line = line.number; at = a.at } ∷ []) is.timed
          ∙ ap (λ n. map timed_of (filter is_timed before) ++ record { line = line.number; at = n } ∷ []) boundary ∙ sym (timed-yes before line timed);
      reached = boundary ∙ sym (reached-yes before line timed);
      steps = is.steps ∙ sym (steps-no before line (ap (λ w. bytes_eq w (codes "steps")) says.0));
      started = sym (started-more before line);
      opening = sym (opening-no before line (ap (λ w. bytes_eq w (codes "fill")) says.0));
      rising = subst IsStrictlyIncreasing (sym (map-append (λ b. b.at) d.arrivals (a ∷ [])))
          (rising-push (map (λ b. b.at) d.arrivals) a.at is.rising (last_below-map (λ n. n) (λ b. b.at) d.arrivals a.at ∙ above));
      sources = All-push HasSources d.arrivals a is.sources (record { some = says.2; known = says.3 });
      changes = later-changes d.reached a.at d.pins (leb-true d.reached a.at falls) is.changes;
      once = is.once;
      count = is.count;
    }

more-pin : (before : List Line) (line : Line) (d : Draft) (p : PinChange) → IsDraftOf before d → Says line (entry.Pin p)
    → nat_le d.reached p.at ≡ true → list_any (is_same_pin p) d.pins ≡ false → IsDraftOf (before ++ line ∷ []) (with_entry d line.number (entry.Pin p))
more-pin before line d p is says falls new =
    let timed : is_timed line ≡ true = ap (λ w. bytes_eq w (codes "at") || bytes_eq w (codes "pin")) says.0 in
    let boundary : p.at ≡ value line = ap (λ (q : PinChange). q.at) says.1 in
    record {
      fill = is.fill ∙ sym (fill-no before line (ap (λ w. bytes_eq w (codes "fill")) says.0));
      byte = is.byte;
      late = is.late ∙ sym (late-no before line (ap (λ w. bytes_eq w (codes "late")) says.0));
      arrivals = is.arrivals ∙ sym (at-no before line (ap (λ w. bytes_eq w (codes "at")) says.0));
      pins = ap (λ ps. ps ++ p ∷ []) is.pins ∙ ap (λ q. pins_in before ++ q ∷ []) says.1 ∙ sym (pin-yes before line (ap (λ w. bytes_eq w (codes "pin")) says.0));
      timed = ap (λ ts. ts ++ record { line = line.number; at = p.at } ∷ []) is.timed
          ∙ ap (λ n. map timed_of (filter is_timed before) ++ record { line = line.number; at = n } ∷ []) boundary ∙ sym (timed-yes before line timed);
      reached = boundary ∙ sym (reached-yes before line timed);
      steps = is.steps ∙ sym (steps-no before line (ap (λ w. bytes_eq w (codes "steps")) says.0));
      started = sym (started-more before line);
      opening = sym (opening-no before line (ap (λ w. bytes_eq w (codes "fill")) says.0));
      rising = is.rising;
      sources = is.sources;
      changes = more-changes d.pins p says.2 says.3 (later-changes d.reached p.at d.pins (leb-true d.reached p.at falls) is.changes);
      once = has_pair-push is_same_pin same_sym d.pins p ∙ ap (λ b. b || list_any (is_same_pin p) d.pins) is.once ∙ new;
      count = is.count;
    }

more-steps : (before : List Line) (line : Line) (d : Draft) (n : ℕ) → IsDraftOf before d → list_any is_steps before ≡ false → Says line (entry.Steps n)
    → IsDraftOf (before ++ line ∷ []) (with_entry d line.number (entry.Steps n))
more-steps before line d n is none says = record {
  fill = is.fill ∙ sym (fill-no before line (ap (λ w. bytes_eq w (codes "fill")) says.0));
  byte = is.byte;
  late = is.late ∙ sym (late-no before line (ap (λ w. bytes_eq w (codes "late")) says.0));
  arrivals = is.arrivals ∙ sym (at-no before line (ap (λ w. bytes_eq w (codes "at")) says.0));
  pins = is.pins ∙ sym (pin-no before line (ap (λ w. bytes_eq w (codes "pin")) says.0));
  timed = is.timed ∙ sym (timed-no before line (ap (λ w. bytes_eq w (codes "at") || bytes_eq w (codes "pin")) says.0));
  reached = is.reached ∙ sym (reached-no before line (ap (λ w. bytes_eq w (codes "at") || bytes_eq w (codes "pin")) says.0));
  steps = ap (λ m. Some m) says.1
      ∙ sym (ap (λ o. elim o as (λ _. Option ℕ) [ None ↦ None | Some l ↦ Some (value l) ]) (find-yes is_steps before line (no_steps before none) (ap (λ w. bytes_eq w (codes "steps")) says.0)));
  started = sym (started-more before line);
  opening = sym (opening-no before line (ap (λ w. bytes_eq w (codes "fill")) says.0));
  rising = is.rising;
  sources = is.sources;
  changes = is.changes;
  once = is.once;
  count = (says.2, says.3);
}

-- An entry's refusal is the cause that applies to its line, and where there is none the draft with it is one of the lines with
-- that line.
abbrev placed : List ℕ → Bool → Bool → Bool → Bool → Bool → Option Cause
placed w started opening stays above again =
    by_place (bytes_eq w (codes "fill") && started || bytes_eq w (codes "late") && not opening)
    ((bytes_eq w (codes "at") || bytes_eq w (codes "pin")) && not (stays && (not (bytes_eq w (codes "at")) || above))) (bytes_eq w (codes "pin") && again)

stays-is : (before : List Line) (n : ℕ) → elim (last_of is_timed before) [ None ↦ true | Some last ↦ nat_le (value last) n ] ≡ nat_le (boundary_of before) n
stays-is before n = go (last_of is_timed before)
  where
    go : (o : Option Line) → elim o as (λ _. Bool) [ None ↦ true | Some last ↦ nat_le (value last) n ] ≡ nat_le (elim o as (λ _. ℕ) [ None ↦ 0 | Some last ↦ value last ]) n
    go None = sym (le-leb 0 n (omega arith))
    go (Some last) = refl

refusal-cause : (before : List Line) (line : Line) (d : Draft) (found : Entry) → IsDraftOf before d → list_any is_steps before ≡ false → own_cause line ≡ None → Says line found
    → line_cause before line ≡ refusal d found
refusal-cause before line d found is none own says =
    cause-behind before line none own
    ∙ ap (λ stays. placed (word line) (nat_lt 0 (length before)) (list_all is_fill before) stays (last_below value (filter is_at before) (value line)) (is_twice before line)) (stays-is before (value line))
    ∙ go found says
  where
    started : Bool
    started = nat_lt 0 (length before)

    opening : Bool
    opening = list_all is_fill before

    stays : Bool
    stays = nat_le (boundary_of before) (value line)

    above : Bool
    above = last_below value (filter is_at before) (value line)

    again : Bool
    again = is_twice before line

    flip : (c : Cause) (b : Bool) (o : Option Cause) → cond (not b) (Some c) o ≡ cond b o (Some c)
    flip c true o = refl
    flip c false o = refl

    go : (f : Entry) → Says line f → placed (word line) started opening stays above again ≡ refusal d f
    go (entry.Fill byte) s =
        ap (λ w. placed w started opening stays above again) s.0
        ∙ ap (λ b. cond b (Some BadLine) None) (or-false started ∙ sym is.started)
    go (entry.Late late) s =
        ap (λ w. placed w started opening stays above again) s.0
        ∙ ap (λ b. cond (not b) (Some BadLine) None) (sym is.opening) ∙ flip BadLine d.opening None
    go (entry.At a) s =
        let boundary : a.at ≡ value line = ap (λ (b : Arrival). b.at) s.1 in
        let is_stays : stays ≡ nat_le d.reached a.at = ap (λ n. nat_le n (value line)) (sym is.reached) ∙ ap (nat_le d.reached) (sym boundary) in
        let is_above_last : above ≡ is_above d.arrivals a.at = ap (last_below value (filter is_at before)) (sym boundary) ∙ sym (above-last before d a.at is) in
        ap (λ w. placed w started opening stays above again) s.0
        ∙ ap (λ b. cond (not (b && above)) (Some NotRising) None) is_stays
        ∙ ap (λ b. cond (not (nat_le d.reached a.at && b)) (Some NotRising) None) is_above_last
        ∙ flip NotRising (nat_le d.reached a.at && is_above d.arrivals a.at) None
    go (entry.Pin p) s =
        let boundary : p.at ≡ value line = ap (λ (q : PinChange). q.at) s.1 in
        let is_stays : (stays && true) ≡ nat_le d.reached p.at = and-true stays ∙ ap (λ n. nat_le n (value line)) (sym is.reached) ∙ ap (nat_le d.reached) (sym boundary) in
        let is_again : again ≡ list_any (is_same_pin p) d.pins = ap (λ q. list_any (is_same_pin q) (pins_in before)) (sym s.1) ∙ ap (list_any (is_same_pin p)) (sym is.pins) in
        ap (λ w. placed w started opening stays above again) s.0
        ∙ ap (λ b. cond (not b) (Some NotRising) (cond again (Some PinTwice) None)) is_stays
        ∙ ap (λ b. cond (not (nat_le d.reached p.at)) (Some NotRising) (cond b (Some PinTwice) None)) is_again
        ∙ flip NotRising (nat_le d.reached p.at) (cond (list_any (is_same_pin p) d.pins) (Some PinTwice) None)
    go (entry.Steps n) s = ap (λ w. placed w started opening stays above again) s.0

none_then : (c : Cause) (b : Bool) → cond b (Some c) None ≡ None → b ≡ false
none_then c true e = cc
none_then c false e = refl

none_else : (c : Cause) (b : Bool) (o : Option Cause) → cond b o (Some c) ≡ None → (b ≡ true) × (o ≡ None)
none_else c true o e = (refl, e)
none_else c false o e = cc

pub adds-entry : (before : List Line) (line : Line) (d new : Draft) (found : Entry) (answer : Result (Unit {0}) ScriptFault) → IsDraftOf before d → list_any is_steps before ≡ false → own_cause line ≡ None
    → Says line found → Extends d line.number found new answer → Adds before line new answer
adds-entry before line d new found (Err fault.Memory) is none own says added = tt
adds-entry before line d new found (Err (fault.Line n cause)) is none own says added = (added.0, refusal-cause before line d found is none own says ∙ added.1)
adds-entry before line d new found (Ok done) is none own says added =
    (refusal-cause before line d found is none own says ∙ added.0, subst (IsDraftOf (before ++ line ∷ [])) (sym added.1) (go found says added.0))
  where
    go : (f : Entry) → Says line f → refusal d f ≡ None → IsDraftOf (before ++ line ∷ []) (with_entry d line.number f)
    go (entry.Fill byte) s e = more-fill before line d byte is s (none_then BadLine d.started e)
    go (entry.Late late) s e = more-late before line d late is s (none_else BadLine d.opening None e).0
    go (entry.At a) s e =
        let both = and_parts (nat_le d.reached a.at) (is_above d.arrivals a.at) (none_else NotRising (nat_le d.reached a.at && is_above d.arrivals a.at) None e).0 in
        more-at before line d a is s both.0 both.1
    go (entry.Pin p) s e =
        let both = none_else NotRising (nat_le d.reached p.at) (cond (list_any (is_same_pin p) d.pins) (Some PinTwice) None) e in
        more-pin before line d p is s both.0 (none_then PinTwice (list_any (is_same_pin p) d.pins) both.1)
    go (entry.Steps n) s e = more-steps before line d n is none s

-- The same of a line with these fields, that isn't skipped.
pub takes-told : (before : List Line) (number : ℕ) (fields : List (List ℕ)) (word : List ℕ) (more : List (List ℕ)) (new : Draft) (answer : Result (Unit {0}) ScriptFault)
    → fields ≡ word ∷ more → begins (λ b. b == 35) word ≡ false → Adds before (record { number = number; fields = word ∷ more }) new answer
    → Takes before (record { number = number; fields = fields }) new answer
takes-told before number fields word more new answer e h adds =
    subst (λ fs. Takes before (record { number = number; fields = fs }) new answer) (sym e)
    (subst (λ b. elim b as (λ _. Type 0) [ true ↦ Adds before (record { number = number; fields = word ∷ more }) new answer | false ↦ (answer ≡ Ok tt) × IsDraftOf before new ]) (sym (ap not h)) adds)

-- At the end of the lines.
past-line : (told : List Line) (d : Draft) (n : ℕ) → IsDraftOf told d
    → past_number d n ≡ option_map (λ line. line.number) (find (λ line. is_timed line && nat_le n (value line)) told)
past-line told d n is =
    ap (λ timed. option_map (λ t. t.line) (find (λ t. nat_le n t.at) timed)) is.timed
    ∙ ap (option_map (λ t. t.line)) (find-map (λ t. nat_le n t.at) timed_of (filter is_timed told))
    ∙ ap (λ o. option_map (λ t. t.line) (option_map timed_of o)) (sym (find-filter is_timed (λ line. nat_le n (value line)) told))
    ∙ go (find (λ line. is_timed line && nat_le n (value line)) told)
  where
    go : (o : Option Line) → option_map (λ t. t.line) (option_map timed_of o) ≡ option_map (λ line. line.number) o
    go None = refl
    go (Some line) = refl

record HasLast (told : List Line) (n : ℕ) : Type 0 where
  last : Line
  found : find is_steps told ≡ Some last
  value : value last ≡ n

has-last : (told : List Line) (d : Draft) (n : ℕ) → IsDraftOf told d → d.steps ≡ Some n → HasLast told n
has-last told d n is e = go (find is_steps told) refl (sym is.steps ∙ e)
  where
    go : (o : Option Line) → find is_steps told ≡ o → elim o as (λ _. Option ℕ) [ None ↦ None | Some line ↦ Some (value line) ] ≡ Some n → HasLast told n
    go None f h = cc
    go (Some line) f h = record { last = line; found = f; value = cc }

abbrev told_past : Option Line → Option Fault
told_past None = None
told_past (Some past) = Some (record { line = past.number; cause = PastEnd })

abbrev at_end : ℕ → List Line → Option Line → Option Fault
at_end count told None = Some (record { line = count + 1; cause = NoSteps })
at_end count told (Some last) = told_past (find (λ line. is_timed line && nat_le (value last) (value line)) told)

end-past : (count : ℕ) (told : List Line) (d : Draft) (n : ℕ) → IsDraftOf told d → d.steps ≡ Some n
    → fault_at_end count told ≡ told_past (find (λ line. is_timed line && nat_le n (value line)) told)
end-past count told d n is e =
    let has = has-last told d n is e in
    go (find is_steps told) ∙ ap (at_end count told) has.found ∙ ap (λ m. told_past (find (λ line. is_timed line && nat_le m (value line)) told)) has.value
  where
    go : (o : Option Line) → elim o as (λ _. Option Fault) [
      | None ↦ Some (record { line = count + 1; cause = NoSteps })
      | Some last ↦ elim (find (λ line. is_timed line && nat_le (value last) (value line)) told) as (λ _. Option Fault) [ None ↦ None | Some past ↦ Some (record { line = past.number; cause = PastEnd }) ]
    ] ≡ at_end count told o
    go None = refl
    go (Some last) = inner (find (λ line. is_timed line && nat_le (value last) (value line)) told)
      where
        inner : (o : Option Line) → elim o as (λ _. Option Fault) [ None ↦ None | Some past ↦ Some (record { line = past.number; cause = PastEnd }) ] ≡ told_past o
        inner None = refl
        inner (Some past) = refl

pub ends-past : (count : ℕ) (told : List Line) (d : Draft) (n line : ℕ) → IsDraftOf told d → d.steps ≡ Some n → past_number d n ≡ Some line
    → fault_at_end count told ≡ Some (record { line = line; cause = PastEnd })
ends-past count told d n line is e h =
    end-past count told d n is e ∙ go (find (λ l. is_timed l && nat_le n (value l)) told) (sym (past-line told d n is) ∙ h)
  where
    go : (o : Option Line) → option_map (λ l. l.number) o ≡ Some line → told_past o ≡ Some (record { line = line; cause = PastEnd })
    go None f = cc
    go (Some past) f = cc

-- No boundary of a kind of timed lines is behind the last step.
none-past : (told : List Line) (n : ℕ) {X : Type 0} (kind : Line → Bool) (f : Line → X) (boundary : X → ℕ) → ((l : Line) → kind l ≡ true → is_timed l ≡ true) → ((l : Line) → boundary (f l) ≡ value l)
    → find (λ l. is_timed l && nat_le n (value l)) told ≡ None → All (λ x. boundary x < n) (map f (filter kind told))
none-past [] n kind f boundary timed is h = λ k d inside. absurd (omega arith)
none-past (line ∷ more) n {X = X} kind f boundary timed is h = go (is_timed line) refl (nat_le n (value line)) refl (none-past more n kind f boundary timed is) h (kind line) refl
  where
    go : (t : Bool) → is_timed line ≡ t → (late : Bool) → nat_le n (value line) ≡ late → (find (λ l. is_timed l && nat_le n (value l)) more ≡ None → All (λ x. boundary x < n) (map f (filter kind more)))
        → cond (t && late) (Some line) (find (λ l. is_timed l && nat_le n (value l)) more) ≡ None → (b : Bool) → kind line ≡ b
        → All (λ x. boundary x < n) (map f (cond b (line ∷ filter kind more) (filter kind more)))
    go true t true late below e b k = cc
    go true t false late below e true k = All-cons (λ x. boundary x < n) (f line) (map f (filter kind more)) (let v = is line in let l = leb-false n (value line) late in omega arith) (below e)
    go true t false late below e false k = below e
    go false t late l below e true k = absurd (let y = timed line k in cc)
    go false t late l below e false k = below e

pub ends-well : (count : ℕ) (told : List Line) (d : Draft) (n : ℕ) → IsDraftOf told d → d.steps ≡ Some n → past_number d n ≡ None
    → Ends count told (Ok (record { fill = d.fill; late = d.late; arrivals = d.arrivals; pins = d.pins; steps = n }))
ends-well count told d n is e h =
    let range : IsCount n = let P : Option ℕ → Type 0 = λ o. IfSome o IsCount in subst P e is.count in
    let none : find (λ l. is_timed l && nat_le n (value l)) told ≡ None = not_past (find (λ l. is_timed l && nat_le n (value l)) told) (sym (past-line told d n is) ∙ h) in
    let arrivals : All (λ a. a.at < n) d.arrivals = subst (All (λ a. a.at < n)) (sym is.arrivals) (none-past told n is_at arrival_of (λ a. a.at) at_timed (λ l. refl) none) in
    let pins : All (λ p. p.at < n) d.pins = subst (All (λ p. p.at < n)) (sym is.pins) (none-past told n is_pin pin_of (λ p. p.at) pin_timed (λ l. refl) none) in (
      end-past count told d n is e ∙ ap told_past none,
      record { fill = is.fill; late = is.late; arrivals = is.arrivals; pins = is.pins; steps = sym is.steps ∙ e },
      record {
        fill = is.byte;
        rising = is.rising;
        arrivals = λ k a inside. let s = is.sources k a inside in record { in_time = arrivals k a inside; some = s.some; known = s.known };
        order = is.changes.order;
        pins = λ k p inside. let c = is.changes.each k p inside in record { in_time = pins k p inside; port = c.port; byte = c.byte };
        once = is.once;
        some = range.0;
        limit = range.1;
      },
    )
  where
    not_past : (o : Option Line) → option_map (λ l. l.number) o ≡ None → o ≡ None
    not_past None f = refl
    not_past (Some past) f = cc

    at_timed : (l : Line) → is_at l ≡ true → is_timed l ≡ true
    at_timed l k = ap (λ b. b || is_pin l) k

    pin_timed : (l : Line) → is_pin l ≡ true → is_timed l ≡ true
    pin_timed l k = ap (λ b. is_at l || b) k ∙ or-true (is_at l)
