-- The lines of entries in a row: they are cut in one way, and a map's text is the row of its entries' lines.
use Rattle.std.proofs.Common.{◌≡◌, ◌≢◌, ℕ, ◌+◌, Bool, true, false, ◌||◌, List, [], ◌∷◌, ◌++◌, map, codes, refl, sym, ap, subst, ◌∙◌}
use Rattle.std.specs.List.{flat_map, concat, AllByRecursion}
use Rattle.std.specs.Str.{bytes_eq}
use Rattle.std.proofs.lemmas.Slice.Eq.{bytes_eq-Decides}
use Rattle.std.proofs.lemmas.List.{append_assoc, append-nil}
use Rattle.std.proofs.lemmas.List.Concat.{concat_is}
use Rattle.std.proofs.lemmas.List.Folds.{flat_map-map}
use Rattle.std.proofs.lemmas.Grind.{flat_map-append}
use Rattle.text_parts.specs.Names.{is_name}
use Rattle.map_file.specs.declared.maps.MapEvent.{MapEvent}
use Rattle.map_file.specs.declared.maps.MapSample.{MapSample}
use Rattle.map_file.specs.declared.maps.Range.{Range}
use Rattle.map_file.specs.declared.maps.Map.{Map}
use Rattle.map_file.specs.declared.entries.Entry.{Entry}
use Rattle.map_file.specs.declared.entries.Entry.TheVariants as entry
use Rattle.map_file.specs.MapRules.{IsMap, IsEvent, IsSample, RangesRise, names_event}
use Rattle.map_file.specs.MapText.{line, map_text}
use Rattle.map_file.specs.MapFaults.{IsWholeLine}
use Rattle.map_file.specs.Entries.{line_of, fields_of, IsEntry, IsRange, IsSampleLine, entries_of, report_of}
use Rattle.text_parts.specs.Fields.{parts_of}
use Rattle.map_file.proofs.EntryOrderFacts.{one_map}
use Rattle.map_file.proofs.WholeLineFacts.{one_line, line_some}
use Rattle.map_file.proofs.FieldCutFacts.{AllVisible, all_append, one_fields, fields_told}
use Rattle.map_file.proofs.EntryLineFacts.{fields_visible, entry_whole, one_entry}

abbrev pub AreEntries : List Entry → Type 0
AreEntries es = AllByRecursion IsEntry es

abbrev pub text_of : List Entry → List ℕ
text_of es = flat_map line_of es

pub some_field : (e : Entry) → fields_of e ≢ []
some_field entry.Head h = cc
some_field (entry.Event e) h = cc
some_field (entry.State s) h = cc
some_field (entry.Output port) h = cc
some_field (entry.Sample s) h = cc
some_field (entry.Ready address) h = cc
some_field (entry.Regs r) h = cc
some_field (entry.Report r) h = cc

-- A line tells its entry.
pub one_lined : (e d : Entry) → IsEntry e → IsEntry d → line_of e ≡ line_of d → e ≡ d
one_lined e d h k q = one_entry e d h k (go (fields_of e) (fields_of d) (fields_visible e h) (fields_visible d k) (some_field e) (some_field d) q)
  where
    go : (fs gs : List (List ℕ)) → AllVisible fs → AllVisible gs → fs ≢ [] → gs ≢ [] → line fs ≡ line gs → fs ≡ gs
    go [] gs all all' some some' same = absurd (some refl)
    go (f ∷ fs) [] all all' some some' same = absurd (some' refl)
    go (f ∷ fs) (g ∷ gs) all all' some some' same = one_fields f g fs gs all all' same

-- Where a row's text begins with the text of a second row, the row begins with the second.
pub record GoesOn (all first : List Entry) (rest : List ℕ) : Type 0 where
  pub more : List Entry
  pub entries : all ≡ first ++ more
  pub text : rest ≡ text_of more
  pub valid : AreEntries more

pub goes_on : (all first : List Entry) (rest : List ℕ) → AreEntries all → AreEntries first → text_of all ≡ text_of first ++ rest → GoesOn all first rest
goes_on all [] rest h k e = record { more = all; entries = refl; text = sym e; valid = h }
goes_on [] (d ∷ ds) rest h k e = absurd (line_some (line_of d) (text_of ds ++ rest) (entry_whole d k.0) (sym (append_assoc (line_of d) (text_of ds) rest) ∙ sym e))
goes_on (a ∷ all) (d ∷ ds) rest h k e =
    let cut = one_line (line_of a) (line_of d) (text_of all) (text_of ds ++ rest) (entry_whole a h.0) (entry_whole d k.0) (e ∙ append_assoc (line_of d) (text_of ds) rest) in
    let same = one_lined a d h.0 k.0 cut.0 in
    let after = goes_on all ds rest h.1 k.1 cut.1 in
    record { more = after.more; entries = ap (λ x. x ∷ all) same ∙ ap (λ xs. d ∷ xs) after.entries; text = after.text; valid = after.valid }

-- A map's text.

pub row_text : (m : Map) → map_text m ≡ text_of (entries_of m)
row_text m = simp (flat_map-append, flat_map-map, append-nil)

all_map : {X : Type 0} (f : X → Entry) (xs : List X) → AllByRecursion (λ x. IsEntry (f x)) xs → AreEntries (map f xs)
all_map f [] h = tt
all_map f (x ∷ xs) h = (h.0, all_map f xs h.1)

ranges_valid : (low : ℕ) (rs : List Range) → RangesRise low rs → AllByRecursion IsRange rs
ranges_valid low [] h = tt
ranges_valid low (r ∷ rs) h = ((h.1, h.2), ranges_valid (r.to + 2) rs h.3)

-- The events' names have the form of names, and so have the samples' events.
named_is_name : (es : List MapEvent) (name : List ℕ) → AllByRecursion IsEvent es → names_event es name ≡ true → is_name name ≡ true
named_is_name [] name h k = cc
named_is_name (e ∷ es) name h k = go (bytes_eq e.name name) refl (named_is_name es name h.1) k
  where
    go : (t : Bool) → bytes_eq e.name name ≡ t → (names_event es name ≡ true → is_name name ≡ true) → (t || names_event es name) ≡ true → is_name name ≡ true
    go true same rest found = subst (λ n. is_name n ≡ true) ((bytes_eq-Decides e.name name).0 same) h.0.name
    go false same rest found = rest found

samples_valid : (es : List MapEvent) (ss : List MapSample) → AllByRecursion IsEvent es → AllByRecursion (IsSample es) ss → AllByRecursion IsSampleLine ss
samples_valid es [] h k = tt
samples_valid es (s ∷ ss) h k = (record { event = named_is_name es s.event h k.0.event; input = k.0.input; at = k.0.at }, samples_valid es ss h k.1)

pub row_valid : (m : Map) → IsMap m → AreEntries (entries_of m)
row_valid m h =
    let last : AreEntries (map entry.Regs m.regs ++ (entry.Report (report_of m) ∷ [])) =
    all_append IsEntry (map entry.Regs m.regs) (entry.Report (report_of m) ∷ []) (all_map entry.Regs m.regs (ranges_valid 0 m.regs h.ranges)) (record { depth = h.depth; ram = h.ram; words = h.words; settle = h.settle }, tt) in
    (tt, all_append IsEntry _ _ (all_map entry.Event m.events h.events) (all_append IsEntry _ _ (all_map entry.State m.states h.states) (all_append IsEntry _ _ (all_map entry.Output m.outputs h.outputs) (all_append IsEntry _ _ (all_map entry.Sample m.samples (samples_valid m.events m.samples h.events h.samples)) (h.ready, last)))))

pub rows_lines : (es : List Entry) → concat (map line_of es) ≡ text_of es
rows_lines es = concat_is (map line_of es) ∙ flat_map-map (λ x. x) line_of es

pub rows_whole : (es : List Entry) → AreEntries es → AllByRecursion IsWholeLine (map line_of es)
rows_whole [] h = tt
rows_whole (e ∷ es) h = (entry_whole e h.0, rows_whole es h.1)

-- The line of an entry has the entry's fields.
pub fields_of_line : (body : List ℕ) (e : Entry) → IsEntry e → body ++ codes "\n" ≡ line_of e → parts_of body ≡ fields_of e
fields_of_line body e h q = go (fields_of e) (fields_visible e h) (some_field e) q
  where
    go : (fs : List (List ℕ)) → AllVisible fs → fs ≢ [] → body ++ codes "\n" ≡ line fs → parts_of body ≡ fs
    go [] all some same = absurd (some refl)
    go (f ∷ fs) all some same = fields_told body f fs all same

pub text-append : (xs ys : List Entry) → text_of (xs ++ ys) ≡ text_of xs ++ text_of ys
text-append xs ys = flat_map-append line_of xs ys

text_none : (es : List Entry) → AreEntries es → [] ≡ text_of es → es ≡ []
text_none [] h e = refl
text_none (x ∷ es) h e = absurd (line_some (line_of x) (text_of es) (entry_whole x h.0) (sym e))

-- A text is the text of one map at most.
pub one_text : (m n : Map) → IsMap m → IsMap n → map_text m ≡ map_text n → m ≡ n
one_text m n h k e =
    let all = goes_on (entries_of m) (entries_of n) [] (row_valid m h) (row_valid n k) (sym (row_text m) ∙ e ∙ row_text n ∙ sym (append-nil (text_of (entries_of n)))) in
    one_map m n (all.entries ∙ ap (λ u. entries_of n ++ u) (text_none all.more all.valid all.text) ∙ append-nil (entries_of n))
