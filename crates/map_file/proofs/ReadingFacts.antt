-- How far bytes have been read as a map's text, and what ends the reading.
use Rattle.std.proofs.Common.{◌≡◌, ◌≢◌, ℕ, ◌+◌, ◌*◌, ◌≤◌, true, false, List, [], ◌∷◌, ◌++◌, length, map, Some, Ok, Err, codes, refl, sym, ap, subst, ◌∙◌, arith}
use Rattle.std.specs.List.{concat}
use Rattle.std.proofs.lemmas.List.{append_assoc, append-nil, length-append, length-map}
use Rattle.map_file.specs.declared.maps.Map.{Map}
use Rattle.map_file.specs.declared.drafts.Draft.{Draft}
use Rattle.map_file.specs.declared.entries.Entry.{Entry}
use Rattle.map_file.specs.declared.entries.Entry.TheVariants as entry
use Rattle.map_file.specs.declared.entries.Section.TheVariants as section
use Rattle.map_file.specs.declared.faults.MapFault.TheVariants.{Line}
use Rattle.map_file.specs.MapRules.{IsMap}
use Rattle.map_file.specs.MapText.{map_text}
use Rattle.map_file.specs.MapFaults.{Begins, HasNoEnd, IsWholeLine, FirstFaulty, IsReadAs}
use Rattle.map_file.specs.Entries.{line_of, fields_of, IsEntry, entries_of}
use Rattle.text_parts.specs.Fields.{parts_of}
use Rattle.map_file.specs.Drafts.{Added, empty_draft}
use Rattle.map_file.proofs.WholeLineFacts.{one_line, line_some, no_line}
use Rattle.map_file.proofs.FieldCutFacts.{all_append, line_told}
use Rattle.map_file.proofs.EntryLineFacts.{entry_whole, one_entry}
use Rattle.map_file.proofs.EntryOrderFacts.{run, run_map}
use Rattle.map_file.proofs.EntryRowLaws.{AreEntries, text_of, goes_on, row_text, row_valid, rows_lines, rows_whole, fields_of_line, text-append, one_text}
use Rattle.map_file.proofs.DraftFacts.{IsDraft, so_far, empty_is_draft, still_to_come, draft_more, draft_refuses}

-- The entries of the whole lines before `rest` made the draft. `number` is that of the next line.
pub record HasRead (bytes rest : List ℕ) (number : ℕ) (d : Draft) : Type 0 where
  pub entries : List Entry
  pub cut : bytes ≡ text_of entries ++ rest
  pub valid : AreEntries entries
  pub counted : number ≡ length entries + 1
  pub draft : IsDraft entries d
  pub room : 2 * number + length rest ≤ length bytes + 2

pub read_start : (bytes : List ℕ) → HasRead bytes bytes 1 empty_draft
read_start bytes = record { entries = []; cut = refl; valid = tt; counted = refl; draft = empty_is_draft; room = omega arith }

body_some : (body : List ℕ) (e : Entry) → parts_of body ≡ fields_of e → 1 ≤ length body
body_some [] entry.Head h = absurd (cc h)
body_some [] (entry.Event e) h = absurd (cc h)
body_some [] (entry.State s) h = absurd (cc h)
body_some [] (entry.Output port) h = absurd (cc h)
body_some [] (entry.Sample s) h = absurd (cc h)
body_some [] (entry.Ready address) h = absurd (cc h)
body_some [] (entry.Regs r) h = absurd (cc h)
body_some [] (entry.Report r) h = absurd (cc h)
body_some (b ∷ bs) e h = omega arith

-- The rest's first line after what was read.
line_after : (before rest body after : List ℕ) → rest ≡ body ++ (10 ∷ after) → before ++ rest ≡ (before ++ (body ++ codes "\n")) ++ after
line_after before rest body after e = ap (λ u. before ++ u) (e ∙ sym (append_assoc body (codes "\n") after)) ∙ sym (append_assoc before (body ++ codes "\n") after)

pub read_more : (bytes rest body after : List ℕ) (number : ℕ) (d d' : Draft) (e : Entry)
    → HasRead bytes rest number d → rest ≡ body ++ (10 ∷ after) → parts_of body ≡ fields_of e → IsEntry e → Added d e true d' → HasRead bytes after (number + 1) d'
read_more bytes rest body after number d d' e h cut fields v added =
    let told : body ++ codes "\n" ≡ line_of e = line_told body (fields_of e) fields in
    record {
      entries = h.entries ++ e ∷ [];
      cut = h.cut ∙ line_after (text_of h.entries) rest body after cut
          ∙ ap (λ u. (text_of h.entries ++ u) ++ after) (told ∙ sym (append-nil (line_of e)))
          ∙ ap (λ u. u ++ after) (sym (text-append h.entries (e ∷ [])));
      valid = all_append IsEntry h.entries (e ∷ []) h.valid (v, tt);
      counted = omega (arith, h.counted, length-append h.entries (e ∷ []));
      draft = draft_more h.entries d d' e h.draft v added;
      room = omega (arith, h.room, ap length cut, length-append body (10 ∷ after), body_some body e fields);
    }

-- A map whose row goes on, after these entries, with the entry of this line.
pub record NextEntry (xs : List Entry) (line : List ℕ) : Type 0 where
  pub map : Map
  pub rules : IsMap map
  pub next : Entry
  pub more : List Entry
  pub valid : IsEntry next
  pub same : line ≡ line_of next
  pub row : entries_of map ≡ xs ++ (next ∷ more)

next_entry : (xs : List Entry) (line : List ℕ) → AreEntries xs → IsWholeLine line → Begins (text_of xs ++ line) → NextEntry xs line
next_entry xs line v whole b =
    let all = goes_on (entries_of b.map) xs (line ++ b.rest) (row_valid b.map b.rules) v (sym (row_text b.map) ∙ b.text ∙ append_assoc (text_of xs) line b.rest) in
    go all.more all.valid all.text all.entries
  where
    go : (more : List Entry) → AreEntries more → line ++ b.rest ≡ text_of more → entries_of b.map ≡ xs ++ more → NextEntry xs line
    go [] w text row = absurd (line_some line b.rest whole text)
    go (e ∷ more) w text row = record { map = b.map; rules = b.rules; next = e; more = more; valid = w.0; same = (one_line line (line_of e) b.rest (text_of more) whole (entry_whole e w.0) text).0; row = row }

read_begins : (bytes rest : List ℕ) (number : ℕ) (d : Draft) → (h : HasRead bytes rest number d) → Begins (concat (map line_of h.entries))
read_begins bytes rest number d h =
    let (more, row) = still_to_come d.section d.map in
    record {
      map = d.map;
      rules = h.draft.rules;
      rest = text_of more;
      text = row_text d.map ∙ ap text_of row ∙ text-append (so_far d.section d.map) more ∙ ap (λ u. u ++ text_of more) (ap text_of (sym h.draft.entries) ∙ sym (rows_lines h.entries));
    }

-- A line that stands next in no map's row is the first faulty one.
faulty_line : (bytes rest body after : List ℕ) (number : ℕ) (d : Draft) → (h : HasRead bytes rest number d) → rest ≡ body ++ (10 ∷ after) → HasNoEnd body → (NextEntry h.entries (body ++ codes "\n") → ⊥) → FirstFaulty bytes number
faulty_line bytes rest body after number d h cut one none =
    let whole : IsWholeLine (body ++ codes "\n") = record { body = body; ends = refl; one = one } in
    record {
      lines = map line_of h.entries;
      rest = rest;
      cut = h.cut ∙ ap (λ u. u ++ rest) (sym (rows_lines h.entries));
      whole = rows_whole h.entries h.valid;
      number = omega (arith, h.counted, length-map h.entries line_of);
      begins = read_begins bytes rest number d h;
      refused = λ line after' whole' e b.
          let same = (one_line line (body ++ codes "\n") after' after whole' whole (sym e ∙ cut ∙ sym (append_assoc body (codes "\n") after))).0 in
          let next = next_entry h.entries line h.valid whole' (subst Begins (ap (λ u. u ++ line) (rows_lines h.entries)) b) in
          none (subst (NextEntry h.entries) same next);
      no_text = λ t. none (next_entry h.entries (body ++ codes "\n") h.valid whole (record { map = t.map; rules = t.rules; rest = after; text = sym t.text ∙ h.cut ∙ line_after (text_of h.entries) rest body after cut }));
    }

-- A line that states nothing.
pub no_entry : (bytes rest body after : List ℕ) (number : ℕ) (d : Draft) → HasRead bytes rest number d → rest ≡ body ++ (10 ∷ after) → HasNoEnd body
    → ((e : Entry) → IsEntry e → parts_of body ≢ fields_of e) → FirstFaulty bytes number
no_entry bytes rest body after number d h cut one none = faulty_line bytes rest body after number d h cut one (λ n. none n.next n.valid (fields_of_line body n.next n.valid n.same))

-- A line whose entry isn't admitted.
pub not_added : (bytes rest body after : List ℕ) (number : ℕ) (d d' : Draft) (e : Entry) → HasRead bytes rest number d → rest ≡ body ++ (10 ∷ after) → HasNoEnd body
    → IsEntry e → parts_of body ≡ fields_of e → Added d e false d' → FirstFaulty bytes number
not_added bytes rest body after number d d' e h cut one v fields refused = faulty_line bytes rest body after number d h cut one (λ n.
    let same : n.next ≡ e = one_entry n.next e n.valid v (sym (fields_of_line body n.next n.valid n.same) ∙ fields) in
    draft_refuses n.map h.entries n.more d d' e n.rules h.draft refused (n.row ∙ ap (λ x. h.entries ++ (x ∷ n.more)) same))

-- Bytes without an end, or the end of the text before its last line.
pub no_line_there : (bytes rest : List ℕ) (number : ℕ) (d : Draft) → HasRead bytes rest number d → HasNoEnd rest → (rest ≡ [] → d.section ≢ section.End) → FirstFaulty bytes number
no_line_there bytes rest number d h one open_end = record {
  lines = map line_of h.entries;
  rest = rest;
  cut = h.cut ∙ ap (λ u. u ++ rest) (sym (rows_lines h.entries));
  whole = rows_whole h.entries h.valid;
  number = omega (arith, h.counted, length-map h.entries line_of);
  begins = read_begins bytes rest number d h;
  refused = λ line after whole e b. no_line rest line after one whole e;
  no_text = λ t.
      let all = goes_on (entries_of t.map) h.entries rest (row_valid t.map t.rules) h.valid (sym (row_text t.map) ∙ sym t.text ∙ h.cut) in
      go t.map all.more all.valid all.text all.entries;
}
  where
    go : (m : Map) (more : List Entry) → AreEntries more → rest ≡ text_of more → entries_of m ≡ h.entries ++ more → ⊥
    go m [] w text row =
        let reached : Some section.End ≡ Some d.section = sym (run_map m) ∙ ap (run section.Start) (row ∙ append-nil h.entries) ∙ h.draft.reached in
        let same : d.section ≡ section.End = cc reached in
        open_end text same
    go m (e ∷ more) w text row = no_line rest (line_of e) (text_of more) one (entry_whole e w.0) text

-- All has been read.
pub read_whole : (bytes rest : List ℕ) (number : ℕ) (d : Draft) → HasRead bytes rest number d → rest ≡ [] → d.section ≡ section.End → IsMap d.map × (bytes ≡ map_text d.map)
read_whole bytes rest number d h none end = (
  h.draft.rules,
  h.cut ∙ ap (λ u. text_of h.entries ++ u) none ∙ append-nil (text_of h.entries) ∙ ap text_of (h.draft.entries ∙ ap (λ s. so_far s d.map) end) ∙ sym (row_text d.map),
)

-- Bytes with a faulty line are no map's text, and a map's text is the text of this map alone.
pub faulty_no_map : (bytes : List ℕ) (n : ℕ) → FirstFaulty bytes n → (m : Map) → IsMap m → bytes ≡ map_text m → IsReadAs m (Err (Line n))
faulty_no_map bytes n fault m rules e = absurd (fault.no_text (record { map = m; rules = rules; text = e }))

pub read_alone : (bytes : List ℕ) (found : Map) → IsMap found × (bytes ≡ map_text found) → (m : Map) → IsMap m → bytes ≡ map_text m → IsReadAs m (Ok found)
read_alone bytes found h m rules e = one_text found m h.0 rules (sym h.1 ∙ e)
