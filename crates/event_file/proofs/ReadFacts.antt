-- An events file that is read line by line.
use Rattle.std.proofs.Common.{◌≡◌, ⊎_elim, ℕ, ◌+◌, ◌<◌, ◌≤◌, Bool, true, false, ◌&&◌, ◌==◌, cond, nat_le, List, [], ◌∷◌, ◌++◌, length, map, Some, None, is_none, refl, sym, ap, ◌∙◌, arith, length-append}
use Rattle.std.specs.List.{AllByRecursion, filter, flat_map}
use Rattle.std.specs.Str.Lines.{lines}
use Rattle.std.proofs.lemmas.Bool.{leb-true, leb-false, cases_lt}
use Rattle.std.proofs.lemmas.List.{append_assoc, length-map, map-append}
use Rattle.frp_tree.specs.Tree.{ProgramTree}
use Rattle.efrp_meaning.specs.Meaning.{Occurrence}
use Rattle.event_file.specs.declared.occurrences.Occurrence.{Occurrence as Found}
use Rattle.event_file.specs.Events.{is_some_text, occurrence_in, told_events, events_of, unknown_from, first_unknown}
use Rattle.event_file.specs.Reads.{occurrence_of, IsFound}

-- What lines that aren't empty state.
abbrev stated : ProgramTree → List ℕ → List Occurrence
stated p text = elim (occurrence_in p text) [ None ↦ [] | Some o ↦ o ∷ [] ]

abbrev told_in : List (List ℕ) → List (List ℕ)
told_in texts = filter is_some_text texts

abbrev events_in : ProgramTree → List (List ℕ) → List Occurrence
events_in p texts = flat_map (stated p) (told_in texts)

-- What is known of a text where this rest is left, after this many lines, none of them unknown: the events of these lines are
-- kept, all of them where they are n + 1 at most.
pub record ReadSoFar (p : ProgramTree) (n : ℕ) (bytes rest : List ℕ) (count : ℕ) (events : List Found) : Type 0 where
  pub seen : List Occurrence
  pub kept : length seen ≤ n + 1 → map (occurrence_of p) events ≡ seen
  pub full : n + 1 ≤ length seen → n < length events
  pub found : AllByRecursion (IsFound p) events
  pub stated : events_of p bytes ≡ seen ++ events_in p (lines rest)
  pub told : length (told_events bytes) ≡ length seen + length (told_in (lines rest))
  pub first : first_unknown p bytes ≡ unknown_from p (count + 1) (lines rest)
  pub room : count + length rest ≤ length bytes

-- A line that states an event.
abbrev kept_with : ℕ → List Found → Found → List Found
kept_with n events o = cond (nat_le (length events) n) (events ++ o ∷ []) events

found-more : (p : ProgramTree) (events : List Found) (o : Found) → AllByRecursion (IsFound p) events → IsFound p o → AllByRecursion (IsFound p) (events ++ o ∷ [])
found-more p [] o all one = (one, tt)
found-more p (x ∷ xs) o all one = (all.0, found-more p xs o all.1 one)

record Keeps (p : ProgramTree) (n : ℕ) (seen : List Occurrence) (events : List Found) : Type 0 where
  kept : length seen ≤ n + 1 → map (occurrence_of p) events ≡ seen
  full : n + 1 ≤ length seen → n < length events
  found : AllByRecursion (IsFound p) events

keeps-more : (p : ProgramTree) (n : ℕ) (seen : List Occurrence) (events : List Found) (o : Found) → Keeps p n seen events → IsFound p o → Keeps p n (seen ++ occurrence_of p o ∷ []) (kept_with n events o)
keeps-more p n seen events o k one = go (nat_le (length events) n) refl
  where
    longer : length (seen ++ occurrence_of p o ∷ []) ≡ length seen + 1
    longer = length-append seen (occurrence_of p o ∷ [])

    more : length (events ++ o ∷ []) ≡ length events + 1
    more = length-append events (o ∷ [])

    same : length seen ≤ n + 1 → length events ≡ length seen
    same h = sym (length-map events (occurrence_of p)) ∙ ap length (k.kept h)

    go : (b : Bool) → nat_le (length events) n ≡ b → Keeps p n (seen ++ occurrence_of p o ∷ []) (cond b (events ++ o ∷ []) events)
    go true h =
        let few : length events ≤ n = leb-true (length events) n h in
        record {
          kept = λ l. map-append (occurrence_of p) events (o ∷ []) ∙ ap (λ x. x ++ occurrence_of p o ∷ []) (k.kept (let t = longer in omega arith));
          full = λ l. let t = longer in let m = more in let small : length seen ≤ n + 1 = ⊎_elim (λ a. omega arith) (λ a. let f = k.full (omega arith) in absurd (omega arith)) (cases_lt (length seen) (n + 1)) in let s = same small in omega arith;
          found = found-more p events o k.found one;
        }
    go false h =
        let many : n < length events = leb-false (length events) n h in
        record {
          kept = λ l. let t = longer in let s = same (omega arith) in absurd (omega arith);
          full = λ l. many;
          found = k.found;
        }

pub read-event : (p : ProgramTree) (n : ℕ) (bytes rest : List ℕ) (count : ℕ) (events : List Found) (text more : List ℕ) (o : Found) → ReadSoFar p n bytes rest count events → lines rest ≡ text ∷ lines more → length more < length rest
    → is_some_text text ≡ true → occurrence_in p text ≡ Some (occurrence_of p o) → IsFound p o → ReadSoFar p n bytes more (count + 1) (kept_with n events o)
read-event p n bytes rest count events text more o so e shorter some is one =
    let kept : told_in (lines rest) ≡ text ∷ told_in (lines more) = ap told_in e ∙ ap (λ b. cond b (text ∷ told_in (lines more)) (told_in (lines more))) some in
    let keeps : Keeps p n (so.seen ++ occurrence_of p o ∷ []) (kept_with n events o) = keeps-more p n so.seen events o (record { kept = so.kept; full = so.full; found = so.found }) one in
    record {
      seen = so.seen ++ occurrence_of p o ∷ [];
      kept = keeps.kept;
      full = keeps.full;
      found = keeps.found;
      stated = so.stated ∙ ap (λ texts. so.seen ++ flat_map (stated p) texts) kept
          ∙ ap (λ x. so.seen ++ (elim x as (λ _. List Occurrence) [ None ↦ [] | Some y ↦ y ∷ [] ] ++ events_in p (lines more))) is
          ∙ sym (append_assoc so.seen (occurrence_of p o ∷ []) (events_in p (lines more)));
      told = let t = so.told in let l : length (told_in (lines rest)) ≡ length (text ∷ told_in (lines more)) = ap length kept in let m : length (so.seen ++ occurrence_of p o ∷ []) ≡ length so.seen + 1 = length-append so.seen (occurrence_of p o ∷ []) in omega arith;
      first = so.first ∙ ap (unknown_from p (count + 1)) e
          ∙ ap (λ b. cond (b && is_none (occurrence_in p text)) (Some (count + 1)) (unknown_from p (count + 1 + 1) (lines more))) some
          ∙ ap (λ x. cond (is_none x) (Some (count + 1)) (unknown_from p (count + 1 + 1) (lines more))) is;
      room = let r = so.room in omega arith;
    }

-- A line is empty that has no byte.
pub not-empty : (text : List ℕ) → (length text == 0) ≡ false → is_some_text text ≡ true
not-empty [] h = cc
not-empty (x ∷ xs) h = grind arith
