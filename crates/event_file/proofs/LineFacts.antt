-- What a line states, by its fields.
use Rattle.std.proofs.Common.{◌≡◌, ℕ, ◌<◌, ◌≤◌, Bool, true, false, ◌&&◌, cond, nat_lt, List, [], ◌∷◌, length, map, get_or, drop, Some, None, slice_get, position, sym, ap, ◌∙◌, arith}
use Rattle.std.specs.List.{list_all, list_any, position_or_len}
use Rattle.std.specs.Str.{bytes_eq}
use Rattle.std.proofs.Math.Bool.{and-false}
use Rattle.std.proofs.lemmas.Bool.{cond_both, ltb-false}
use Rattle.std.proofs.lemmas.List.{length-map}
use Rattle.std.proofs.lemmas.List.Folds.{list_any_at, list_any_none}
use Rattle.std.proofs.lemmas.List.Quantifiers.{position-Some}
use Rattle.std.proofs.lemmas.List.Sums.{fails_before_first}
use Rattle.std.proofs.lemmas.Option.{slice_get-get_or, get_or_from_slice_get}
use Rattle.std.proofs.lemmas.Slice.Eq.{bytes_eq-Decides}
use Rattle.text_parts.specs.Fields.{fields_of}
use Rattle.frp_tree.specs.declared.syntax.Event.{Event}
use Rattle.frp_tree.specs.Tree.{ProgramTree}
use Rattle.efrp_meaning.specs.Decls.{inputs_of}
use Rattle.efrp_types.specs.Numbers.{event_name}
use Rattle.event_file.specs.Events.{has_no_outer_space, has_event, gives, sample_in, are_samples, occurrence_in}
use Rattle.event_file.specs.Parts.{is_once, AreGiven, States}

abbrev has_name : List ℕ → Event → Bool
has_name name e = bytes_eq name e.name

-- The event of a name, and that there is none.
pub none-named : (name : List ℕ) (es : List Event) → position (has_name name) es ≡ None → list_any (has_name name) es ≡ false
none-named name es e = list_any_none (has_name name) es (λ k d inside. fails_before_first (has_name name) es k d (let far = past e in omega (arith, far)))
  where
    past : position (has_name name) es ≡ None → length es ≤ position_or_len (has_name name) es
    past =
        let n = position_or_len (has_name name) es in
        cond_both (nat_lt n (length es)) (Some n) None (λ o. o ≡ None → length es ≤ n) (λ h e. cc) (λ h e. ltb-false n (length es) h)

record IsNamed (name : List ℕ) (es : List Event) (i : ℕ) : Type 0 where
  inside : i < length es
  event : Event
  found : slice_get es i ≡ Some event
  named : bytes_eq name event.name ≡ true

is_named : (name : List ℕ) (es : List Event) (i : ℕ) → position (has_name name) es ≡ Some i → IsNamed name es i
is_named name [] i h = cc
is_named name (e ∷ es) i h =
    let (inside, passes, first) = position-Some (has_name name) (e ∷ es) i e h in
    record { inside = inside; event = get_or (e ∷ es) i e; found = slice_get-get_or (e ∷ es) i e inside; named = passes }

-- A line with these fields.
split : (p : ProgramTree) (text name : List ℕ) (rest : List (List ℕ)) → fields_of text ≡ name ∷ rest
    → occurrence_in p text ≡ cond (has_no_outer_space text && has_event p name && are_samples (inputs_of p) rest) (Some (record { event = name; samples = map (sample_in rest) (inputs_of p) })) None
split p text name rest e =
    ap (λ fields. cond (has_no_outer_space text && has_event p (get_or fields 0 []) && are_samples (inputs_of p) (drop 1 fields)) (Some (record { event = get_or fields 0 []; samples = map (sample_in (drop 1 fields)) (inputs_of p) })) None) e

pub unknown-name : (p : ProgramTree) (text name : List ℕ) (rest : List (List ℕ)) → fields_of text ≡ name ∷ rest → position (has_name name) p.events ≡ None → occurrence_in p text ≡ None
unknown-name p text name rest e none =
    split p text name rest e
    ∙ ap (λ b. cond (has_no_outer_space text && b && are_samples (inputs_of p) rest) (Some (record { event = name; samples = map (sample_in rest) (inputs_of p) })) None) (none-named name p.events none)
    ∙ ap (λ b. cond (b && are_samples (inputs_of p) rest) (Some (record { event = name; samples = map (sample_in rest) (inputs_of p) })) None) (and-false (has_no_outer_space text))

pub outer-space : (p : ProgramTree) (text name : List ℕ) (rest : List (List ℕ)) → fields_of text ≡ name ∷ rest → has_no_outer_space text ≡ false → occurrence_in p text ≡ None
outer-space p text name rest e none =
    split p text name rest e
    ∙ ap (λ b. cond (b && has_event p name && are_samples (inputs_of p) rest) (Some (record { event = name; samples = map (sample_in rest) (inputs_of p) })) None) none

pub no-samples : (p : ProgramTree) (text name : List ℕ) (rest : List (List ℕ)) → fields_of text ≡ name ∷ rest → are_samples (inputs_of p) rest ≡ false → occurrence_in p text ≡ None
no-samples p text name rest e none =
    split p text name rest e
    ∙ ap (λ b. cond (has_no_outer_space text && has_event p name && b) (Some (record { event = name; samples = map (sample_in rest) (inputs_of p) })) None) none
    ∙ ap (λ b. cond b (Some (record { event = name; samples = map (sample_in rest) (inputs_of p) })) None) (and-false (has_no_outer_space text && has_event p name))

-- Each field gives a sample of one of the inputs.
abbrev are_for_inputs : ProgramTree → List (List ℕ) → Bool
are_for_inputs p rest = list_all (λ field. list_any (gives field) (inputs_of p)) rest

pub other-field : (p : ProgramTree) (text name : List ℕ) (rest : List (List ℕ)) → fields_of text ≡ name ∷ rest → are_for_inputs p rest ≡ false → occurrence_in p text ≡ None
other-field p text name rest e none = no-samples p text name rest e (ap (λ b. b && list_all (is_once rest) (inputs_of p)) none)

pub states-event : (p : ProgramTree) (text name : List ℕ) (rest : List (List ℕ)) (event : ℕ) (samples : List ℕ) → fields_of text ≡ name ∷ rest → position (has_name name) p.events ≡ Some event
    → has_no_outer_space text ≡ true → are_for_inputs p rest ≡ true → AreGiven rest (inputs_of p) samples → States p text (Some (record { event = event; samples = samples }))
states-event p text name rest event samples e at space for given =
    let is : IsNamed name p.events event = is_named name p.events event at in
    let same : name ≡ is.event.name = (bytes_eq-Decides name is.event.name).0 is.named in
    let has : has_event p name ≡ true = list_any_at (has_name name) p.events event is.event is.inside (ap (has_name name) (get_or_from_slice_get p.events event is.event is.event is.found) ∙ is.named) in
    let are : are_samples (inputs_of p) rest ≡ true = ap (λ b. b && list_all (is_once rest) (inputs_of p)) for ∙ given.once in
    let called : event_name p event ≡ name = ap (λ o. elim o as (λ _. List ℕ) [ Some x ↦ x.name | None ↦ [] ]) is.found ∙ sym same in (
      split p text name rest e
          ∙ ap (λ b. cond (b && has_event p name && are_samples (inputs_of p) rest) (Some (record { event = name; samples = map (sample_in rest) (inputs_of p) })) None) space
          ∙ ap (λ b. cond (b && are_samples (inputs_of p) rest) (Some (record { event = name; samples = map (sample_in rest) (inputs_of p) })) None) has
          ∙ ap (λ b. cond b (Some (record { event = name; samples = map (sample_in rest) (inputs_of p) })) None) are
          ∙ ap (λ ns. Some (record { event = name; samples = ns })) (sym given.values)
          ∙ ap (λ x. Some (record { event = x; samples = samples })) (sym called),
      record { event = is.inside; count = ap length given.values ∙ length-map (inputs_of p) (sample_in rest); samples = given.bytes },
    )
