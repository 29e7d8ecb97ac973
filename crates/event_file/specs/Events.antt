-- What the text of an events file states, and its first unknown line.
use Rattle.std.specs.Prelude.{◌≡◌, ℕ, ◌<◌, ◌+◌, ◌-◌, Bool, nat_lt, ◌&&◌, ◌==◌, if◌then◌else◌, List, [], ◌∷◌, ◌++◌, length, map, filter, take, drop, get_or, is_none, Option, Some, None, codes}
use Rattle.std.specs.List.{find, flat_map, list_all, list_any, slice_split}
use Rattle.std.specs.Str.{bytes_eq}
use Rattle.std.specs.Str.Lines.{lines}
use Rattle.text_parts.specs.Numbers.{value_after}
use Rattle.frp_tree.specs.Tree.{DeclTree, ProgramTree}
use Rattle.efrp_meaning.specs.Decls.{inputs_of}
use Rattle.efrp_meaning.specs.Meaning.{Occurrence}
use Rattle.text_parts.specs.Fields.{fields_of}
use Rattle.text_parts.specs.Numbers.{is_byte}

abbrev pub is_some_text : List ℕ → Bool
is_some_text text = nat_lt 0 (length text)

-- Neither the first nor the last byte is a space.
abbrev pub has_no_outer_space : List ℕ → Bool
has_no_outer_space text =
    let parts = slice_split (λ b. b == 32) text in
    is_some_text (get_or parts 0 []) && is_some_text (get_or parts (length parts - 1) [])

-- A program has an event of this name.
abbrev pub has_event : ProgramTree → List ℕ → Bool
has_event p name = list_any (λ e. bytes_eq name e.name) p.events

-- A field gives a sample of an input: the input's name, `=` and two hexadecimal digits of either case.
abbrev pub gives : List ℕ → DeclTree → Bool
gives field input =
    bytes_eq (take (length input.name + 1) field) (input.name ++ codes "=") && is_byte (drop (length input.name + 1) field)

-- The byte that fields give to an input, or 0.
abbrev pub sample_in : List (List ℕ) → DeclTree → ℕ
sample_in fields input = elim (find (λ field. gives field input) fields) [ None ↦ 0 | Some field ↦ value_after 16 0 (drop (length input.name + 1) field) ]

-- Each field gives a sample of one of these inputs, and no two of the same.
abbrev pub are_samples : List DeclTree → List (List ℕ) → Bool
are_samples inputs fields =
    list_all (λ field. list_any (gives field) inputs) fields && list_all (λ input. nat_lt (length (filter (λ field. gives field input) fields)) 2) inputs

-- What a line states: an event, and after its name samples of inputs, between spaces.
abbrev pub occurrence_in : ProgramTree → List ℕ → Option Occurrence
occurrence_in p text =
    let event = get_or (fields_of text) 0 [] in
    let fields = drop 1 (fields_of text) in
    if has_no_outer_space text && has_event p event && are_samples (inputs_of p) fields
    then Some (record { event = event; samples = map (sample_in fields) (inputs_of p) })
    else None

-- The lines of an events file that aren't empty. Lines end as a script's do.
abbrev pub told_events : List ℕ → List (List ℕ)
told_events bytes = filter is_some_text (lines bytes)

-- The events of an events file with their samples, in order.
abbrev pub events_of : ProgramTree → List ℕ → List Occurrence
events_of p bytes = flat_map (λ text. elim (occurrence_in p text) [ None ↦ [] | Some o ↦ o ∷ [] ]) (told_events bytes)

-- The number of the first line, of lines that are numbered from n, that isn't empty and states no event of the program.
abbrev pub unknown_from : ProgramTree → ℕ → List (List ℕ) → Option ℕ
unknown_from p n [] = None
unknown_from p n (text ∷ more) = if is_some_text text && is_none (occurrence_in p text) then Some n else unknown_from p (n + 1) more

abbrev pub first_unknown : ProgramTree → List ℕ → Option ℕ
first_unknown p bytes = unknown_from p 1 (lines bytes)

-- No line is unknown, and more than 10,000 aren't empty.
abbrev pub AreTooMany : ProgramTree → List ℕ → Type 0
AreTooMany p bytes = (first_unknown p bytes ≡ None) × (10000 < length (told_events bytes))
