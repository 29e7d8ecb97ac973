-- The fault of a line: what its own text says, what the lines before say, and that a record's line has none.
use Rattle.std.proofs.Common.{◌≡◌, ℕ, ◌+◌, ◌⊎◌, inl, inr, ⊎_elim, Bool, true, false, if◌then◌else◌, ◌==◌, List, [], ◌∷◌, Option, None, Some, option_map, refl, sym, ◌∙◌, ap}
use Rattle.std.proofs.lemmas.Bool.{cond-true, cond-false, cases_Bool}
use Rattle.hex_file.specs.Faults.{bytes_of, record_in, got_sum, want_sum, has_end, has_bad_char, has_bad_length, has_bad_sum, has_bad_type, has_bad_payload, is_out_of_range, other_at, clash_at, line_fault}
use Rattle.hex_file.specs.ImageOf.{HexRecord, IsRecordLine}
use Rattle.hex_file.specs.declared.faults.HexFault.{HexFault}
use Rattle.hex_file.specs.declared.faults.HexFault.TheVariants.{BadChar, BadLength, BadSum, BadType, OutOfRange, Clash}
use Rattle.hex_file.proofs.RecordFacts.{PassesTests, passes_tests}

-- The tests of a line's own text, and what the others say.
abbrev pub tests_then : ℕ → List ℕ → Option HexFault → Option HexFault
tests_then number line others =
    let bytes = bytes_of line in
    let r = record_in bytes in
    if has_bad_char line then Some (BadChar number)
    else if has_bad_length line then Some (BadLength number)
    else if has_bad_sum bytes then Some (BadSum number (got_sum bytes) (want_sum bytes))
    else if has_bad_type r then Some (BadType number r.kind)
    else if has_bad_payload r then Some (BadLength number)
    else if is_out_of_range r then Some (OutOfRange number)
    else others

abbrev clash_fault : ℕ → Option ℕ → Option HexFault
clash_fault number o = option_map (λ address. Clash number address) o

-- Before an end record.

pub before_end : (records : List HexRecord) (number : ℕ) (line : List ℕ) → has_end records ≡ false
    → line_fault records number line ≡ tests_then number line (clash_fault number (clash_at records (record_in (bytes_of line))))
before_end records number line e = cond-false (has_end records) _ _ e

-- Tests either tell a fault, whatever the others say, or leave it to the others.

abbrev Settles : {X : Type 0} → (Option X → Option X) → Type 0
Settles {X} tests = ((fault : X) × ((others : Option X) → tests others ≡ Some fault)) ⊎ ((others : Option X) → tests others ≡ others)

one_test : {X : Type 0} (test : Bool) (fault : X) (tests : Option X → Option X) → Settles tests → Settles (λ others. if test then Some fault else tests others)
one_test true fault tests settles = inl (fault, λ others. refl)
one_test false fault tests settles = settles

tests_settle : (number : ℕ) (line : List ℕ) → Settles (tests_then number line)
tests_settle number line =
    let bytes = bytes_of line in
    let r = record_in bytes in
    one_test (has_bad_char line) _ _
    (one_test (has_bad_length line) _ _
    (one_test (has_bad_sum bytes) _ _
    (one_test (has_bad_type r) _ _
    (one_test (has_bad_payload r) _ _
    (one_test (is_out_of_range r) _ _
    (inr (λ others. refl)))))))

no_others : (address : ℕ) (bytes : List ℕ) → other_at [] address bytes ≡ None
no_others address [] = refl
no_others address (b ∷ bytes) = no_others (address + 1) bytes

no_clash : (r : HexRecord) → clash_at [] r ≡ None
no_clash r = ⊎_elim (λ e. cond-true _ _ _ e ∙ no_others r.address r.payload) (λ e. cond-false _ _ _ e) (cases_Bool (r.kind == 0))

-- The fault that a line's text tells is the line's fault, whatever the lines before say.
pub told_alone : (records : List HexRecord) (number : ℕ) (line : List ℕ) (fault : HexFault) → has_end records ≡ false
    → line_fault [] number line ≡ Some fault → line_fault records number line ≡ Some fault
told_alone records number line fault e told =
    let r = record_in (bytes_of line) in
    let alone : tests_then number line None ≡ Some fault = ap (λ o. tests_then number line (clash_fault number o)) (sym (no_clash r)) ∙ told in
    ⊎_elim
    (λ tells. before_end records number line e ∙ tells.1 _ ∙ sym (tells.1 None) ∙ alone)
    (λ leaves. absurd (let none : None ≡ Some fault = sym (leaves None) ∙ alone in cc))
    (tests_settle number line)

-- The line of a record has no fault but a clash with the lines before.
pub clash_alone : (records : List HexRecord) (number : ℕ) (line : List ℕ) (r : HexRecord) → has_end records ≡ false → IsRecordLine line r
    → line_fault records number line ≡ clash_fault number (clash_at records r)
clash_alone records number line r e is =
    let passes : PassesTests line r = passes_tests line r is in
    let at = ap (λ r. clash_fault number (clash_at records r)) passes.is in
    before_end records number line e
    ∙ cond-false _ _ _ passes.chars
    ∙ cond-false _ _ _ passes.lens
    ∙ cond-false _ _ _ passes.sums
    ∙ cond-false _ _ _ (ap has_bad_type passes.is ∙ passes.known)
    ∙ cond-false _ _ _ (ap has_bad_payload passes.is ∙ passes.payload)
    ∙ cond-false _ _ _ (ap is_out_of_range passes.is ∙ passes.range)
    ∙ at
