-- What is said of a source where it is told: why there is no program, and what excludes it.
use Rattle.std.proofs.Common.{◌≡◌, ℕ, ◌<◌, ◌≤◌, List, Some, None, length, ◌⊎◌, inl, inr, arith, refl, sym, ◌∙◌, ap, subst}
use Rattle.edge_io.specs.declared.outside.TheConstants.{LONGEST_FILE}
use Rattle.edge_io.specs.Files.{Held, IfTold}
use Rattle.edge_io.specs.Sinks.{Appends}
use Rattle.edge_io.specs.Counts.{Rose}
use Rattle.frp_tree.specs.Tree.{ProgramTree}
use Rattle.frp_tree.specs.Grammar.{Spells}
use Rattle.efrp_types.specs.Passes.{Passes}
use Rattle.checked_source.specs.Readings.{Reading, Passing, Reads, IsRead}
use Rattle.command_parts.specs.Outsides.{Outside}
use Rattle.command_parts.specs.Reads.{NotHeld, NotRead, TooLong, unread_line, OfSource}
use Rattle.command_parts.specs.Lines.{IsRefused, refusal_line}
use Rattle.frp_tool.specs.SourceTexts.{SourceGives, SourceFault, SourceUnread, Refused, source_status, source_line, SourceCause, SourceRefuses}
use Rattle.command_parts.proofs.ToldLaws.{if_map, at_told}

-- A text that spells a program isn't too long a file.
pub short : (text : List ℕ) (p : ProgramTree) → Spells text p → LONGEST_FILE < length text → ⊥
short text p spells long = omega (arith, spells.cut.0, long)

-- What is read as a program isn't refused.
pub fits : (text : List ℕ) (p : ProgramTree) (reading : Reading) → Reads text (Passing p) → IsRead text reading → IsRefused reading → ⊥
fits text p reading reads read unfit = subst IsRefused (sym (read.1 (Passing p) reads)) unfit

-- Two refusals of a text have the same line.
same_line : (text : List ℕ) (some other : Reading) → IsRead text some → Reads text other → refusal_line some ≡ refusal_line other
same_line text some other read reads = ap refusal_line (sym (read.1 other reads))

-- What is read as this, and as nothing else, is so under each reading.
pub read_as : (text : List ℕ) (some reading : Reading) → IsRead text some → Reads text reading → IsRead text reading
read_as text some reading read reads = (reads, λ other o. read.1 other o ∙ sym (read.1 reading reads))

-- A fault of the source has no other status than 1, 3 and 4.
pub not_source : (fault : SourceFault) (n : ℕ) → source_status fault ≡ n → (n ≡ 0) ⊎ (n ≡ 2) ⊎ (n ≡ 5) → ⊥
not_source (SourceUnread NotHeld) n e other = omega (arith, e, other)
not_source (SourceUnread NotRead) n e other = omega (arith, e, other)
not_source (SourceUnread TooLong) n e other = omega (arith, e, other)
not_source (Refused reading) n e other = omega (arith, e, other)

module _ (source : List ℕ) (before after : Outside) where
  -- Why there is no program, by the status.
  pub source_one : (fault : SourceFault) → SourceCause source before.files after.files fault → source_status fault ≡ 1 → Appends before.out.taken after.out.taken (source_line source fault) → SourceRefuses source before after
  source_one (SourceUnread NotHeld) cause e put = absurd (omega (arith, e))
  source_one (SourceUnread NotRead) cause e put = absurd (omega (arith, e))
  source_one (SourceUnread TooLong) cause e put = inl (cause, put)
  source_one (Refused reading) cause e put = inr (reading, if_map before.files _ _ (λ held at. (at.0, at.1, at.2.1)) cause.0, cause.1, put)

  pub source_three : (fault : SourceFault) → SourceCause source before.files after.files fault → source_status fault ≡ 3 → IfTold before.files (λ held. held source ≡ None)
  source_three (SourceUnread NotHeld) cause e = cause
  source_three (SourceUnread NotRead) cause e = absurd (omega (arith, e))
  source_three (SourceUnread TooLong) cause e = absurd (omega (arith, e))
  source_three (Refused reading) cause e = absurd (omega (arith, e))

  pub source_four : (fault : SourceFault) → SourceCause source before.files after.files fault → source_status fault ≡ 4 → Rose before.files.read_faults after.files.read_faults
  source_four (SourceUnread NotHeld) cause e = absurd (omega (arith, e))
  source_four (SourceUnread NotRead) cause e = cause.0
  source_four (SourceUnread TooLong) cause e = absurd (omega (arith, e))
  source_four (Refused reading) cause e = absurd (omega (arith, e))

  -- Where files are told.
  module _ (held : Held) (told : before.files.told ≡ Some held) where
    -- What is said of a file that is held is said of the text that it has.
    pub of_held : (text : List ℕ) (P : List ℕ → Type 0) → held source ≡ Some text → OfSource source before.files P → P text
    of_held text P is of_source =
        let at : (other : List ℕ) × (held source ≡ Some other) × P other = at_told before.files held (λ h. (other : List ℕ) × (h source ≡ Some other) × P other) told of_source in
        let found : held source ≡ Some at.0 = at.1 in let same : at.0 ≡ text = cc in subst P same at.2

    pub not_held : (P : List ℕ → Type 0) → held source ≡ None → OfSource source before.files P → ⊥
    not_held P none of_source =
        let at : (text : List ℕ) × (held source ≡ Some text) × P text = at_told before.files held (λ h. (text : List ℕ) × (h source ≡ Some text) × P text) told of_source in
        let found : held source ≡ Some at.0 = at.1 in cc

    missing : (text : List ℕ) → held source ≡ Some text → IfTold before.files (λ held. held source ≡ None) → ⊥
    missing text is none = let at : held source ≡ None = at_told before.files held (λ h. h source ≡ None) told none in cc

    -- Where the source isn't held, that is the fault.
    pub not_held_due : (fault : SourceFault) → held source ≡ None → SourceCause source before.files after.files fault → source_status fault ≡ 3
    not_held_due (SourceUnread NotHeld) none cause = refl
    not_held_due (SourceUnread NotRead) none cause = absurd (not_held _ none cause.1)
    not_held_due (SourceUnread TooLong) none cause = absurd (not_held _ none cause)
    not_held_due (Refused reading) none cause = absurd (not_held _ none cause.0)

    -- Where a text is held that is too long, and no read fault was counted, that is the fault; and it gives no program.
    pub long_due : (text : List ℕ) → held source ≡ Some text → LONGEST_FILE < length text → (Rose before.files.read_faults after.files.read_faults → ⊥)
        → (fault : SourceFault) → SourceCause source before.files after.files fault → (source_status fault ≡ 1) × (source_line source fault ≡ unread_line source TooLong)
    long_due text is long unread (SourceUnread NotHeld) cause = absurd (missing text is cause)
    long_due text is long unread (SourceUnread NotRead) cause = absurd (unread cause.0)
    long_due text is long unread (SourceUnread TooLong) cause = (refl, refl)
    long_due text is long unread (Refused other) cause = let at = of_held text _ is cause.0 in absurd (omega (arith, long, at.0))

    pub long_gives : (text : List ℕ) (p : ProgramTree) → held source ≡ Some text → LONGEST_FILE < length text → SourceGives source before.files p → ⊥
    long_gives text p is long gives = let read = of_held text _ is gives in short text p read.0.0 long

    -- Where a text is held that is refused, and no read fault was counted, that is the fault; and none gives a program.
    pub refusal_due : (text : List ℕ) (reading : Reading) → held source ≡ Some text → length text ≤ LONGEST_FILE → Reads text reading → (Rose before.files.read_faults after.files.read_faults → ⊥)
        → (fault : SourceFault) → SourceCause source before.files after.files fault → (source_status fault ≡ 1) × (source_line source fault ≡ refusal_line reading)
    refusal_due text reading is small reads unread (SourceUnread NotHeld) cause = absurd (missing text is cause)
    refusal_due text reading is small reads unread (SourceUnread NotRead) cause = absurd (unread cause.0)
    refusal_due text reading is small reads unread (SourceUnread TooLong) cause = let long = of_held text _ is cause in absurd (omega (arith, small, long))
    refusal_due text reading is small reads unread (Refused other) cause = let at = of_held text _ is cause.0 in (refl, same_line text other reading at.1 reads)

    pub refused_gives : (text : List ℕ) (reading : Reading) (p : ProgramTree) → held source ≡ Some text → Reads text reading → IsRefused reading → SourceGives source before.files p → ⊥
    refused_gives text reading p is reads unfit gives =
        let read = of_held text _ is gives in fits text p reading read.0 (read_as text (Passing p) reading read reads) unfit

    -- The program that is given is the one that a text spells which is held.
    pub given_is : (text : List ℕ) (p q : ProgramTree) → held source ≡ Some text → Spells text p → Passes p → SourceGives source before.files q → p ≡ q
    given_is text p q is spells passes gives =
        let read = of_held text _ is gives in
        let same : Passing p ≡ Passing q = read.1 (Passing p) (spells, passes) in cc

    -- Where a program is held that passes, and no read fault was counted, there is no fault.
    pub no_source_fault : (text : List ℕ) (p : ProgramTree) → held source ≡ Some text → Spells text p → Passes p → (Rose before.files.read_faults after.files.read_faults → ⊥)
        → (fault : SourceFault) → SourceCause source before.files after.files fault → ⊥
    no_source_fault text p is spells passes unread (SourceUnread NotHeld) cause = missing text is cause
    no_source_fault text p is spells passes unread (SourceUnread NotRead) cause = unread cause.0
    no_source_fault text p is spells passes unread (SourceUnread TooLong) cause = short text p spells (of_held text _ is cause)
    no_source_fault text p is spells passes unread (Refused reading) cause = let at = of_held text _ is cause.0 in fits text p reading (spells, passes) at.1 cause.1
