-- What each status of a `check` says, from how its call ends.
use Rattle.std.proofs.Common.{◌≡◌, ℕ, ◌<◌, ◌≤◌, List, Some, None, length, ◌⊎◌, inl, inr, arith, refl, sym, ◌∙◌, subst}
use Rattle.edge_io.specs.declared.outside.TheConstants.{LONGEST_FILE}
use Rattle.edge_io.specs.Files.{Held, IfTold}
use Rattle.edge_io.specs.Sinks.{Appends}
use Rattle.edge_io.specs.Counts.{Rose}
use Rattle.frp_tree.specs.Tree.{ProgramTree}
use Rattle.frp_tree.specs.Grammar.{Spells}
use Rattle.efrp_types.specs.Passes.{Passes}
use Rattle.checked_source.specs.Readings.{Reading, Reads}
use Rattle.command_parts.specs.Outsides.{Outside}
use Rattle.command_parts.specs.Reads.{TooLong, unread_line}
use Rattle.command_parts.specs.Endings.{Ends, DueOrYielded}
use Rattle.command_parts.specs.Lines.{IsRefused, refusal_line}
use Rattle.frp_tool.specs.SourceTexts.{SourceRefuses, SourceTellsLong, SourceTells}
use Rattle.frp_tool.specs.Checks.{CheckVerdict, Bad, Good, check_status, check_text, CheckCause, Checks, CheckDone, CheckCompletes, CheckPromises}
use Rattle.command_parts.proofs.EndingLaws.{ends_as, line_due, line_settled}
use Rattle.frp_tool.proofs.SourceLaws.{not_source, source_one, source_three, source_four, not_held, not_held_due, long_due, long_gives, refusal_due, refused_gives, no_source_fault}

module _ (source : List ℕ) (before after : Outside) (status : ℕ) where
  -- A verdict that comes, with its status and its line.
  abbrev Settles : CheckVerdict → Type 0
  Settles v = CheckCause source before.files after.files v × (status ≡ check_status v) × Appends before.out.taken after.out.taken (check_text source v)

  verdict : Checks source before after status → status < 5 → (v : CheckVerdict) × Settles v
  verdict (keeps, inl h) small = absurd (omega (arith, h.0))
  verdict (keeps, inr (v, cause, ends)) small = let s = line_settled _ _ _ _ _ ends small in (v, (cause, s.0, s.1))

  not_due : (v : CheckVerdict) (n : ℕ) → check_status v ≡ n → (n ≡ 2) ⊎ (n ≡ 5) → ⊥
  not_due (Bad fault) n is other = not_source fault n is (inr other)
  not_due (Good p) n is other = omega (arith, is, other)

  pub check_not_two : Checks source before after status → status ≡ 2 → ⊥
  check_not_two h e = let v = verdict h (omega (arith, e)) in not_due v.0 2 (sym v.1.1 ∙ e) (inl refl)

  done_by : (v : CheckVerdict) → Settles v → status ≡ 0 → CheckDone source before after
  done_by (Bad fault) (cause, is, put) e = absurd (not_source fault 0 (sym is ∙ e) (inl refl))
  done_by (Good p) (cause, is, put) e = (p, cause, put)

  one_only : (v : CheckVerdict) → Settles v → status ≡ 1 → SourceRefuses source before after
  one_only (Bad fault) (cause, is, put) e = source_one source before after fault cause (sym is ∙ e) put
  one_only (Good p) (cause, is, put) e = absurd (omega (arith, is, e))

  three_only : (v : CheckVerdict) → Settles v → status ≡ 3 → IfTold before.files (λ held. held source ≡ None)
  three_only (Bad fault) (cause, is, put) e = source_three source before after fault cause (sym is ∙ e)
  three_only (Good p) (cause, is, put) e = absurd (omega (arith, is, e))

  four_only : (v : CheckVerdict) → Settles v → status ≡ 4 → Rose before.files.read_faults after.files.read_faults
  four_only (Bad fault) (cause, is, put) e = source_four source before after fault cause (sym is ∙ e)
  four_only (Good p) (cause, is, put) e = absurd (omega (arith, is, e))

  pub check_four : Checks source before after status → status ≡ 4 → Rose before.files.read_faults after.files.read_faults
  check_four h e = let v = verdict h (omega (arith, e)) in four_only v.0 v.1 e

  pub check_five : Checks source before after status → status ≡ 5 → Rose before.out.put_faults after.out.put_faults
  check_five (keeps, inl h) e = absurd (omega (arith, h.0))
  check_five (keeps, inr (v, cause, inl h)) e = absurd (not_due v 5 (sym h.0 ∙ e) (inr refl))
  check_five (keeps, inr (v, cause, inr (inl h))) e = h.1
  check_five (keeps, inr (v, cause, inr (inr h))) e = absurd (omega (arith, h.0))

  -- Where files are told.
  module _ (held : Held) (told : before.files.told ≡ Some held) where
    -- Where the source isn't held, that is the verdict.
    not_held_is_due : held source ≡ None → (v : CheckVerdict) → CheckCause source before.files after.files v → DueOrYielded (check_status v) status → DueOrYielded 3 status
    not_held_is_due none (Bad fault) cause ends = subst (λ (n : ℕ). DueOrYielded n status) (not_held_due source before after held told fault none cause) ends
    not_held_is_due none (Good p) cause ends = absurd (not_held source before after held told _ none cause)

    -- Where a text is held that is too long, or is refused, and no read fault was counted, that is the verdict.
    long_is_due : (text : List ℕ) → held source ≡ Some text → LONGEST_FILE < length text → (Rose before.files.read_faults after.files.read_faults → ⊥)
        → (v : CheckVerdict) → CheckCause source before.files after.files v → (check_status v ≡ 1) × (check_text source v ≡ unread_line source TooLong)
    long_is_due text is long unread (Bad fault) cause = long_due source before after held told text is long unread fault cause
    long_is_due text is long unread (Good p) cause = absurd (long_gives source before after held told text p is long cause)

    refusal_is_due : (text : List ℕ) (reading : Reading) → held source ≡ Some text → length text ≤ LONGEST_FILE → Reads text reading → IsRefused reading
        → (Rose before.files.read_faults after.files.read_faults → ⊥) → (v : CheckVerdict) → CheckCause source before.files after.files v → (check_status v ≡ 1) × (check_text source v ≡ refusal_line reading)
    refusal_is_due text reading is small reads unfit unread (Bad fault) cause = refusal_due source before after held told text reading is small reads unread fault cause
    refusal_is_due text reading is small reads unfit unread (Good p) cause = absurd (refused_gives source before after held told text reading p is reads unfit cause)

    -- Where a program is held that passes, and no read fault was counted, the verdict is that.
    passed : (text : List ℕ) (p : ProgramTree) → held source ≡ Some text → Spells text p → Passes p → (Rose before.files.read_faults after.files.read_faults → ⊥)
        → (v : CheckVerdict) → CheckCause source before.files after.files v → check_status v ≡ 0
    passed text p is spells passes unread (Bad fault) cause = absurd (no_source_fault source before after held told text p is spells passes unread fault cause)
    passed text p is spells passes unread (Good q) cause = refl

  three_when : Checks source before after status → (held : Held) → before.files.told ≡ Some held → held source ≡ None → DueOrYielded 3 status
  three_when (keeps, inl h) held told none = inr (inr h.0)
  three_when (keeps, inr (v, cause, ends)) held told none = not_held_is_due held told none v cause (line_due _ _ _ _ _ ends)

  tells_long : Checks source before after status → SourceTellsLong source before after status
  tells_long (keeps, inl h) held text told is long unread = inr (inr h)
  tells_long (keeps, inr (v, cause, ends)) held text told is long unread = ends_as _ _ _ _ _ _ status (long_is_due held told text is long unread v cause) ends

  tells : Checks source before after status → SourceTells source before after status
  tells (keeps, inl h) held text reading told is small reads unfit unread = inr (inr h)
  tells (keeps, inr (v, cause, ends)) held text reading told is small reads unfit unread =
      ends_as _ _ _ _ _ _ status (refusal_is_due held told text reading is small reads unfit unread v cause) ends

  by_end : (v : CheckVerdict) → check_status v ≡ 0 → (Rose before.out.put_faults after.out.put_faults → ⊥) → Ends before.out after.out (check_status v) (check_text source v) status → (status ≡ 0) ⊎ (status ≡ 6)
  by_end v zero puts (inl g) = inl (g.0 ∙ zero)
  by_end v zero puts (inr (inl g)) = absurd (puts g.1)
  by_end v zero puts (inr (inr g)) = inr g.0

  completes : Checks source before after status → CheckCompletes source before after status
  completes (keeps, inl h) held text p told is spells passes reads puts = inr h.0
  completes (keeps, inr (v, cause, ends)) held text p told is spells passes reads puts = by_end v (passed held told text p is spells passes reads v cause) puts ends

  pub check_promises : Checks source before after status → CheckPromises source before after status
  check_promises h = record {
    ends = h;
    done = λ e. let v = verdict h (omega (arith, e)) in done_by v.0 v.1 e;
    one = λ e. let v = verdict h (omega (arith, e)) in one_only v.0 v.1 e;
    long = tells_long h;
    told = tells h;
    three = ((λ e. let v = verdict h (omega (arith, e)) in three_only v.0 v.1 e), three_when h);
    files = h.0;
    complete = completes h;
  }
