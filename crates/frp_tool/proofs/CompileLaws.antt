-- What each status of a `compile` says, from how its call ends.
use Rattle.std.proofs.Common.{◌≡◌, ◌≢◌, ℕ, ◌<◌, ◌≤◌, List, Some, None, length, ◌⊎◌, inl, inr, arith, refl, sym, ◌∙◌, ap, subst}
use Rattle.edge_io.specs.declared.outside.TheConstants.{LONGEST_FILE}
use Rattle.edge_io.specs.Files.{Held, BothTold, IfTold, KeepsFiles}
use Rattle.edge_io.specs.Sinks.{Appends}
use Rattle.edge_io.specs.Counts.{Rose}
use Rattle.frp_tree.specs.Tree.{ProgramTree}
use Rattle.frp_tree.specs.Grammar.{Spells}
use Rattle.efrp_types.specs.Passes.{Passes}
use Rattle.efrp_meaning.specs.Bounds.{Fits}
use Rattle.firmware.specs.Builds.{HasCode, IsBuildable, IsBuildFault}
use Rattle.firmware.specs.declared.faults.BuildFault.{BuildFault}
use Rattle.firmware.specs.declared.faults.BuildFault.TheVariants.{Form, Stack, Ram, Code, Memory}
use Rattle.checked_source.specs.Readings.{Reading, Reads}
use Rattle.command_parts.specs.Outsides.{Outside}
use Rattle.command_parts.specs.Reads.{TooLong, unread_line}
use Rattle.command_parts.specs.Endings.{Ends, DueOrYielded}
use Rattle.command_parts.specs.Lines.{IsRefused, refusal_line}
use Rattle.frp_tool.specs.SourceTexts.{SourceTellsLong, SourceTells}
use Rattle.frp_tool.specs.Compiles.{CompileRequest, CompileVerdict, IsCompiled, NoProgram, Unbuilt, HexFailed, MapFailed, Done, compile_status, compile_line, CompileCause, CompileLeft, CompileCut, OthersAsBefore, Compiles, CompileDone, CompileRefuses, BuildTells, CompileCompletes, CompilePromises}
use Rattle.command_parts.proofs.ToldLaws.{both_map}
use Rattle.command_parts.proofs.EndingLaws.{ends_as, line_due, line_settled}
use Rattle.frp_tool.specs.Lines.{build_line}
use Rattle.frp_tool.proofs.SourceLaws.{not_source, source_one, source_three, source_four, not_held, not_held_due, long_due, long_gives, refusal_due, refused_gives, given_is, no_source_fault}

-- A program that has code and fits the chip has no fault.
pub no_build_fault : (p : ProgramTree) → HasCode p → Fits p → (fault : BuildFault) → IsBuildFault p fault → ⊥
no_build_fault p code fits Form has = has code
no_build_fault p code fits (Stack n) (has_code, is, many) = omega (arith, fits.levels_fit, is, many)
no_build_fault p code fits (Ram n) (has_code, few, is, many) = omega (arith, fits.ram_fits, is, many)
no_build_fault p code fits (Code n) (buildable, many, most) = omega (arith, fits.words_fit, many, most)
no_build_fault p code fits Memory has = has

-- Of a program that has a fault other than that of words nothing is built, and each other fault of it has the same line.
not_buildable : (p : ProgramTree) (fault : BuildFault) → IsBuildFault p fault → ((n : ℕ) → fault ≢ Code n) → IsBuildable p → ⊥
not_buildable p Form has sure b = has b.has_code
not_buildable p (Stack n) (has_code, is, many) sure b = let few = b.levels_fit in omega (arith, few, is, many)
not_buildable p (Ram n) (has_code, few, is, many) sure b = let fit = b.ram_fits in omega (arith, fit, is, many)
not_buildable p (Code n) has sure b = sure n refl
not_buildable p Memory has sure b = has

same_build_line : (p : ProgramTree) (fault other : BuildFault) → IsBuildFault p fault → ((n : ℕ) → fault ≢ Code n) → IsBuildFault p other → build_line other ≡ build_line fault
same_build_line p fault (Code n) has sure at = absurd (not_buildable p fault has sure at.0)
same_build_line p fault Memory has sure at = absurd at
same_build_line p Form Form has sure at = refl
same_build_line p Form (Stack n) has sure at = absurd (has at.0)
same_build_line p Form (Ram n) has sure at = absurd (has at.0)
same_build_line p (Stack n) Form has sure at = absurd (at has.0)
same_build_line p (Stack n) (Stack m) has sure at = ap (λ (k : ℕ). build_line (Stack k)) (at.1 ∙ sym has.1)
same_build_line p (Stack n) (Ram m) has sure at = let few = at.1 in absurd (omega (arith, few, has.1, has.2))
same_build_line p (Ram n) Form has sure at = absurd (at has.0)
same_build_line p (Ram n) (Stack m) has sure at = let few = has.1 in absurd (omega (arith, few, at.1, at.2))
same_build_line p (Ram n) (Ram m) has sure at = ap (λ (k : ℕ). build_line (Ram k)) (at.2 ∙ sym has.2)
same_build_line p (Code n) other has sure at = absurd (sure n refl)
same_build_line p Memory other has sure at = absurd has

module _ (r : CompileRequest) (before after : Outside) (status : ℕ) where
  -- A verdict that comes, with its status and its line.
  abbrev Settles : CompileVerdict → Type 0
  Settles v = CompileCause r before.files after.files v × CompileLeft r before.files after.files v × (status ≡ compile_status v) × Appends before.out.taken after.out.taken (compile_line r v)

  verdict : Compiles r before after status → status < 5 → (v : CompileVerdict) × Settles v
  verdict (inl h) small = absurd (omega (arith, h.0))
  verdict (inr (v, cause, left, ends)) small = let s = line_settled _ _ _ _ _ ends small in (v, (cause, left, s.0, s.1))

  due_two : (v : CompileVerdict) → compile_status v ≡ 2 → ⊥
  due_two (NoProgram fault) e = not_source fault 2 e (inr (inl refl))
  due_two (Unbuilt p fault) e = omega (arith, e)
  due_two (HexFailed c) e = omega (arith, e)
  due_two (MapFailed f) e = omega (arith, e)
  due_two (Done f) e = omega (arith, e)

  pub compile_not_two : Compiles r before after status → status ≡ 2 → ⊥
  compile_not_two h e = let v = verdict h (omega (arith, e)) in due_two v.0 (sym v.1.2 ∙ e)

  one_only : (v : CompileVerdict) → Settles v → status ≡ 1 → CompileRefuses r before after
  one_only (NoProgram fault) (cause, left, is, put) e = inl (source_one r.source before after fault cause (sym is ∙ e) put)
  one_only (Unbuilt p fault) (cause, left, is, put) e = inr (p, fault, cause.0, cause.1, put)
  one_only (HexFailed c) (cause, left, is, put) e = absurd (omega (arith, is, e))
  one_only (MapFailed f) (cause, left, is, put) e = absurd (omega (arith, is, e))
  one_only (Done f) (cause, left, is, put) e = absurd (omega (arith, is, e))

  three_only : (v : CompileVerdict) → Settles v → status ≡ 3 → IfTold before.files (λ held. held r.source ≡ None)
  three_only (NoProgram fault) (cause, left, is, put) e = source_three r.source before after fault cause (sym is ∙ e)
  three_only (Unbuilt p fault) (cause, left, is, put) e = absurd (omega (arith, is, e))
  three_only (HexFailed c) (cause, left, is, put) e = absurd (omega (arith, is, e))
  three_only (MapFailed f) (cause, left, is, put) e = absurd (omega (arith, is, e))
  three_only (Done f) (cause, left, is, put) e = absurd (omega (arith, is, e))

  four_only : (v : CompileVerdict) → Settles v → status ≡ 4 → Rose before.files.read_faults after.files.read_faults
  four_only (NoProgram fault) (cause, left, is, put) e = source_four r.source before after fault cause (sym is ∙ e)
  four_only (Unbuilt p fault) (cause, left, is, put) e = absurd (omega (arith, is, e))
  four_only (HexFailed c) (cause, left, is, put) e = absurd (omega (arith, is, e))
  four_only (MapFailed f) (cause, left, is, put) e = absurd (omega (arith, is, e))
  four_only (Done f) (cause, left, is, put) e = absurd (omega (arith, is, e))

  pub compile_four : Compiles r before after status → status ≡ 4 → Rose before.files.read_faults after.files.read_faults
  compile_four h e = let v = verdict h (omega (arith, e)) in four_only v.0 v.1 e

  due_five : (v : CompileVerdict) → CompileCause r before.files after.files v → compile_status v ≡ 5 → Rose before.files.write_faults after.files.write_faults
  due_five (NoProgram fault) cause e = absurd (not_source fault 5 e (inr (inr refl)))
  due_five (Unbuilt p fault) cause e = absurd (omega (arith, e))
  due_five (HexFailed c) cause e = cause.1
  due_five (MapFailed f) cause e = cause.1
  due_five (Done f) cause e = absurd (omega (arith, e))

  pub compile_five : Compiles r before after status → status ≡ 5 → Rose before.files.write_faults after.files.write_faults ⊎ Rose before.out.put_faults after.out.put_faults
  compile_five (inl h) e = absurd (omega (arith, h.0))
  compile_five (inr (v, cause, left, inl h)) e = inl (due_five v cause (sym h.0 ∙ e))
  compile_five (inr (v, cause, left, inr (inl h))) e = inr h.1
  compile_five (inr (v, cause, left, inr (inr h))) e = absurd (omega (arith, h.0))

  kept_by : (v : CompileVerdict) → CompileLeft r before.files after.files v → 0 < compile_status v → compile_status v < 5 → KeepsFiles before.files after.files
  kept_by (NoProgram fault) left some small = left
  kept_by (Unbuilt p fault) left some small = left
  kept_by (HexFailed c) left some small = absurd (omega (arith, small))
  kept_by (MapFailed f) left some small = absurd (omega (arith, small))
  kept_by (Done f) left some small = absurd (omega (arith, some))

  pub compile_kept : Compiles r before after status → 0 < status → status < 5 → KeepsFiles before.files after.files
  compile_kept h some small = let v = verdict h small in kept_by v.0 v.1.1 (omega (arith, some, v.1.2)) (omega (arith, small, v.1.2))

  others : (v : CompileVerdict) → CompileLeft r before.files after.files v → BothTold before.files after.files (OthersAsBefore r)
  others (NoProgram fault) left = both_map before.files after.files _ _ (λ old new same name one two. same name) left
  others (Unbuilt p fault) left = both_map before.files after.files _ _ (λ old new same name one two. same name) left
  others (HexFailed c) left = both_map before.files after.files _ _ (λ old new same name one two. same name one) left
  others (MapFailed f) left = both_map before.files after.files _ _ (λ old new h. h.1) left
  others (Done f) left = both_map before.files after.files _ _ (λ old new h. h.2) left

  cut_others : CompileCut r before.files after.files → BothTold before.files after.files (OthersAsBefore r)
  cut_others (inl keeps) = both_map before.files after.files _ _ (λ old new same name one two. same name) keeps
  cut_others (inr part) = both_map before.files after.files _ _ (λ old new h name one two. h.1 name one) part.2

  compile_others : Compiles r before after status → BothTold before.files after.files (OthersAsBefore r)
  compile_others (inl h) = cut_others h.2
  compile_others (inr (v, cause, left, ends)) = others v left

  done_by : (v : CompileVerdict) → Settles v → status ≡ 0 → CompileDone r before after
  done_by (NoProgram fault) (cause, left, is, put) e = absurd (not_source fault 0 (sym is ∙ e) (inl refl))
  done_by (Unbuilt p fault) (cause, left, is, put) e = absurd (omega (arith, is, e))
  done_by (HexFailed c) (cause, left, is, put) e = absurd (omega (arith, is, e))
  done_by (MapFailed f) (cause, left, is, put) e = absurd (omega (arith, is, e))
  done_by (Done f) (cause, left, is, put) e = (f.program, cause.0, f.hex, f.map, f.is_firmware, f.is_scheduled, f.is_reported, left, put)

  -- Where the source isn't held, that is the verdict.
  not_held_is_due : (held : Held) → before.files.told ≡ Some held → held r.source ≡ None → (v : CompileVerdict) → CompileCause r before.files after.files v → DueOrYielded (compile_status v) status → DueOrYielded 3 status
  not_held_is_due held told none (NoProgram fault) cause ends = subst (λ (n : ℕ). DueOrYielded n status) (not_held_due r.source before after held told fault none cause) ends
  not_held_is_due held told none (Unbuilt p fault) cause ends = absurd (not_held r.source before after held told _ none cause.0)
  not_held_is_due held told none (HexFailed p) cause ends = absurd (not_held r.source before after held told _ none cause.0.0)
  not_held_is_due held told none (MapFailed f) cause ends = absurd (not_held r.source before after held told _ none cause.0.0)
  not_held_is_due held told none (Done f) cause ends = absurd (not_held r.source before after held told _ none cause.0)

  three_when : Compiles r before after status → (held : Held) → before.files.told ≡ Some held → held r.source ≡ None → DueOrYielded 3 status
  three_when (inl h) held told none = inr (inr h.0)
  three_when (inr (v, cause, left, ends)) held told none = not_held_is_due held told none v cause (line_due _ _ _ _ _ ends)

  -- The program that is compiled is the one that a text spells which is held.
  built_is : (held : Held) (text : List ℕ) (p q : ProgramTree) → before.files.told ≡ Some held → held r.source ≡ Some text → Spells text p → Passes p → IsCompiled r before.files q → IsBuildable p
  built_is held text p q told is spells passes compiled = subst IsBuildable (sym (given_is r.source before after held told text p q is spells passes compiled.0)) compiled.1

  -- A verdict other than that all was done has another cause, where a program is held that is built and no fault was counted.
  all_done : (held : Held) (text : List ℕ) (p : ProgramTree) → before.files.told ≡ Some held → held r.source ≡ Some text → Spells text p → Passes p → HasCode p → Fits p
      → (Rose before.files.read_faults after.files.read_faults → ⊥) → (Rose before.files.write_faults after.files.write_faults → ⊥)
      → (v : CompileVerdict) → CompileCause r before.files after.files v → compile_status v ≡ 0
  all_done held text p told is spells passes code fits reads writes (NoProgram fault) cause = absurd (no_source_fault r.source before after held told text p is spells passes reads fault cause)
  all_done held text p told is spells passes code fits reads writes (Unbuilt q fault) cause =
      absurd (no_build_fault p code fits fault (subst (λ (x : ProgramTree). IsBuildFault x fault) (sym (given_is r.source before after held told text p q is spells passes cause.0)) cause.1))
  all_done held text p told is spells passes code fits reads writes (HexFailed q) cause = absurd (writes cause.1)
  all_done held text p told is spells passes code fits reads writes (MapFailed f) cause = absurd (writes cause.1)
  all_done held text p told is spells passes code fits reads writes (Done f) cause = refl

  -- Where a program is held that passes and has a fault other than that of words, and no read fault was counted, that is the verdict.
  fault_is_due : (held : Held) (text : List ℕ) (p : ProgramTree) (fault : BuildFault) → before.files.told ≡ Some held → held r.source ≡ Some text → Spells text p → Passes p → IsBuildFault p fault → ((n : ℕ) → fault ≢ Code n)
      → (Rose before.files.read_faults after.files.read_faults → ⊥) → (v : CompileVerdict) → CompileCause r before.files after.files v → (compile_status v ≡ 1) × (compile_line r v ≡ build_line fault)
  fault_is_due held text p fault told is spells passes has sure unread (NoProgram other) cause = absurd (no_source_fault r.source before after held told text p is spells passes unread other cause)
  fault_is_due held text p fault told is spells passes has sure unread (Unbuilt q other) cause =
      let at = subst (λ (x : ProgramTree). IsBuildFault x other) (sym (given_is r.source before after held told text p q is spells passes cause.0)) cause.1 in (refl, same_build_line p fault other has sure at)
  fault_is_due held text p fault told is spells passes has sure unread (HexFailed q) cause = absurd (not_buildable p fault has sure (built_is held text p q told is spells passes cause.0))
  fault_is_due held text p fault told is spells passes has sure unread (MapFailed f) cause = absurd (not_buildable p fault has sure (built_is held text p f.program told is spells passes cause.0))
  fault_is_due held text p fault told is spells passes has sure unread (Done f) cause = absurd (not_buildable p fault has sure (built_is held text p f.program told is spells passes cause))

  -- Where a text is held that is too long, or is refused, and no read fault was counted, that is the verdict.
  long_is_due : (held : Held) (text : List ℕ) → before.files.told ≡ Some held → held r.source ≡ Some text → LONGEST_FILE < length text
      → (Rose before.files.read_faults after.files.read_faults → ⊥) → (v : CompileVerdict) → CompileCause r before.files after.files v → (compile_status v ≡ 1) × (compile_line r v ≡ unread_line r.source TooLong)
  long_is_due held text told is long unread (NoProgram fault) cause = long_due r.source before after held told text is long unread fault cause
  long_is_due held text told is long unread (Unbuilt p fault) cause = absurd (long_gives r.source before after held told text p is long cause.0)
  long_is_due held text told is long unread (HexFailed p) cause = absurd (long_gives r.source before after held told text p is long cause.0.0)
  long_is_due held text told is long unread (MapFailed f) cause = absurd (long_gives r.source before after held told text f.program is long cause.0.0)
  long_is_due held text told is long unread (Done f) cause = absurd (long_gives r.source before after held told text f.program is long cause.0)

  refusal_is_due : (held : Held) (text : List ℕ) (reading : Reading) → before.files.told ≡ Some held → held r.source ≡ Some text → length text ≤ LONGEST_FILE → Reads text reading → IsRefused reading
      → (Rose before.files.read_faults after.files.read_faults → ⊥) → (v : CompileVerdict) → CompileCause r before.files after.files v → (compile_status v ≡ 1) × (compile_line r v ≡ refusal_line reading)
  refusal_is_due held text reading told is small reads unfit unread (NoProgram fault) cause = refusal_due r.source before after held told text reading is small reads unread fault cause
  refusal_is_due held text reading told is small reads unfit unread (Unbuilt p fault) cause = absurd (refused_gives r.source before after held told text reading p is reads unfit cause.0)
  refusal_is_due held text reading told is small reads unfit unread (HexFailed p) cause = absurd (refused_gives r.source before after held told text reading p is reads unfit cause.0.0)
  refusal_is_due held text reading told is small reads unfit unread (MapFailed f) cause = absurd (refused_gives r.source before after held told text reading f.program is reads unfit cause.0.0)
  refusal_is_due held text reading told is small reads unfit unread (Done f) cause = absurd (refused_gives r.source before after held told text reading f.program is reads unfit cause.0)

  -- Where each verdict that can come has status 1 and this line, the call ends so.
  ends_with : (line : List ℕ) → Compiles r before after status → ((v : CompileVerdict) → CompileCause r before.files after.files v → (compile_status v ≡ 1) × (compile_line r v ≡ line)) → Ends before.out after.out 1 line status
  ends_with line (inl h) due = inr (inr (h.0, h.1))
  ends_with line (inr (v, cause, left, ends)) due = ends_as _ _ _ _ _ _ status (due v cause) ends

  tells_long : Compiles r before after status → SourceTellsLong r.source before after status
  tells_long h held text told is long unread = ends_with (unread_line r.source TooLong) h (long_is_due held text told is long unread)

  tells : Compiles r before after status → SourceTells r.source before after status
  tells h held text reading told is small reads unfit unread = ends_with (refusal_line reading) h (refusal_is_due held text reading told is small reads unfit unread)

  built_tells : Compiles r before after status → BuildTells r before after status
  built_tells h held text p fault told is spells passes has sure unread = ends_with (build_line fault) h (fault_is_due held text p fault told is spells passes has sure unread)

  by_end : (v : CompileVerdict) → compile_status v ≡ 0 → (Rose before.out.put_faults after.out.put_faults → ⊥) → Ends before.out after.out (compile_status v) (compile_line r v) status → (status ≡ 0) ⊎ (status ≡ 6)
  by_end v zero puts (inl g) = inl (g.0 ∙ zero)
  by_end v zero puts (inr (inl g)) = absurd (puts g.1)
  by_end v zero puts (inr (inr g)) = inr g.0

  completes : Compiles r before after status → CompileCompletes r before after status
  completes (inl h) held text p told is spells passes code fits reads writes puts = inr h.0
  completes (inr (v, cause, left, ends)) held text p told is spells passes code fits reads writes puts = by_end v (all_done held text p told is spells passes code fits reads writes v cause) puts ends

  pub compile_promises : Compiles r before after status → CompilePromises r before after status
  compile_promises h = record {
    ends = h;
    done = λ e. let v = verdict h (omega (arith, e)) in done_by v.0 v.1 e;
    one = λ e. let v = verdict h (omega (arith, e)) in one_only v.0 v.1 e;
    long = tells_long h;
    told = tells h;
    built = built_tells h;
    three = ((λ e. let v = verdict h (omega (arith, e)) in three_only v.0 v.1 e), three_when h);
    files = compile_others h;
    complete = completes h;
  }
