-- From the open of a run to its return, where its items stand; and single steps: the clearing of a flag, and interrupts on and off.
use Rattle.std.specs.Prelude.{bit_and}
use Rattle.std.proofs.Common.{◌≡◌, ℕ, suc, ◌+◌, ◌-◌, ◌%◌, ◌^◌, ◌<◌, Bool, true, false, not, Some, List, [], ◌∷◌, ◌++◌, length, map, refl, sym, ap, subst, ◌∙◌, arith}
use Rattle.std.proofs.lemmas.List.{length-append}
use Rattle.std.proofs.lemmas.Nat.{and_mask}
use Rattle.frp_tree.specs.Tree.{ProgramTree}
use Rattle.map_file.specs.declared.maps.Map.{Map}
use Rattle.timed_core.specs.Timing.{Timing}
use Rattle.pic_isa.specs.declared.instructions.Instr.TheVariants.{Retfie}
use Rattle.pic_isa.specs.declared.sources.Source.{Source}
use Rattle.pic_isa.specs.declared.sources.Source.TheVariants.{T0}
use Rattle.pic_isa.specs.Instructions.{instruction_of}
use Rattle.pic_isa.specs.Sources.{flag_of}
use Rattle.pic_isa.proofs.RowLaws.{found-is_row}
use Rattle.pic_regs.specs.Map.{reg_at}
use Rattle.pic_machine.specs.Chip.{Chip}
use Rattle.pic_machine.specs.Exec.{exec}
use Rattle.code_steps.specs.declared.banks.Bank.{Bank}
use Rattle.code_steps.specs.declared.banks.Bank.TheVariants.{Known}
use Rattle.code_steps.specs.Steps.{Is, next, own}
use Rattle.code_steps.specs.Ends.{Holds}
use Rattle.code_steps.proofs.ComesLaws.{own_is}
use Rattle.code_acts.specs.Codes.{moved}
use Rattle.code_acts.specs.Standing.{StandFrom}
use Rattle.code_items.specs.declared.items.Item.{Item}
use Rattle.code_items.specs.declared.items.Item.TheVariants.{Ins}
use Rattle.code_items.specs.Lines.{Stands}
use Rattle.glue_steps.specs.declared.lines.Line.{Line}
use Rattle.glue_steps.specs.declared.lines.Line.TheVariants.{Lower}
use Rattle.glue_steps.specs.Lines.{did, instr_of}
use Rattle.glue_steps.specs.Laws.{StillIn}
use Rattle.glue_steps.specs.Still.{Off}
use Rattle.glue_steps.specs.Stretches.{bits_of_bank, place_behind}
use Rattle.glue_steps.proofs.LineLaws.{line_is}
use Rattle.glue_steps.proofs.StraightLaws.{place-behind}
use Rattle.glue_parts.specs.Effects.{Makes}
use Rattle.glue_parts.specs.Marks.{mark, Committing}
use Rattle.glue_parts.specs.Pieces.{bank_of_flag}
use Rattle.glue_parts.specs.Places.{IsNumbered}
use Rattle.glue_parts.proofs.MakeLaws.{reached}
use Rattle.firmware_parts.specs.Layout.{Easy, Layout, piece}
use Rattle.firmware_parts.specs.Layout.Part.{Commit, Copying, Exit, Open}
use Rattle.firmware_parts.specs.Runs.{AtOpen, AtReturn, Leads, Opened, Runs, turns}
use Rattle.scratch_commit.specs.Deeds.{lines_in}
use Rattle.scratch_commit.specs.Effects.{effect_in}
use Rattle.scratch_commit.specs.Plans.{Plan, glue, over_idle}
use Rattle.scratch_commit.specs.Windows.{marked_last}
use Rattle.scratch_commit.proofs.EffectLaws.{deeds-make}
use Rattle.run_steps.specs.Premises.{FitsTimes, Inside, IsPlanOf, MakesStates, MayBeWritten}
use Rattle.run_steps.specs.Saved.{SavedBy}
use Rattle.run_steps.specs.Spots.{exit_bank, moves_in, open_bank, returning_in}
use Rattle.run_steps.proofs.ApartFacts.{OfWindow, window_lines}
use Rattle.run_steps.proofs.BeginFacts.{places_inside}
use Rattle.run_steps.proofs.ExitFacts.{exits}
use Rattle.run_steps.proofs.MoveFacts.{LastApart, window_apart, window_fits, window_leaves}
use Rattle.run_steps.proofs.PlaceLaws.{deeds_stand, marked_stand, tail_items}
use Rattle.run_steps.proofs.StretchFacts.{banked_of, holds_of}
use Rattle.run_steps.proofs.WindowFacts.{opens_window}

-- GIE is made what is given.
turn_step : (v : Bool) (c : Chip) → exec (instr_of (turns v)) c ≡ Some (did (turns v) c)
turn_step true c = refl
turn_step false c = refl

pub turns_own : (program : ℕ → ℕ) (v : Bool) (place : ℕ) (c : Chip) → Is program place (instr_of (turns v)) → c.pc ≡ place → own program c ≡ Some (did (turns v) c)
turns_own program v place c is at = own_is program c (instr_of (turns v)) (subst (λ q. Is program q (instr_of (turns v))) (sym at) is) ∙ turn_step v c

-- A flag is cleared, in its bank; from bank 0 that is bank 0.
numbered_flag : (source : Source) → IsNumbered (reg_at (flag_of source).address)
numbered_flag T0 = tt
numbered_flag _ = tt

pub flag_bank : (source : Source) → moved (Known 0) (bank_of_flag source) ≡ Known 0
flag_bank T0 = refl
flag_bank _ = refl

pub lower_own : (program : ℕ → ℕ) (source : Source) (bank : Bank) (place : ℕ) (c : Chip) → Is program place (instr_of (Lower source)) → c.pc ≡ place → Holds (moved bank (bank_of_flag source)) c
    → own program c ≡ Some (did (Lower source) c)
lower_own program source bank place c is at holds =
    own_is program c (instr_of (Lower source)) (subst (λ q. Is program q (instr_of (Lower source))) (sym at) is)
    ∙ line_is (bits_of_bank (moved bank (bank_of_flag source))) (Lower source) c refl (banked_of (moved bank (bank_of_flag source)) c holds)
    (reached bank (reg_at (flag_of source).address) (numbered_flag source))

-- The word of RETFIE.
retfie_word : (word : ℕ) → word < 0x4000 → instruction_of word ≡ Some Retfie → word ≡ 0x0009
retfie_word word below is =
    let row = found-is_row word Retfie below is in
    let small : word ≡ word % 2 ^ 14 = omega (arith, below) in
    let same : bit_and word 0x3FFF ≡ 0x0009 = row.0.1 in small ∙ sym (and_mask word 14) ∙ same

module _ (p : ProgramTree) (m : Map) (t : Timing) (l : Layout) (marks : ℕ → ℕ) (starting : ℕ) (plan : Plan) (e opens stop : ℕ) (its : IsPlanOf p l e plan) (may : MayBeWritten l e plan)
    (states : MakesStates l e plan) (times : FitsTimes t l starting e plan) (words : (place : ℕ) → l.program place < 0x4000)
    (stands : Stands l.paged l.program marks opens (tail_items plan) stop) (is_opens : l.opens e ≡ opens)
    (is_commits : l.commits e ≡ opens + length (lines_in (open_bank plan) (moves_in plan)) - 1)
    (room : opens + length (lines_in (open_bank plan) (moves_in plan)) + length (lines_in (exit_bank plan) (returning_in plan)) < 8192)
    (in_open : Inside l (Open e) opens (opens + 1)) (in_copying : Inside l (Copying e) (opens + 1) (l.commits e)) (in_commit : Inside l (Commit e) (l.commits e) (l.commits e + 1))
    (in_exit : Inside l (Exit e) (l.commits e + 1) (opens + length (lines_in (open_bank plan) (moves_in plan)) + length (lines_in (exit_bank plan) (returning_in plan)))) where
  abbrev L : List Line
  L = lines_in (open_bank plan) (moves_in plan)

  abbrev R : List Line
  R = lines_in (exit_bank plan) (returning_in plan)

  apart : LastApart (moves_in plan)
  apart = window_apart plan.moves (not (over_idle plan))

  window_parts : OfWindow (λ address. l.may (Copying e) address ≡ true) (λ address. l.may (Commit e) address ≡ true) (lines_in (open_bank plan) (apart.front ++ apart.last ∷ []))
  window_parts =
      window_lines (λ address. l.may (Copying e) address ≡ true) (λ address. l.may (Commit e) address ≡ true) (open_bank plan) apart.front apart.last apart.opening apart.ending apart.alone
      (may.copying apart.front apart.last apart.are) (may.commit apart.front apart.last apart.are).0

  abbrev whole : List Line
  whole = window_parts.first ∷ (window_parts.middle ++ window_parts.last ∷ [])

  are : L ≡ whole
  are = ap (lines_in (open_bank plan)) apart.are ∙ window_parts.are

  count : length L ≡ length window_parts.middle + 2
  count =
      let all = ap (λ (xs : List Line). length xs) are in
      let both = length-append window_parts.middle (window_parts.last ∷ []) in omega (arith, all, both)

  behind_lines : StandFrom l.program opens (map instr_of whole) × Stands l.paged l.program marks (opens + length L) (glue (exit_bank plan) (returning_in plan) ++ Ins Retfie ∷ []) stop
  behind_lines =
      let rest : List Item = glue (exit_bank plan) (returning_in plan) ++ Ins Retfie ∷ [] in
      let at : Stands l.paged l.program marks opens (marked_last (mark (Committing plan.event)) whole ++ rest) stop =
      subst (λ (xs : List Line). Stands l.paged l.program marks opens (marked_last (mark (Committing plan.event)) xs ++ rest) stop) are stands.1 in
      let both = length-append window_parts.middle (window_parts.last ∷ []) in
      let parts = marked_stand l.paged l.program marks (mark (Committing plan.event)) window_parts.first (window_parts.middle ++ window_parts.last ∷ []) opens stop rest window_parts.plain
      (omega (arith, both, count, room)) at in
      let same : opens + suc (length (window_parts.middle ++ window_parts.last ∷ [])) ≡ opens + length L = omega (arith, both, count) in
      (parts.0, subst (λ r. Stands l.paged l.program marks r rest stop) same parts.2)

  -- The window.
  pub tail_window : (c : Chip) → AtOpen l e c → Runs l.program (StillIn l.program (piece l (Open e))) (Opened l e t.copying c) c
  tail_window c at =
      let makes = (deeds-make (open_bank plan) (moves_in plan) (window_fits plan.moves (not (over_idle plan)) states.fit)).0 in
      let made : Makes (bits_of_bank (open_bank plan)) (bits_of_bank (exit_bank plan)) (effect_in (moves_in plan)) whole =
      subst (Makes (bits_of_bank (open_bank plan)) (bits_of_bank (exit_bank plan)) (effect_in (moves_in plan))) are makes in
      let middle = window_parts.middle in
      let place = place-behind (next (l.opens e)) middle (omega (arith, is_opens, count, room)) in
      let commits : l.commits e ≡ place_behind (next (l.opens e)) middle = omega (arith, place, is_opens, is_commits, count, room) in
      let enough = times.copying in
      let inner = places_inside (λ q. l.inside (Copying e) q ≡ true) (opens + 1) (l.commits e) (next (l.opens e)) middle in_copying
      (omega (arith, is_commits, count, room)) (omega (arith, is_opens, count, room)) (omega (arith, is_opens, is_commits, count, room)) in
      opens_window l e t.copying (bits_of_bank (open_bank plan)) (bits_of_bank (exit_bank plan)) (effect_in (moves_in plan)) window_parts.first middle window_parts.last made window_parts.plain
      (subst (λ r. StandFrom l.program r (map instr_of whole)) (sym is_opens) behind_lines.0) window_parts.quiet window_parts.still window_parts.ends
      (subst (λ r. l.inside (Open e) r ≡ true) (sym is_opens) (in_open opens (omega arith, omega arith))) inner commits (in_commit (l.commits e) (omega arith, omega arith)) (omega (arith, count, enough))
      (λ d banked. subst (λ b. Holds b d) (sym its.exit_bank) (holds_of (exit_bank plan) d banked)) (λ r. window_leaves l e plan r its.telling states) c at
      (banked_of (open_bank plan) c (subst (λ b. Holds b c) its.bank at.bank))

  -- The return.
  pub tail_exits : (x c : Chip) → c.pc ≡ next (l.commits e) → Off c → Easy l c → SavedBy l plan x c → Holds (l.exit_bank e) c → Leads l (Exit e) (AtReturn l x) [] t.exiting c
  tail_exits x c at off easy saved holds =
      let start : ℕ = opens + length L in
      let there : next (l.commits e) ≡ start = omega (arith, is_commits, count, room) in
      let deeds = deeds_stand l.paged l.program marks (exit_bank plan) (returning_in plan) start stop (Ins Retfie ∷ []) (omega (arith, room)) behind_lines.1 in
      let place = place-behind (next (l.commits e)) R (omega (arith, there, room)) in
      let end : place_behind (next (l.commits e)) R ≡ start + length R = omega (arith, place, there, room) in
      exits p l e plan its x c saved t.exiting (subst (λ r. StandFrom l.program r (map instr_of R)) (sym there) deeds.0)
      (places_inside (λ q. l.inside (Exit e) q ≡ true) (l.commits e + 1) (start + length R) (next (l.commits e)) R in_exit (omega (arith, room)) (omega (arith, there, is_commits, count)) (omega (arith, there)))
      may.exit times.exiting (ap l.program end ∙ retfie_word (l.program (start + length R)) (words (start + length R)) deeds.1.0) at off easy
      (subst (λ b. Holds b c) its.exit_bank holds)
