-- From the clearing of a run's flag, or from the lock of void work, to the step that turns interrupts on; and from the lock to the open.
use Rattle.std.proofs.Common.{◌≡◌, ℕ, ◌+◌, ◌/◌, ◌%◌, ◌<◌, ◌≤◌, true, false, if◌then◌else◌, List, [], ◌∷◌, ◌++◌, length, map, refl, sym, ap, subst, ◌∙◌, arith, inl, inr, lit<}
use Rattle.std.specs.Prelude.{◌⊎◌}
use Rattle.std.specs.List.{AllByRecursion}
use Rattle.std.proofs.lemmas.Bool.{ne_eqb}
use Rattle.std.proofs.lemmas.Bool.Decides.{eqb_tells}
use Rattle.pic_regs.specs.declared.places.Place.TheVariants as place
use Rattle.pic_regs.specs.Bytes.{Byte, zeros}
use Rattle.pic_regs.specs.Map.{Pclath, existing}
use Rattle.pic_machine.specs.Chip.{Chip}
use Rattle.code_steps.specs.declared.banks.Bank.{Bank}
use Rattle.code_steps.specs.declared.banks.Bank.TheVariants.{Known, Unknown}
use Rattle.code_steps.specs.Steps.{next}
use Rattle.code_steps.specs.Ends.{Between, Holds}
use Rattle.code_steps.specs.Jumps.{Reaches, high_page, low_page, with_page}
use Rattle.code_acts.specs.Standing.{StandFrom}
use Rattle.code_steps.proofs.JumpLaws.{reaches_first_page}
use Rattle.glue_steps.specs.declared.lines.Line.{Line}
use Rattle.glue_steps.specs.declared.lines.Line.TheVariants.{Clear}
use Rattle.glue_steps.specs.Lines.{instr_of}
use Rattle.glue_steps.specs.Stretches.{bits_of_bank, place_behind}
use Rattle.glue_steps.specs.Still.{Off, PlacesIn}
use Rattle.glue_steps.specs.Tells.{Withstands}
use Rattle.glue_steps.proofs.StillLaws.{places_between}
use Rattle.glue_steps.proofs.StraightLaws.{place-behind}
use Rattle.glue_parts.specs.declared.kept.TheConstants.{REDO}
use Rattle.firmware_parts.specs.Layout.{Easy, Layout, is_told}
use Rattle.firmware_parts.specs.Layout.Part.{Begin}
use Rattle.firmware_parts.specs.Runs.{AtOn, Leads}
use Rattle.scratch_commit.specs.Deeds.{Write, bank_past, lines_in}
use Rattle.scratch_commit.specs.Effects.{DeedFits, effect_in}
use Rattle.run_steps.specs.Spots.{restarting}
use Rattle.run_steps.specs.Premises.{Inside, May}
use Rattle.run_steps.proofs.StretchFacts.{Led, deeds_then, holds_of}
use Rattle.run_steps.proofs.WorkFacts.{easy_same}

-- Places of lines that lie between two places lie where all those places do.
pub places_inside : (In : ℕ → Type 0) (start stop p : ℕ) (lines : List Line) → ((place : ℕ) → Between start stop place → In place) → stop ≤ 8192 → start ≤ p → p + length lines ≤ stop
    → PlacesIn In p lines
places_inside In start stop p lines inside top low room = wider lines p (places_between start stop p lines top low room)
  where
    wider : (lines : List Line) (p : ℕ) → PlacesIn (Between start stop) p lines → PlacesIn In p lines
    wider [] p places = tt
    wider (line ∷ lines) p places = (inside p places.0, wider lines (next p) places.1)

-- The deeds with which work begins fit, in whatever bank.
restarting_fits : AllByRecursion DeedFits restarting
restarting_fits = (tt, (((lit< tt, refl), refl), tt))

-- Their lines are those from bank 0 on, or those from a bank that isn't known.
restart_lines : (bank : Bank) → (bank ≡ Known 0) ⊎ (lines_in bank restarting ≡ lines_in Unknown restarting)
restart_lines Unknown = inr refl
restart_lines (Known k) =
    elim (eqb_tells k 0) [
      | inl same ↦ inl (ap Known same.1)
      | inr differ ↦ inr (ap (λ t. (if t then [] else Clear place.Status ∷ []) ++ lines_in (Known 0) (Write REDO 0 ∷ [])) differ.0)
    ]

-- PCLATH with the page of an address is as easy, where there are page settings, or where it has that page.
pub easy_paged : (l : Layout) (t : ℕ) (c d : Chip) → d.regs.pclath ≡ with_page t c.regs.pclath → (l.paged ≡ false → with_page t c.regs.pclath ≡ c.regs.pclath) → Easy l c → Easy l d
easy_paged l t c d is stays easy = record {
  whole = ap (existing Pclath) is ∙ ap (λ (x : Byte). record x { b4 = high_page t; b3 = low_page t }) easy.whole ∙ sym is;
  page = λ short. is ∙ stays short ∙ easy.page short;
}

-- In code of one page each address is on the first, and PCLATH stays.
pub first_page : (t : ℕ) (x : Byte) → t < 2048 → x ≡ zeros → with_page t x ≡ x
first_page t x below none =
    let high : high_page t ≡ false = ne_eqb (t / 4096) 1 (omega arith) in
    let low : low_page t ≡ false = ne_eqb (t / 2048 % 2) 1 (omega arith) in
    ap (with_page t) none ∙ (λ j. record zeros { b4 = high j; b3 = low j }) ∙ sym none

pub first_reaches : (t : ℕ) (c : Chip) → t < 2048 → c.regs.pclath ≡ zeros → Reaches false t c
first_reaches t c below none =
    reaches_first_page false t c below (ap (λ (x : Byte). x.b4) none) (ap (λ (x : Byte). x.b3) none)

module _ (l : Layout) (e : ℕ) (marks : ℕ → ℕ) (bank : Bank) (again on : ℕ) (stand : StandFrom l.program again (map instr_of (lines_in bank restarting)))
    (room : on < 8192) (at_on : on ≡ again + length (lines_in bank restarting)) (is_on : l.on e ≡ on) (inside : Inside l (Begin e) again on)
    (may : May l (Begin e) 0x073) (usual_page : l.saves_pclath ≡ false → l.paged ≡ false) where
  pub on_stays : Withstands (AtOn l e)
  on_stays c d r at =
      record {
        there = ap (λ (x : Chip). x.pc) r.only ∙ at.there;
        off = ap (λ (x : Chip). x.regs.intcon.b7) r.only ∙ at.off;
        easy = easy_same l c d (ap (λ (x : Chip). x.regs.pclath) r.only) at.easy;
        bank = (ap (λ (x : Chip). x.regs.status.b6) r.only ∙ at.bank.0, ap (λ (x : Chip). x.regs.status.b5) r.only ∙ at.bank.1);
        untold = λ locked. ap (λ (x : Chip). is_told x) r.only ∙ at.untold locked;
        usual = λ locked. record {
          easy = easy_same l c d (ap (λ (x : Chip). x.regs.pclath) r.only) (at.usual locked).easy;
          bank = λ unsaved. (ap (λ (x : Chip). x.regs.status.b6) r.only ∙ ((at.usual locked).bank unsaved).0, ap (λ (x : Chip). x.regs.status.b5) r.only ∙ ((at.usual locked).bank unsaved).1);
          page = λ unsaved. ap (λ (x : Chip). x.regs.pclath) r.only ∙ (at.usual locked).page unsaved;
        };
      }

  abbrev Goes : ℕ → Chip → Type 0
  Goes k c = Leads l (Begin e) (AtOn l e) [] k c

  restart_by : (from : Bank) → lines_in from restarting ≡ lines_in bank restarting → (c : Chip) → c.pc ≡ again → Off c → Easy l c → Holds from c
      → Goes (length (lines_in bank restarting)) c
  restart_by from same c at off easy holds =
      let count : length (lines_in from restarting) + 0 ≡ length (lines_in bank restarting) = let words = ap (λ (xs : List Line). length xs) same in omega (arith, words) in
      subst (λ n. Goes n c) count
      (deeds_then l.program (λ q. l.inside (Begin e) q ≡ true) (May l (Begin e)) (AtOn l e) on_stays from restarting again 0 [] c restarting_fits
      (tt, ((refl, may), tt)) (subst (λ (xs : List Line). StandFrom l.program again (map instr_of xs)) (sym same) stand)
      (subst (λ (xs : List Line). PlacesIn (λ q. l.inside (Begin e) q ≡ true) again xs) (sym same)
      (places_inside (λ q. l.inside (Begin e) q ≡ true) again on again (lines_in bank restarting) inside (omega arith) (omega arith) (omega arith)))
      at holds off
      (λ d led off_d. (refl, arrived from same c d at easy led off_d)))
    where
      arrived : (from : Bank) → lines_in from restarting ≡ lines_in bank restarting → (c d : Chip) → c.pc ≡ again → Easy l c
          → Led (effect_in restarting) (bits_of_bank (bank_past from restarting)) (place_behind again (lines_in from restarting)) c d → Off d → AtOn l e d
      arrived from same c d at easy led off_d =
          let words = ap (λ (xs : List Line). length xs) same in
          let behind = place-behind again (lines_in from restarting) (omega arith) in
          let there = led.there in
          let place : d.pc ≡ on = omega (arith, behind, there, words, at_on) in
          let page = ap (λ (x : Chip). x.regs.pclath) led.only in
          let easy_d = easy_same l c d page easy in
          let holds_d : Holds (Known 0) d = holds_of (Known 0) d led.banked in
          record {
            there = place ∙ sym is_on;
            off = off_d;
            easy = easy_d;
            bank = holds_d;
            untold = λ locked. ap (λ (x : Chip). is_told x) led.only;
            usual = λ locked. record { easy = easy_d; bank = λ unsaved. holds_d; page = λ unsaved. easy_d.page (usual_page unsaved) };
          }

  -- From bank 0, and from the bank that the work has left.
  pub restart_first : (c : Chip) → c.pc ≡ again → Off c → Easy l c → Holds (Known 0) c → Goes (length (lines_in bank restarting)) c
  restart_first c at off easy holds =
      elim (restart_lines bank) [
        | inl first ↦ restart_by (Known 0) (ap (λ b. lines_in b restarting) (sym first)) c at off easy holds
        | inr unknown ↦ restart_by Unknown (sym unknown) c at off easy tt
      ]

  pub restart_again : (c : Chip) → c.pc ≡ again → Off c → Easy l c → Holds bank c → Goes (length (lines_in bank restarting)) c
  restart_again c at off easy holds = restart_by bank refl c at off easy holds
