-- From the start of a run to the clearing of its flag: the frame and the masks.
use Rattle.std.proofs.Common.{◌≡◌, ℕ, suc, ◌+◌, Bool, true, false, Some, None, List, [], ◌∷◌, ◌++◌, length, map, refl, sym, ap, subst, ◌∙◌, arith}
use Rattle.std.proofs.lemmas.List.{length-append}
use Rattle.std.specs.List.{AllByRecursion}
use Rattle.pic_regs.specs.declared.places.Place.TheVariants as place
use Rattle.pic_regs.specs.Bytes.{Byte, updated}
use Rattle.pic_regs.specs.Map.{Plain}
use Rattle.pic_regs.specs.Registers.{Registers}
use Rattle.pic_machine.specs.declared.steps.PortWrite.{PortWrite}
use Rattle.pic_machine.specs.Chip.{Chip, advanced}
use Rattle.code_steps.specs.declared.banks.Bank.TheVariants.{Known}
use Rattle.code_steps.specs.Steps.{Is, next}
use Rattle.code_steps.specs.Ends.{Holds}
use Rattle.code_acts.specs.Standing.{StandFrom}
use Rattle.glue_steps.specs.declared.lines.Line.{Line}
use Rattle.glue_steps.specs.declared.lines.Line.TheVariants.{Load, Store}
use Rattle.glue_steps.specs.Lines.{instr_of, loaded}
use Rattle.glue_steps.specs.Stretches.{Banked, HasEnables, Reached, bits_of_bank, place_behind, ran_all}
use Rattle.glue_steps.specs.Still.{Off, PlacesIn, Still}
use Rattle.glue_steps.specs.Tells.{Given, Tells, Withstands}
use Rattle.glue_steps.proofs.StillLaws.{given_still, off_stays, still_line}
use Rattle.glue_steps.proofs.StraightLaws.{straight_then}
use Rattle.glue_steps.proofs.StretchLaws.{intcon_loaded}
use Rattle.glue_steps.proofs.TellsLaws.{tells_given}
use Rattle.code_acts.specs.Codes.{moved}
use Rattle.glue_parts.specs.Effects.{Blind, byte_written, left}
use Rattle.glue_parts.specs.Pieces.{lines_for}
use Rattle.glue_parts.proofs.MakeLaws.{blind_write, left_after, reached}
use Rattle.scratch_commit.proofs.EffectLaws.{deeds-make}
use Rattle.scratch_commit.specs.Deeds.{Deed, Copy, bank_past, lines_in}
use Rattle.scratch_commit.specs.Effects.{DeedFits, effect_in}
use Rattle.scratch_commit.specs.Frames.{saving, wanted}
use Rattle.run_steps.specs.Deeds.{DeedStill}
use Rattle.run_steps.proofs.FrameFacts.{IsLow, low_bank, low_numbered, stored_if}
use Rattle.run_steps.proofs.StretchFacts.{deeds_then, holds_of}

-- Lines that stand or lie somewhere, part after part.
pub stand_split : (program : ℕ → ℕ) (p : ℕ) (xs ys : List Line) → StandFrom program p (map instr_of (xs ++ ys))
    → StandFrom program p (map instr_of xs) × StandFrom program (place_behind p xs) (map instr_of ys)
stand_split program p [] ys stand = (tt, stand)
stand_split program p (line ∷ xs) ys stand = let rest = stand_split program (next p) xs ys stand.1 in ((stand.0, rest.0), rest.1)

pub places_split : (In : ℕ → Type 0) (p : ℕ) (xs ys : List Line) → PlacesIn In p (xs ++ ys) → PlacesIn In p xs × PlacesIn In (place_behind p xs) ys
places_split In p [] ys places = (tt, places)
places_split In p (line ∷ xs) ys places = let rest = places_split In (next p) xs ys places.1 in ((places.0, rest.0), rest.1)

pub behind_both : (p : ℕ) (xs ys : List Line) → place_behind p (xs ++ ys) ≡ place_behind (place_behind p xs) ys
behind_both p [] ys = refl
behind_both p (line ∷ xs) ys = behind_both (next p) xs ys

module _ (program : ℕ → ℕ) (In May : ℕ → Type 0) (Q : Chip → Type 0) (stays : Withstands Q) where
  abbrev Goes : List PortWrite → ℕ → Chip → Type 0
  Goes = Tells program (Still program In May) Q

  -- INTCON is copied to a byte of the frame: what is saved there has its enables, and may have other flags.
  pub intcon_saved : (a p m : ℕ) (later : List PortWrite) (c : Chip) → IsLow a → Is program p (instr_of (Load place.Intcon)) → Is program (next p) (instr_of (Store (place.Plain a)))
      → In p → In (next p) → May a → c.pc ≡ p → Holds (Known 0) c → Off c
      → ((x : Byte) (d : Chip) → HasEnables x c.regs.intcon → d ≡ left (record c.regs { plain = updated c.regs.plain a x }) d c → d.pc ≡ next (next p)
      → Holds (Known 0) d → Off d → Goes later m d)
      → Goes later (suc (suc m)) c
  intcon_saved a p m later c low loads stores inside behind may at holds off told =
      tells_given program Off (Still program In May) Q off_stays later (suc (suc m)) c off
      (intcon_loaded program (Given Off (Still program In May)) Q stays p later (suc m) c loads (still_line program In May p (Load place.Intcon) refl inside tt) at
      (λ x its. store_then x its))
    where
      there : Reached (bits_of_bank (Known 0)) (Some (Plain a))
      there = subst (λ o. Reached (bits_of_bank (moved (Known 0) o)) (Some (Plain a))) (low_bank a low) (reached (Known 0) (Plain a) (low_numbered a low))

      store_then : (x : Byte) → HasEnables x c.regs.intcon → Tells program (Given Off (Still program In May)) Q later (suc m) (loaded x (advanced c))
      store_then x its =
          let count : length (Store (place.Plain a) ∷ []) + m ≡ suc m = omega arith in
          subst (λ n. Tells program (Given Off (Still program In May)) Q later n (loaded x (advanced c))) count
          (straight_then program (Given Off (Still program In May)) Q stays (Store (place.Plain a) ∷ []) (bits_of_bank (Known 0)) (next p) later m (loaded x (advanced c))
          (refl, there, refl) (stores, tt) (still_line program In May (next p) (Store (place.Plain a)) refl behind may, tt) (ap next at) (holds.0, holds.1)
          (given_still program In May Q later m (ran_all false (Store (place.Plain a) ∷ []) (loaded x (advanced c)))
          (told x (ran_all false (Store (place.Plain a) ∷ []) (loaded x (advanced c))) its refl (ap (λ q. next (next q)) at) (holds.0, holds.1) off)))

  -- Deeds, INTCON where it is saved, and more deeds.
  module _ (K C : List Deed) (t : Bool) (a : ℕ) (low : IsLow a) (fits_k : AllByRecursion DeedFits K) (fits_c : AllByRecursion DeedFits C)
      (still_k : AllByRecursion (DeedStill May) K) (still_c : AllByRecursion (DeedStill May) C) (may : t ≡ true → May a)
      (bank_k : bank_past (Known 0) K ≡ Known 0) (only_k : (r : Registers) → (effect_in K).change r ≡ record r { plain = ((effect_in K).change r).plain }) (quiet_k : (r : Registers) → (effect_in K).puts r ≡ []) (quiet_c : (r : Registers) → (effect_in C).puts r ≡ [])
      (c : Chip) (holds : Holds (Known 0) c) (off : Off c) (p m : ℕ) (later : List PortWrite) (at : c.pc ≡ p) where
    -- The registers with INTCON saved as a byte.
    abbrev saved_as : Byte → Registers
    saved_as x = record ((effect_in K).change c.regs) { plain = stored_if t a x ((effect_in K).change c.regs).plain }

    abbrev all_lines : Bool → List Line
    all_lines s = lines_in (Known 0) K ++ (lines_in (Known 0) (saving place.Intcon (wanted s (place.Plain a))) ++ lines_in (Known 0) C)

    -- Where it has come to.
    pub record Entering (x : Byte) (d : Chip) : Type 0 where
      pub saved : HasEnables x c.regs.intcon
      pub only : d ≡ left ((effect_in C).change (saved_as x)) d c
      pub there : d.pc ≡ place_behind p (all_lines t)
      pub banked : Banked (bits_of_bank (bank_past (Known 0) C)) d
      pub gie : Off d

    copy_lines : lines_in (Known 0) (Copy place.Intcon (place.Plain a) ∷ []) ≡ Load place.Intcon ∷ Store (place.Plain a) ∷ []
    copy_lines =
        ap (λ o. ((lines_for (Known 0) None ++ Load place.Intcon ∷ []) ++ (lines_for (Known 0) o ++ Store (place.Plain a) ∷ [])) ++ []) (low_bank a low)

    blind_c : Blind (effect_in C)
    blind_c = (deeds-make (Known 0) C fits_c).1

    -- The last deeds, from a chip with INTCON saved or not.
    ends_then : (x : Byte) (q : ℕ) (d : Chip) → HasEnables x c.regs.intcon → d ≡ left (saved_as x) d c → d.pc ≡ q → Holds (Known 0) d → Off d
        → StandFrom program q (map instr_of (lines_in (Known 0) C)) → PlacesIn In q (lines_in (Known 0) C) → place_behind q (lines_in (Known 0) C) ≡ place_behind p (all_lines t)
        → ((x : Byte) (d : Chip) → Entering x d → Goes later m d) → Goes later (length (lines_in (Known 0) C) + m) d
    ends_then x q d its only here bank gie stand places ends told =
        subst (λ puts. Goes puts (length (lines_in (Known 0) C) + m) d) (ap (λ puts. puts ++ later) (quiet_c d.regs))
        (deeds_then program In May Q stays (Known 0) C q m later d fits_c still_c stand places here bank gie
        (λ e led off_e. told x e (record {
          saved = its;
          only = left_after (effect_in C) blind_c (saved_as x) d e c only led.only;
          there = led.there ∙ ends;
          banked = led.banked;
          gie = off_e;
        })))

    by_saving : (s : Bool) → t ≡ s → (q : ℕ) (d : Chip) → d ≡ left ((effect_in K).change c.regs) d c → d.pc ≡ q → Holds (Known 0) d → Off d
        → (lines : List Line) → lines ≡ lines_in (Known 0) (saving place.Intcon (wanted s (place.Plain a))) → StandFrom program q (map instr_of (lines ++ lines_in (Known 0) C))
        → PlacesIn In q (lines ++ lines_in (Known 0) C) → place_behind q (lines ++ lines_in (Known 0) C) ≡ place_behind p (all_lines t)
        → ((x : Byte) (d : Chip) → Entering x d → Goes later m d) → Goes later (length lines + (length (lines_in (Known 0) C) + m)) d
    by_saving false is q d only here bank gie lines are stand places ends told =
        let none : lines ≡ [] = are in
        let as_was : saved_as c.regs.intcon ≡ (effect_in K).change c.regs = ap (λ (s : Bool). record ((effect_in K).change c.regs) { plain = stored_if s a c.regs.intcon ((effect_in K).change c.regs).plain }) is in
        let count : length (lines_in (Known 0) C) + m ≡ length lines + (length (lines_in (Known 0) C) + m) =
        let words : length lines ≡ 0 = ap (λ (xs : List Line). length xs) none in omega (arith, words) in
        subst (λ n. Goes later n d) count
        (ends_then c.regs.intcon q d refl (only ∙ ap (λ (r : Registers). left r d c) (sym as_was)) here bank gie
        (subst (λ (xs : List Line). StandFrom program q (map instr_of (xs ++ lines_in (Known 0) C))) none stand)
        (subst (λ (xs : List Line). PlacesIn In q (xs ++ lines_in (Known 0) C)) none places)
        (ap (λ (xs : List Line). place_behind q (xs ++ lines_in (Known 0) C)) (sym none) ∙ ends) told)
    by_saving true is q d only here bank gie lines are stand places ends told =
        let two : lines ≡ Load place.Intcon ∷ Store (place.Plain a) ∷ [] = are ∙ copy_lines in
        let stand_two = subst (λ (xs : List Line). StandFrom program q (map instr_of (xs ++ lines_in (Known 0) C))) two stand in
        let places_two = subst (λ (xs : List Line). PlacesIn In q (xs ++ lines_in (Known 0) C)) two places in
        let ends_two = ap (λ (xs : List Line). place_behind q (xs ++ lines_in (Known 0) C)) (sym two) ∙ ends in
        let count : suc (suc (length (lines_in (Known 0) C) + m)) ≡ length lines + (length (lines_in (Known 0) C) + m) =
        let words : length lines ≡ 2 = ap (λ (xs : List Line). length xs) two in omega (arith, words) in
        let kr : Registers = (effect_in K).change c.regs in
        let same : d.regs.intcon ≡ c.regs.intcon = ap (λ (y : Chip). y.regs.intcon) only ∙ ap (λ (r : Registers). r.intcon) (only_k c.regs) in
        subst (λ n. Goes later n d) count
        (intcon_saved a q (length (lines_in (Known 0) C) + m) later d low stand_two.0 stand_two.1.0 places_two.0 places_two.1.0 (may is) here bank gie
        (λ x e its step there holds_e off_e. ends_then x (next (next q)) e (subst (HasEnables x) same its)
        (left_after (byte_written (Plain a) x) (blind_write (Plain a) x refl) kr d e c only step
        ∙ ap (λ (s : Bool). left (record kr { plain = stored_if s a x kr.plain }) e c) (sym is))
        there holds_e off_e stand_two.1.1 places_two.1.1 ends_two told))

    pub entering_then : StandFrom program p (map instr_of (all_lines t)) → PlacesIn In p (all_lines t)
        → ((x : Byte) (d : Chip) → Entering x d → Goes later m d) → Goes later (length (all_lines t) + m) c
    entering_then stand places told =
        let ks = lines_in (Known 0) K in
        let middle = lines_in (Known 0) (saving place.Intcon (wanted t (place.Plain a))) in
        let cs = lines_in (Known 0) C in
        let stands = stand_split program p ks (middle ++ cs) stand in
        let lie = places_split In p ks (middle ++ cs) places in
        let words = length-append ks (middle ++ cs) in
        let more = length-append middle cs in
        let count : length ks + (length middle + (length cs + m)) ≡ length (ks ++ (middle ++ cs)) + m = omega (arith, words, more) in
        subst (λ n. Goes later n c) count
        (subst (λ puts. Goes puts (length ks + (length middle + (length cs + m))) c) (ap (λ puts. puts ++ later) (quiet_k c.regs))
        (deeds_then program In May Q stays (Known 0) K p (length middle + (length cs + m)) later c fits_k still_k stands.0 lie.0 at holds off
        (λ d led off_d. by_saving t refl (place_behind p ks) d led.only led.there
        (subst (λ b. Holds b d) bank_k (holds_of (bank_past (Known 0) K) d led.banked)) off_d middle refl stands.1 lie.1 (sym (behind_both p ks (middle ++ cs))) told)))
