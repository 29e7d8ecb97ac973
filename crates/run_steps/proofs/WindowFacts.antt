-- Lines from the open of a window to its commit, as steps with interrupts off.
use Rattle.std.proofs.Common.{◌≡◌, ℕ, ◌≤◌, Bool, true, false, not, ◌&&◌, if◌then◌else◌, Option, Some, None, IfSome, List, [], ◌∷◌, ◌++◌, length, map, refl, sym, ap, subst, ◌∙◌}
use Rattle.std.specs.List.{AllByRecursion, cons_option}
use Rattle.std.proofs.lemmas.Bool.{and_parts}
use Rattle.pic_regs.specs.declared.places.Place.TheVariants as place
use Rattle.pic_regs.specs.Bytes.{Byte}
use Rattle.pic_regs.specs.Registers.{Registers}
use Rattle.pic_machine.specs.declared.steps.PortWrite.{PortWrite}
use Rattle.pic_machine.specs.Chip.{Chip}
use Rattle.pic_machine.specs.Results.{Done}
use Rattle.code_steps.specs.Steps.{Is, next, own}
use Rattle.code_steps.specs.Between.{Alone}
use Rattle.code_steps.specs.Ends.{Holds}
use Rattle.code_steps.proofs.BetweenLaws.{alone_frame}
use Rattle.code_steps.proofs.ComesLaws.{own_is}
use Rattle.code_acts.specs.Standing.{StandFrom}
use Rattle.glue_steps.specs.declared.lines.Line.{Line}
use Rattle.glue_steps.specs.declared.lines.Line.TheVariants.{Bit, Clear, Constant, Load, Lower, Nothing, Skip, Store}
use Rattle.glue_steps.specs.Lines.{did, instr_of, is_glue, ran, skips}
use Rattle.glue_steps.specs.Stretches.{BankBits, Banked, Fits, bank_behind, bank_behind_all, may_skip, moves_bank, place_behind, puts_of, ran_all}
use Rattle.glue_steps.specs.Laws.{StillIn}
use Rattle.glue_steps.specs.Still.{MayWrite, Off, PlacesIn, StillLines, is_still, target_of}
use Rattle.glue_steps.specs.Tells.{Withstands}
use Rattle.glue_steps.proofs.LineLaws.{banked_behind, line_is, line_place, put_alone, ran_alone}
use Rattle.glue_steps.proofs.StillLaws.{off_stays, still_line, still_parts}
use Rattle.glue_steps.proofs.StraightLaws.{banked_ends, banked_stays, ran_place}
use Rattle.glue_steps.proofs.StretchLaws.{straight_still}
use Rattle.glue_steps.proofs.TellsLaws.{tells_longer}
use Rattle.glue_parts.specs.Effects.{Effect, Makes, left}
use Rattle.glue_parts.proofs.MakeLaws.{ends_well, puts_then, ran_then}
use Rattle.firmware_parts.specs.Layout.{Layout, piece}
use Rattle.firmware_parts.specs.Layout.Part.{Commit, Copying, Open}
use Rattle.firmware_parts.specs.Runs.{AtCommit, AtOpen, Committed, Opened, Runs}
use Rattle.run_steps.proofs.StartFacts.{stand_split}

-- A line that puts nothing and writes no register but STATUS.
abbrev pub is_quiet : Line → Bool
is_quiet (Load p) = true
is_quiet (Clear place.Status) = true
is_quiet (Bit v place.Status b) = true
is_quiet Nothing = true
is_quiet _ = false

abbrev pub IsStill : (May : ℕ → Type 0) → Line → Type 0
IsStill May line = (is_still line ≡ true) × IfSome (target_of line) (MayWrite May)

pub quiet_still : (May : ℕ → Type 0) (line : Line) → is_quiet line ≡ true → IsStill May line
quiet_still May (Load p) quiet = (refl, tt)
quiet_still May Nothing quiet = (refl, tt)
quiet_still May (Clear place.Status) quiet = (refl, tt)
quiet_still May (Bit v place.Status b) quiet = (refl, tt)
quiet_still May (Clear _) quiet = absurd (cc)
quiet_still May (Bit v _ b) quiet = absurd (cc)
quiet_still May _ quiet = absurd (cc)

quiet_port : (line : Line) (c : Chip) → is_quiet line ≡ true → (did line c).port ≡ None
quiet_port (Load p) c quiet = refl
quiet_port Nothing c quiet = refl
quiet_port (Clear place.Status) c quiet = refl
quiet_port (Bit v place.Status b) c quiet = refl
quiet_port (Clear _) c quiet = absurd (cc)
quiet_port (Bit v _ b) c quiet = absurd (cc)
quiet_port _ c quiet = absurd (cc)

-- No line of these skips.
abbrev pub Plain : List Line → Type 0
Plain lines = AllByRecursion (λ line. may_skip line ≡ false) lines

plain_skips : (line : Line) (c : Chip) → may_skip line ≡ false → skips line c ≡ false
plain_skips (Constant k) c plain = refl
plain_skips (Load p) c plain = refl
plain_skips (Store p) c plain = refl
plain_skips (Clear p) c plain = refl
plain_skips (Bit v p b) c plain = refl
plain_skips (Lower source) c plain = refl
plain_skips Nothing c plain = refl
plain_skips (Skip v p b) c plain = absurd (cc)

-- They fit in parts.
fits_split : (xs ys : List Line) (known : BankBits) → Plain xs → Fits false known (xs ++ ys) → Fits false known xs × Fits false (bank_behind_all xs known) ys
fits_split [] ys known plain fits = (refl, fits)
fits_split (line ∷ xs) ys known plain fits =
    let rest = fits_split xs ys (bank_behind line known) plain.1 (subst (λ b. Fits b (bank_behind line known) (xs ++ ys)) plain.0 fits.2) in
    ((fits.0, fits.1, subst (λ b. Fits b (bank_behind line known) xs) (sym plain.0) rest.0), rest.1)

plain_split : (xs ys : List Line) → Plain (xs ++ ys) → Plain xs × Plain ys
plain_split [] ys plain = (tt, plain)
plain_split (line ∷ xs) ys plain = let rest = plain_split xs ys plain.1 in ((plain.0, rest.0), rest.1)

-- What is put later comes behind.
cons_later : (put : Option PortWrite) (rest later : List PortWrite) → cons_option put rest ++ later ≡ cons_option put (rest ++ later)
cons_later (Some put) rest later = refl
cons_later None rest later = refl

puts_later : (skipped : Bool) (lines : List Line) (c : Chip) (later : List PortWrite) → puts_of skipped lines c later ≡ puts_of skipped lines c [] ++ later
puts_later skipped [] c later = refl
puts_later true (line ∷ lines) c later = puts_later false lines c later
puts_later false (line ∷ lines) c later =
    ap (cons_option (did line c).port) (puts_later (skips line c) lines (ran line c) later) ∙ sym (cons_later (did line c).port (puts_of (skips line c) lines (ran line c) []) later)

-- GIE stays clear.
off_lines : (program : ℕ → ℕ) (In May : ℕ → Type 0) (lines : List Line) (known : BankBits) (p : ℕ) (c : Chip) → Plain lines → Fits false known lines → StandFrom program p (map instr_of lines)
    → PlacesIn In p lines → StillLines May lines → c.pc ≡ p → Off c → Off (ran_all false lines c)
off_lines program In May [] known p c plain fits stand places still at off = off
off_lines program In May (line ∷ lines) known p c plain fits stand places still at off =
    let part : (is_glue line && not (false && moves_bank line)) ≡ true = fits.0 in
    let glue = (and_parts (is_glue line) (not (false && moves_bank line)) part).0 in
    let there : (ran line c).pc ≡ next p = line_place line c glue ∙ ap (λ (b : Bool). if b then next (next c.pc) else next c.pc) (plain_skips line c plain.0) ∙ ap next at in
    subst (λ b. Off (ran_all b lines (ran line c))) (sym (plain_skips line c plain.0))
    (off_lines program In May lines (bank_behind line known) (next p) (ran line c) plain.1 (subst (λ b. Fits b (bank_behind line known) lines) plain.0 fits.2) stand.1 places.1 still.2 there
    (still_line program In May p line still.0 places.0 still.1 c at stand.0 off).1)

-- What the window leaves in the bytes and puts, by the registers that it meets.
pub record WindowLeaves (l : Layout) (e : ℕ) (effect : Effect) (r : Registers) : Type 0 where
  pub states : l.states (effect.change r).plain ≡ l.next_of e r.plain
  pub puts : effect.puts r ≡ l.puts_of e r.plain
  pub told : l.is_telling e ≡ true → ((effect.change r).plain 0x073).b0 ≡ true

-- Its lines: the first is quiet; the last alone is the commit.
module _ (l : Layout) (e k : ℕ) (known behind : BankBits) (effect : Effect) (first : Line) (middle : List Line) (last : Line) (makes : Makes known behind effect (first ∷ (middle ++ last ∷ [])))
    (plain : Plain (first ∷ (middle ++ last ∷ []))) (stand : StandFrom l.program (l.opens e) (map instr_of (first ∷ (middle ++ last ∷ []))))
    (quiet : is_quiet first ≡ true) (still : StillLines (λ address. l.may (Copying e) address ≡ true) middle) (ends : IsStill (λ address. l.may (Commit e) address ≡ true) last)
    (in_open : l.inside (Open e) (l.opens e) ≡ true) (in_copying : PlacesIn (λ p. l.inside (Copying e) p ≡ true) (next (l.opens e)) middle)
    (commits : l.commits e ≡ place_behind (next (l.opens e)) middle) (in_commit : l.inside (Commit e) (l.commits e) ≡ true) (enough : length middle ≤ k)
    (exit : (d : Chip) → Banked behind d → Holds (l.exit_bank e) d) (leaves : (r : Registers) → WindowLeaves l e effect r) where
  abbrev rest : List Line
  rest = middle ++ last ∷ []

  first_part : (is_glue first && not (false && moves_bank first)) ≡ true
  first_part = makes.fits.0

  glue_first : is_glue first ≡ true
  glue_first = (and_parts (is_glue first) (not (false && moves_bank first)) first_part).0

  plain_rest : Plain middle × Plain (last ∷ [])
  plain_rest = plain_split middle (last ∷ []) plain.1

  fits_rest : Fits false (bank_behind first known) rest
  fits_rest = subst (λ b. Fits b (bank_behind first known) rest) plain.0 makes.fits.2

  fits_parts : Fits false (bank_behind first known) middle × Fits false (bank_behind_all middle (bank_behind first known)) (last ∷ [])
  fits_parts = fits_split middle (last ∷ []) (bank_behind first known) plain_rest.0 fits_rest

  stand_parts : StandFrom l.program (next (l.opens e)) (map instr_of middle) × StandFrom l.program (place_behind (next (l.opens e)) middle) (map instr_of (last ∷ []))
  stand_parts = stand_split l.program (next (l.opens e)) middle (last ∷ []) stand.1

  glue_last : is_glue last ≡ true
  glue_last = (and_parts (is_glue last) (not (false && moves_bank last)) fits_parts.1.0).0

  -- The chip at the commit, and what is put before it and by it, where the window is opened on the chip `d`.
  abbrev at_commit : Chip → Chip
  at_commit d = ran_all false middle (ran first d)

  abbrev early_of : Chip → List PortWrite
  early_of d = puts_of false middle (ran first d) []

  abbrev late_of : Chip → List PortWrite
  late_of d = cons_option (did last (at_commit d)).port []

  ran_first : (d : Chip) → ran_all false (first ∷ rest) d ≡ ran last (at_commit d)
  ran_first d =
      ap (λ b. ran_all b rest (ran first d)) (plain_skips first d plain.0)
      ∙ ran_then false false middle (last ∷ []) (ran first d) (λ b. b) (ends_well false middle (bank_behind first known) fits_parts.0)

  puts_first : (d : Chip) → puts_of false (first ∷ rest) d [] ≡ early_of d ++ late_of d
  puts_first d =
      ap (λ put. cons_option put (puts_of (skips first d) rest (ran first d) [])) (quiet_port first d quiet)
      ∙ ap (λ b. puts_of b rest (ran first d) []) (plain_skips first d plain.0)
      ∙ puts_then false false middle (last ∷ []) (ran first d) [] (λ b. b) (ends_well false middle (bank_behind first known) fits_parts.0)
      ∙ puts_later false middle (ran first d) (late_of d)

  module _ (c : Chip) (at : AtOpen l e c) (banked : Banked known c) where
    -- The step at the commit, from a chip on which only arrivals came before.
    committing : (d : Chip) → Alone c d → (g : Chip) → Alone (at_commit d) g → (off : Off g)
        → (done : Done) × (own l.program g ≡ Some done) × StillIn l.program (piece l (Commit e)) g done × Committed l e c (late_of d) g done
    committing d r g s off =
        let here : d.pc ≡ l.opens e = ap (λ (x : Chip). x.pc) r.only ∙ at.there in
        let one : (ran first d).pc ≡ next (l.opens e) =
        line_place first d glue_first ∙ ap (λ (b : Bool). if b then next (next d.pc) else next d.pc) (plain_skips first d plain.0) ∙ ap next here in
        let place : (at_commit d).pc ≡ place_behind (next (l.opens e)) middle =
        ran_place middle false false (bank_behind first known) (next (l.opens e)) (ran first d) (λ b. b) fits_parts.0 one in
        let there : g.pc ≡ place_behind (next (l.opens e)) middle = ap (λ (x : Chip). x.pc) s.only ∙ place in
        let bank_d = banked_stays known c d r banked in
        let bank_one = banked_behind first known d glue_first bank_d in
        let bank_all = banked_ends middle false false (bank_behind first known) (ran first d) (λ b. b) fits_parts.0 bank_one in
        let bank_g = banked_stays (bank_behind_all middle (bank_behind first known)) (at_commit d) g s bank_all in
        let step = still_line l.program (λ p. l.inside (Commit e) p ≡ true) (λ address. l.may (Commit e) address ≡ true) (place_behind (next (l.opens e)) middle) last ends.0
        (subst (λ p. l.inside (Commit e) p ≡ true) commits in_commit) ends.1 g there stand_parts.1.0 off in
        let moved = ran_alone last glue_last (at_commit d) g s in
        let total : ran last (at_commit d) ≡ left (effect.change d.regs) (ran_all false (first ∷ rest) d) d = sym (ran_first d) ∙ makes.leaves d in
        let bytes : (ran last g).regs.plain ≡ (effect.change d.regs).plain = ap (λ (x : Chip). x.regs.plain) moved.only ∙ ap (λ (x : Chip). x.regs.plain) total in
        let before : d.regs.plain ≡ c.regs.plain = ap (λ (x : Chip). x.regs.plain) r.only in
        let its = leaves d.regs in
        let last_bank = banked_behind last (bank_behind_all middle (bank_behind first known)) g glue_last bank_g in
        let ends_bank : bank_behind last (bank_behind_all middle (bank_behind first known)) ≡ behind = sym (banked_then middle last (bank_behind first known)) ∙ makes.banked in (
          did last g,
          own_is l.program g (instr_of last) (subst (λ p. Is l.program p (instr_of last)) (sym there) stand_parts.1.0)
              ∙ line_is (bank_behind_all middle (bank_behind first known)) last g glue_last bank_g fits_parts.1.1,
          step.0,
          record {
            states = ap l.states bytes ∙ its.states ∙ ap (l.next_of e) before;
            puts = ap (λ put. cons_option put []) (put_alone last glue_last (at_commit d) g s);
            there = line_place last g glue_last ∙ ap (λ (b : Bool). if b then next (next g.pc) else next g.pc) (plain_skips last g plain_rest.1.0)
                ∙ ap next (there ∙ sym commits);
            told = λ telling. ap (λ (memory : ℕ → Byte). (memory 0x073).b0) bytes ∙ its.told telling;
            bank = exit (ran last g) (subst (λ b. Banked b (ran last g)) ends_bank last_bank);
          },
        )
      where
        banked_then : (xs : List Line) (line : Line) (b : BankBits) → bank_behind_all (xs ++ line ∷ []) b ≡ bank_behind line (bank_behind_all xs b)
        banked_then [] line b = refl
        banked_then (x ∷ xs) line b = banked_then xs line (bank_behind x b)

    commit_stays : (late : List PortWrite) → Withstands (AtCommit l e c late)
    commit_stays late f g s there = record {
      there = ap (λ (x : Chip). x.pc) s.only ∙ there.there;
      off = off_stays f g s there.off;
      runs = λ h t. there.runs h (alone_frame.joined f g h s t);
    }

    pub opens_window : Runs l.program (StillIn l.program (piece l (Open e))) (Opened l e k c) c
    opens_window d r =
        let here : d.pc ≡ l.opens e = ap (λ (x : Chip). x.pc) r.only ∙ at.there in
        let off_d = off_stays c d r at.off in
        let bank_d = banked_stays known c d r banked in
        let quiet_line = quiet_still (λ address. l.may (Open e) address ≡ true) first quiet in
        let step = still_line l.program (λ p. l.inside (Open e) p ≡ true) (λ address. l.may (Open e) address ≡ true) (l.opens e) first quiet_line.0 in_open quiet_line.1 d here stand.0 off_d in
        let one : (ran first d).pc ≡ next (l.opens e) =
        line_place first d glue_first ∙ ap (λ (b : Bool). if b then next (next d.pc) else next d.pc) (plain_skips first d plain.0) ∙ ap next here in
        let bank_one = banked_behind first known d glue_first bank_d in
        let before : d.regs.plain ≡ c.regs.plain = ap (λ (x : Chip). x.regs.plain) r.only in (
          did first d,
          own_is l.program d (instr_of first) (subst (λ p. Is l.program p (instr_of first)) (sym here) stand.0) ∙ line_is known first d glue_first bank_d makes.fits.1,
          step.0,
          record {
            port = quiet_port first d quiet;
            early = early_of d;
            late = late_of d;
            puts = ap (l.puts_of e) (sym before) ∙ sym (leaves d.regs).puts ∙ none_later (effect.puts d.regs) ∙ sym (makes.puts d []) ∙ puts_first d;
            copies = tells_longer l.program (StillIn l.program (piece l (Copying e))) (AtCommit l e c (late_of d)) (early_of d) (length middle) k (ran first d) enough
                (straight_still l.program (λ p. l.inside (Copying e) p ≡ true) (λ address. l.may (Copying e) address ≡ true) (AtCommit l e c (late_of d)) (commit_stays (late_of d))
                (bank_behind first known) (next (l.opens e)) middle (ran first d) fits_parts.0 stand_parts.0
                (still_parts (λ p. l.inside (Copying e) p ≡ true) (λ address. l.may (Copying e) address ≡ true) (next (l.opens e)) middle in_copying still) one bank_one step.1
                (there_at d r step.1));
          },
        )
      where
        none_later : (puts : List PortWrite) → puts ≡ puts ++ []
        none_later [] = refl
        none_later (put ∷ puts) = ap (λ more. put ∷ more) (none_later puts)

        there_at : (d : Chip) → Alone c d → Off (ran first d) → AtCommit l e c (late_of d) (at_commit d)
        there_at d r off =
            let here : d.pc ≡ l.opens e = ap (λ (x : Chip). x.pc) r.only ∙ at.there in
            let one : (ran first d).pc ≡ next (l.opens e) =
            line_place first d glue_first ∙ ap (λ (b : Bool). if b then next (next d.pc) else next d.pc) (plain_skips first d plain.0) ∙ ap next here in
            let off_there = off_lines l.program (λ p. l.inside (Copying e) p ≡ true) (λ address. l.may (Copying e) address ≡ true) middle (bank_behind first known) (next (l.opens e)) (ran first d)
            plain_rest.0 fits_parts.0 stand_parts.0 in_copying still one off in
            record {
              there = ran_place middle false false (bank_behind first known) (next (l.opens e)) (ran first d) (λ b. b) fits_parts.0 one ∙ sym commits;
              off = off_there;
              runs = λ g s. committing d r g s (off_stays (at_commit d) g s off_there);
            }
