-- Lines in two parts with a goto between them: what they leave and put doesn't depend on the place.
use Rattle.std.proofs.Common.{◌≡◌, ℕ, suc, ◌+◌, ◌%◌, ◌<◌, Bool, true, false, ◌&&◌, not, Some, List, [], ◌∷◌, ◌++◌, refl, sym, ap, subst, ◌∙◌, inr}
use Rattle.std.specs.List.{AllByRecursion, cons_option}
use Rattle.std.proofs.lemmas.Bool.{and_parts}
use Rattle.pic_isa.specs.declared.sources.Source.{Source}
use Rattle.pic_isa.specs.declared.sources.Source.TheVariants.{T0}
use Rattle.pic_regs.specs.declared.places.Place.{Place}
use Rattle.pic_regs.specs.declared.places.Place.TheVariants as place
use Rattle.pic_regs.specs.Bytes.{bit, with_bit, zeros}
use Rattle.pic_regs.specs.Map.{Reg, Pcl, Status}
use Rattle.pic_regs.specs.Places.{reg_of}
use Rattle.pic_regs.specs.Registers.{read}
use Rattle.pic_machine.specs.declared.steps.PortWrite.{PortWrite}
use Rattle.pic_machine.specs.Chip.{Chip, advanced}
use Rattle.pic_machine.specs.Results.{Outcome, just, tested, stored}
use Rattle.code_steps.specs.Steps.{next}
use Rattle.glue_steps.specs.declared.lines.Line.{Line}
use Rattle.glue_steps.specs.declared.lines.Line.TheVariants.{Constant, Load, Store, Clear, Bit, Lower, Skip, Nothing}
use Rattle.glue_steps.specs.Lines.{did, is_glue, is_steady, ran, skips, takes_bit, takes_byte}
use Rattle.glue_steps.specs.Stretches.{BankBits, Banked, Fits, bank_behind, bank_behind_all, may_skip, moves_bank, place_behind, puts_of, ran_all}
use Rattle.glue_steps.specs.Still.{PlacesIn}
use Rattle.glue_steps.proofs.LineLaws.{banked_behind}

-- The chip at another place.
abbrev pub put_at : ℕ → Chip → Chip
put_at q c = record c { pc = q }

stored_at : (reg : Reg) (result : Outcome) (c : Chip) (q : ℕ) → takes_byte reg ≡ true → stored reg result (put_at q c) ≡ put_at q (stored reg result c)
stored_at Pcl result c q takes = absurd (cc)
stored_at Status result c q takes = refl
stored_at _ result c q takes = refl

bit_at : (p : Place) (b : ℕ) (v : Bool) (c : Chip) (q : ℕ) → takes_bit (reg_of p) b ≡ true → ran (Bit v p b) (put_at q c) ≡ put_at (next q) (ran (Bit v p b) c)
bit_at place.Pcl b v c q takes = absurd (cc)
bit_at _ b v c q takes = refl

-- A line that skips nothing.
line_at : (line : Line) (c : Chip) (q : ℕ) → is_glue line ≡ true → may_skip line ≡ false → ran line (put_at q c) ≡ put_at (next q) (ran line c)
line_at (Constant k) c q glue plain = refl
line_at (Load p) c q glue plain = refl
line_at (Store p) c q glue plain = stored_at (reg_of p) (just c.w) (advanced c) (next q) glue
line_at (Clear p) c q glue plain = stored_at (reg_of p) (tested zeros) (advanced c) (next q) glue
line_at (Bit v p b) c q glue plain = bit_at p b v c q glue
line_at (Lower source) c q glue plain = refl
line_at (Skip v p b) c q glue plain = absurd (cc)
line_at Nothing c q glue plain = refl

never_skips : (line : Line) (c : Chip) → may_skip line ≡ false → skips line c ≡ false
never_skips (Skip v p b) c plain = absurd (cc)
never_skips _ c plain = refl

port_at : (line : Line) (c : Chip) (q : ℕ) → (did line (put_at q c)).port ≡ (did line c).port
port_at (Constant k) c q = refl
port_at _ c q = refl

-- Lines that are glue and skip nothing.
abbrev pub Plain : Line → Type 0
Plain line = (is_glue line ≡ true) × (may_skip line ≡ false)

glue_part : (glue behind moves : Bool) → (glue && not (behind && moves)) ≡ true → glue ≡ true
glue_part true behind moves both = refl
glue_part false behind moves both = absurd (cc)

pub plain_lines : (behind : Bool) (known : BankBits) (lines : List Line) → AllByRecursion (λ line. may_skip line ≡ false) lines → Fits behind known lines → AllByRecursion Plain lines
plain_lines behind known [] plain fits = tt
plain_lines behind known (line ∷ lines) plain fits =
    ((glue_part (is_glue line) behind (moves_bank line) fits.0, plain.0), plain_lines (may_skip line) (bank_behind line known) lines plain.1 fits.2)

pub ran_at : (lines : List Line) (c : Chip) (q : ℕ) → AllByRecursion Plain lines → ran_all false lines (put_at q c) ≡ put_at (place_behind q lines) (ran_all false lines c)
ran_at [] c q plain = refl
ran_at (line ∷ lines) c q plain =
    ap (λ b. ran_all b lines (ran line (put_at q c))) (never_skips line (put_at q c) plain.0.1)
    ∙ ap (ran_all false lines) (line_at line c q plain.0.0 plain.0.1)
    ∙ ran_at lines (ran line c) (next q) plain.1
    ∙ sym (ap (λ b. put_at (place_behind (next q) lines) (ran_all b lines (ran line c))) (never_skips line c plain.0.1))

pub puts_at : (lines : List Line) (c : Chip) (q : ℕ) (later : List PortWrite) → AllByRecursion Plain lines → puts_of false lines (put_at q c) later ≡ puts_of false lines c later
puts_at [] c q later plain = refl
puts_at (line ∷ lines) c q later plain =
    ap (λ o. cons_option o (puts_of (skips line (put_at q c)) lines (ran line (put_at q c)) later)) (port_at line c q)
    ∙ ap (cons_option (did line c).port)
    (ap (λ b. puts_of b lines (ran line (put_at q c)) later) (never_skips line (put_at q c) plain.0.1)
    ∙ ap (λ (x : Chip). puts_of false lines x later) (line_at line c q plain.0.0 plain.0.1)
    ∙ puts_at lines (ran line c) (next q) later plain.1
    ∙ sym (ap (λ b. puts_of b lines (ran line c) later) (never_skips line c plain.0.1)))

-- Two parts.
pub ran_parts : (xs ys : List Line) (c : Chip) → AllByRecursion Plain xs → ran_all false (xs ++ ys) c ≡ ran_all false ys (ran_all false xs c)
ran_parts [] ys c plain = refl
ran_parts (line ∷ xs) ys c plain =
    ap (λ b. ran_all b (xs ++ ys) (ran line c)) (never_skips line c plain.0.1) ∙ ran_parts xs ys (ran line c) plain.1
    ∙ sym (ap (λ b. ran_all false ys (ran_all b xs (ran line c))) (never_skips line c plain.0.1))

pub puts_parts : (xs ys : List Line) (c : Chip) (later : List PortWrite) → AllByRecursion Plain xs → puts_of false (xs ++ ys) c later ≡ puts_of false xs c (puts_of false ys (ran_all false xs c) later)
puts_parts [] ys c later plain = refl
puts_parts (line ∷ xs) ys c later plain =
    ap (cons_option (did line c).port)
    (ap (λ b. puts_of b (xs ++ ys) (ran line c) later) (never_skips line c plain.0.1) ∙ puts_parts xs ys (ran line c) later plain.1
    ∙ sym (ap (λ b. puts_of b xs (ran line c) (puts_of false ys (ran_all b xs (ran line c)) later)) (never_skips line c plain.0.1)))

pub fits_parts : (known : BankBits) (xs ys : List Line) → AllByRecursion (λ line. may_skip line ≡ false) xs → Fits false known (xs ++ ys) → Fits false known xs × Fits false (bank_behind_all xs known) ys
fits_parts known [] ys plain fits = (refl, fits)
fits_parts known (line ∷ xs) ys plain fits =
    let rest = fits_parts (bank_behind line known) xs ys plain.1 (subst (λ b. Fits b (bank_behind line known) (xs ++ ys)) plain.0 fits.2) in
    ((fits.0, fits.1, subst (λ b. Fits b (bank_behind line known) xs) (sym plain.0) rest.0), rest.1)

-- What is known of the bank behind lines.
pub banked_all : (lines : List Line) (known : BankBits) (c : Chip) → AllByRecursion Plain lines → Banked known c → Banked (bank_behind_all lines known) (ran_all false lines c)
banked_all [] known c plain banked = banked
banked_all (line ∷ lines) known c plain banked =
    subst (λ b. Banked (bank_behind_all lines (bank_behind line known)) (ran_all b lines (ran line c))) (sym (never_skips line c plain.0.1))
    (banked_all lines (bank_behind line known) (ran line c) plain.1 (banked_behind line known c plain.0.0 banked))

-- More places.
pub places_wider : (In Wide : ℕ → Type 0) → ((x : ℕ) → In x → Wide x) → (p : ℕ) (lines : List Line) → PlacesIn In p lines → PlacesIn Wide p lines
places_wider In Wide wider p [] within = tt
places_wider In Wide wider p (line ∷ lines) within = (wider p within.0, places_wider In Wide wider (next p) lines within.1)
