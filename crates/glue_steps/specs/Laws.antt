-- What the laws of `laws.rt` promise of glue.
use Rattle.std.specs.Prelude.{◌≡◌, ℕ, suc, ◌+◌, ◌<◌, ◌≤◌, Bool, true, false, ◌&&◌, ◌⊎◌, Some, ◌==◌, List, [], ◌∷◌, ◌++◌, length, map, ◌%◌}
use Rattle.std.specs.List.{cons_option}
use Rattle.pic_isa.specs.declared.instructions.Instr.{Instr}
use Rattle.pic_isa.specs.declared.sources.Source.{Source}
use Rattle.pic_regs.specs.declared.places.Place.TheVariants as place
use Rattle.pic_regs.specs.Registers.{flag}
use Rattle.pic_machine.specs.declared.steps.Did.TheVariants.{Ran}
use Rattle.pic_machine.specs.declared.steps.PortWrite.{PortWrite}
use Rattle.pic_machine.specs.Chip.{Chip, advanced}
use Rattle.pic_machine.specs.Results.{Done}
use Rattle.pic_machine.specs.Exec.{exec}
use Rattle.pic_machine.specs.Boundary.{Outer, Step, boundary}
use Rattle.code_steps.specs.Steps.{next, own, Comes, Is}
use Rattle.code_steps.specs.Between.{Alone, placed_at}
use Rattle.code_steps.specs.Ends.{Between, Holds}
use Rattle.code_steps.specs.Laws.{Piece, OwnOf}
use Rattle.code_steps.specs.Jumps.{arrives, Reaches, IsTest}
use Rattle.code_items.specs.declared.items.Item.{Item}
use Rattle.code_items.specs.declared.items.Item.TheVariants.{Ins, Jump}
use Rattle.code_items.specs.Jumping.{at_skip}
use Rattle.code_items.specs.Items.{ItemFits, is_skip, words_of_item}
use Rattle.code_items.specs.Lines.{Stands}
use Rattle.code_acts.specs.Standing.{StandFrom}
use Rattle.glue_steps.specs.Jumping.{JumpWithin, SkipWithin}
use Rattle.glue_steps.specs.declared.lines.Line.{Line}
use Rattle.glue_steps.specs.Tells.{Tells, Withstands}
use Rattle.glue_steps.specs.Still.{Off, Still, StillAll}
use Rattle.glue_steps.specs.Lines.{LineFits, instr_of, item_of, skips, did, ran, is_glue, keeps_flag, loaded}
use Rattle.glue_steps.specs.Stretches.{BankBits, Banked, Reached, register_of, Fits, ran_all, puts_of, place_behind, HasEnables}
use Rattle.glue_steps.specs.Choices.{FlagTest, test_items, test_words, TestsWithin, TestsReach, Found, FoundNone}
use Rattle.glue_steps.specs.declared.lines.Line.TheVariants.{Load}
use Rattle.code_steps.specs.declared.banks.Bank.TheVariants.{Known}
use Rattle.pic_regs.specs.Bytes.{Byte}

-- A piece of glue: its places, and the registers that it may write, by tests of addresses.
pub record Glue : Type 0 where
  pub inside : ℕ → Bool
  pub may : ℕ → Bool

abbrev pub StillIn : (program : ℕ → ℕ) → Glue → Chip → Done → Type 0
StillIn program glue = Still program (λ p. glue.inside p ≡ true) (λ address. glue.may address ≡ true)

-- A test of chips, and that it holds.
abbrev pub Passes : (Chip → Bool) → Chip → Type 0
Passes test c = test c ≡ true

-- More steps may be taken.
abbrev pub Longer : (ℕ → ℕ) → Glue → (Chip → Bool) → List PortWrite → (k m : ℕ) → Chip → Type 0
Longer program glue test puts k m c =
    k ≤ m → Tells program (StillIn program glue) (Passes test) puts k c → Tells program (StillIn program glue) (Passes test) puts m c

-- From a chip at which sources have arrived and pins have changed, code goes on as from the chip before.
abbrev pub GoesOn : (ℕ → ℕ) → Glue → (Chip → Bool) → List PortWrite → ℕ → (c d : Chip) → Type 0
GoesOn program glue test puts k c d =
    Withstands (Passes test) → Alone c d → Tells program (StillIn program glue) (Passes test) puts k c
    → Tells program (StillIn program glue) (Passes test) puts k d

-- One piece of code after another puts its bytes behind those of the first.
abbrev pub OneThenOther : (ℕ → ℕ) → Glue → (first second : Chip → Bool) → (puts later : List PortWrite) → (k m : ℕ) → Chip → Type 0
OneThenOther program glue first second puts later k m c =
    Tells program (StillIn program glue) (Passes first) puts k c
    → ((e : Chip) → Passes first e → Tells program (StillIn program glue) (Passes second) later m e)
    → Tells program (StillIn program glue) (Passes second) (puts ++ later) (k + m) c

-- A line whose register is reached leaves what it did.
abbrev pub LineLeaves : BankBits → Line → Chip → Type 0
LineLeaves known line c = is_glue line ≡ true → Banked known c → Reached known (register_of line) → exec (instr_of line) c ≡ Some (did line c)

-- Arrivals before a line are arrivals behind it; it skips and puts the same.
abbrev pub ArrivesBehind : Line → (c d : Chip) → Type 0
ArrivesBehind line c d =
    is_glue line ≡ true → Alone c d → Alone (ran line c) (ran line d) × (skips line d ≡ skips line c) × ((did line d).port ≡ (did line c).port)

-- A line clears the flag of a source alone that it is told to clear, and sets none.
abbrev pub FlagBehind : Line → Source → Chip → Type 0
FlagBehind line source c = is_glue line ≡ true → flag source (ran line c).regs ≡ (keeps_flag line source && flag source c.regs)

-- The fields of a line's instruction are in range.
abbrev pub LineInRange : Line → Type 0
LineInRange line = LineFits line → ItemFits (item_of line)

-- A step of glue changes no flag, and leaves GIE clear.
abbrev pub FlagsStay : (ℕ → ℕ) → Glue → Source → Chip → Done → Type 0
FlagsStay program glue source d done =
    StillIn program glue d done → (flag source done.chip.regs ≡ flag source d.regs) × Off done.chip

-- Lines that stand from the program counter on come to what they leave, in as many steps as they are at most, and put what they put.
abbrev pub Straight : (ℕ → ℕ) → Glue → (Chip → Bool) → BankBits → ℕ → List Line → Chip → Type 0
Straight program glue test known p lines c =
    Withstands (Passes test) → Fits false known lines → StandFrom program p (map instr_of lines)
    → StillAll (λ q. glue.inside q ≡ true) (λ address. glue.may address ≡ true) p lines → c.pc ≡ p → Banked known c → Off c
    → Passes test (ran_all false lines c) → Tells program (StillIn program glue) (Passes test) (puts_of false lines c []) (length lines) c

-- Lines that stand as items before others stand as instructions, and the others behind them.
abbrev pub LinesStand : Bool → (program marks : ℕ → ℕ) → (p q : ℕ) → BankBits → List Line → List Item → Type 0
LinesStand paged program marks p q known lines items =
    p < 8192 → Fits false known lines → Stands paged program marks p (map item_of lines ++ items) q
    → StandFrom program p (map instr_of lines) × Stands paged program marks (place_behind p lines) items q

-- At a boundary where none is due and GIE is clear, code that has something still to do takes its own step, whether an interrupt
-- is late or not.
pub record StepTold (program : ℕ → ℕ) (glue : Glue) (test : Chip → Bool) (puts : List PortWrite) (k : ℕ) (c : Chip) (step : Step) : Type 0 where
  pub done : Done
  pub is_own : own program step.arrived ≡ Some done
  pub still : StillIn program glue step.arrived done
  pub after : step.after ≡ done.chip
  pub did : step.did ≡ Ran c.pc (program c.pc)
  pub wrote : step.wrote ≡ done.wrote
  pub port : step.port ≡ done.port
  pub none_due : step.after.due ≡ false
  pub rest : List PortWrite
  pub puts_first : puts ≡ cons_option step.port rest
  pub goes_on : Tells program (StillIn program glue) (Passes test) rest k step.after

abbrev pub BoundaryTold : (ℕ → ℕ) → Glue → (Chip → Bool) → List PortWrite → ℕ → Chip → Outer → Type 0
BoundaryTold program glue test puts k c outer =
    c.due ≡ false → Off c → Tells program (StillIn program glue) (Passes test) puts (suc k) c
    → ((puts ≡ []) × Passes test c) ⊎ StepTold program glue test puts k c (boundary program outer c)

-- The words of a jump, of a skip instruction and a jump, lie in a piece of glue, and none is RETFIE's; the piece may write PCLATH
-- where the code has page settings.
abbrev pub NoReturn : (ℕ → ℕ) → Glue → Type 0
NoReturn program glue = (p : ℕ) → glue.inside p ≡ true → (program p == 0x0009) ≡ false

abbrev pub MayTurn : Bool → Glue → Type 0
MayTurn paged glue = paged ≡ true → glue.may 0x00A ≡ true

-- A jump leads to its mark, and there the code goes on.
abbrev pub JumpTold : Bool → (program marks : ℕ → ℕ) → Glue → (Chip → Bool) → (p q m : ℕ) → List Item → List PortWrite → ℕ → Chip → Type 0
JumpTold paged program marks glue test p q m items later k c =
    Withstands (Passes test) → NoReturn program glue → MayTurn paged glue → Stands paged program marks p (Jump m ∷ items) q
    → JumpWithin (λ q. glue.inside q ≡ true) paged p m → c.pc ≡ p → Off c → Reaches paged (marks m) c
    → Tells program (StillIn program glue) (Passes test) later k (arrives (marks m) c)
    → Tells program (StillIn program glue) (Passes test) later (words_of_item paged (Jump m) + k) c

-- A skip instruction with a jump behind it leads past both where its test holds on the chip that it meets, and else to the mark.
abbrev pub SkipTold : Bool → (program marks : ℕ → ℕ) → Glue → (test skip : Chip → Bool) → (p q m : ℕ) → Instr → List Item → List PortWrite → ℕ → Chip → Type 0
SkipTold paged program marks glue test skip p q m i items later k c =
    let tested : Chip = at_skip paged (marks m) c in
    let Goes : Chip → Type 0 = Tells program (StillIn program glue) (Passes test) later k in
    Withstands (Passes test) → NoReturn program glue → MayTurn paged glue → is_skip i ≡ true → Stands paged program marks p (Ins i ∷ Jump m ∷ items) q
    → SkipWithin (λ q. glue.inside q ≡ true) paged p m i → c.pc ≡ p → Off c → Reaches paged (marks m) c
    → ((d : Chip) → Alone tested d → IsTest i skip d)
    → ((on : Chip) → Alone tested on → skip on ≡ true → Goes (placed_at (next (next tested.pc)) on.regs.pclath on))
    → ((on : Chip) → Alone tested on → skip on ≡ false → Goes (arrives (marks m) on))
    → Tells program (StillIn program glue) (Passes test) later (1 + words_of_item paged (Jump m) + k) c

-- Work that comes to something over arrivals, by steps within a piece of code none of whose words is RETFIE's, comes to it as glue.
abbrev pub WorkTold : (ℕ → ℕ) → Piece → (Chip → Bool) → ℕ → Chip → Type 0
WorkTold program piece test k c =
    let inside : ℕ → Type 0 = Between piece.start piece.stop in
    ((p : ℕ) → inside p → (program p == 0x0009) ≡ false) → Off c → Comes program Alone (OwnOf piece) (Passes test) k c
    → Tells program (Still program inside (λ address. piece.may address ≡ true)) (Passes test) [] k c

-- MOVF of INTCON to W, the one line that reads flags, leaves there some byte with INTCON's bits but for the flags at 2 and 1.
abbrev pub IntconTold : (ℕ → ℕ) → Glue → (Chip → Bool) → (p : ℕ) → List PortWrite → ℕ → Chip → Type 0
IntconTold program glue test p later k c =
    Withstands (Passes test) → Is program p (instr_of (Load place.Intcon)) → glue.inside p ≡ true → c.pc ≡ p → Off c
    → ((x : Byte) → HasEnables x c.regs.intcon → Tells program (StillIn program glue) (Passes test) later k (loaded x (advanced c)))
    → Tells program (StillIn program glue) (Passes test) later (suc k) c

-- Tests of flags come to the mark of the first one whose flag is found set, or past all of them; and there the code goes on.
abbrev pub TestsTold : Bool → (program marks : ℕ → ℕ) → Glue → (Chip → Bool) → List FlagTest → (p q : ℕ) → List Item → List PortWrite → ℕ → Chip → Type 0
TestsTold paged program marks glue test ts p q items later k c =
    let Goes : Chip → Type 0 = Tells program (StillIn program glue) (Passes test) later k in
    Withstands (Passes test) → NoReturn program glue → MayTurn paged glue → p < 8192 → Stands paged program marks p (test_items ts items) q
    → TestsWithin (λ x. glue.inside x ≡ true) paged p ts → TestsReach paged marks ts c → c.pc ≡ p → Holds (Known 0) c → Off c
    → ((e : Chip) → Found marks ts c e → Goes e) → ((e : Chip) → FoundNone ((p + test_words paged ts) % 8192) ts c e → Goes e)
    → Tells program (StillIn program glue) (Passes test) later (test_words paged ts + k) c
