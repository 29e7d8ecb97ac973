-- What a boundary does, where the word at the program counter, the request and the register are known by equations; when
-- an interrupt is taken, and when one is due.
use Rattle.std.specs.Prelude.{ℕ, suc, ◌+◌, Bool, true, false, not, ◌&&◌, ◌||◌, ◌⊎◌, Option, Some, None}
use Rattle.std.proofs.Common.{rules, ◌≡◌, refl, ap, ◌∙◌, inl, inr}
use Rattle.std.proofs.lemmas.Bool.{and_parts}
use Rattle.pic_isa.specs.declared.instructions.Dest.{Dest}
use Rattle.pic_isa.specs.declared.instructions.Dest.TheVariants.{W, F}
use Rattle.pic_isa.specs.declared.instructions.Instr.{Instr}
use Rattle.pic_isa.specs.declared.instructions.Instr.TheVariants.{Nop}
use Rattle.pic_isa.specs.Instructions.{instruction_of}
use Rattle.pic_regs.specs.Bytes.{one_if}
use Rattle.pic_regs.specs.Map.{Reg, Pcl, Status}
use Rattle.pic_regs.specs.Registers.{flag, requested}
use Rattle.pic_regs.specs.Arrivals.{latched, merged}
use Rattle.pic_machine.specs.declared.steps.Did.TheVariants.{Ran}
use Rattle.pic_machine.specs.Chip.{Chip, advanced}
use Rattle.pic_machine.specs.Dids.{is_taking, is_stop}
use Rattle.pic_machine.specs.Results.{Outcome, Done, stored, gives}
use Rattle.pic_machine.specs.Exec.{exec_on, exec, field, operand}
use Rattle.pic_machine.specs.Boundary.{Outer, Turn, Step, with_changed_pins, with_arrivals, turn, ran, ended, waited, delayed, took, may_take, boundary}
use Rattle.pic_machine.specs.Run.{log, after}
use Rattle.pic_machine.specs.Laws.{cannot_run, StopsExactly}

-- The chip with all that comes from outside.
abbrev pub with_outer : Outer → Chip → Chip
with_outer outer c = with_arrivals outer.arrivals (with_changed_pins outer.pins c)

-- The step of a boundary by what it does after its pins and arrivals.
abbrev pub step_of : Outer → Chip → Turn → Step
step_of outer c rest = record {
  before = c;
  arrived = with_outer outer c;
  after = rest.after;
  latched = latched outer.arrivals c.regs;
  merged = merged outer.arrivals c.regs;
  did = rest.did;
  wrote = rest.wrote;
  port = rest.port;
}

-- The step that takes an interrupt; the one that runs this instruction, whose register is this; and the one that runs it
-- while a requested interrupt is late.
abbrev pub taking : Outer → Chip → Step
taking outer c = step_of outer c (took (with_outer outer c))

abbrev pub running : ℕ → Instr → Reg → Outer → Chip → Step
running word i reg outer c = step_of outer c (ended word (with_outer outer c) (exec_on i reg (advanced (with_outer outer c))))

abbrev pub delaying : ℕ → Instr → Reg → Outer → Chip → Step
delaying word i reg outer c = step_of outer c (waited word (with_outer outer c) (exec_on i reg (advanced (with_outer outer c))))

-- The turn of a boundary.
abbrev pub turn_at : (ℕ → ℕ) → Outer → Chip → (due asked late : Bool) → Turn
turn_at program outer c due asked late = turn due asked late (program c.pc) (with_outer outer c)

-- Each of the four cases of a boundary.
pub takes-due : (program : ℕ → ℕ) (outer : Outer) (c : Chip) → c.due ≡ true → boundary program outer c ≡ taking outer c
takes-due program outer c due = ap (λ b. step_of outer c (turn_at program outer c b (requested (with_outer outer c).regs) outer.late)) due

module _ (program : ℕ → ℕ) (outer : Outer) (c : Chip) (none_due : c.due ≡ false) where
  -- The boundary where it is known whether an interrupt is requested.
  by_request : (asked : Bool) → requested (with_outer outer c).regs ≡ asked → boundary program outer c ≡ step_of outer c (turn_at program outer c false asked outer.late)
  by_request asked request = λ j. step_of outer c (turn_at program outer c (none_due j) (request j) outer.late)

  pub takes-it : requested (with_outer outer c).regs ≡ true → outer.late ≡ false → boundary program outer c ≡ taking outer c
  takes-it request late = by_request true request ∙ ap (λ b. step_of outer c (turn_at program outer c false true b)) late

  pub runs-word : requested (with_outer outer c).regs ≡ false → boundary program outer c ≡ step_of outer c (ran (program c.pc) (instruction_of (program c.pc)) (with_outer outer c))
  runs-word request = by_request false request

  pub runs-it : (i : Instr) (reg : Reg) → requested (with_outer outer c).regs ≡ false → instruction_of (program c.pc) ≡ Some i → operand (field i) (with_outer outer c).regs ≡ reg
      → boundary program outer c ≡ running (program c.pc) i reg outer c
  runs-it i reg request found its_register =
      runs-word request
      ∙ ap (λ o. step_of outer c (ran (program c.pc) o (with_outer outer c))) found
      ∙ ap (λ r. running (program c.pc) i r outer c) its_register

  pub delays-word : requested (with_outer outer c).regs ≡ true → outer.late ≡ true
      → boundary program outer c ≡ step_of outer c (delayed (program c.pc) (instruction_of (program c.pc)) (with_outer outer c))
  delays-word request late = by_request true request ∙ ap (λ b. step_of outer c (turn_at program outer c false true b)) late

  pub delays-it : (i : Instr) (reg : Reg) → requested (with_outer outer c).regs ≡ true → outer.late ≡ true → instruction_of (program c.pc) ≡ Some i
      → operand (field i) (with_outer outer c).regs ≡ reg → boundary program outer c ≡ delaying (program c.pc) i reg outer c
  delays-it i reg request late found its_register =
      delays-word request late
      ∙ ap (λ o. step_of outer c (delayed (program c.pc) o (with_outer outer c))) found
      ∙ ap (λ r. delaying (program c.pc) i r outer c) its_register

-- An instruction leaves `due` as it was.
stored-due : (reg : Reg) (result : Outcome) (c : Chip) → (stored reg result c).due ≡ c.due
stored-due Pcl result c = refl
stored-due Status result c = refl
stored-due _ result c = refl

-- `due` once an instruction has run; SLEEP leaves it.
abbrev pub due_of : Bool → Option Done → Bool
due_of due (Some done) = done.chip.due
due_of due None = due

gives-due : (d : Dest) (reg : Reg) (result : Outcome) (c : Chip) → due_of c.due (gives d reg result c) ≡ c.due
gives-due W reg result c = refl
gives-due F reg result c = stored-due reg result c

pub exec_on-due : (i : Instr) (reg : Reg) (c : Chip) → due_of c.due (exec_on i reg c) ≡ c.due
exec_on-due Nop reg c = refl
exec_on-due _ reg c = search (rules, gives-due, stored-due)

ended-due : (word : ℕ) (c : Chip) (done : Option Done) → (ended word c done).after.due ≡ due_of c.due done
ended-due word c (Some done) = refl
ended-due word c None = refl

ran-due : (word : ℕ) (o : Option Instr) (c : Chip) → (ran word o c).after.due ≡ c.due
ran-due word (Some i) c = ended-due word c (exec i c) ∙ exec_on-due i (operand (field i) c.regs) (advanced c)
ran-due word None c = refl

-- Where no interrupt is due or requested none is taken.
ended-takes_none : (word : ℕ) (c : Chip) (done : Option Done) → is_taking (ended word c done).did ≡ false
ended-takes_none word c (Some done) = refl
ended-takes_none word c None = refl

ran-takes_none : (word : ℕ) (o : Option Instr) (c : Chip) → is_taking (ran word o c).did ≡ false
ran-takes_none word (Some i) c = ended-takes_none word c (exec i c)
ran-takes_none word None c = refl

turn-takes : (due asked late : Bool) (word : ℕ) (c : Chip) → is_taking (turn due asked late word c).did ≡ true → due || asked ≡ true
turn-takes true asked late word c taken = refl
turn-takes false true late word c taken = refl
turn-takes false false late word c taken = absurd (let none = ran-takes_none word (instruction_of word) c in cc)

-- A late taking: an instruction runs and the interrupt is due, or it is taken at once.
abbrev TakesOrWaits : ℕ → Chip → Turn → Type 0
TakesOrWaits word c t = (is_taking t.did ≡ true) ⊎ ((t.did ≡ Ran c.pc word) × (t.after.due ≡ true))

waited-waits : (word : ℕ) (c : Chip) (done : Option Done) → TakesOrWaits word c (waited word c done)
waited-waits word c (Some done) = inr (refl, refl)
waited-waits word c None = inl refl

delayed-waits : (word : ℕ) (o : Option Instr) (c : Chip) → TakesOrWaits word c (delayed word o c)
delayed-waits word (Some i) c = waited-waits word c (exec i c)
delayed-waits word None c = inl refl

turn-waits : (due asked late : Bool) (word : ℕ) (c : Chip) → due ≡ false → asked ≡ true → TakesOrWaits word c (turn due asked late word c)
turn-waits true asked late word c none_due request = absurd cc
turn-waits false false late word c none_due request = absurd cc
turn-waits false true false word c none_due request = inl refl
turn-waits false true true word c none_due request = delayed-waits word (instruction_of word) c

-- An interrupt is due only once a requested one was late and an instruction ran.
waited-due : (word : ℕ) (c : Chip) (done : Option Done) → (waited word c done).after.due ≡ true → (waited word c done).did ≡ Ran c.pc word
waited-due word c (Some done) due = refl
waited-due word c None due = absurd cc

delayed-due : (word : ℕ) (o : Option Instr) (c : Chip) → (delayed word o c).after.due ≡ true → (delayed word o c).did ≡ Ran c.pc word
delayed-due word (Some i) c due = waited-due word c (exec i c) due
delayed-due word None c due = absurd cc

abbrev Waits : (due asked late : Bool) → ℕ → Chip → Turn → Type 0
Waits due asked late word c t = (due ≡ false) × (asked ≡ true) × (late ≡ true) × (t.did ≡ Ran c.pc word)

turn-due : (due asked late : Bool) (word : ℕ) (c : Chip) → c.due ≡ due → (turn due asked late word c).after.due ≡ true → Waits due asked late word c (turn due asked late word c)
turn-due true asked late word c was due = absurd cc
turn-due false true false word c was due = absurd cc
turn-due false true true word c was due = (refl, refl, refl, delayed-due word (instruction_of word) c due)
turn-due false false late word c was due = absurd (let same = ran-due word (instruction_of word) c in cc)

-- A taking leaves none due.
turn-taken : (due asked late : Bool) (word : ℕ) (c : Chip) → c.due ≡ due → is_taking (turn due asked late word c).did ≡ true → (turn due asked late word c).after.due ≡ false
turn-taken due asked late word c was taken = by_due (turn due asked late word c).after.due refl
  where
    by_due : (b : Bool) → (turn due asked late word c).after.due ≡ b → b ≡ false
    by_due false e = refl
    by_due true e = absurd (let did = (turn-due due asked late word c was e).3 in let ran_not : is_taking (turn due asked late word c).did ≡ false = ap is_taking did in cc)

-- An interrupt is requested only where interrupts are on.
pub requested-on : (c : Chip) → requested c.regs ≡ true → c.regs.intcon.b7 ≡ true
requested-on c request = (and_parts c.regs.intcon.b7 _ request).0

module _ (program : ℕ → ℕ) (outer : Outer) (c : Chip) where
  abbrev now : Chip
  now = with_outer outer c

  -- A step takes an interrupt only where one may be taken.
  pub taking-may : is_taking (boundary program outer c).did ≡ true → may_take (boundary program outer c).arrived ≡ true
  taking-may taken = by_due c.due (turn-takes c.due (requested now.regs) outer.late (program c.pc) now taken)
    where
      by_due : (due : Bool) → due || requested now.regs ≡ true → due || now.regs.intcon.b7 ≡ true
      by_due true either = refl
      by_due false either = requested-on now either

  -- One that is due is taken.
  pub due-taken : c.due ≡ true → is_taking (boundary program outer c).did ≡ true
  due-taken due = ap (λ (s : Step). is_taking s.did) (takes-due program outer c due)

  -- Where one is requested and none due, it is taken; or an instruction runs and then it is due.
  pub requested-taken : c.due ≡ false → requested now.regs ≡ true
      → (is_taking (boundary program outer c).did ≡ true) ⊎ (((boundary program outer c).did ≡ Ran c.pc (program c.pc)) × ((boundary program outer c).after.due ≡ true))
  requested-taken none_due request = turn-waits c.due (requested now.regs) outer.late (program c.pc) now none_due request

  -- After a step one is due only where it was requested and late, and an instruction ran.
  pub due-after : (boundary program outer c).after.due ≡ true
      → (c.due ≡ false) × (requested now.regs ≡ true) × (outer.late ≡ true) × ((boundary program outer c).did ≡ Ran c.pc (program c.pc))
  due-after due = turn-due c.due (requested now.regs) outer.late (program c.pc) now refl due

  -- After a taking none is due.
  pub taken-none_due : is_taking (boundary program outer c).did ≡ true → (boundary program outer c).after.due ≡ false
  taken-none_due taken = turn-taken c.due (requested now.regs) outer.late (program c.pc) now refl taken

-- A requested interrupt is taken at this step or the next.
pub taken-in_time : (program : ℕ → ℕ) (c : Chip) (outer : ℕ → Outer) (n : ℕ) → requested (log program c outer n).arrived.regs ≡ true
    → (is_taking (log program c outer n).did ≡ true) ⊎ (is_taking (log program c outer (suc n)).did ≡ true)
taken-in_time program c outer n request = by_due (after program c outer n).due refl
  where
    by_due : (due : Bool) → (after program c outer n).due ≡ due → (is_taking (log program c outer n).did ≡ true) ⊎ (is_taking (log program c outer (suc n)).did ≡ true)
    by_due true e = inl (due-taken program (outer n) (after program c outer n) e)
    by_due false e =
        elim (requested-taken program (outer n) (after program c outer n) e request) [
          | inl taken ↦ inl taken
          | inr waits ↦ inr (due-taken program (outer (suc n)) (after program c outer (suc n)) waits.1)
        ]

-- A latch sets a flag that was clear, and an arrival that merges leaves it set.
latch : (arrives is_set : Bool) → one_if is_set + one_if (arrives && not is_set) ≡ one_if (arrives || is_set)
latch true true = refl
latch true false = refl
latch false true = refl
latch false false = refl

-- An instruction but SLEEP runs on.
gives-goes_on : (d : Dest) (reg : Reg) (result : Outcome) (word : ℕ) (c x : Chip) → is_stop (ended word c (gives d reg result x)).did ≡ false
gives-goes_on W reg result word c x = refl
gives-goes_on F reg result word c x = refl

exec_on-stops : (i : Instr) (reg : Reg) (word : ℕ) (c x : Chip) → is_stop (ended word c (exec_on i reg x)).did ≡ cannot_run (Some i)
exec_on-stops Nop reg word c x = refl
exec_on-stops _ reg word c x = search (rules, gives-goes_on)

ran-stops : (word : ℕ) (o : Option Instr) (c : Chip) → is_stop (ran word o c).did ≡ cannot_run o
ran-stops word (Some i) c = exec_on-stops i (operand (field i) c.regs) word c (advanced c)
ran-stops word None c = refl

waited-goes_on : (word : ℕ) (c : Chip) (done : Option Done) → is_stop (waited word c done).did ≡ false
waited-goes_on word c (Some done) = refl
waited-goes_on word c None = refl

delayed-goes_on : (word : ℕ) (o : Option Instr) (c : Chip) → is_stop (delayed word o c).did ≡ false
delayed-goes_on word (Some i) c = waited-goes_on word c (exec i c)
delayed-goes_on word None c = refl

turn-stops : (due asked late : Bool) (word : ℕ) (c : Chip) → is_stop (turn due asked late word c).did ≡ (not (due || asked) && cannot_run (instruction_of word))
turn-stops true asked late word c = refl
turn-stops false true false word c = refl
turn-stops false true true word c = delayed-goes_on word (instruction_of word) c
turn-stops false false late word c = ran-stops word (instruction_of word) c

pub stops-exactly : (program : ℕ → ℕ) (outer : Outer) (c : Chip) → StopsExactly program outer c
stops-exactly program outer c = turn-stops c.due (requested (with_outer outer c).regs) outer.late (program c.pc) (with_outer outer c)
