-- Own steps: at more places, with more that may be written, what they leave, and own steps as boundaries of the chip.
use Rattle.std.proofs.Common.{◌≡◌, ℕ, zero, suc, ◌+◌, ◌<◌, ◌≤◌, ◌⊎◌, true, false, Option, Some, None, IfSome, ap, ◌∙◌, sym, refl, subst, arith, inl, inr}
use Rattle.pic_isa.specs.declared.instructions.Instr.{Instr}
use Rattle.pic_isa.specs.Instructions.{instruction_of}
use Rattle.pic_regs.specs.Registers.{requested}
use Rattle.pic_machine.specs.declared.steps.Did.TheVariants.{Ran}
use Rattle.pic_machine.specs.Chip.{Chip}
use Rattle.pic_machine.specs.Results.{Done}
use Rattle.pic_machine.specs.Boundary.{Outer, Turn, Step, ran, ended, waited, delayed, boundary}
use Rattle.pic_machine.specs.Run.{after}
use Rattle.pic_machine.proofs.TurnLaws.{with_outer, step_of, runs-word, delays-word}
use Rattle.code_steps.specs.Steps.{own_of, own, Comes}
use Rattle.code_steps.specs.Between.{Alone}
use Rattle.code_steps.specs.Ends.{Own, Between}
use Rattle.code_steps.proofs.JumpLaws.{Passes, PassesSettings}
use Rattle.code_steps.proofs.ComesLaws.{comes_keeping}
use Rattle.code_steps.proofs.BetweenLaws.{arrival_alone}

either_way : {A B C : Type 0} → (B → C) → A ⊎ B → A ⊎ C
either_way f (inl a) = inl a
either_way f (inr b) = inr (f b)

written_wider : (may also : ℕ → Type 0) → ((address : ℕ) → may address → also address) → (o : Option ℕ)
    → IfSome o (λ address. (address ≡ 0x003) ⊎ may address) → IfSome o (λ address. (address ≡ 0x003) ⊎ also address)
written_wider may also more (Some address) wrote = either_way (more address) wrote
written_wider may also more None wrote = tt

-- A step of a piece is a step of each larger piece, and of one that may write more.
pub own_wider : (may also : ℕ → Type 0) (start stop from to : ℕ) → ((address : ℕ) → may address → also address) → from ≤ start → stop ≤ to
    → (d : Chip) (done : Done) → Own may start stop d done → Own also from to d done
own_wider may also start stop from to more low high d done step =
    let first : start ≤ d.pc = step.from in
    let last : d.pc < stop = step.below in
    record {
      from = omega arith;
      below = omega arith;
      kept = step.kept;
      pclath = either_way (more 0x00A) step.pclath;
      plain = λ address. either_way (more address) (step.plain address);
      wrote = written_wider may also more done.wrote step.wrote;
      port = step.port;
    }

-- Jumps, skips and page settings are such steps.
pub own_passes : (may : ℕ → Type 0) (start stop : ℕ) → Passes (Between start stop) (Own may start stop)
own_passes may start stop d place inside = record {
  from = inside.0;
  below = inside.1;
  kept = refl;
  pclath = inl refl;
  plain = λ address. inl refl;
  wrote = tt;
  port = refl;
}

pub own_passes_settings : (may : ℕ → Type 0) (start stop : ℕ) → may 0x00A → PassesSettings (Between start stop) (Own may start stop)
own_passes_settings may start stop allowed d place pclath inside = record {
  from = inside.0;
  below = inside.1;
  kept = refl;
  pclath = inr allowed;
  plain = λ address. inl refl;
  wrote = inr allowed;
  port = refl;
}

-- A plain byte that R keeps and that may not be written is as before at the end.
either_left : {A B : Type 0} → (B → ⊥) → A ⊎ B → A
either_left none (inl a) = a
either_left none (inr b) = absurd (none b)

pub comes_frames : (program : ℕ → ℕ) (R : Chip → Chip → Type 0) (may : ℕ → Type 0) (start stop : ℕ) (Q : Chip → Type 0) (address : ℕ)
    → ((c d : Chip) → R c d → d.regs.plain address ≡ c.regs.plain address) → (may address → ⊥)
    → (k : ℕ) (c : Chip) → Comes program R (Own may start stop) Q k c
    → Comes program R (Own may start stop) (λ e. Q e × (e.regs.plain address ≡ c.regs.plain address)) k c
comes_frames program R may start stop Q address kept missed k c come =
    comes_keeping program R (Own may start stop) Q (λ e. e.regs.plain address ≡ c.regs.plain address)
    (λ x d r so_far. kept x d r ∙ so_far)
    (λ d done step so_far. either_left missed (step.plain address) ∙ so_far)
    k c refl come

-- An own step as a turn: where an interrupt is late it is due after it.
abbrev pub turned : ℕ → Chip → Done → Turn
turned word c done = record { after = done.chip; did = Ran c.pc word; wrote = done.wrote; port = done.port }

abbrev pub turned_late : ℕ → Chip → Done → Turn
turned_late word c done = record { after = record done.chip { due = true }; did = Ran c.pc word; wrote = done.wrote; port = done.port }

ran_own : (word : ℕ) (o : Option Instr) (c : Chip) (done : Done) → own_of o c ≡ Some done → ran word o c ≡ turned word c done
ran_own word (Some i) c done is = ap (ended word c) is
ran_own word None c done is = absurd (cc)

delayed_own : (word : ℕ) (o : Option Instr) (c : Chip) (done : Done) → own_of o c ≡ Some done → delayed word o c ≡ turned_late word c done
delayed_own word (Some i) c done is = ap (waited word c) is
delayed_own word None c done is = absurd (cc)

module _ (program : ℕ → ℕ) (outer : Outer) (c : Chip) (done : Done) (none_due : c.due ≡ false) (is : own program (with_outer outer c) ≡ Some done) where
  -- With none due and none requested a boundary is the own step of the chip with what came from outside.
  pub own_boundary : requested (with_outer outer c).regs ≡ false → boundary program outer c ≡ step_of outer c (turned (program c.pc) (with_outer outer c) done)
  own_boundary request =
      runs-word program outer c none_due request ∙ ap (step_of outer c) (ran_own (program c.pc) (instruction_of (program c.pc)) (with_outer outer c) done is)

  -- With one requested that is late, it is that step, and the interrupt is due after it.
  pub own_late : requested (with_outer outer c).regs ≡ true → outer.late ≡ true
      → boundary program outer c ≡ step_of outer c (turned_late (program c.pc) (with_outer outer c) done)
  own_late request late =
      delays-word program outer c none_due request late
      ∙ ap (step_of outer c) (delayed_own (program c.pc) (instruction_of (program c.pc)) (with_outer outer c) done is)

-- Nothing is due or requested at a boundary of a run.
abbrev pub IsQuiet : (ℕ → ℕ) → Chip → (ℕ → Outer) → ℕ → Type 0
IsQuiet program c outer n =
    ((after program c outer n).due ≡ false) × (requested (with_outer (outer n) (after program c outer n)).regs ≡ false)

-- Where code comes to something though anything may arrive, a run comes to it, if at its boundaries nothing is due or requested.
pub comes_alone : (program : ℕ → ℕ) (G : Chip → Done → Type 0) (Q : Chip → Type 0) (c : Chip) (outer : ℕ → Outer) (k n : ℕ)
    → Comes program Alone G Q k (after program c outer n) → ((j : ℕ) → n ≤ j → j < n + k → IsQuiet program c outer j)
    → (m : ℕ) × (n ≤ m) × (m ≤ n + k) × Q (after program c outer m)
comes_alone program G Q c outer zero n come quiet = (n, omega arith, omega arith, come)
comes_alone program G Q c outer (suc k) n (inl q) quiet = (n, omega arith, omega arith, q)
comes_alone program G Q c outer (suc k) n (inr goes) quiet =
    let here : Chip = after program c outer n in
    let step = goes (with_outer (outer n) here) (arrival_alone (outer n) here) in
    let now = quiet n (omega arith) (omega arith) in
    let left : (after program c outer (suc n)) ≡ step.0.chip = ap (λ (s : Step). s.after) (own_boundary program (outer n) here step.0 now.0 step.1 now.1) in
    let rest = comes_alone program G Q c outer k (suc n) (subst (Comes program Alone G Q k) (sym left) step.3) (λ j low high. quiet j (omega arith) (omega arith)) in
    (rest.0, (let low : suc n ≤ rest.0 = rest.1 in omega arith), (let high : rest.0 ≤ suc n + k = rest.2 in omega arith), rest.3)
