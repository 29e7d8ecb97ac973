-- Own steps of glue as boundaries of the chip: with GIE clear none is requested, so a late interrupt changes nothing.
use Rattle.std.proofs.Common.{◌≡◌, ℕ, Bool, false, ◌&&◌, ◌||◌, Option, Some, None, List, ap, ◌∙◌, sym, subst, inl, inr}
use Rattle.std.specs.List.{cons_option}
use Rattle.pic_isa.specs.declared.instructions.Instr.{Instr}
use Rattle.pic_isa.specs.Instructions.{instruction_of}
use Rattle.pic_regs.specs.Map.{Pir1, Pir2}
use Rattle.pic_regs.specs.Bytes.{share_a_bit}
use Rattle.pic_regs.specs.Registers.{read, requested}
use Rattle.pic_machine.specs.declared.steps.PortWrite.{PortWrite}
use Rattle.pic_machine.specs.Chip.{Chip, advanced}
use Rattle.pic_machine.specs.Results.{Done}
use Rattle.pic_machine.specs.Exec.{operand, field}
use Rattle.pic_machine.specs.Boundary.{Outer, Step, boundary}
use Rattle.pic_machine.proofs.TurnLaws.{with_outer, step_of, due_of, exec_on-due}
use Rattle.code_steps.specs.Steps.{own_of, own}
use Rattle.code_steps.proofs.BetweenLaws.{arrival_alone}
use Rattle.code_steps.proofs.OwnLaws.{turned, own_boundary}
use Rattle.glue_steps.specs.Still.{Off}
use Rattle.glue_steps.specs.Tells.{Tells}
use Rattle.glue_steps.specs.Laws.{Glue, StillIn, Passes, BoundaryTold}

-- An own step leaves whether an interrupt is due.
due_by : (o : Option Instr) (d : Chip) (done : Done) → own_of o d ≡ Some done → done.chip.due ≡ d.due
due_by (Some i) d done is = sym (ap (due_of d.due) is) ∙ exec_on-due i (operand (field i) d.regs) (advanced d)
due_by None d done is = absurd (cc)

-- With GIE clear nothing is requested.
pub none_requested : (c : Chip) → Off c → requested c.regs ≡ false
none_requested c off =
    let r = c.regs in
    ap (λ gie. gie && (r.intcon.b5 && r.intcon.b2 || r.intcon.b4 && r.intcon.b1 || r.intcon.b3 && r.intcon.b0
    || r.intcon.b6 && (share_a_bit r.pie1 (read Pir1 r) || share_a_bit r.pie2 (read Pir2 r)))) off

-- So a boundary at which none is due is the own step of the chip with what came from outside, late or not.
pub off_boundary : (program : ℕ → ℕ) (outer : Outer) (c : Chip) (done : Done) → c.due ≡ false → Off c → own program (with_outer outer c) ≡ Some done
    → boundary program outer c ≡ step_of outer c (turned (program c.pc) (with_outer outer c) done)
off_boundary program outer c done none_due off is = own_boundary program outer c done none_due is (none_requested (with_outer outer c) off)

-- Code that has something still to do takes its own step there.
pub boundary_told : (program : ℕ → ℕ) (glue : Glue) (test : Chip → Bool) (puts : List PortWrite) (k : ℕ) (c : Chip) (outer : Outer)
    → BoundaryTold program glue test puts k c outer
boundary_told program glue test puts k c outer none_due off (inl here) = inl here
boundary_told program glue test puts k c outer none_due off (inr goes) =
    let step = goes (with_outer outer c) (arrival_alone outer c) in
    let done : Done = step.0 in
    let is = off_boundary program outer c done none_due off step.1 in
    let after = ap (λ (s : Step). s.after) is in
    let port = ap (λ (s : Step). s.port) is in
    inr (record {
      done = done;
      is_own = step.1;
      still = step.2;
      after = after;
      did = ap (λ (s : Step). s.did) is;
      wrote = ap (λ (s : Step). s.wrote) is;
      port = port;
      none_due = ap (λ (x : Chip). x.due) after ∙ due_by (instruction_of (program c.pc)) (with_outer outer c) done step.1 ∙ none_due;
      rest = step.3;
      puts_first = step.4 ∙ ap (λ put. cons_option put step.3) (sym port);
      goes_on = subst (Tells program (StillIn program glue) (Passes test) step.3 k) (sym after) step.5;
    })
