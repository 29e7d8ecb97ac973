use Rattle.std.proofs.Common.{◌≡◌, ℕ, Bool, true, false, if◌then◌else◌, Option, Some, None, refl, ap, sym, ◌∙◌}
use Rattle.pic_isa.specs.declared.instructions.Instr.{Instr}
use Rattle.pic_isa.specs.Instructions.{instruction_of}
use Rattle.pic_machine.specs.declared.steps.Did.TheVariants.{Ran}
use Rattle.pic_machine.specs.declared.steps.Why.TheVariants as why
use Rattle.pic_machine.specs.Boundary.{Turn, delayed, ended, ran, stopped, took, turn, waited}
use Rattle.pic_machine.specs.Chip.{Chip}
use Rattle.pic_machine.specs.Exec.{exec}
use Rattle.pic_machine.specs.Results.{Done}
use Rattle.pic_machine.specs.State.{cpu_of, turn_of}
use Rattle.pic_machine.proofs.cpu.Cpu.run.Goals.{then-asked, else-asked}
use Rattle.pic_machine.proofs.cpu.Cpu.run.Goals as goal

-- The turn of an instruction, by what it did.
abbrev turn_by : Bool → ℕ → Chip → Option Done → Turn
turn_by true word c did = waited word c did
turn_by false word c did = ended word c did

by_done : (asked : Bool) (word : ℕ) (i : Instr) (c : Chip) (end : Option Done) → instruction_of word ≡ Some i → exec i c ≡ end → turn_by asked word c end ≡ turn false asked true word c
by_done true word i c end its did = sym (ap (λ o. delayed word o c) its ∙ ap (waited word c) did)
by_done false word i c end its did = sym (ap (λ o. ran word o c) its ∙ ap (ended word c) did)

asleep : (asked : Bool) (word : ℕ) (c : Chip) → (if asked then took c else stopped why.Sleep c) ≡ turn_by asked word c None
asleep true word c = refl
asleep false word c = refl

pub returns-in_default-exec : goal.returns-in_default-exec
returns-in_default-exec c =
    let word = c.args.cell.now.word in
    let asked = c.args.asked in
    let old : Chip = cpu_of c.args.self.now in
    let its_word = sym c.args.cell.now.decoded ∙ c.in-Some.is in
    c.give_up-in_default-exec.ensures
    ∙ ap (λ (d : Chip). if asked then took d else stopped why.Sleep d) (c.exec.ensures.stays c.in_default-exec.is)
    ∙ asleep asked word old
    ∙ by_done asked word c.in-Some.i old None its_word c.in_default-exec.ensures.done

pub returns : goal.returns
returns c =
    let word = c.args.cell.now.word in
    let old : Chip = cpu_of c.args.self.now in
    let effect = c.in-Some-exec.effect in
    let its_word = sym c.args.cell.now.decoded ∙ c.in-Some.is in
    let shown : (new : Chip) → turn_of c.ran_at.result new ≡ turn_of (record { did = Ran old.pc word; wrote = effect.wrote; port = effect.port }) new =
    λ new. ap (λ t. turn_of t new) c.ran_at.ensures ∙ ap (λ a. turn_of (record { did = Ran a word; wrote = effect.wrote; port = effect.port }) new) c.pc-address.ensures.address in
    let told : (asked : Bool) → turn_by asked word old (Some (record { chip = cpu_of c.exec.new.self; wrote = effect.wrote; port = effect.port })) ≡ turn false asked true word old =
    λ asked. by_done asked word c.in-Some.i old _ its_word c.in-Some-exec.ensures.done in
    elim c.if-asked.branch [
      | then-asked w ↦ ap (λ s. turn_of c.ran_at.result (cpu_of s)) w.self-is ∙ shown (record (cpu_of c.exec.new.self) { due = true }) ∙ told true ∙ sym (ap (λ asked. turn false asked true word old) w.if-asked.true)
      | else-asked w ↦ ap (λ s. turn_of c.ran_at.result (cpu_of s)) w.self-is ∙ shown (cpu_of c.exec.new.self) ∙ told false ∙ sym (ap (λ asked. turn false asked true word old) w.if-asked.false)
    ]
