-- The work of a run on the chip: it comes to its lock, whatever runs of others do between; and a late interrupt at the lock brings it back.
use Rattle.std.proofs.Common.{◌≡◌, ℕ, zero, suc, ◌+◌, ◌%◌, ◌<◌, ◌≤◌, ◌==◌, Bool, true, false, Option, Some, None, List, length, refl, sym, ap, subst, ◌∙◌, arith, inl, inr}
use Rattle.std.proofs.Common.{eqb-true}
use Rattle.frp_tree.specs.Tree.{ProgramTree}
use Rattle.efrp_meaning.specs.States.{IsState}
use Rattle.pic_isa.specs.Instructions.{instruction_of}
use Rattle.pic_regs.specs.Bytes.{Byte}
use Rattle.pic_regs.specs.Map.{Pclath, existing}
use Rattle.pic_machine.specs.Chip.{Chip}
use Rattle.pic_machine.specs.Results.{Done}
use Rattle.map_file.specs.declared.maps.Map.{Map}
use Rattle.code_steps.specs.declared.banks.Bank.{Bank}
use Rattle.code_steps.specs.declared.banks.Bank.TheVariants.{Known}
use Rattle.code_steps.specs.Steps.{Comes, own, own_of}
use Rattle.code_steps.specs.Between.{Alone, Others}
use Rattle.code_steps.specs.Ends.{Between, Holds, with_work_of}
use Rattle.code_steps.proofs.ComesLaws.{comes_longer}
use Rattle.code_items.specs.declared.items.Item.{Item}
use Rattle.code_items.specs.Lines.{Stands}
use Rattle.firmware_parts.specs.Layout.{Easy, Layout}
use Rattle.firmware_parts.specs.Layout.Part.{Work}
use Rattle.firmware_parts.specs.Runs.{AtLock, Clean, Reacts, Returned, Void, WorkStep}
use Rattle.firmware_parts.specs.Work.{AtEnd, AtWork, DoesWork, WorkOwn}

-- What code comes to, where each of its own steps is known to be more than was said.
pub comes_by : (program : ℕ → ℕ) (R S : Chip → Chip → Type 0) (G H : Chip → Done → Type 0) (P Q : Chip → Type 0)
    → ((c d : Chip) → S c d → R c d) → ((d : Chip) (done : Done) → own program d ≡ Some done → G d done → H d done) → ((c : Chip) → P c → Q c)
    → (k : ℕ) (c : Chip) → Comes program R G P k c → Comes program S H Q k c
comes_by program R S G H P Q narrow steps ends zero c p = ends c p
comes_by program R S G H P Q narrow steps ends (suc k) c (inl p) = inl (ends c p)
comes_by program R S G H P Q narrow steps ends (suc k) c (inr goes) =
    inr (λ d s. let step = goes d (narrow c d s) in (step.0, step.1, steps d step.0 step.1 step.2, comes_by program R S G H P Q narrow steps ends k step.0.chip step.3))

-- RETFIE moves the top of the return stack, so a step of work isn't one.
top_moves : (n : ℕ) → (n + 7) % 8 ≡ n → ⊥
top_moves n same = omega arith

abbrev top_of : ℕ → Option Done → ℕ
top_of other (Some done) = done.chip.top
top_of other None = other

no_return_by : (program : ℕ → ℕ) (d : Chip) (done : Done) → own program d ≡ Some done → done.chip.top ≡ d.top → (b : Bool) → (program d.pc == 0x0009) ≡ b → b ≡ false
no_return_by program d done is same false test = refl
no_return_by program d done is same true test =
    let nine : program d.pc ≡ 9 = eqb-true (program d.pc) 9 test in
    let found : own_of (instruction_of 9) d ≡ Some done = ap (λ w. own_of (instruction_of w) d) (sym nine) ∙ is in
    let moved : (d.top + 7) % 8 ≡ done.chip.top = ap (top_of 0) found in
    absurd (top_moves d.top (moved ∙ same))

pub no_return_in : (program : ℕ → ℕ) (d : Chip) (done : Done) → own program d ≡ Some done → done.chip ≡ with_work_of done.chip d → (program d.pc == 0x0009) ≡ false
no_return_in program d done is kept = no_return_by program d done is (ap (λ (x : Chip). x.top) kept) (program d.pc == 9) refl

-- PCLATH is easy where it is the same.
pub easy_same : (l : Layout) (c d : Chip) → d.regs.pclath ≡ c.regs.pclath → Easy l c → Easy l d
easy_same l c d same easy = record {
  whole = subst (λ (x : Byte). existing Pclath x ≡ x) (sym same) easy.whole;
  page = λ short. same ∙ easy.page short;
}

-- A step of the items of work is a step of work.
module _ (l : Layout) (e start stop : ℕ) (inside : (place : ℕ) → Between start stop place → l.inside (Work e) place ≡ true) (lock : l.lock e ≡ stop) where
  work_step : (d : Chip) (done : Done) → own l.program d ≡ Some done → WorkOwn l e start stop d done → WorkStep l e d done
  work_step d done is step = record {
    inside = inside d.pc (step.own.from, step.own.below);
    no_lock = λ there. let below = step.own.below in let at : d.pc ≡ stop = there ∙ lock in absurd (omega (arith, below, at));
    no_return = no_return_in l.program d done is step.own.kept;
    kept = step.own.kept;
    easy = easy_same l d done.chip step.page;
    usual = λ locked usual. record {
      easy = easy_same l d done.chip step.page usual.easy;
      bank = λ unsaved. step.bank locked unsaved (usual.bank unsaved);
      page = λ unsaved. step.page ∙ usual.page unsaved;
    };
    plain = step.own.plain;
    wrote = step.own.wrote;
    port = step.own.port;
  }

module _ (p : ProgramTree) (m : Map) (l : Layout) (marks : ℕ → ℕ) (most e start q : ℕ) (bank : Bank) (items : List Item) (works : DoesWork p m l most bank e items)
    (stands : Stands l.paged l.program marks start items q) (room : start + length items < 8192) (lock : l.lock e ≡ start + length items) (banks : l.bank e ≡ bank)
    (inside : (place : ℕ) → Between start (start + length items) place → l.inside (Work e) place ≡ true) where
  at_work : (c : Chip) → c.pc ≡ start → Holds (Known 0) c → AtWork l l.paged marks q items c
  at_work c at holds = record {
    pc = omega arith;
    room = omega arith;
    stand = subst (λ r. Stands l.paged l.program marks r items q) (sym at) stands;
    holds = holds;
  }

  at_lock : (c d : Chip) → c.pc ≡ start → AtEnd bank c items d → AtLock l e d
  at_lock c d at end =
      let there = end.there in
      let place : d.pc ≡ start + length items = omega (arith, there, at) in
      record { there = place ∙ sym lock; bank = subst (λ b. Holds b d) (sym banks) end.bank }

  steps_at : (c : Chip) → c.pc ≡ start → (d : Chip) (done : Done) → own l.program d ≡ Some done → WorkOwn l e c.pc (c.pc + length items) d done → WorkStep l e d done
  steps_at c at d done is step =
      work_step l e start (start + length items) inside lock d done is (subst (λ r. WorkOwn l e r (r + length items) d done) at step)

  pub work_void : (k : ℕ) (c : Chip) → length items ≤ k → c.pc ≡ start → Holds (Known 0) c → Void l e k c
  work_void k c enough at holds =
      comes_longer l.program Returned (WorkStep l e) (AtLock l e) (length items) k c enough
      (comes_by l.program Others Returned (WorkOwn l e c.pc (c.pc + length items)) (WorkStep l e) (AtEnd bank c items) (AtLock l e)
      (λ x y r. r.others) (steps_at c at) (λ d end. at_lock c d at end) (length items) c (works.ends l.paged marks q c (at_work c at holds)))

  pub work_clean : (k : ℕ) (c : Chip) → length items ≤ k → c.pc ≡ start → Holds (Known 0) c → IsState p (l.states c.regs.plain) → Clean p m l e k c
  work_clean k c enough at holds state =
      comes_longer l.program Alone (WorkStep l e) (λ d. AtLock l e d × Reacts p m l e d.regs.plain) (length items) k c enough
      (comes_by l.program Alone Alone (WorkOwn l e c.pc (c.pc + length items)) (WorkStep l e) (λ d. AtEnd bank c items d × Reacts p m l e d.regs.plain)
      (λ d. AtLock l e d × Reacts p m l e d.regs.plain) (λ x y r. r) (steps_at c at) (λ d end. (at_lock c d at end.0, end.1)) (length items) c
      (works.reacts l.paged marks q c (at_work c at holds) state))
