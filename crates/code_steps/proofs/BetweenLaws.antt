-- What may come between is one of its kind in two parts too, elsewhere too, and arrivals are the least of it.
use Rattle.std.proofs.Common.{◌≡◌, ℕ, zero, suc, ◌+◌, ◌*◌, ◌/◌, ◌%◌, ◌<◌, ◌||◌, ◌==◌, ap, ap₂, ◌∙◌, refl, arith}
use Rattle.std.proofs.Math.Bool.{or-true}
use Rattle.pic_regs.specs.Bytes.{Byte, one_if}
use Rattle.pic_regs.proofs.ArrivalLaws.{flag-arrived}
use Rattle.pic_machine.specs.Chip.{Chip, bank}
use Rattle.pic_machine.specs.Boundary.{Outer}
use Rattle.pic_machine.proofs.TurnLaws.{with_outer}
use Rattle.code_steps.specs.declared.banks.Bank.{Bank}
use Rattle.code_steps.specs.declared.banks.Bank.TheVariants.{Known, Unknown}
use Rattle.code_steps.specs.Between.{Others, Keeps, Alone, with_outside_of, placed_at, IsFrame}
use Rattle.code_steps.specs.Ends.{Holds, Ended}

-- Others' runs.
pub others_frame : IsFrame Others
others_frame = record {
  same = λ c. record { pc = refl; rp1 = refl; rp0 = refl; pclath = refl };
  pc = λ c d r. r.pc;
  pclath = λ c d r. r.pclath;
  joined = λ c d e r s. record { pc = s.pc ∙ r.pc; rp1 = s.rp1 ∙ r.rp1; rp0 = s.rp0 ∙ r.rp0; pclath = s.pclath ∙ r.pclath };
  moved = λ place pclath c d r. record { pc = refl; rp1 = r.rp1; rp0 = r.rp0; pclath = refl };
}

-- Arrivals alone.
pub alone_frame : IsFrame Alone
alone_frame = record {
  same = λ c. record { only = refl; flags = λ source set. set };
  pc = λ c d r. ap (λ (x : Chip). x.pc) r.only;
  pclath = λ c d r. ap (λ (x : Chip). x.regs.pclath) r.only;
  joined = λ c d e r s. record { only = s.only ∙ ap (with_outside_of e) r.only; flags = λ source set. s.flags source (r.flags source set) };
  moved = λ place pclath c d r. record { only = ap (placed_at place pclath) r.only; flags = r.flags };
}

-- What arrives at a boundary is such a change.
pub arrival_alone : (outer : Outer) (c : Chip) → Alone c (with_outer outer c)
arrival_alone outer c = record {
  only = refl;
  flags = λ source set. flag-arrived source outer.arrivals c.regs ∙ ap (λ b. outer.arrivals source || b) set ∙ or-true (outer.arrivals source);
}

-- Arrivals alone change no register that code works with; who keeps these keeps the place, the bank and PCLATH.
pub alone_keeps : (uses : ℕ → Type 0) (c d : Chip) → Alone c d → Keeps uses c d
alone_keeps uses c d r = record {
  pc = ap (λ (x : Chip). x.pc) r.only;
  w = ap (λ (x : Chip). x.w) r.only;
  status = ap (λ (x : Chip). x.regs.status) r.only;
  pclath = ap (λ (x : Chip). x.regs.pclath) r.only;
  cells = λ address used. ap (λ (x : Chip). x.regs.plain address) r.only;
}

pub keeps_others : (uses : ℕ → Type 0) (c d : Chip) → Keeps uses c d → Others c d
keeps_others uses c d r = record {
  pc = r.pc;
  rp1 = ap (λ (s : Byte). s.b6) r.status;
  rp0 = ap (λ (s : Byte). s.b5) r.status;
  pclath = r.pclath;
}

pub alone_others : (c d : Chip) → Alone c d → Others c d
alone_others c d r = keeps_others (λ address. ⊥) c d (alone_keeps (λ address. ⊥) c d r)

-- Fewer bytes may be used.
pub keeps_fewer : (uses also : ℕ → Type 0) (c d : Chip) → ((address : ℕ) → also address → uses address) → Keeps uses c d → Keeps also c d
keeps_fewer uses also c d fewer r = record { pc = r.pc; w = r.w; status = r.status; pclath = r.pclath; cells = λ address used. r.cells address (fewer address used) }

-- What is known of the bank stays known, and so does the end.
pub holds_stays : (bank : Bank) (c d : Chip) → Others c d → Holds bank c → Holds bank d
holds_stays Unknown c d r h = tt
holds_stays (Known k) c d r h = (r.rp1 ∙ h.0, r.rp0 ∙ h.1)

pub ended_stays : (place : ℕ) (bank : Bank) (c d : Chip) → Others c d → Ended place bank c → Ended place bank d
ended_stays place bank c d r end = (r.pc ∙ end.0, holds_stays bank c d r end.1)

-- The bank is the one that is known.
known_bank : (k : ℕ) → k < 4 → 2 * one_if (k / 2 == 1) + one_if (k % 2 == 1) ≡ k
known_bank zero below = refl
known_bank (suc zero) below = refl
known_bank (suc (suc zero)) below = refl
known_bank (suc (suc (suc zero))) below = refl
known_bank (suc (suc (suc (suc k)))) below = absurd (omega arith)

pub holds_bank : (k : ℕ) (c : Chip) → k < 4 → Holds (Known k) c → bank c.regs ≡ k
holds_bank k c below h = ap₂ (λ p q. 2 * one_if p + one_if q) h.0 h.1 ∙ known_bank k below
