-- Stretches of glue: lines that stand from the program counter on, with steps of glue.
use Rattle.std.proofs.Common.{◌≡◌, ℕ, suc, ◌==◌, Bool, true, false, None, List, [], length, map, ap, ◌∙◌, sym, refl, subst, inr}
use Rattle.pic_regs.specs.declared.places.Place.TheVariants as place
use Rattle.pic_regs.specs.Bytes.{Byte}
use Rattle.pic_machine.specs.Results.{Done}
use Rattle.code_steps.specs.Steps.{Is, Comes}
use Rattle.code_steps.specs.Between.{Alone}
use Rattle.code_steps.specs.Ends.{Own, Between}
use Rattle.code_steps.specs.Laws.{Piece}
use Rattle.code_steps.proofs.ComesLaws.{own_is, comes_wider}
use Rattle.pic_machine.specs.Chip.{Chip, advanced}
use Rattle.code_acts.specs.Standing.{StandFrom}
use Rattle.glue_steps.specs.declared.lines.Line.{Line}
use Rattle.glue_steps.specs.declared.lines.Line.TheVariants.{Load}
use Rattle.glue_steps.specs.Tells.{Tells, Withstands, Given}
use Rattle.glue_steps.specs.Still.{Off, Still, StillAll}
use Rattle.glue_steps.specs.Lines.{instr_of, loaded, did}
use Rattle.glue_steps.specs.Stretches.{BankBits, Banked, Fits, Grants, ran_all, puts_of, HasEnables}
use Rattle.glue_steps.specs.Laws.{Glue, Passes, Straight, WorkTold, IntconTold}
use Rattle.glue_steps.proofs.TellsLaws.{tells_moves, tells_comes, tells_given}
use Rattle.glue_steps.proofs.StillLaws.{off_stays, still_off, still_all, still_work, still_line, given_still}
use Rattle.glue_steps.proofs.StraightLaws.{straight}
use Rattle.pic_machine.specs.declared.steps.PortWrite.{PortWrite}

-- Lines of glue, from a chip with GIE clear.
pub straight_still : (program : ℕ → ℕ) (In May : ℕ → Type 0) (Q : Chip → Type 0) → Withstands Q → (known : BankBits) (p : ℕ) (lines : List Line) (c : Chip)
    → Fits false known lines → StandFrom program p (map instr_of lines) → StillAll In May p lines → c.pc ≡ p → Banked known c → Off c
    → Q (ran_all false lines c) → Tells program (Still program In May) Q (puts_of false lines c []) (length lines) c
straight_still program In May Q stays known p lines c fits stand still at banked off q =
    tells_given program Off (Still program In May) Q off_stays (puts_of false lines c []) (length lines) c off
    (straight program (Given Off (Still program In May)) Q stays lines known p c fits stand (still_all program In May p lines still) at banked q)

pub straight_on : (program : ℕ → ℕ) (glue : Glue) (test : Chip → Bool) (known : BankBits) (p : ℕ) (lines : List Line) (c : Chip)
    → Straight program glue test known p lines c
straight_on program glue test known p lines c stays fits stand still at banked off passes =
    straight_still program (λ q. glue.inside q ≡ true) (λ address. glue.may address ≡ true) (Passes test) stays known p lines c fits stand still at banked off passes

-- Work whose code comes to something over arrivals comes to it as glue, where GIE is clear and none of its words is RETFIE's.
pub work_told : (program : ℕ → ℕ) (R : Chip → Chip → Type 0) → ((c d : Chip) → Alone c d → R c d) → (May : ℕ → Type 0) (start stop : ℕ)
    → ((p : ℕ) → Between start stop p → (program p == 0x0009) ≡ false) → (Q : Chip → Type 0) (k : ℕ) (c : Chip) → Off c
    → Comes program R (Own May start stop) Q k c → Tells program (Still program (Between start stop) May) Q [] k c
work_told program R narrow May start stop none Q k c off come =
    let Step : Chip → Done → Type 0 = Given Off (Still program (Between start stop) May) in
    tells_given program Off (Still program (Between start stop) May) Q off_stays [] k c off
    (tells_comes program Step Q k c
    (comes_wider program R Alone (Own May start stop) (λ d done. Step d done × (done.port ≡ None)) Q Q narrow
    (λ d done step. (
      (λ off_there.
          let still = still_work program (Between start stop) May none start stop d done (step.from, step.below) off_there step in
          (still, still_off program (Between start stop) May d done still)),
      step.port,
    ))
    (λ e q. q) k c come))

-- INTCON in W: the one line that reads flags.
pub intcon_loaded : (program : ℕ → ℕ) (G : Chip → Done → Type 0) (Q : Chip → Type 0) → Withstands Q → (p : ℕ) (later : List PortWrite) (k : ℕ) (c : Chip)
    → Is program p (instr_of (Load place.Intcon)) → Grants program G p (Load place.Intcon) → c.pc ≡ p
    → ((x : Byte) → HasEnables x c.regs.intcon → Tells program G Q later k (loaded x (advanced c)))
    → Tells program G Q later (suc k) c
intcon_loaded program G Q stays p later k c is grants at told = inr (λ d r.
    let here : d.pc ≡ p = ap (λ (y : Chip). y.pc) r.only ∙ at in
    let x : Byte = d.regs.intcon in
    let its : HasEnables x c.regs.intcon = ap (λ (y : Chip). y.regs.intcon) r.only in
    let moved : Alone (loaded x (advanced c)) (loaded x (advanced d)) =
    record { only = ap (λ (y : Chip). loaded x (advanced y)) r.only; flags = r.flags } in (
      did (Load place.Intcon) d,
      own_is program d (instr_of (Load place.Intcon)) (subst (λ q. Is program q (instr_of (Load place.Intcon))) (sym here) is),
      grants d here is,
      later,
      refl,
      tells_moves program G Q stays later k (loaded x (advanced c)) (loaded x (advanced d)) moved (told x its),
    ))

pub work_told_at : (program : ℕ → ℕ) (piece : Piece) (test : Chip → Bool) (k : ℕ) (c : Chip) → WorkTold program piece test k c
work_told_at program piece test k c none off come =
    work_told program Alone (λ x y r. r) (λ address. piece.may address ≡ true) piece.start piece.stop none (Passes test) k c off come

pub intcon_told : (program : ℕ → ℕ) (glue : Glue) (test : Chip → Bool) (p : ℕ) (later : List PortWrite) (k : ℕ) (c : Chip) → IntconTold program glue test p later k c
intcon_told program glue test p later k c stays is inside at off told =
    let In : ℕ → Type 0 = λ x. glue.inside x ≡ true in
    let May : ℕ → Type 0 = λ x. glue.may x ≡ true in
    let Q : Chip → Type 0 = Passes test in
    tells_given program Off (Still program In May) Q off_stays later (suc k) c off
    (intcon_loaded program (Given Off (Still program In May)) Q stays p later k c is (still_line program In May p (Load place.Intcon) refl inside tt) at
    (λ x its. given_still program In May Q later k (loaded x (advanced c)) (told x its)))
