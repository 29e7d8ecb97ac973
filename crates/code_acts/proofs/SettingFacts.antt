-- Bank settings: what they leave, and that code behind them runs in the bank that is wanted.
use Rattle.std.proofs.Common.{◌≡◌, ℕ, suc, ◌+◌, ◌/◌, ◌%◌, ◌<◌, ◌≤◌, Bool, true, false, ◌==◌, if◌then◌else◌, Option, Some, None, List, [], ◌∷◌, length, ◌∙◌, sym, refl, subst, arith, inl, inr}
use Rattle.pic_isa.specs.declared.instructions.Instr.{Instr}
use Rattle.pic_regs.specs.Bytes.{Byte}
use Rattle.pic_machine.specs.Chip.{Chip, advanced}
use Rattle.pic_machine.specs.Results.{Done}
use Rattle.pic_machine.specs.Exec.{exec}
use Rattle.code_steps.specs.declared.banks.Bank.{Bank}
use Rattle.code_steps.specs.declared.banks.Bank.TheVariants.{Known, Unknown}
use Rattle.code_steps.specs.Steps.{Is, own, Comes}
use Rattle.code_steps.specs.Between.{Others}
use Rattle.code_steps.specs.Ends.{Own, Holds}
use Rattle.code_steps.proofs.ComesLaws.{own_is}
use Rattle.code_acts.specs.Codes.{low_bit, high_bit, status_setting, bit_setting, settings, moved}

-- Instructions stand from a place on, by places that don't go around; this is what standing is where there is room.
abbrev pub Line : (program : ℕ → ℕ) → ℕ → List Instr → Type 0
Line program p [] = Unit {0}
Line program p (i ∷ more) = Is program p i × Line program (p + 1) more

-- A bank bit, by its number in STATUS, and the chip after its setting.
abbrev pub bit_number : (high : Bool) → ℕ
bit_number true = 6
bit_number false = 5

abbrev pub bank_bit : (high : Bool) → Chip → Bool
bank_bit true c = c.regs.status.b6
bank_bit false c = c.regs.status.b5

abbrev pub with_bank_bit : (high v : Bool) → Byte → Byte
with_bank_bit true v status = record status { b6 = v }
with_bank_bit false v status = record status { b5 = v }

abbrev pub bit_set : (high v : Bool) → Chip → Chip
bit_set high v c = record (advanced c) { regs = record c.regs { status = with_bank_bit high v c.regs.status } }

abbrev pub bit_done : (high v : Bool) → Chip → Done
bit_done high v c = record { chip = bit_set high v c; wrote = Some 0x003; port = None }

bit_step : (high v : Bool) (c : Chip) → exec (status_setting (bit_number high) v) c ≡ Some (bit_done high v c)
bit_step true true c = refl
bit_step true false c = refl
bit_step false true c = refl
bit_step false false c = refl

own_bit : (may : ℕ → Type 0) (start stop : ℕ) (high v : Bool) (d : Chip) → start ≤ d.pc → d.pc < stop → Own may start stop d (bit_done high v d)
own_bit may start stop true v d from below =
    record { from = from; below = below; kept = refl; pclath = inl refl; plain = λ address. inl refl; wrote = inl refl; port = refl }
own_bit may start stop false v d from below =
    record { from = from; below = below; kept = refl; pclath = inl refl; plain = λ address. inl refl; wrote = inl refl; port = refl }

bit_is_set : (high v : Bool) (d : Chip) → bank_bit high (bit_set high v d) ≡ v
bit_is_set true v d = refl
bit_is_set false v d = refl

-- A bit is what is known of it.
abbrev pub BitIs : Option Bool → Bool → Type 0
BitIs None b = Unit {0}
BitIs (Some known) b = b ≡ known

-- The chip is at this place, or past its first instruction where that is skipped, with room for the instructions that stand
-- there before `stop`.
pub record At (program : ℕ → ℕ) (start stop : ℕ) (skip : Bool) (p : ℕ) (instrs : List Instr) (c : Chip) : Type 0 where
  pub pc : c.pc ≡ (if skip then p + 1 else p) % 8192
  pub from : start ≤ p
  pub ends : p + length instrs ≡ stop
  pub top : stop ≤ 8192
  pub line : Line program p instrs

module _ (program : ℕ → ℕ) (R : Chip → Chip → Type 0) (narrow : (c d : Chip) → R c d → Others c d) (may : ℕ → Type 0) (start stop : ℕ) (Q : Chip → Type 0) where
  -- Code comes from each chip at its place with J.
  abbrev pub Goes : (J : Chip → Type 0) → List Instr → Type 0
  Goes J instrs = (p : ℕ) (c : Chip) → At program start stop false p instrs c → J c → Comes program R (Own may start stop) Q (length instrs) c

  -- One instruction before the rest: its step is known on each chip to which R leads.
  pub one_before : (i : Instr) (rest : List Instr) (p : ℕ) (c : Chip) → At program start stop false p (i ∷ rest) c
      → ((d : Chip) → R c d → d.pc ≡ p → start ≤ d.pc → d.pc < stop
      → (done : Done) × (exec i d ≡ Some done) × Own may start stop d done × Comes program R (Own may start stop) Q (length rest) done.chip)
      → Comes program R (Own may start stop) Q (length (i ∷ rest)) c
  one_before i rest p c at goes = inr (λ d r.
      let ends : p + suc (length rest) ≡ stop = at.ends in
      let top : stop ≤ 8192 = at.top in
      let from : start ≤ p = at.from in
      let here : c.pc ≡ p % 8192 = at.pc in
      let there : d.pc ≡ c.pc = (narrow c d r).pc in
      let place : d.pc ≡ p = omega arith in
      let step = goes d r place (omega arith) (omega arith) in
      let left : own program d ≡ exec i d = own_is program d i (subst (λ q. Is program q i) (sym place) at.line.0) in
      (step.0, ◌∙◌ {c = Some step.0} left step.1, step.2, step.3))

  module _ (J : Chip → Type 0) (stays : (c d : Chip) → R c d → J c → J d) (high : Bool) (sets : (v : Bool) (d : Chip) → J d → J (bit_set high v d)) where
    set_before : (v : Bool) (rest : List Instr) → Goes (λ d. J d × (bank_bit high d ≡ v)) rest → Goes J (status_setting (bit_number high) v ∷ rest)
    set_before v rest goes p c at j = one_before (status_setting (bit_number high) v) rest p c at (λ d r place from below. (
      bit_done high v d,
      bit_step high v d,
      own_bit may start stop high v d from below,
      goes (p + 1) (bit_set high v d)
          (let ends : p + suc (length rest) ≡ stop = at.ends in
          let low : start ≤ p = at.from in
          let same : d.pc ≡ p = place in
          record { pc = omega arith; from = omega arith; ends = omega arith; top = at.top; line = at.line.1 })
          (sets v d (stays c d r j), bit_is_set high v d),
    ))

    -- The setting of one bank bit, left out where it is known to be right.
    pub bit_before : (known : Option Bool) (v : Bool) (rest : List Instr) → Goes (λ d. J d × (bank_bit high d ≡ v)) rest
        → Goes (λ d. J d × BitIs known (bank_bit high d)) (bit_setting (bit_number high) known v rest)
    bit_before None v rest goes p c at j = set_before v rest goes p c at j.0
    bit_before (Some true) true rest goes p c at j = goes p c at j
    bit_before (Some true) false rest goes p c at j = set_before false rest goes p c at j.0
    bit_before (Some false) true rest goes p c at j = set_before true rest goes p c at j.0
    bit_before (Some false) false rest goes p c at j = goes p c at j

  -- What is known of the bits of a bank.
  bits_of : (bank : Bank) (c : Chip) → Holds bank c → BitIs (low_bit bank) (bank_bit false c) × BitIs (high_bit bank) (bank_bit true c)
  bits_of Unknown c holds = (tt, tt)
  bits_of (Known k) c holds = (holds.1, holds.0)

  known_stays : (known : Option Bool) (b e : Bool) → e ≡ b → BitIs known b → BitIs known e
  known_stays None b e same is = tt
  known_stays (Some k) b e same is = same ∙ is

  -- The settings before code that runs in the bank that is wanted.
  pub settings_before : (I : Chip → Type 0) (stays : (c d : Chip) → R c d → I c → I d) (sets : (high v : Bool) (d : Chip) → I d → I (bit_set high v d))
      → (bank : Bank) (target : Option ℕ) (rest : List Instr) → Goes (λ d. I d × Holds (moved bank target) d) rest
      → Goes (λ d. I d × Holds bank d) (settings bank target rest)
  settings_before I stays sets bank None rest goes = goes
  settings_before I stays sets bank (Some k) rest goes = λ p c at j.
      let low = k % 2 == 1 in
      let high = k / 2 == 1 in
      let known = bits_of bank c j.1 in
      bit_before (λ d. I d × BitIs (high_bit bank) (bank_bit true d))
      (λ x y r i. (stays x y r i.0, known_stays (high_bit bank) (bank_bit true x) (bank_bit true y) (narrow x y r).rp1 i.1))
      false
      (λ v d i. (sets false v d i.0, i.1))
      (low_bit bank) low (bit_setting 6 (high_bit bank) high rest)
      (λ q d there i. bit_before (λ e. I e × (bank_bit false e ≡ low))
      (λ x y r g. (stays x y r g.0, (narrow x y r).rp0 ∙ g.1))
      true
      (λ v e g. (sets true v e g.0, g.1))
      (high_bit bank) high rest
      (λ o e here g. goes o e here (g.0.0, (g.1, g.0.1)))
      q d there ((i.0.0, i.1), i.0.1))
      p c at ((j.0, known.1), known.0)
