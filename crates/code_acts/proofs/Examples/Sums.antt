-- The sum of two bytes and of two numbers of 16 bits: codes in several banks, words, soundness, and what they do.
use Rattle.std.proofs.Common.{◌≡◌, ℕ, Bool, true, false, nat_lt, ◌==◌, if◌then◌else◌, None, List, [], ◌∷◌, refl}
use Rattle.pic_isa.specs.declared.instructions.Dest.TheVariants.{W}
use Rattle.pic_isa.specs.declared.instructions.Instr.TheVariants.{Addwf, Movf, Movwf, Bcf, Bsf}
use Rattle.pic_regs.specs.Bytes.{bits, num, zeros}
use Rattle.code_steps.specs.declared.banks.Bank.TheVariants.{Known, Unknown}
use Rattle.code_acts.specs.declared.acts.Name.TheVariants.{Operand0, To, ToHigh, A, AHigh, B, BHigh}
use Rattle.code_acts.specs.declared.acts.FileOp.TheVariants.{Add, IncSkip, Mov}
use Rattle.code_acts.specs.declared.acts.Act.{Act}
use Rattle.code_acts.specs.declared.acts.Act.TheVariants.{File, Store, SkipCarry, Near}
use Rattle.code_acts.specs.Acts.{State, run}
use Rattle.code_acts.specs.Codes.{place_of, code, bank_after, sound, words}

abbrev sum : List Act
sum = File Mov A W ∷ File Add B W ∷ Store To ∷ []

abbrev wide_sum : List Act
wide_sum =
    File Mov AHigh W ∷ Store Operand0 ∷ File Mov A W ∷ File Add B W ∷ Store To ∷ File Mov BHigh W ∷ SkipCarry false ∷ File IncSkip BHigh W ∷ File Add Operand0 W
    ∷ Store ToHigh ∷ []

-- The same with bytes of two banks behind a skip.
abbrev two_banks : List Act
two_banks = SkipCarry false ∷ File Mov A W ∷ Store To ∷ []

-- The result lies in bank 1, A in bank 0, B in bank 2.
abbrev places : ℕ → ℕ
places = place_of (record { to = 0x0A0; to_high = 0x0A1; a = 0x020; a_high = 0x021; b = 0x110; b_high = 0x111; c = 0x022 })

abbrev uses : ℕ → Bool
uses n = nat_lt n 18

abbrev writes : ℕ → Bool
writes n = nat_lt n 14

-- From an unknown bank each change takes both bits; from a known one only those that differ.
codes_unknown : code places Unknown sum ≡ Bcf 3 5 ∷ Bcf 3 6 ∷ Movf 0x20 W ∷ Bsf 3 6 ∷ Addwf 0x10 W ∷ Bsf 3 5 ∷ Bcf 3 6 ∷ Movwf 0x20 ∷ []
codes_unknown = refl

codes_known : code places (Known 2) sum ≡ Bcf 3 6 ∷ Movf 0x20 W ∷ Bsf 3 6 ∷ Addwf 0x10 W ∷ Bsf 3 5 ∷ Bcf 3 6 ∷ Movwf 0x20 ∷ []
codes_known = refl

ends_in_bank : bank_after places Unknown sum ≡ Known 1
ends_in_bank = refl

-- At most nine words for any places, and at most 22.
words_of_sum : words None sum ≡ 9
words_of_sum = refl

words_of_wide : words None wide_sum ≡ 22
words_of_wide = refl

is_sound : sound uses writes None false wide_sum ≡ true
is_sound = refl

-- A skip at the end, a byte that may not be written, and an act behind a skip that may want a bank setting are unsound; the bank
-- may be chosen before the skip.
skip_at_end : sound uses writes None false (SkipCarry true ∷ []) ≡ false
skip_at_end = refl

written_operand : sound uses writes None false (Store A ∷ []) ≡ false
written_operand = refl

bank_behind_skip : sound uses writes None false two_banks ≡ false
bank_behind_skip = refl

bank_before_skip : sound uses writes None false (Near A ∷ two_banks) ≡ true
bank_before_skip = refl

-- 01FFh and 0203h give 0402h.
abbrev start : State
start = record {
  w = zeros;
  carry = false;
  zero = false;
  skip = false;
  mem = λ n. if n == 14 then bits 0xFF else if n == 15 then bits 0x01 else if n == 16 then bits 0x03 else if n == 17 then bits 0x02 else zeros;
}

adds_low : num ((run wide_sum start).mem 12) ≡ 0x02
adds_low = refl

adds_high : num ((run wide_sum start).mem 13) ≡ 0x04
adds_high = refl
