-- Results and flags, by the data sheet's rules. STATUS is 18h with no flag; Z counts 4 in it, DC 2 and C 1.
use Rattle.std.specs.Prelude.{ℕ, ◌+◌}
use Rattle.std.proofs.Common.{◌≡◌, refl}
use Rattle.pic_machine.specs.Chip.{Chip}
use Rattle.pic_machine.proofs.SettingFacts.{fresh, with_w, with_status, with_byte, run_word, at, w_and_status}

-- A word run with W and the byte at 020h given, all flags set before.
abbrev on : ℕ → ℕ → ℕ → Chip
on w f word = run_word word (with_status 0x1F (with_w w (with_byte 0x020 f fresh)))

-- 0720h is ADDWF 20h,W.
addwf_no_carry : w_and_status (on 0x12 0x34 0x0720) ≡ (0x46, 0x18)
addwf_no_carry = refl

addwf_half_carry : w_and_status (on 0x0F 0x01 0x0720) ≡ (0x10, 0x1A)
addwf_half_carry = refl

addwf_carry : w_and_status (on 0xF0 0x20 0x0720) ≡ (0x10, 0x19)
addwf_carry = refl

addwf_carry_and_zero : w_and_status (on 0x80 0x80 0x0720) ≡ (0x00, 0x1D)
addwf_carry_and_zero = refl

addwf_all_flags : w_and_status (on 0xFF 0x01 0x0720) ≡ (0x00, 0x1F)
addwf_all_flags = refl

-- 0220h is SUBWF 20h,W: f - W.
subwf_no_borrow : w_and_status (on 0x03 0x05 0x0220) ≡ (0x02, 0x1B)
subwf_no_borrow = refl

subwf_borrow : w_and_status (on 0x05 0x03 0x0220) ≡ (0xFE, 0x18)
subwf_borrow = refl

subwf_half_borrow : w_and_status (on 0x01 0x10 0x0220) ≡ (0x0F, 0x19)
subwf_half_borrow = refl

subwf_borrow_of_the_upper_half : w_and_status (on 0x10 0x0F 0x0220) ≡ (0xFF, 0x1A)
subwf_borrow_of_the_upper_half = refl

subwf_zero : w_and_status (on 0x05 0x05 0x0220) ≡ (0x00, 0x1F)
subwf_zero = refl

-- 3C02h is SUBLW 02h: k - W.
sublw_no_borrow : w_and_status (on 0x01 0 0x3C02) ≡ (0x01, 0x1B)
sublw_no_borrow = refl

sublw_zero : w_and_status (on 0x02 0 0x3C02) ≡ (0x00, 0x1F)
sublw_zero = refl

sublw_borrow : w_and_status (on 0x03 0 0x3C02) ≡ (0xFF, 0x18)
sublw_borrow = refl

sublw_half_borrow : w_and_status (on 0x03 0 0x3C12) ≡ (0x0F, 0x19)
sublw_half_borrow = refl

-- 3E15h is ADDLW 15h.
addlw_no_carry : w_and_status (on 0x10 0 0x3E15) ≡ (0x25, 0x18)
addlw_no_carry = refl

addlw_half_carry : w_and_status (on 0x0F 0 0x3E0F) ≡ (0x1E, 0x1A)
addlw_half_carry = refl

addlw_carry : w_and_status (on 0xF1 0 0x3E20) ≡ (0x11, 0x19)
addlw_carry = refl

addlw_all_flags : w_and_status (on 0x01 0 0x3EFF) ≡ (0x00, 0x1F)
addlw_all_flags = refl

-- To the register: 07A0h is ADDWF 20h,F, and W stays.
addwf_to_register : at 0x020 (on 0x12 0x34 0x07A0) ≡ 0x46
addwf_to_register = refl

addwf_to_register_keeps_w : w_and_status (on 0x12 0x34 0x07A0) ≡ (0x12, 0x18)
addwf_to_register_keeps_w = refl

-- Z alone: C and DC stay 1.
andwf : w_and_status (on 0xF0 0x3C 0x0520) ≡ (0x30, 0x1B)
andwf = refl

andwf_zero : w_and_status (on 0xF0 0x0F 0x0520) ≡ (0x00, 0x1F)
andwf_zero = refl

iorwf : w_and_status (on 0xF0 0x3C 0x0420) ≡ (0xFC, 0x1B)
iorwf = refl

xorwf : w_and_status (on 0xF0 0x3C 0x0620) ≡ (0xCC, 0x1B)
xorwf = refl

comf : w_and_status (on 0 0x13 0x0920) ≡ (0xEC, 0x1B)
comf = refl

decf_around : w_and_status (on 0 0x00 0x0320) ≡ (0xFF, 0x1B)
decf_around = refl

decf_zero : w_and_status (on 0 0x01 0x0320) ≡ (0x00, 0x1F)
decf_zero = refl

incf_around : w_and_status (on 0 0xFF 0x0A20) ≡ (0x00, 0x1F)
incf_around = refl

movf_zero : w_and_status (on 0x55 0x00 0x0820) ≡ (0x00, 0x1F)
movf_zero = refl

andlw : w_and_status (on 0xA3 0 0x395F) ≡ (0x03, 0x1B)
andlw = refl

iorlw : w_and_status (on 0x9A 0 0x3835) ≡ (0xBF, 0x1B)
iorlw = refl

xorlw : w_and_status (on 0xB5 0 0x3AAF) ≡ (0x1A, 0x1B)
xorlw = refl

clrw : w_and_status (on 0x5A 0 0x0100) ≡ (0x00, 0x1F)
clrw = refl

clrf : at 0x020 (on 0 0x5A 0x01A0) ≡ 0x00
clrf = refl

-- No flags.
movlw : w_and_status (on 0 0 0x305A) ≡ (0x5A, 0x1F)
movlw = refl

movwf : at 0x020 (on 0x4F 0 0x00A0) ≡ 0x4F
movwf = refl

swapf : w_and_status (on 0 0xA5 0x0E20) ≡ (0x5A, 0x1F)
swapf = refl

nop : w_and_status (on 0x12 0x34 0x0000) ≡ (0x12, 0x1F)
nop = refl

bcf : at 0x020 (on 0 0xC7 0x13A0) ≡ 0x47
bcf = refl

bsf : at 0x020 (on 0 0x0A 0x17A0) ≡ 0x8A
bsf = refl

-- Turns through C. 0D20h is RLF 20h,W and 0C20h RRF 20h,W.
abbrev with_c : ℕ → ℕ → ℕ → Chip
with_c c f word = run_word word (with_status (0x18 + c) (with_byte 0x020 f fresh))

rlf_into_c : w_and_status (with_c 0 0xE6 0x0D20) ≡ (0xCC, 0x19)
rlf_into_c = refl

rlf_out_of_c : w_and_status (with_c 1 0x01 0x0D20) ≡ (0x03, 0x18)
rlf_out_of_c = refl

rrf_out_of_no_c : w_and_status (with_c 0 0xE6 0x0C20) ≡ (0x73, 0x18)
rrf_out_of_no_c = refl

rrf_through_c : w_and_status (with_c 1 0x01 0x0C20) ≡ (0x80, 0x19)
rrf_through_c = refl
