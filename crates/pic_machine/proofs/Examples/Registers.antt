-- STATUS as a destination, INDF through FSR, places that are not implemented, and ports, by the data sheet's rules
-- and this project's own choices.
use Rattle.std.specs.Prelude.{ℕ}
use Rattle.std.proofs.Common.{◌≡◌, refl, [], ◌∷◌, Some, None}
use Rattle.pic_regs.specs.Bytes.{num, bits}
use Rattle.pic_regs.specs.Registers.{with_pins}
use Rattle.pic_machine.specs.Chip.{Chip}
use Rattle.pic_machine.proofs.SettingFacts.{fresh, with_w, with_status, with_byte, step_of, run_word, run_words, at, w_and_status}

-- SWAPF STATUS,W from STATUS 1Dh, and the way that firmware saves STATUS and brings it back.
swapf_status : w_and_status (run_word 0x0E03 (with_status 0x1D fresh)) ≡ (0xD1, 0x1D)
swapf_status = refl

status_saved_and_brought_back : at 0x003 (run_words (0x0E03 ∷ 0x00FD ∷ 0x0E7D ∷ 0x0083 ∷ []) (with_status 0x1D fresh)) ≡ 0x1D
status_saved_and_brought_back = refl

-- The flags are computed; of the result, 00h, bits 7 to 5 alone count.
addwf_status : at 0x003 (run_word 0x0783 (with_w 0xE3 (with_status 0x1D fresh))) ≡ 0x1F
addwf_status = refl

addwf_status_upper_bits : at 0x003 (run_word 0x0783 (with_w 0xC3 (with_status 0x1D fresh))) ≡ 0xFA
addwf_status_upper_bits = refl

clrf_status : at 0x003 (run_word 0x0183 (with_status 0xFF fresh)) ≡ 0x1F
clrf_status = refl

clrf_status_keeps_clear_flags : at 0x003 (run_word 0x0183 (with_status 0xF8 fresh)) ≡ 0x1C
clrf_status_keeps_clear_flags = refl

-- RLF STATUS gives C, and Z and DC stay.
rlf_status : at 0x003 (run_word 0x0D83 (with_status 0x56 fresh)) ≡ 0xB6
rlf_status = refl

movwf_status_leaves_to_and_pd_set : at 0x003 (run_word 0x0083 (with_w 0x00 (with_status 0x1F fresh))) ≡ 0x18
movwf_status_leaves_to_and_pd_set = refl

movwf_status_leaves_to_and_pd_clear : at 0x003 (run_word 0x0083 (with_w 0xFF (with_status 0x00 fresh))) ≡ 0xE7
movwf_status_leaves_to_and_pd_clear = refl

bcf_leaves_to : at 0x003 (run_word 0x1203 (with_status 0x1F fresh)) ≡ 0x1F
bcf_leaves_to = refl

bsf_status_z : at 0x003 (run_word 0x1503 (with_status 0x18 fresh)) ≡ 0x1C
bsf_status_z = refl

clrwdt_sets_to_and_pd : at 0x003 (run_word 0x0064 (with_status 0xE7 fresh)) ≡ 0xFF
clrwdt_sets_to_and_pd = refl

clrf_status_through_its_mirror : at 0x003 (run_word 0x0183 (with_status 0x7F fresh)) ≡ 0x1F
clrf_status_through_its_mirror = refl

-- 0180h is CLRF INDF; FSR 83h.
clrf_status_through_indf : at 0x003 (run_word 0x0180 (with_byte 0x004 0x83 (with_status 0xFF fresh))) ≡ 0x1F
clrf_status_through_indf = refl

clrf_status_through_indf_wrote : (step_of 0x0180 (with_byte 0x004 0x83 (with_status 0xFF fresh))).wrote ≡ Some 0x003
clrf_status_through_indf_wrote = refl

-- Reads and writes through FSR in four banks: IRP gives the upper bit. 0080h is MOVWF INDF, 0800h MOVF INDF,W.
abbrev through_fsr : ℕ → ℕ → Chip
through_fsr status fsr = run_word 0x0080 (with_w 0x5A (with_byte 0x004 fsr (with_status status fresh)))

write_in_bank_0 : at 0x025 (through_fsr 0x18 0x25) ≡ 0x5A
write_in_bank_0 = refl

write_in_bank_1 : at 0x0A5 (through_fsr 0x18 0xA5) ≡ 0x5A
write_in_bank_1 = refl

write_in_bank_2 : at 0x125 (through_fsr 0x98 0x25) ≡ 0x5A
write_in_bank_2 = refl

write_in_bank_3 : at 0x1A5 (through_fsr 0x98 0xA5) ≡ 0x5A
write_in_bank_3 = refl

bank_bits_do_not_count : at 0x025 (through_fsr 0x78 0x25) ≡ 0x5A
bank_bits_do_not_count = refl

only_there : at 0x0A5 (through_fsr 0x98 0xA5) ≡ 0x00
only_there = refl

abbrev from_fsr : ℕ → ℕ → Chip
from_fsr status fsr =
    run_word 0x0800 (with_byte 0x004 fsr (with_status status (with_byte 0x025 1 (with_byte 0x0A5 2 (with_byte 0x125 3 (with_byte 0x1A5 4 fresh))))))

read_in_bank_0 : w_and_status (from_fsr 0x18 0x25) ≡ (1, 0x18)
read_in_bank_0 = refl

read_in_bank_1 : w_and_status (from_fsr 0x18 0xA5) ≡ (2, 0x18)
read_in_bank_1 = refl

read_in_bank_2 : w_and_status (from_fsr 0x98 0x25) ≡ (3, 0x98)
read_in_bank_2 = refl

read_in_bank_3 : w_and_status (from_fsr 0x98 0xA5) ≡ (4, 0x98)
read_in_bank_3 = refl

-- INDF by itself.
indf_by_itself_reads_0 : w_and_status (run_word 0x0800 (with_w 0x33 (with_byte 0x004 0x80 fresh))) ≡ (0, 0x1C)
indf_by_itself_reads_0 = refl

indf_by_itself_writes_nothing : (run_word 0x0080 (with_w 0x33 (with_byte 0x004 0x80 (with_status 0x98 fresh)))).regs ≡ (with_byte 0x004 0x80 (with_status 0x98 fresh)).regs
indf_by_itself_writes_nothing = refl

indf_by_itself_wrote_nothing : (step_of 0x0080 (with_w 0x33 fresh)).wrote ≡ None
indf_by_itself_wrote_nothing = refl

-- INCFSZ INDF by itself gives 1, and DECFSZ INDF FFh: neither skips.
incfsz_of_indf_by_itself : (run_word 0x0F80 fresh).pc ≡ 1
incfsz_of_indf_by_itself = refl

decfsz_of_indf_by_itself : w_and_status (run_word 0x0B00 fresh) ≡ (0xFF, 0x18)
decfsz_of_indf_by_itself = refl

-- PCL through FSR.
pcl_through_indf : (run_word 0x0080 (with_w 0x21 (with_byte 0x00A 0x04 (with_byte 0x004 0x02 fresh)))).pc ≡ 0x0421
pcl_through_indf = refl

-- 08Fh is not implemented: 008Fh is MOVWF 0Fh and 080Fh MOVF 0Fh,W, in bank 1.
absent_reads_0 : w_and_status (run_word 0x080F (with_w 0x33 (with_status 0x38 fresh))) ≡ (0, 0x3C)
absent_reads_0 = refl

absent_ignores_writes : (run_word 0x008F (with_w 0x33 (with_status 0x38 fresh))).regs ≡ (with_status 0x38 fresh).regs
absent_ignores_writes = refl

absent_wrote_nothing : (step_of 0x008F (with_w 0x33 (with_status 0x38 fresh))).wrote ≡ None
absent_wrote_nothing = refl

-- A port with TRISB F0h, latch 5Ah and pins 3Ch: it reads 3Ah, and BSF PORTB,0 writes 3Bh to the latch.
abbrev mixed_port : Chip
mixed_port =
    let c = with_byte 0x006 0x5A (with_byte 0x086 0xF0 fresh) in
    record c { regs = with_pins 1 (bits 0x3C) c.regs }

mixed_port_read : w_and_status (run_word 0x0806 mixed_port) ≡ (0x3A, 0x18)
mixed_port_read = refl

bsf_on_mixed_port : num ((run_word 0x1406 mixed_port).regs.latch 1) ≡ 0x3B
bsf_on_mixed_port = refl

bsf_on_mixed_port_wrote : (step_of 0x1406 mixed_port).wrote ≡ Some 0x006
bsf_on_mixed_port_wrote = refl

bsf_on_mixed_port_shows : (step_of 0x1406 mixed_port).port ≡ Some (record { port = 1; byte = 0x3B })
bsf_on_mixed_port_shows = refl

portb_in_bank_2 : (step_of 0x1406 (with_byte 0x003 0x40 mixed_port)).wrote ≡ Some 0x006
portb_in_bank_2 = refl

-- The whole result is put on PORTA, which keeps six bits.
whole_result_on_porta : (step_of 0x0085 (with_w 0xFF fresh)).port ≡ Some (record { port = 0; byte = 0xFF })
whole_result_on_porta = refl

six_bits_of_porta : num ((run_word 0x0085 (with_w 0xFF fresh)).regs.latch 0) ≡ 0x3F
six_bits_of_porta = refl

-- What counts as written.
movf_to_itself_writes : (step_of 0x08A0 fresh).wrote ≡ Some 0x020
movf_to_itself_writes = refl

movf_to_w_writes_nothing : (step_of 0x0820 fresh).wrote ≡ None
movf_to_w_writes_nothing = refl

retfie_writes_nothing : (step_of 0x0009 fresh).wrote ≡ None
retfie_writes_nothing = refl

clrwdt_writes_nothing : (step_of 0x0064 fresh).wrote ≡ None
clrwdt_writes_nothing = refl

common_ram_in_bank_3_is_written_low : (step_of 0x00F3 (with_status 0x78 fresh)).wrote ≡ Some 0x073
common_ram_in_bank_3_is_written_low = refl
