-- Reads, writes, flags and requests, by the data sheet's rules.
use Rattle.std.proofs.Common.{◌≡◌, ℕ, true, false, [], ◌∷◌, map, replicate, refl}
use Rattle.pic_isa.specs.declared.sources.Source.{Source}
use Rattle.pic_isa.specs.declared.sources.Source.TheVariants.{T0, Int, Psp, Ad, Ssp, Ccp1, Tmr2, Tmr1, Ee, Bcl, Ccp2}
use Rattle.pic_isa.specs.Sources.{flag_of, enable_of}
use Rattle.pic_regs.specs.declared.starts.Start.{Start}
use Rattle.pic_regs.specs.Bytes.{num, bits, bit}
use Rattle.pic_regs.specs.Map.{reg_at}
use Rattle.pic_regs.specs.Registers.{Registers, read, write, with_pins, flag, enable, requested}
use Rattle.pic_regs.specs.Arrivals.{set_of, number_of, latched, merged, arrived}
use Rattle.pic_regs.specs.Start.{registers_on}

-- Registers after power-on, with RAM of zeros and no flag of STATUS.
abbrev fresh : Registers
fresh = registers_on (record { ram = replicate 368 0; w = 0; flags = 0 })

-- Bytes written at addresses, in order, and bytes read.
abbrev written : ℕ → ℕ → Registers → Registers
written address byte r = write (reg_at address) (bits byte) r

abbrev seen : ℕ → Registers → ℕ
seen address r = num (read (reg_at address) r)

-- Power-on.
status_at_power_on : seen 0x003 (registers_on (record { ram = replicate 368 0; w = 0; flags = 0xFD })) ≡ 0x1D
status_at_power_on = refl

inputs_at_power_on : map (λ address. seen address fresh) (0x085 ∷ 0x086 ∷ 0x087 ∷ 0x088 ∷ 0x089 ∷ []) ≡ 0x3F ∷ 0xFF ∷ 0xFF ∷ 0xFF ∷ 0x07 ∷ []
inputs_at_power_on = refl

option_and_pr2_at_power_on : map (λ address. seen address fresh) (0x081 ∷ 0x092 ∷ 0x001 ∷ 0x00B ∷ 0x004 ∷ []) ≡ 0xFF ∷ 0xFF ∷ 0 ∷ 0 ∷ 0 ∷ []
option_and_pr2_at_power_on = refl

abbrev two_bytes : Start
two_bytes = record { ram = 0x11 ∷ 0x22 ∷ []; w = 0; flags = 0 }

ram_at_power_on : map (λ address. seen address (registers_on two_bytes)) (0x020 ∷ 0x021 ∷ []) ≡ 0x11 ∷ 0x22 ∷ []
ram_at_power_on = refl

-- Ports. With TRISB F0h, the upper half of PORTB reads its pins and the lower half its latch.
abbrev mixed : Registers
mixed = with_pins 1 (bits 0x3C) (written 0x006 0x5A (written 0x086 0xF0 fresh))

mixed_port : seen 0x006 mixed ≡ 0x3A
mixed_port = refl

mixed_port_in_bank_2 : seen 0x106 mixed ≡ 0x3A
mixed_port_in_bank_2 = refl

latch_of_mixed_port : num (mixed.latch 1) ≡ 0x5A
latch_of_mixed_port = refl

porta_has_six_bits : seen 0x005 (written 0x005 0xFF (written 0x085 0x00 fresh)) ≡ 0x3F
porta_has_six_bits = refl

porta_has_six_pins : seen 0x005 (with_pins 0 (bits 0xFF) fresh) ≡ 0x3F
porta_has_six_pins = refl

porte_has_three_bits : seen 0x009 (written 0x009 0xFF (written 0x089 0x00 fresh)) ≡ 0x07
porte_has_three_bits = refl

trisa_has_six_bits : seen 0x085 (written 0x085 0xFF fresh) ≡ 0x3F
trisa_has_six_bits = refl

trise_lacks_bit_3 : seen 0x089 (written 0x089 0xFF fresh) ≡ 0xF7
trise_lacks_bit_3 = refl

-- Bits that do not exist, or can't be written.
pclath_has_five_bits : seen 0x00A (written 0x00A 0xFF fresh) ≡ 0x1F
pclath_has_five_bits = refl

pir1_lacks_bits_5_and_4 : seen 0x00C (written 0x00C 0xFF fresh) ≡ 0xCF
pir1_lacks_bits_5_and_4 = refl

pir2_has_bits_4_3_and_0 : seen 0x00D (written 0x00D 0xFF fresh) ≡ 0x19
pir2_has_bits_4_3_and_0 = refl

to_and_pd_stay_set : seen 0x003 (written 0x003 0x00 fresh) ≡ 0x18
to_and_pd_stay_set = refl

to_and_pd_stay_clear : seen 0x003 (written 0x003 0xFF (record fresh { status = bits 0x00 })) ≡ 0xE7
to_and_pd_stay_clear = refl

-- Places without a register of their own.
absent_reads_0 : seen 0x08F (written 0x08F 0xFF fresh) ≡ 0
absent_reads_0 = refl

absent_ignores_writes : written 0x08F 0xFF fresh ≡ fresh
absent_ignores_writes = refl

indf_ignores_writes : written 0x180 0xFF fresh ≡ fresh
indf_ignores_writes = refl

pcl_ignores_writes : written 0x082 0xFF fresh ≡ fresh
pcl_ignores_writes = refl

-- Mirrors.
status_through_bank_3 : seen 0x083 (written 0x183 0x80 fresh) ≡ 0x98
status_through_bank_3 = refl

trisb_through_bank_3 : seen 0x086 (written 0x186 0x0F fresh) ≡ 0x0F
trisb_through_bank_3 = refl

common_ram_through_bank_2 : map (λ address. seen address (written 0x171 0x42 fresh)) (0x071 ∷ 0x0F1 ∷ 0x1F1 ∷ 0x070 ∷ []) ≡ 0x42 ∷ 0x42 ∷ 0x42 ∷ 0 ∷ []
common_ram_through_bank_2 = refl

same_low_bits_in_four_banks :
    map (λ address. seen address (written 0x020 1 (written 0x0A0 2 (written 0x120 3 (written 0x1A0 4 fresh))))) (0x020 ∷ 0x0A0 ∷ 0x120 ∷ 0x1A0 ∷ []) ≡ 1 ∷ 2 ∷ 3 ∷ 4 ∷ []
same_low_bits_in_four_banks = refl

-- A source's flag and enable stand where its row of the table of sources says, whatever the registers hold.
flags_stand_in_the_table : (source : Source) (r : Registers) → flag source r ≡ bit (flag_of source).bit (read (reg_at (flag_of source).address) r)
flags_stand_in_the_table T0 r = refl
flags_stand_in_the_table Int r = refl
flags_stand_in_the_table Psp r = refl
flags_stand_in_the_table Ad r = refl
flags_stand_in_the_table Ssp r = refl
flags_stand_in_the_table Ccp1 r = refl
flags_stand_in_the_table Tmr2 r = refl
flags_stand_in_the_table Tmr1 r = refl
flags_stand_in_the_table Ee r = refl
flags_stand_in_the_table Bcl r = refl
flags_stand_in_the_table Ccp2 r = refl

enables_stand_in_the_table : (source : Source) (r : Registers) → enable source r ≡ bit (enable_of source).bit (read (reg_at (enable_of source).address) r)
enables_stand_in_the_table T0 r = refl
enables_stand_in_the_table Int r = refl
enables_stand_in_the_table Psp r = refl
enables_stand_in_the_table Ad r = refl
enables_stand_in_the_table Ssp r = refl
enables_stand_in_the_table Ccp1 r = refl
enables_stand_in_the_table Tmr2 r = refl
enables_stand_in_the_table Tmr1 r = refl
enables_stand_in_the_table Ee r = refl
enables_stand_in_the_table Bcl r = refl
enables_stand_in_the_table Ccp2 r = refl

-- Requests: INTCON, PIE1, PIR1, PIE2 and PIR2.
abbrev with_interrupts : ℕ → ℕ → ℕ → ℕ → ℕ → Registers
with_interrupts intcon pie1 pir1 pie2 pir2 = written 0x00B intcon (written 0x08C pie1 (written 0x00C pir1 (written 0x08D pie2 (written 0x00D pir2 fresh))))

t0_requested : requested (with_interrupts 0xA4 0 0 0 0) ≡ true
t0_requested = refl

int_requested : requested (with_interrupts 0x92 0 0 0 0) ≡ true
int_requested = refl

rb_requested : requested (with_interrupts 0x89 0 0 0 0) ≡ true
rb_requested = refl

no_request_without_gie : requested (with_interrupts 0x7F 0xFF 0xFF 0xFF 0xFF) ≡ false
no_request_without_gie = refl

no_request_without_a_pair : requested (with_interrupts 0xCA 0xF0 0x0F 0x18 0x01) ≡ false
no_request_without_a_pair = refl

tmr1_without_peie : requested (with_interrupts 0x80 0x01 0x01 0 0) ≡ false
tmr1_without_peie = refl

tmr1_with_peie : requested (with_interrupts 0xC0 0x01 0x01 0 0) ≡ true
tmr1_with_peie = refl

ccp2_without_peie : requested (with_interrupts 0x80 0 0 0x01 0x01) ≡ false
ccp2_without_peie = refl

ccp2_with_peie : requested (with_interrupts 0xC0 0 0 0x01 0x01) ≡ true
ccp2_with_peie = refl

bits_that_do_not_exist_request_nothing : requested (record fresh { intcon = bits 0xC0; pie1 = bits 0x30; pir1 = bits 0x30; pie2 = bits 0xE6; pir2 = bits 0xE6 }) ≡ false
bits_that_do_not_exist_request_nothing = refl

-- Arrivals. 02Bh are T0, INT, AD and CCP1; 72Ah are INT, AD, CCP1, EE, BCL and CCP2.
sets_are_numbers : number_of (set_of 0x72A) ≡ 0x72A
sets_are_numbers = refl

all_arrive : map (λ address. seen address (arrived (set_of 0x7FF) fresh)) (0x00B ∷ 0x00C ∷ 0x00D ∷ []) ≡ 0x06 ∷ 0xCF ∷ 0x19 ∷ []
all_arrive = refl

some_arrive : map (λ address. seen address (arrived (set_of 0x02B) fresh)) (0x00B ∷ 0x00C ∷ 0x00D ∷ []) ≡ 0x06 ∷ 0x44 ∷ 0x00 ∷ []
some_arrive = refl

some_are_merged : number_of (merged (set_of 0x72A) (arrived (set_of 0x02B) fresh)) ≡ 0x02A
some_are_merged = refl

others_are_latched : number_of (latched (set_of 0x72A) (arrived (set_of 0x02B) fresh)) ≡ 0x700
others_are_latched = refl
