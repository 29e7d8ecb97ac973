-- The register map, by the data sheet's table of data memory.
use Rattle.std.proofs.Common.{◌≡◌, ℕ, zero, suc, ◌+◌, ◌*◌, ◌/◌, ◌%◌, ◌<◌, Bool, true, false, ◌&&◌, not, nat_le, ◌==◌, [], ◌∷◌, map, Option, Some, None, refl, ap, ◌∙◌, arith}
use Rattle.pic_isa.specs.Names.{setup_registers, ports as port_names}
use Rattle.pic_regs.specs.Bytes.{one_if}
use Rattle.pic_regs.specs.Map.{Indf, Pcl, Status, Fsr, Pclath, Intcon, Pir1, Pir2, Pie1, Pie2, Port, Tris, reg_at, reg_in, canonical}
use Rattle.pic_regs.specs.Start.{ram_place}

abbrev is_none : Option ℕ → Bool
is_none None = true
is_none (Some n) = false

-- Addresses below n that pass a test, counted.
count : (ℕ → Bool) → ℕ → ℕ
count test zero = 0
count test (suc n) = one_if (test n) + count test n

indf_in_each_bank : map reg_at (0x000 ∷ 0x080 ∷ 0x100 ∷ 0x180 ∷ []) ≡ Indf ∷ Indf ∷ Indf ∷ Indf ∷ []
indf_in_each_bank = refl

pcl_in_each_bank : map reg_at (0x002 ∷ 0x082 ∷ 0x102 ∷ 0x182 ∷ []) ≡ Pcl ∷ Pcl ∷ Pcl ∷ Pcl ∷ []
pcl_in_each_bank = refl

status_in_each_bank : map reg_at (0x003 ∷ 0x083 ∷ 0x103 ∷ 0x183 ∷ []) ≡ Status ∷ Status ∷ Status ∷ Status ∷ []
status_in_each_bank = refl

fsr_in_each_bank : map reg_at (0x004 ∷ 0x084 ∷ 0x104 ∷ 0x184 ∷ []) ≡ Fsr ∷ Fsr ∷ Fsr ∷ Fsr ∷ []
fsr_in_each_bank = refl

pclath_in_each_bank : map reg_at (0x00A ∷ 0x08A ∷ 0x10A ∷ 0x18A ∷ []) ≡ Pclath ∷ Pclath ∷ Pclath ∷ Pclath ∷ []
pclath_in_each_bank = refl

intcon_in_each_bank : map reg_at (0x00B ∷ 0x08B ∷ 0x10B ∷ 0x18B ∷ []) ≡ Intcon ∷ Intcon ∷ Intcon ∷ Intcon ∷ []
intcon_in_each_bank = refl

flags_and_enables : map reg_at (0x00C ∷ 0x00D ∷ 0x08C ∷ 0x08D ∷ []) ≡ Pir1 ∷ Pir2 ∷ Pie1 ∷ Pie2 ∷ []
flags_and_enables = refl

ports : map reg_at (0x005 ∷ 0x006 ∷ 0x007 ∷ 0x008 ∷ 0x009 ∷ 0x106 ∷ []) ≡ Port 0 ∷ Port 1 ∷ Port 2 ∷ Port 3 ∷ Port 4 ∷ Port 1 ∷ []
ports = refl

tris : map reg_at (0x085 ∷ 0x086 ∷ 0x087 ∷ 0x088 ∷ 0x089 ∷ 0x186 ∷ []) ≡ Tris 0 ∷ Tris 1 ∷ Tris 2 ∷ Tris 3 ∷ Tris 4 ∷ Tris 1 ∷ []
tris = refl

tmr0_and_option : map canonical (0x001 ∷ 0x101 ∷ 0x081 ∷ 0x181 ∷ []) ≡ Some 0x001 ∷ Some 0x001 ∷ Some 0x081 ∷ Some 0x081 ∷ []
tmr0_and_option = refl

-- TMR1L, ADCON0, PCON, SSPCON2, SSPSTAT, TXSTA, SPBRG, ADRESL, ADCON1, EEDATA, EEADRH, EECON1, EECON2
special_registers :
    map canonical (0x00E ∷ 0x01F ∷ 0x08E ∷ 0x091 ∷ 0x094 ∷ 0x098 ∷ 0x099 ∷ 0x09E ∷ 0x09F ∷ 0x10C ∷ 0x10F ∷ 0x18C ∷ 0x18D ∷ [])
    ≡ Some 0x00E ∷ Some 0x01F ∷ Some 0x08E ∷ Some 0x091 ∷ Some 0x094 ∷ Some 0x098 ∷ Some 0x099 ∷ Some 0x09E ∷ Some 0x09F ∷ Some 0x10C ∷ Some 0x10F ∷ Some 0x18C ∷ Some 0x18D ∷ []
special_registers = refl

edges_of_ram :
    map canonical (0x020 ∷ 0x07F ∷ 0x0A0 ∷ 0x0EF ∷ 0x110 ∷ 0x16F ∷ 0x190 ∷ 0x1EF ∷ [])
    ≡ Some 0x020 ∷ Some 0x07F ∷ Some 0x0A0 ∷ Some 0x0EF ∷ Some 0x110 ∷ Some 0x16F ∷ Some 0x190 ∷ Some 0x1EF ∷ []
edges_of_ram = refl

common_ram_in_each_bank :
    map canonical (0x0F0 ∷ 0x0FF ∷ 0x170 ∷ 0x17F ∷ 0x1F0 ∷ 0x1FF ∷ []) ≡ Some 0x070 ∷ Some 0x07F ∷ Some 0x070 ∷ Some 0x07F ∷ Some 0x070 ∷ Some 0x07F ∷ []
common_ram_in_each_bank = refl

not_implemented :
    map canonical (0x08F ∷ 0x090 ∷ 0x095 ∷ 0x096 ∷ 0x097 ∷ 0x09A ∷ 0x09B ∷ 0x09C ∷ 0x09D ∷ 0x105 ∷ 0x107 ∷ 0x108 ∷ 0x109 ∷ 0x185 ∷ 0x187 ∷ 0x188 ∷ 0x189 ∷ 0x18E ∷ 0x18F ∷ [])
    ≡ None ∷ None ∷ None ∷ None ∷ None ∷ None ∷ None ∷ None ∷ None ∷ None ∷ None ∷ None ∷ None ∷ None ∷ None ∷ None ∷ None ∷ None ∷ None ∷ []
not_implemented = refl

-- These nineteen and no others.
nineteen_are_not_implemented : count (λ address. is_none (canonical address)) 512 ≡ 19
unfolding count
nineteen_are_not_implemented = refl

-- An address's lowest address means the same register, and is not above it.
abbrev same : Option ℕ → Option ℕ → Bool
same None None = true
same (Some a) (Some b) = a == b
same _ _ = false

abbrev is_low : ℕ → Option ℕ → Bool
is_low address None = true
is_low address (Some low) = nat_le low address && same (canonical low) (Some low)

lowest_addresses_are_low : count (λ address. is_low address (canonical address)) 512 ≡ 512
unfolding count
lowest_addresses_are_low = refl

-- The lowest addresses of general RAM are those that have a place among the 368 bytes, in rising order.
abbrev holds_ram : ℕ → Bool
holds_ram address = not (is_none (ram_place address)) && same (canonical address) (Some address)

ram_has_368_bytes : count holds_ram 512 ≡ 368
unfolding count
ram_has_368_bytes = refl

places_of_ram :
    map ram_place (0x01F ∷ 0x020 ∷ 0x07F ∷ 0x0A0 ∷ 0x0EF ∷ 0x0F0 ∷ 0x110 ∷ 0x16F ∷ 0x190 ∷ 0x1EF ∷ [])
    ≡ None ∷ Some 0 ∷ Some 95 ∷ Some 96 ∷ Some 175 ∷ None ∷ Some 176 ∷ Some 271 ∷ Some 272 ∷ Some 367 ∷ []
places_of_ram = refl

-- An address is a bank and seven bits.
pub reg_at-bank : (bank f : ℕ) → f < 128 → reg_at (128 * bank + f) ≡ reg_in bank f
reg_at-bank bank f below =
    let address : ℕ = 128 * bank + f in
    ap (λ b. reg_in b (address % 128)) (let b : address / 128 ≡ bank = omega (arith, below) in b)
    ∙ ap (reg_in bank) (let r : address % 128 ≡ f = omega (arith, below) in r)

-- A setup names a register by its lowest address, and a port's number counts from 005h.
setup_registers_are_low : map (λ entry. canonical entry.1) setup_registers ≡ map (λ entry. Some entry.1) setup_registers
setup_registers_are_low = refl

ports_by_number : map (λ entry. reg_at (0x005 + entry.1)) port_names ≡ map (λ entry. Port entry.1) port_names
ports_by_number = refl
