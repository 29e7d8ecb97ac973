-- Names of ports, and of registers that a setup may name.
use Rattle.std.specs.Prelude.{ℕ, zero, suc, List, [], ◌∷◌, Option, codes}
use Rattle.std.specs.Str.{bytes_eq}
use Rattle.std.specs.Map.{lookup}

-- The registers that a setup may name, each with its lowest address.
abbrev pub setup_registers : List (List ℕ × ℕ)
setup_registers =
    (codes "OPTION_REG", 0x081)
    ∷ (codes "PORTA", 0x005) ∷ (codes "PORTB", 0x006) ∷ (codes "PORTC", 0x007) ∷ (codes "PORTD", 0x008) ∷ (codes "PORTE", 0x009)
    ∷ (codes "TRISA", 0x085) ∷ (codes "TRISB", 0x086) ∷ (codes "TRISC", 0x087) ∷ (codes "TRISD", 0x088) ∷ (codes "TRISE", 0x089)
    ∷ (codes "TMR0", 0x001) ∷ (codes "TMR1L", 0x00E) ∷ (codes "TMR1H", 0x00F) ∷ (codes "T1CON", 0x010)
    ∷ (codes "TMR2", 0x011) ∷ (codes "T2CON", 0x012) ∷ (codes "SSPBUF", 0x013) ∷ (codes "SSPCON", 0x014)
    ∷ (codes "CCPR1L", 0x015) ∷ (codes "CCPR1H", 0x016) ∷ (codes "CCP1CON", 0x017)
    ∷ (codes "CCPR2L", 0x01B) ∷ (codes "CCPR2H", 0x01C) ∷ (codes "CCP2CON", 0x01D)
    ∷ (codes "ADCON0", 0x01F) ∷ (codes "ADCON1", 0x09F)
    ∷ (codes "SSPCON2", 0x091) ∷ (codes "PR2", 0x092) ∷ (codes "SSPADD", 0x093) ∷ (codes "SSPSTAT", 0x094)
    ∷ []

-- The ports, each with its number.
abbrev pub ports : List (List ℕ × ℕ)
ports = (codes "PORTA", 0) ∷ (codes "PORTB", 1) ∷ (codes "PORTC", 2) ∷ (codes "PORTD", 3) ∷ (codes "PORTE", 4) ∷ []

-- The address beside a name in the table of setup registers, and the number beside one in that of ports.
abbrev pub register_at : List ℕ → Option ℕ
register_at name = lookup (bytes_eq name) setup_registers

abbrev pub port_at : List ℕ → Option ℕ
port_at name = lookup (bytes_eq name) ports

-- The name of a port.
abbrev pub name_of_port : ℕ → List ℕ
name_of_port zero = codes "PORTA"
name_of_port (suc zero) = codes "PORTB"
name_of_port (suc (suc zero)) = codes "PORTC"
name_of_port (suc (suc (suc zero))) = codes "PORTD"
name_of_port _ = codes "PORTE"
