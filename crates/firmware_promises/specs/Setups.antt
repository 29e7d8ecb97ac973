-- What is set up stands.
use Rattle.std.specs.Prelude.{◌≡◌, ℕ, ◌≤◌, ◌==◌, false, List, [], ◌∷◌, Option, Some, None, if◌then◌else◌}
use Rattle.frp_tree.specs.declared.syntax.Setup.{Setup}
use Rattle.frp_tree.specs.Tree.{ProgramTree}
use Rattle.pic_isa.specs.Names.{register_at}
use Rattle.pic_regs.specs.Bytes.{num, bits}
use Rattle.pic_regs.specs.Map.{within, reg_at, existing}
use Rattle.pic_machine.specs.Run.{Log}
use Rattle.map_file.specs.declared.maps.Map.{Map}
use Rattle.pic_regs.specs.Registers.{byte_at}
use Rattle.firmware_promises.specs.Counts.{chip_after}
use Rattle.firmware_promises.specs.Ready.{ReadyAt}

-- The byte that a setup gives to the register whose lowest address this is, where it names that.
abbrev pub setup_byte : Setup → ℕ → Option ℕ
setup_byte s a = elim (register_at s.register) [ Some at ↦ (if at == a then Some s.byte else None) | None ↦ None ]

-- That of the last setup that names it.
abbrev pub last_setup : List Setup → ℕ → Option ℕ
last_setup [] a = None
last_setup (s ∷ ss) a = elim (last_setup ss a) [ Some byte ↦ Some byte | None ↦ setup_byte s a ]

-- From the ready boundary on each register that is set up, but for ports, holds the byte of its last setup, in the bits that
-- exist.
abbrev pub SetupsStand : ProgramTree → Map → Log → ℕ → Type 0
SetupsStand p m log n = (r k a byte : ℕ) → ReadyAt m log n r → r ≤ k → k ≤ n → within 5 9 a ≡ false → last_setup p.setups a ≡ Some byte
    → byte_at (chip_after log k).regs a ≡ num (existing (reg_at a) (bits byte))
