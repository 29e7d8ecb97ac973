-- The boot up to the line that turns interrupts on: what it writes, its lines, and what they leave.
use Rattle.std.specs.Prelude.{ℕ, suc, ◌-◌, ◌/◌, ◌%◌, true, if◌then◌else◌, Option, Some, None, List, [], ◌∷◌, ◌++◌, length, replicate}
use Rattle.std.specs.List.{flat_map}
use Rattle.frp_tree.specs.declared.syntax.Setup.{Setup}
use Rattle.frp_tree.specs.declared.syntax.Ty.{Ty}
use Rattle.frp_tree.specs.declared.syntax.Ty.TheVariants as ty
use Rattle.frp_tree.specs.Tree.{DeclTree, ProgramTree}
use Rattle.efrp_meaning.specs.Decls.{reactive_decls}
use Rattle.efrp_meaning.specs.Meaning.{State, initial_state}
use Rattle.pic_isa.specs.Names.{register_at}
use Rattle.pic_regs.specs.declared.places.Place.{Place}
use Rattle.pic_regs.specs.declared.places.Place.TheVariants as place
use Rattle.pic_regs.specs.Bytes.{bits, bit}
use Rattle.pic_regs.specs.Map.{Intcon, Pie1, Pie2, reg_at}
use Rattle.pic_regs.specs.Places.{reg_of}
use Rattle.bank_alloc.specs.declared.needs.Needs.{Needs}
use Rattle.bank_alloc.specs.Addresses.{address_of}
use Rattle.priority_masks.specs.declared.tables.Enables.{Enables}
use Rattle.code_steps.specs.declared.banks.Bank.{Bank}
use Rattle.code_steps.specs.declared.banks.Bank.TheVariants.{Known}
use Rattle.code_acts.specs.Codes.{moved}
use Rattle.glue_steps.specs.declared.lines.Line.{Line}
use Rattle.glue_steps.specs.declared.lines.Line.TheVariants.{Bit, Nothing}
use Rattle.glue_parts.specs.Places.{bank_of, named}
use Rattle.glue_parts.specs.Pieces.{lines_to_write, lines_to_change, lines_to_choose, bank_changed}
use Rattle.glue_parts.specs.Effects.{Effect, none, after, byte_written, bit_made, changed_to}

-- A register, and the byte that it is made.
pub record Write : Type 0 where
  pub place : Place
  pub byte : ℕ

-- Writes one after another, each in its register's bank: their lines, the bank behind them, and what they leave.
abbrev pub lines_of_writes : Bank → List Write → List Line
lines_of_writes bank [] = []
lines_of_writes bank (w ∷ ws) = lines_to_write bank w.place w.byte ++ lines_of_writes (moved bank (bank_of (reg_of w.place))) ws

abbrev pub bank_written : Bank → List Write → Bank
bank_written bank [] = bank
bank_written bank (w ∷ ws) = bank_written (moved bank (bank_of (reg_of w.place))) ws

abbrev pub all_written : List Write → Effect
all_written [] = none
all_written (w ∷ ws) = after (byte_written (reg_of w.place) (bits w.byte)) (all_written ws)

-- The bytes of a value of a type, the low one first; those of a state, by cell; and those of the initial state.
abbrev pub bytes_of_value : Ty → ℕ → List ℕ
bytes_of_value ty.Bool n = n ∷ []
bytes_of_value ty.U8 n = n ∷ []
bytes_of_value ty.U16 n = n % 256 ∷ n / 256 ∷ []

abbrev pub bytes_of_values : List DeclTree → List ℕ → List ℕ
bytes_of_values (d ∷ ds) (n ∷ ns) = bytes_of_value d.ty n ++ bytes_of_values ds ns
bytes_of_values _ _ = []

abbrev pub bytes_of_state : ProgramTree → State → List ℕ
bytes_of_state p s = bytes_of_values (reactive_decls p) s

abbrev pub bytes_where : ProgramTree → Option State → List ℕ
bytes_where p (Some s) = bytes_of_state p s
bytes_where p None = []

abbrev pub first_bytes : ProgramTree → List ℕ
first_bytes p = bytes_where p (initial_state p)

-- Bytes are written to cells one after another, from one on; and those of setups to their registers, in order.
abbrev pub cell_writes : Needs → (cell : ℕ) → List ℕ → List Write
cell_writes need cell [] = []
cell_writes need cell (byte ∷ bytes) = record { place = place.Plain (address_of need cell); byte = byte } ∷ cell_writes need (suc cell) bytes

abbrev pub write_at : Option ℕ → (byte : ℕ) → List Write
write_at None byte = []
write_at (Some address) byte = record { place = named (reg_at address); byte = byte } ∷ []

abbrev pub setup_writes : List Setup → List Write
setup_writes setups = flat_map (λ (s : Setup). write_at (register_at s.register) s.byte) setups

-- What the boot of a program writes: the initial state, and then the setups.
abbrev pub boot_writes : ProgramTree → Needs → List Write
boot_writes p need = cell_writes need 0 (first_bytes p) ++ setup_writes p.setups

-- The enables of INTCON that are to be set, one by one: T0IE, INTE and PEIE.
abbrev pub enable_line : Enables → ℕ → List Line
enable_line enables b = if bit b (bits enables.intcon) then Bit true place.Intcon b ∷ [] else []

abbrev pub enable_made : Enables → ℕ → Effect
enable_made enables b = if bit b (bits enables.intcon) then bit_made Intcon b true else none

-- All enables that are to be set, where none is set before; bank 0 is chosen behind those of PIE1 and PIE2.
abbrev pub enable_lines : Bank → Enables → List Line
enable_lines bank enables =
    let first = bank_changed bank place.Pie1 enables.pie1 in
    let second = bank_changed first place.Pie2 enables.pie2 in
    lines_to_change bank place.Pie1 enables.pie1 enables.pie1 ++ lines_to_change first place.Pie2 enables.pie2 enables.pie2 ++ lines_to_choose second 0
    ++ enable_line enables 5 ++ enable_line enables 4 ++ enable_line enables 6

abbrev pub enables_made : Enables → Effect
enables_made enables =
    let peripheral = after (changed_to Pie1 enables.pie1 enables.pie1) (changed_to Pie2 enables.pie2 enables.pie2) in
    after (after (after peripheral (enable_made enables 5)) (enable_made enables 4)) (enable_made enables 6)

-- Lines that do nothing fill up, so that there are at least the three that stand before the address that interrupts lead to.
abbrev pub filled : List Line → List Line
filled lines = lines ++ replicate (3 - length lines) Nothing

-- The boot's lines, from power-on on, where bank 0 is chosen; and what they leave.
abbrev pub boot_lines : ProgramTree → Needs → Enables → List Line
boot_lines p need enables =
    let writes = boot_writes p need in filled (lines_of_writes (Known 0) writes ++ enable_lines (bank_written (Known 0) writes) enables)

abbrev pub boot_effect : ProgramTree → Needs → Enables → Effect
boot_effect p need enables = after (all_written (boot_writes p need)) (enables_made enables)
