-- What the boot puts on ports.
use Rattle.std.proofs.Common.{◌≡◌, ℕ, suc, ◌<◌, Bool, true, false, ◌&&◌, if◌then◌else◌, Option, Some, None, List, [], ◌∷◌, ◌++◌, refl, sym, ap, ap₂, ◌∙◌, append_assoc, append-nil, arith}
use Rattle.std.specs.List.{AllByRecursion, cons_option, flat_map}
use Rattle.std.specs.Map.{lookup}
use Rattle.std.specs.Str.{bytes_eq}
use Rattle.std.proofs.lemmas.Bool.{and_parts}
use Rattle.std.proofs.lemmas.Slice.Eq.{bytes_eq-Decides}
use Rattle.frp_tree.specs.declared.syntax.Setup.{Setup}
use Rattle.frp_tree.specs.Tree.{ProgramTree}
use Rattle.efrp_types.specs.Laws.{HasSetupBytes}
use Rattle.pic_isa.specs.Names.{ports, register_at, port_at}
use Rattle.pic_regs.specs.Bytes.{Byte, num, bits, bit, is_zero, with_bit}
use Rattle.pic_regs.specs.Map.{Reg, Absent, Indf, Pcl, Status, Fsr, Pclath, Intcon, Pir1, Pir2, Pie1, Pie2, Port, Tris, Plain, reg_at}
use Rattle.pic_regs.specs.Places.{reg_of}
use Rattle.pic_regs.specs.Registers.{Registers, read}
use Rattle.pic_regs.proofs.ByteLaws.{num-bits}
use Rattle.pic_regs.proofs.SetupRegisterLaws.{Suits, may_set_up}
use Rattle.pic_machine.specs.declared.steps.PortWrite.{PortWrite}
use Rattle.pic_machine.specs.Results.{shown}
use Rattle.bank_alloc.specs.declared.needs.Needs.{Needs}
use Rattle.priority_masks.specs.declared.tables.Enables.{Enables}
use Rattle.glue_parts.specs.Places.{named}
use Rattle.glue_parts.specs.Pieces.{only_bit}
use Rattle.glue_parts.specs.Effects.{bit_made, change_made, none}
use Rattle.firmware_promises.specs.Follows.{put_on, setup_puts}
use Rattle.isr_vector.specs.Booting.{Write, all_written, boot_effect, boot_writes, cell_writes, enables_made, first_bytes, setup_writes, write_at}

-- What writes put on ports.
abbrev puts_of_writes : List Write → List PortWrite
puts_of_writes ws = flat_map (λ (w : Write). cons_option (shown (reg_of w.place) (bits w.byte)) []) ws

written-puts : (ws : List Write) (r : Registers) → (all_written ws).puts r ≡ puts_of_writes ws
written-puts [] r = refl
written-puts (w ∷ ws) r = ap (λ q. cons_option (shown (reg_of w.place) (bits w.byte)) [] ++ q) (written-puts ws _)

both-puts : (xs ys : List Write) → puts_of_writes (xs ++ ys) ≡ puts_of_writes xs ++ puts_of_writes ys
both-puts [] ys = refl
both-puts (w ∷ xs) ys =
    let own = cons_option (shown (reg_of w.place) (bits w.byte)) [] in
    ap (λ q. own ++ q) (both-puts xs ys) ∙ sym (append_assoc own (puts_of_writes xs) (puts_of_writes ys))

cells-puts : (need : Needs) (cell : ℕ) (bytes : List ℕ) → puts_of_writes (cell_writes need cell bytes) ≡ []
cells-puts need cell [] = refl
cells-puts need cell (byte ∷ bytes) = cells-puts need (suc cell) bytes

-- A port's name is that of a register.
abbrev has_one : Option ℕ → Bool
has_one (Some n) = true
has_one None = false

abbrev all_registers : List (List ℕ × ℕ) → Bool
all_registers [] = true
all_registers (entry ∷ table) = has_one (register_at entry.0) && all_registers table

here_or_later : (name key : List ℕ) (value n : ℕ) (later : Option ℕ) (test : Bool) → bytes_eq name key ≡ test → has_one (register_at key) ≡ true
    → (later ≡ Some n → has_one (register_at name) ≡ true) → (if test then Some value else later) ≡ Some n → has_one (register_at name) ≡ true
here_or_later name key value n later true e here rest found = let same : name ≡ key = (bytes_eq-Decides name key).0 e in rw same here
here_or_later name key value n later false e here rest found = rest found

among_ports : (name : List ℕ) (table : List (List ℕ × ℕ)) (n : ℕ) → all_registers table ≡ true → lookup (bytes_eq name) table ≡ Some n → has_one (register_at name) ≡ true
among_ports name [] n all found = absurd (cc)
among_ports name (entry ∷ table) n all found =
    let parts = and_parts (has_one (register_at entry.0)) (all_registers table) all in
    here_or_later name entry.0 entry.1 n (lookup (bytes_eq name) table) (bytes_eq name entry.0) refl parts.0 (λ e. among_ports name table n parts.1 e) found

no_port : (name : List ℕ) (o : Option ℕ) → port_at name ≡ o → register_at name ≡ None → port_at name ≡ None
no_port name None is none = is
no_port name (Some n) is none =
    let found : has_one (register_at name) ≡ true = among_ports name ports n refl is in
    let clash : has_one None ≡ true = sym (ap has_one none) ∙ found in absurd (cc)

-- What a setup puts.
suit_puts : (name : List ℕ) (a byte : ℕ) (reg : Reg) → byte < 256 → Suits name a reg → puts_of_writes (record { place = named reg; byte = byte } ∷ []) ≡ put_on (port_at name) byte
suit_puts name a byte (Port n) below suits =
    let same : num (bits byte) ≡ byte = num-bits byte ∙ omega (arith, below) in
    ap (λ b. record { port = n; byte = b } ∷ []) same ∙ sym (ap (λ o. put_on o byte) suits.0)
suit_puts name a byte (Tris n) below suits = sym (ap (λ o. put_on o byte) suits.0)
suit_puts name a byte (Plain b) below suits = sym (ap (λ o. put_on o byte) suits.0)
suit_puts name a byte _ below suits = absurd suits

setup_puts_it : (name : List ℕ) (byte : ℕ) (o : Option ℕ) → register_at name ≡ o → byte < 256 → puts_of_writes (write_at o byte) ≡ put_on (port_at name) byte
setup_puts_it name byte None is below = sym (ap (λ o. put_on o byte) (no_port name (port_at name) refl is))
setup_puts_it name byte (Some a) is below = suit_puts name a byte (reg_at a) below (may_set_up name a is)

setups_put : (setups : List Setup) → AllByRecursion (λ (s : Setup). s.byte < 256) setups
    → puts_of_writes (setup_writes setups) ≡ flat_map (λ (s : Setup). put_on (port_at s.register) s.byte) setups
setups_put [] bytes = refl
setups_put (s ∷ setups) bytes =
    both-puts (write_at (register_at s.register) s.byte) (setup_writes setups)
    ∙ ap₂ (λ xs ys. xs ++ ys) (setup_puts_it s.register s.byte (register_at s.register) refl bytes.0) (setups_put setups bytes.1)

-- Enables put nothing.
enable_puts : (b : ℕ) (v : Bool) (r : Registers) → (if v then bit_made Intcon b true else none).puts r ≡ []
enable_puts b true r = refl
enable_puts b false r = refl

made_puts : (o : Option ℕ) (reg : Reg) (byte : ℕ) (r : Registers) → ((x : Byte) → shown reg x ≡ None) → (change_made o reg byte).puts r ≡ []
made_puts None reg byte r never = ap (λ p. cons_option p []) (never (bits byte))
made_puts (Some b) reg byte r never = ap (λ p. cons_option p []) (never (with_bit b (bit b (bits byte)) (read reg r)))

change_puts : (z : Bool) (o : Option ℕ) (reg : Reg) (byte : ℕ) (r : Registers) → ((x : Byte) → shown reg x ≡ None) → (if z then none else change_made o reg byte).puts r ≡ []
change_puts true o reg byte r never = refl
change_puts false o reg byte r never = made_puts o reg byte r never

enables-put : (enables : Enables) (r : Registers) → (enables_made enables).puts r ≡ []
enables-put enables r =
    ap₂ (λ xs ys. xs ++ ys)
    (ap₂ (λ xs ys. xs ++ ys)
    (ap₂ (λ xs ys. xs ++ ys)
    (ap₂ (λ xs ys. xs ++ ys) (change_puts (is_zero (bits enables.pie1)) (only_bit enables.pie1) Pie1 enables.pie1 _ (λ x. refl))
    (change_puts (is_zero (bits enables.pie2)) (only_bit enables.pie2) Pie2 enables.pie2 _ (λ x. refl)))
    (enable_puts 5 (bit 5 (bits enables.intcon)) _))
    (enable_puts 4 (bit 4 (bits enables.intcon)) _))
    (enable_puts 6 (bit 6 (bits enables.intcon)) _)

pub boot-puts : (p : ProgramTree) (need : Needs) (enables : Enables) → HasSetupBytes p → (r : Registers) → (boot_effect p need enables).puts r ≡ setup_puts p
boot-puts p need enables bytes r =
    let cells = cell_writes need 0 (first_bytes p) in
    let setups = setup_writes p.setups in
    ap₂ (λ xs ys. xs ++ ys)
    (written-puts (boot_writes p need) r ∙ both-puts cells setups ∙ ap₂ (λ xs ys. xs ++ ys) (cells-puts need 0 (first_bytes p)) (setups_put p.setups bytes))
    (enables-put enables _)
    ∙ append-nil (setup_puts p)
