-- The lines of the boot: what they make and put, and how many they are.
use Rattle.std.proofs.Common.{◌≡◌, ℕ, zero, suc, ◌+◌, ◌-◌, ◌<◌, ◌≤◌, Bool, true, false, if◌then◌else◌, Option, Some, None, List, [], ◌∷◌, ◌++◌, length, replicate, refl, ap, subst, ◌∙◌, append-nil, arith}
use Rattle.std.specs.Prelude.{IfSome}
use Rattle.std.specs.List.{AllByRecursion}
use Rattle.std.proofs.lemmas.Bool.Decides.{nat_tests}
use Rattle.frp_tree.specs.declared.syntax.Setup.{Setup}
use Rattle.frp_tree.specs.Tree.{ProgramTree}
use Rattle.efrp_meaning.specs.Bounds.{state_bytes}
use Rattle.efrp_meaning.specs.Types.{IsTyped}
use Rattle.pic_isa.specs.Names.{register_at}
use Rattle.pic_isa.proofs.NameLaws.{register_below}
use Rattle.pic_regs.specs.declared.places.Place.TheVariants as place
use Rattle.pic_regs.specs.Bytes.{bits, bit}
use Rattle.pic_regs.specs.Map.{Reg, Intcon, Pie1, Pie2, Port, Tris, Plain, reg_at}
use Rattle.pic_regs.specs.Places.{reg_of}
use Rattle.pic_regs.proofs.SetupRegisterLaws.{Suits, may_set_up}
use Rattle.bank_alloc.specs.declared.needs.Needs.{Needs}
use Rattle.bank_alloc.specs.Needs.{bytes_of}
use Rattle.bank_alloc.specs.Addresses.{address_of, is_general}
use Rattle.bank_alloc.proofs.AddressLaws.{addresses-general, general-plain}
use Rattle.priority_masks.specs.declared.tables.Enables.{Enables}
use Rattle.code_steps.specs.declared.banks.Bank.{Bank}
use Rattle.code_steps.specs.declared.banks.Bank.TheVariants.{Known}
use Rattle.code_acts.specs.Codes.{moved}
use Rattle.glue_steps.specs.declared.lines.Line.{Line}
use Rattle.glue_steps.specs.declared.lines.Line.TheVariants.{Bit, Nothing}
use Rattle.glue_steps.specs.Still.{is_glue_reg}
use Rattle.glue_steps.specs.Stretches.{BankBits, bits_of_bank}
use Rattle.glue_parts.specs.Places.{bank_of, IsNumbered, may_be_changed, may_be_written, named}
use Rattle.glue_parts.specs.Pieces.{lines_to_change, lines_to_choose, lines_to_write, bank_changed}
use Rattle.glue_parts.specs.Effects.{Effect, none, after, byte_written, bit_made, changed_to, Blind, Makes}
use Rattle.glue_parts.proofs.MakeLaws.{makes_none, blind_none, makes_then, blind_after, blind_write, makes_choice, makes_write}
use Rattle.glue_parts.proofs.PieceLaws.{makes_bit, blind_bit, makes_nothing, makes_change, blind_change}
use Rattle.isr_vector.specs.Booting.{Write, lines_of_writes, bank_written, all_written, cell_writes, write_at, setup_writes, boot_writes, first_bytes, enable_line, enable_made, enable_lines, enables_made, boot_lines, boot_effect}
use Rattle.isr_vector.specs.Laws.{BootMakes}
use Rattle.isr_vector.proofs.ListLaws.{all_both}
use Rattle.isr_vector.proofs.StateLaws.{first-length}

-- Ports, their TRIS, and plain bytes.
abbrev pub IsMemory : Reg → Type 0
IsMemory (Port n) = Unit {0}
IsMemory (Tris n) = Unit {0}
IsMemory (Plain address) = Unit {0}
IsMemory _ = ⊥

-- A write reaches its register, which may be written.
pub record CanWrite (w : Write) : Type 0 where
  pub numbered : IsNumbered (reg_of w.place)
  pub may : may_be_written (reg_of w.place) ≡ true
  pub glue : is_glue_reg (reg_of w.place) ≡ true
  pub memory : IsMemory (reg_of w.place)

pub record Made (known behind : BankBits) (e : Effect) (lines : List Line) : Type 0 where
  pub makes : Makes known behind e lines
  pub blind : Blind e

made_then : (known middle behind : BankBits) (e f : Effect) (xs ys : List Line) → Made known middle e xs → Made middle behind f ys → Made known behind (after e f) (xs ++ ys)
made_then known middle behind e f xs ys first second =
    record { makes = makes_then known middle behind e f xs ys second.blind first.makes second.makes; blind = blind_after e f first.blind second.blind }

-- Lines without an effect behind others.
then_nothing : (known middle behind : BankBits) (e : Effect) (xs ys : List Line) → Made known middle e xs → Makes middle behind none ys → Made known behind e (xs ++ ys)
then_nothing known middle behind e xs ys first second =
    let both = makes_then known middle behind e none xs ys blind_none first.makes second in record {
      makes = record {
        fits = both.fits;
        banked = both.banked;
        leaves = both.leaves;
        puts = λ c later. both.puts c later ∙ ap (λ q. q ++ later) (append-nil (e.puts c.regs));
      };
      blind = first.blind;
    }

pub writes_make : (bank : Bank) (ws : List Write) → AllByRecursion CanWrite ws
    → Made (bits_of_bank bank) (bits_of_bank (bank_written bank ws)) (all_written ws) (lines_of_writes bank ws)
writes_make bank [] can = record { makes = makes_none (bits_of_bank bank); blind = blind_none }
writes_make bank (w ∷ ws) can =
    let there = moved bank (bank_of (reg_of w.place)) in
    made_then (bits_of_bank bank) (bits_of_bank there) (bits_of_bank (bank_written there ws)) (byte_written (reg_of w.place) (bits w.byte)) (all_written ws)
    (lines_to_write bank w.place w.byte) (lines_of_writes there ws)
    (record { makes = makes_write bank w.place w.byte can.0.numbered can.0.may; blind = blind_write (reg_of w.place) (bits w.byte) can.0.may })
    (writes_make there ws can.1)

-- Cells can be written, and so can registers that are set up.
general-below : (address : ℕ) → is_general address ≡ true → address < 512
general-below address general = grind (arith, nat_tests)

pub cells_can : (need : Needs) (cell : ℕ) (bytes : List ℕ) → bytes_of need ≤ 352 → cell + length bytes ≤ bytes_of need → AllByRecursion CanWrite (cell_writes need cell bytes)
cells_can need cell [] fits placed = tt
cells_can need cell (byte ∷ bytes) fits placed =
    let general = addresses-general need fits cell (omega (arith, placed)) in
    let address = address_of need cell in
    (record { numbered = (general-below address general, general-plain address general); may = refl; glue = refl; memory = tt }, cells_can need (suc cell) bytes fits (omega (arith, placed)))

can_suit : (name : List ℕ) (a byte : ℕ) (reg : Reg) → reg_at a ≡ reg → a < 256 → Suits name a reg → CanWrite (record { place = named reg; byte = byte })
can_suit name a byte (Port n) is below suits = record { numbered = suits.3; may = refl; glue = refl; memory = tt }
can_suit name a byte (Tris n) is below suits = record { numbered = suits.3; may = refl; glue = refl; memory = tt }
can_suit name a byte (Plain b) is below suits =
    let same = suits.2 in record { numbered = (omega (arith, same, below), ap reg_at same ∙ is); may = refl; glue = refl; memory = tt }
can_suit name a byte _ is below suits = absurd suits

setup_can : (name : List ℕ) (byte : ℕ) (o : Option ℕ) → register_at name ≡ o → AllByRecursion CanWrite (write_at o byte)
setup_can name byte None is = tt
setup_can name byte (Some a) is =
    let below = subst (λ (o : Option ℕ). IfSome o (λ b. b < 256)) is (register_below name) in
    (can_suit name a byte (reg_at a) refl below (may_set_up name a is), tt)

pub setups_can : (setups : List Setup) → AllByRecursion CanWrite (setup_writes setups)
setups_can [] = tt
setups_can (s ∷ setups) =
    all_both CanWrite (write_at (register_at s.register) s.byte) (setup_writes setups) (setup_can s.register s.byte (register_at s.register) refl) (setups_can setups)

-- Enables.
enable_makes : (b : ℕ) (v : Bool) → may_be_changed Intcon b ≡ true
    → Made (bits_of_bank (Known 0)) (bits_of_bank (Known 0)) (if v then bit_made Intcon b true else none) (if v then Bit true place.Intcon b ∷ [] else [])
enable_makes b true may = record { makes = makes_bit (bits_of_bank (Known 0)) place.Intcon b true may refl; blind = blind_bit Intcon b true may }
enable_makes b false may = record { makes = makes_none (bits_of_bank (Known 0)); blind = blind_none }

pie1_makes : (bank : Bank) (byte : ℕ) → Made (bits_of_bank bank) (bits_of_bank (bank_changed bank place.Pie1 byte)) (changed_to Pie1 byte byte) (lines_to_change bank place.Pie1 byte byte)
pie1_makes bank byte =
    record { makes = makes_change bank place.Pie1 byte byte tt (λ b. refl) refl; blind = blind_change Pie1 byte byte (λ b. refl) refl }

pie2_makes : (bank : Bank) (byte : ℕ) → Made (bits_of_bank bank) (bits_of_bank (bank_changed bank place.Pie2 byte)) (changed_to Pie2 byte byte) (lines_to_change bank place.Pie2 byte byte)
pie2_makes bank byte =
    record { makes = makes_change bank place.Pie2 byte byte tt (λ b. refl) refl; blind = blind_change Pie2 byte byte (λ b. refl) refl }

pub enables_make : (bank : Bank) (enables : Enables) → Made (bits_of_bank bank) (bits_of_bank (Known 0)) (enables_made enables) (enable_lines bank enables)
enables_make bank enables =
    let zero_bank = bits_of_bank (Known 0) in
    let known = bits_of_bank bank in
    let first = bank_changed bank place.Pie1 enables.pie1 in
    let second = bank_changed first place.Pie2 enables.pie2 in
    let pie1 = lines_to_change bank place.Pie1 enables.pie1 enables.pie1 in
    let pie2 = lines_to_change first place.Pie2 enables.pie2 enables.pie2 in
    let choice = lines_to_choose second 0 in
    let peripheral = after (changed_to Pie1 enables.pie1 enables.pie1) (changed_to Pie2 enables.pie2 enables.pie2) in
    let both = made_then known (bits_of_bank first) (bits_of_bank second) (changed_to Pie1 enables.pie1 enables.pie1) (changed_to Pie2 enables.pie2 enables.pie2) pie1 pie2
    (pie1_makes bank enables.pie1) (pie2_makes first enables.pie2) in
    let chosen = then_nothing known (bits_of_bank second) zero_bank peripheral (pie1 ++ pie2) choice both (makes_choice second 0) in
    let t0 = made_then known zero_bank zero_bank peripheral (enable_made enables 5) (pie1 ++ pie2 ++ choice) (enable_line enables 5) chosen
    (enable_makes 5 (bit 5 (bits enables.intcon)) refl) in
    let int = made_then known zero_bank zero_bank (after peripheral (enable_made enables 5)) (enable_made enables 4) (pie1 ++ pie2 ++ choice ++ enable_line enables 5) (enable_line enables 4) t0
    (enable_makes 4 (bit 4 (bits enables.intcon)) refl) in
    made_then known zero_bank zero_bank (after (after peripheral (enable_made enables 5)) (enable_made enables 4)) (enable_made enables 6)
    (pie1 ++ pie2 ++ choice ++ enable_line enables 5 ++ enable_line enables 4) (enable_line enables 6) int
    (enable_makes 6 (bit 6 (bits enables.intcon)) refl)

-- Lines that do nothing.
nothings_make : (known : BankBits) (n : ℕ) → Makes known known none (replicate n Nothing)
nothings_make known zero = makes_none known
nothings_make known (suc n) = makes_then known known known none none (Nothing ∷ []) (replicate n Nothing) blind_none (makes_nothing known) (nothings_make known n)

-- All lines of the boot.
pub boot_can : (p : ProgramTree) (need : Needs) → IsTyped p → bytes_of need ≤ 352 → state_bytes p ≤ need.states → AllByRecursion CanWrite (boot_writes p need)
boot_can p need typed fits placed =
    let count = first-length p typed in
    all_both CanWrite (cell_writes need 0 (first_bytes p)) (setup_writes p.setups) (cells_can need 0 (first_bytes p) fits (omega (arith, count, placed))) (setups_can p.setups)

pub boot-made : (p : ProgramTree) (need : Needs) (enables : Enables) → IsTyped p → bytes_of need ≤ 352 → state_bytes p ≤ need.states
    → Made (bits_of_bank (Known 0)) (bits_of_bank (Known 0)) (boot_effect p need enables) (boot_lines p need enables)
boot-made p need enables typed fits placed =
    let zero_bank = bits_of_bank (Known 0) in
    let writes = boot_writes p need in
    let there = bank_written (Known 0) writes in
    let written = lines_of_writes (Known 0) writes in
    let enabled = enable_lines there enables in
    then_nothing zero_bank zero_bank zero_bank (boot_effect p need enables) (written ++ enabled) (replicate (3 - length (written ++ enabled)) Nothing)
    (made_then zero_bank (bits_of_bank there) zero_bank (all_written writes) (enables_made enables) written enabled
    (writes_make (Known 0) writes (boot_can p need typed fits placed)) (enables_make there enables))
    (nothings_make zero_bank (3 - length (written ++ enabled)))

pub boot-makes : (p : ProgramTree) (need : Needs) (enables : Enables) → BootMakes p need enables
boot-makes p need enables typed fits placed = (boot-made p need enables typed fits placed).makes
