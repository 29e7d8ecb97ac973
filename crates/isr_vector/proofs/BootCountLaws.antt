-- How many lines the boot has, that their registers are in range, and that their steps are steps of glue.
use Rattle.std.proofs.Common.{◌≡◌, ℕ, zero, suc, ◌+◌, ◌-◌, ◌*◌, ◌≤◌, Bool, true, false, if◌then◌else◌, Option, Some, None, List, [], ◌∷◌, ◌++◌, length, replicate, refl, sym, ap, subst, arith, length-append}
use Rattle.std.specs.List.{AllByRecursion}
use Rattle.std.proofs.lemmas.List.{length-replicate}
use Rattle.frp_tree.specs.declared.syntax.Setup.{Setup}
use Rattle.frp_tree.specs.Tree.{ProgramTree}
use Rattle.efrp_meaning.specs.Bounds.{state_bytes}
use Rattle.efrp_meaning.specs.Types.{IsTyped}
use Rattle.pic_isa.specs.Names.{register_at}
use Rattle.pic_regs.specs.declared.places.Place.{Place}
use Rattle.pic_regs.specs.declared.places.Place.TheVariants as place
use Rattle.pic_regs.specs.Bytes.{bits, bit, is_zero}
use Rattle.pic_regs.specs.Map.{Reg, Absent, Indf}
use Rattle.pic_regs.specs.Places.{IsPlace, reg_of}
use Rattle.bank_alloc.specs.declared.needs.Needs.{Needs}
use Rattle.bank_alloc.specs.Needs.{bytes_of}
use Rattle.priority_masks.specs.declared.tables.Enables.{Enables}
use Rattle.code_steps.specs.declared.banks.Bank.{Bank}
use Rattle.code_steps.specs.declared.banks.Bank.TheVariants.{Known}
use Rattle.code_acts.specs.Codes.{moved}
use Rattle.glue_steps.specs.declared.lines.Line.{Line}
use Rattle.glue_steps.specs.declared.lines.Line.TheVariants.{Bit, Nothing}
use Rattle.glue_steps.specs.Lines.{LineNamed}
use Rattle.glue_steps.specs.Still.{MayWrite, is_still}
use Rattle.glue_parts.specs.Places.{bank_of, IsNumbered}
use Rattle.glue_parts.specs.Pieces.{lines_to_change, lines_to_choose, lines_to_write, bank_changed}
use Rattle.isr_vector.specs.Booting.{Write, lines_of_writes, bank_written, cell_writes, write_at, setup_writes, boot_writes, first_bytes, enable_line, enable_lines, filled, boot_lines}
use Rattle.isr_vector.specs.Laws.{BootIsShort}
use Rattle.isr_vector.proofs.LineLaws.{Few, few_both, few_none, few_one, few_to_choose, few_to_write, few_to_change}
use Rattle.isr_vector.proofs.StateLaws.{first-length}
use Rattle.isr_vector.proofs.BootLaws.{CanWrite, boot_can}

-- A register that may be written is in range.
is_place : (p : Place) → IsNumbered (reg_of p) → IsPlace p
is_place place.Absent numbered = tt
is_place (place.Port n) numbered = numbered
is_place (place.Tris n) numbered = numbered
is_place (place.Plain address) numbered = numbered.0
is_place _ numbered = tt

-- What the boot may write: the registers of its writes, PIE1, PIE2 and INTCON.
pub record BootMay (May : ℕ → Type 0) (ws : List Write) (enables : Enables) : Type 0 where
  pub writes : AllByRecursion (λ (w : Write). MayWrite May (reg_of w.place)) ws
  pub pie1 : is_zero (bits enables.pie1) ≡ false → May 0x08C
  pub pie2 : is_zero (bits enables.pie2) ≡ false → May 0x08D
  pub intcon : May 0x00B

module _ (May : ℕ → Type 0) where
  few_writes : (bank : Bank) (ws : List Write) → AllByRecursion CanWrite ws → AllByRecursion (λ (w : Write). MayWrite May (reg_of w.place)) ws
      → Few May (4 * length ws) (lines_of_writes bank ws)
  few_writes bank [] can may = few_none May 0
  few_writes bank (w ∷ ws) can may =
      let there = moved bank (bank_of (reg_of w.place)) in
      let count : 4 + 4 * length ws ≡ 4 * length (w ∷ ws) = omega arith in
      subst (λ n. Few May n (lines_of_writes bank (w ∷ ws))) count
      (few_both May 4 (4 * length ws) (lines_to_write bank w.place w.byte) (lines_of_writes there ws)
      (few_to_write May bank w.place w.byte (record { in_range = is_place w.place can.0.numbered; glue = can.0.glue; may = may.0 })) (few_writes there ws can.1 may.1))

  few_enable : (b : ℕ) (v : Bool) → is_still (Bit true place.Intcon b) ≡ true → May 0x00B → Few May 1 (if v then Bit true place.Intcon b ∷ [] else [])
  few_enable b true still may = few_one May (Bit true place.Intcon b) tt (still, may, tt) refl
  few_enable b false still may = few_none May 1

  few_enables : (bank : Bank) (enables : Enables) → (is_zero (bits enables.pie1) ≡ false → May 0x08C) → (is_zero (bits enables.pie2) ≡ false → May 0x08D) → May 0x00B
      → Few May 13 (enable_lines bank enables)
  few_enables bank enables may_pie1 may_pie2 may =
      let first = bank_changed bank place.Pie1 enables.pie1 in
      let second = bank_changed first place.Pie2 enables.pie2 in
      let pie1 = lines_to_change bank place.Pie1 enables.pie1 enables.pie1 in
      let pie2 = lines_to_change first place.Pie2 enables.pie2 enables.pie2 in
      let choice = lines_to_choose second 0 in
      few_both May 12 1 (pie1 ++ pie2 ++ choice ++ enable_line enables 5 ++ enable_line enables 4) (enable_line enables 6)
      (few_both May 11 1 (pie1 ++ pie2 ++ choice ++ enable_line enables 5) (enable_line enables 4)
      (few_both May 10 1 (pie1 ++ pie2 ++ choice) (enable_line enables 5)
      (few_both May 8 2 (pie1 ++ pie2) choice
      (few_both May 4 4 pie1 pie2
      (few_to_change May bank place.Pie1 enables.pie1 enables.pie1 (λ some. record { in_range = tt; glue = refl; may = may_pie1 some }) (λ v b. refl))
      (few_to_change May first place.Pie2 enables.pie2 enables.pie2 (λ some. record { in_range = tt; glue = refl; may = may_pie2 some }) (λ v b. refl)))
      (few_to_choose May second 0))
      (few_enable 5 (bit 5 (bits enables.intcon)) refl may))
      (few_enable 4 (bit 4 (bits enables.intcon)) refl may))
      (few_enable 6 (bit 6 (bits enables.intcon)) refl may)

  few_nothings : (n : ℕ) → Few May n (replicate n Nothing)
  few_nothings zero = few_none May 0
  few_nothings (suc n) =
      let count : 1 + n ≡ suc n = omega arith in
      subst (λ k. Few May k (replicate (suc n) Nothing)) count (few_both May 1 n (Nothing ∷ []) (replicate n Nothing) (few_one May Nothing tt (refl, tt, tt) refl) (few_nothings n))

  few_filled : (most : ℕ) (lines : List Line) → 3 ≤ most → Few May most lines → Few May most (filled lines)
  few_filled most lines room few =
      let count = few.count in
      let missing = 3 - length lines in
      let both = few_both May most missing lines (replicate missing Nothing) few (few_nothings missing) in
      record { count = omega (arith, count, length-append lines (replicate missing Nothing), length-replicate missing Nothing); named = both.named; still = both.still; plain = both.plain }

-- Setups make one write each at most.
setup_length : (o : Option ℕ) (byte : ℕ) → length (write_at o byte) ≤ 1
setup_length None byte = omega arith
setup_length (Some address) byte = omega arith

setups_length : (setups : List Setup) → length (setup_writes setups) ≤ length setups
setups_length [] = omega arith
setups_length (s ∷ setups) =
    let own = setup_length (register_at s.register) s.byte in
    let rest = setups_length setups in
    omega (arith, own, rest, length-append (write_at (register_at s.register) s.byte) (setup_writes setups))

cells-length : (need : Needs) (cell : ℕ) (bytes : List ℕ) → length (cell_writes need cell bytes) ≡ length bytes
cells-length need cell [] = refl
cells-length need cell (byte ∷ bytes) = ap suc (cells-length need (suc cell) bytes)

writes_length : (p : ProgramTree) (need : Needs) → IsTyped p → length (boot_writes p need) ≤ state_bytes p + length p.setups
writes_length p need typed =
    let cells = cells-length need 0 (first_bytes p) in
    let first = first-length p typed in
    let setups = setups_length p.setups in
    omega (arith, cells, first, setups, length-append (cell_writes need 0 (first_bytes p)) (setup_writes p.setups))

pub few_lines : (May : ℕ → Type 0) (p : ProgramTree) (need : Needs) (enables : Enables) → IsTyped p → bytes_of need ≤ 352 → state_bytes p ≤ need.states
    → BootMay May (boot_writes p need) enables → Few May (4 * state_bytes p + 4 * length p.setups + 13) (boot_lines p need enables)
few_lines May p need enables typed fits placed may =
    let writes = boot_writes p need in
    let there = bank_written (Known 0) writes in
    let count = writes_length p need typed in
    let few = few_both May (4 * length writes) 13 (lines_of_writes (Known 0) writes) (enable_lines there enables)
    (few_writes May (Known 0) writes (boot_can p need typed fits placed) may.writes) (few_enables May there enables may.pie1 may.pie2 may.intcon) in
    let own = few.count in
    few_filled May (4 * state_bytes p + 4 * length p.setups + 13) (lines_of_writes (Known 0) writes ++ enable_lines there enables) (omega arith)
    (record { count = omega (arith, own, count); named = few.named; still = few.still; plain = few.plain })

-- Where every register may be written.
abbrev Any : ℕ → Type 0
Any address = Unit {0}

any_place : (reg : Reg) → MayWrite Any reg
any_place Absent = tt
any_place Indf = tt
any_place _ = tt

any_writes : (ws : List Write) → AllByRecursion (λ (w : Write). MayWrite Any (reg_of w.place)) ws
any_writes [] = tt
any_writes (w ∷ ws) = (any_place (reg_of w.place), any_writes ws)

pub some_lines : (p : ProgramTree) (need : Needs) (enables : Enables) → IsTyped p → bytes_of need ≤ 352 → state_bytes p ≤ need.states
    → Few Any (4 * state_bytes p + 4 * length p.setups + 13) (boot_lines p need enables)
some_lines p need enables typed fits placed =
    few_lines Any p need enables typed fits placed (record { writes = any_writes (boot_writes p need); pie1 = λ some. tt; pie2 = λ some. tt; intcon = tt })

pub three_lines : (p : ProgramTree) (need : Needs) (enables : Enables) → 3 ≤ length (boot_lines p need enables)
three_lines p need enables =
    let writes = boot_writes p need in
    let lines = lines_of_writes (Known 0) writes ++ enable_lines (bank_written (Known 0) writes) enables in
    omega (arith, length-append lines (replicate (3 - length lines) Nothing), length-replicate (3 - length lines) Nothing)

pub boot-is_short : (p : ProgramTree) (need : Needs) (enables : Enables) → BootIsShort p need enables
boot-is_short p need enables typed fits placed = let few = (some_lines p need enables typed fits placed).count in omega (arith, few)

-- The bounds on which the code counts.
pub record BootIsFew (lines : List Line) : Type 0 where
  pub three : 3 ≤ length lines
  pub most : length lines ≤ 1549
  pub named : AllByRecursion LineNamed lines

pub boot_few : (p : ProgramTree) (need : Needs) (enables : Enables) (lines : List Line) → IsTyped p → length p.setups ≤ 32 → bytes_of need ≤ 352 → state_bytes p ≤ need.states
    → lines ≡ boot_lines p need enables → BootIsFew lines
boot_few p need enables lines typed setups fits placed is =
    let few = some_lines p need enables typed fits placed in
    let most = few.count in
    subst BootIsFew (sym is) (record { three = three_lines p need enables; most = omega (arith, most, setups, fits, placed); named = few.named })
