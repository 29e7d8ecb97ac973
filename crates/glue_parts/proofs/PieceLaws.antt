-- What single lines and copies leave, and the lines that change a byte.
use Rattle.std.proofs.Common.{◌≡◌, ℕ, zero, suc, ◌+◌, ◌/◌, ◌%◌, ◌<◌, Bool, true, false, not, ◌&&◌, ◌==◌, if◌then◌else◌, Option, Some, None, List, [], ◌∷◌, ◌++◌, refl, sym, ap, ap₂, subst, ◌∙◌, append_assoc, arith, lit<, inl, inr}
use Rattle.std.specs.List.{cons_option}
use Rattle.std.proofs.lemmas.Bool.{and_parts}
use Rattle.pic_isa.specs.declared.sources.Source.{Source}
use Rattle.pic_isa.specs.declared.sources.Source.TheVariants.{T0}
use Rattle.pic_isa.specs.Sources.{flag_of}
use Rattle.pic_regs.specs.declared.places.Place.{Place}
use Rattle.pic_regs.specs.declared.places.Place.TheVariants as place
use Rattle.pic_regs.specs.Bytes.{Byte, bits, bit, with_bit, is_zero}
use Rattle.pic_regs.specs.Map.{Reg, Absent, Indf, Pcl, Status, Fsr, Pclath, Intcon, Pir1, Pir2, Pie1, Pie2, Port, Tris, Plain, reg_at}
use Rattle.pic_regs.specs.Places.{reg_of}
use Rattle.pic_regs.specs.Registers.{Registers, read, write}
use Rattle.pic_machine.specs.declared.steps.PortWrite.{PortWrite}
use Rattle.pic_machine.specs.Chip.{Chip}
use Rattle.pic_machine.specs.Results.{shown}
use Rattle.code_steps.specs.declared.banks.Bank.{Bank}
use Rattle.code_steps.specs.declared.banks.Bank.TheVariants.{Known, Unknown}
use Rattle.code_acts.specs.Codes.{low_bit, high_bit, moved}
use Rattle.glue_steps.specs.declared.lines.Line.{Line}
use Rattle.glue_steps.specs.declared.lines.Line.TheVariants.{Constant, Load, Store, Clear, Bit, Lower, Skip, Nothing}
use Rattle.glue_steps.specs.Lines.{skips, did, ran, is_steady, takes_byte, takes_bit}
use Rattle.glue_steps.specs.Stretches.{ran_all, puts_of, BankBits, bits_of_bank, Reached, Fits, bank_behind_all}
use Rattle.glue_parts.specs.Places.{bank_of, IsNumbered, is_status, may_be_written, may_be_changed, may_be_read}
use Rattle.glue_parts.specs.Pieces.{knows, bit_lines, is_known, lines_to_choose, lines_for, lines_to_write, lines_to_load, lines_to_store, lines_to_copy, bank_stored, bank_copied, only_bit, lines_of_change, lines_to_change, bank_changed, bank_of_flag, lines_to_lower}
use Rattle.glue_parts.specs.Effects.{Effect, none, after, byte_written, copied, bit_made, flag_cleared, change_made, changed_to, Blind, left, Makes}
use Rattle.glue_parts.proofs.MakeLaws.{makes_none, blind_none, makes_then, left_after, blind_write, makes_bank, reached, makes_write, ends_well, ran_then, puts_then, fits_then, bank_then}

-- A bit of a register is made what is given.
pub makes_bit : (known : BankBits) (p : Place) (b : ℕ) (v : Bool) → may_be_changed (reg_of p) b ≡ true → Reached known (Some (reg_of p))
    → Makes known known (bit_made (reg_of p) b v) (Bit v p b ∷ [])
makes_bit known place.Absent b v may at = absurd (cc)
makes_bit known place.Indf b v may at = absurd (cc)
makes_bit known place.Pcl b v may at = absurd (cc)
makes_bit known place.Status b v may at = absurd (cc)
makes_bit known place.Pir1 b v may at = absurd (cc)
makes_bit known place.Pir2 b v may at = absurd (cc)
makes_bit known (place.Port n) b v may at = absurd (cc)
makes_bit known _ b v may at = record { fits = (may, at, refl); banked = refl; leaves = λ c. refl; puts = λ c later. refl }

not_status : (reg : Reg) (b : ℕ) → may_be_changed reg b ≡ true → is_status reg ≡ false
not_status Status b may = absurd (cc)
not_status _ b may = refl

blind_bit_by : (reg : Reg) (b : ℕ) (v : Bool) → is_status reg ≡ false → Blind (bit_made reg b v)
blind_bit_by Status b v never = absurd (cc)
blind_bit_by _ b v never = record { change = λ r status. refl; puts = λ r status. refl }

pub blind_bit : (reg : Reg) (b : ℕ) (v : Bool) → may_be_changed reg b ≡ true → Blind (bit_made reg b v)
blind_bit reg b v may = blind_bit_by reg b v (not_status reg b may)

-- A source's flag is cleared.
numbered_flag : (source : Source) → IsNumbered (reg_at (flag_of source).address)
numbered_flag T0 = tt
numbered_flag _ = tt

pub blind_lower : (source : Source) → Blind (flag_cleared source)
blind_lower T0 = record { change = λ r status. refl; puts = λ r status. refl }
blind_lower _ = record { change = λ r status. refl; puts = λ r status. refl }

pub makes_lower : (bank : Bank) (source : Source) → Makes (bits_of_bank bank) (bits_of_bank (moved bank (bank_of_flag source))) (flag_cleared source) (lines_to_lower bank source)
makes_lower bank source =
    let there = bits_of_bank (moved bank (bank_of_flag source)) in
    makes_then (bits_of_bank bank) there there none (flag_cleared source) (lines_for bank (bank_of_flag source)) (Lower source ∷ []) (blind_lower source)
    (makes_bank bank (bank_of_flag source))
    (record { fits = (refl, reached bank (reg_at (flag_of source).address) (numbered_flag source), refl); banked = refl; leaves = λ c. refl; puts = λ c later. refl })

-- A line that does nothing.
pub makes_nothing : (known : BankBits) → Makes known known none (Nothing ∷ [])
makes_nothing known = record { fits = (refl, tt, refl); banked = refl; leaves = λ c. refl; puts = λ c later. refl }

-- A byte is changed.
may_write : (reg : Reg) → may_be_changed reg 0 ≡ true → is_steady reg ≡ true → may_be_written reg ≡ true
may_write Status may steady = absurd (cc)
may_write (Port n) may steady = absurd (cc)
may_write _ may steady = may

change_by : (bank : Bank) (p : Place) (changing byte : ℕ) (o : Option ℕ) → IsNumbered (reg_of p) → ((b : ℕ) → may_be_changed (reg_of p) b ≡ true) → is_steady (reg_of p) ≡ true
    → Makes (bits_of_bank bank) (bits_of_bank (moved bank (bank_of (reg_of p)))) (change_made o (reg_of p) byte) (lines_of_change o bank p byte)
change_by bank p changing byte None numbered may steady = makes_write bank p byte numbered (may_write (reg_of p) (may 0) steady)
change_by bank p changing byte (Some b) numbered may steady =
    let there = bits_of_bank (moved bank (bank_of (reg_of p))) in
    let v = bit b (bits byte) in
    makes_then (bits_of_bank bank) there there none (bit_made (reg_of p) b v) (lines_for bank (bank_of (reg_of p))) (Bit v p b ∷ [])
    (blind_bit (reg_of p) b v (may b)) (makes_bank bank (bank_of (reg_of p))) (makes_bit there p b v (may b) (reached bank (reg_of p) numbered))

change_if : (bank : Bank) (p : Place) (changing byte : ℕ) (z : Bool) → IsNumbered (reg_of p) → ((b : ℕ) → may_be_changed (reg_of p) b ≡ true) → is_steady (reg_of p) ≡ true
    → Makes (bits_of_bank bank) (bits_of_bank (if z then bank else moved bank (bank_of (reg_of p))))
    (if z then none else change_made (only_bit changing) (reg_of p) byte) (if z then [] else lines_of_change (only_bit changing) bank p byte)
change_if bank p changing byte true numbered may steady = makes_none (bits_of_bank bank)
change_if bank p changing byte false numbered may steady = change_by bank p changing byte (only_bit changing) numbered may steady

pub makes_change : (bank : Bank) (p : Place) (changing byte : ℕ) → IsNumbered (reg_of p) → ((b : ℕ) → may_be_changed (reg_of p) b ≡ true) → is_steady (reg_of p) ≡ true
    → Makes (bits_of_bank bank) (bits_of_bank (bank_changed bank p changing)) (changed_to (reg_of p) changing byte) (lines_to_change bank p changing byte)
makes_change bank p changing byte numbered may steady = change_if bank p changing byte (is_zero (bits changing)) numbered may steady

-- W holds what a register held, behind the choice of another bank too.
abbrev Leaves : Line → Type 0
Leaves line = (c : Chip) → ((ran line c).w ≡ c.w) × (skips line c ≡ false)

abbrev LeavesAll : List Line → Type 0
LeavesAll [] = Unit {0}
LeavesAll (line ∷ lines) = Leaves line × LeavesAll lines

w_kept : (lines : List Line) → LeavesAll lines → (c : Chip) → (ran_all false lines c).w ≡ c.w
w_kept [] keep c = refl
w_kept (line ∷ lines) keep c =
    ap (λ b. (ran_all b lines (ran line c)).w) (keep.0 c).1 ∙ w_kept lines keep.1 (ran line c) ∙ (keep.0 c).0

bits_keep : (known : Option Bool) (b : ℕ) (v there : Bool) (rest : List Line) → LeavesAll rest → LeavesAll ((if there then [] else Bit v place.Status b ∷ []) ++ rest)
bits_keep known b v true rest keep = keep
bits_keep known b v false rest keep = (λ c. (refl, refl), keep)

choice_keeps : (bank : Bank) (k : ℕ) (there first : Bool)
    → LeavesAll (if there then [] else if first then Clear place.Status ∷ [] else bit_lines 5 (low_bit bank) (k % 2 == 1) ++ bit_lines 6 (high_bit bank) (k / 2 == 1))
choice_keeps bank k true first = tt
choice_keeps bank k false true = (λ c. (refl, refl), tt)
choice_keeps bank k false false =
    bits_keep (low_bit bank) 5 (k % 2 == 1) (knows (low_bit bank) (k % 2 == 1)) (bit_lines 6 (high_bit bank) (k / 2 == 1))
    (high_keeps (knows (high_bit bank) (k / 2 == 1)) (k / 2 == 1))
  where
    high_keeps : (there v : Bool) → LeavesAll (if there then [] else Bit v place.Status 6 ∷ [])
    high_keeps true v = tt
    high_keeps false v = (λ c. (refl, refl), tt)

bank_keeps : (bank : Bank) (o : Option ℕ) → LeavesAll (lines_for bank o)
bank_keeps bank None = tt
bank_keeps bank (Some k) = choice_keeps bank k (is_known bank k) (k == 0)

-- A register other than STATUS is read the same whatever STATUS is.
read_blind : (reg : Reg) (r : Registers) (status : Byte) → is_status reg ≡ false → read reg (record r { status = status }) ≡ read reg r
read_blind Status r status never = absurd (cc)
read_blind _ r status never = refl

steady_part : (reg : Reg) → may_be_read reg ≡ true → is_steady reg ≡ true
steady_part reg may = (and_parts (is_steady reg) (not (is_status reg)) may).0

read_not_status : (reg : Reg) → may_be_read reg ≡ true → is_status reg ≡ false
read_not_status Status may = absurd (cc)
read_not_status _ may = refl

-- Lines that load W from a register, and choose a bank then.
record Loads (known behind : BankBits) (reg : Reg) (lines : List Line) : Type 0 where
  makes : Makes known behind none lines
  loads : (c : Chip) → (ran_all false lines c).w ≡ read reg c.regs

load_line : (known : BankBits) (p : Place) → is_steady (reg_of p) ≡ true → Reached known (Some (reg_of p)) → Makes known known none (Load p ∷ [])
load_line known p steady at = record {
  fits = (ap (λ b. b && true) steady, at, refl);
  banked = refl;
  leaves = λ c. refl;
  puts = λ c later. refl;
}

loads_in : (bank : Bank) (p : Place) → IsNumbered (reg_of p) → may_be_read (reg_of p) ≡ true
    → Loads (bits_of_bank bank) (bits_of_bank (moved bank (bank_of (reg_of p)))) (reg_of p) (lines_to_load bank p)
loads_in bank p numbered may =
    let there = bits_of_bank (moved bank (bank_of (reg_of p))) in
    let before = lines_for bank (bank_of (reg_of p)) in
    let first = makes_bank bank (bank_of (reg_of p)) in record {
      makes = makes_then (bits_of_bank bank) there there none none before (Load p ∷ []) blind_none first
          (load_line there p (steady_part (reg_of p) may) (reached bank (reg_of p) numbered));
      loads = λ c.
          let d = ran_all false before c in
          ap (λ (x : Chip). x.w) (ran_then false false before (Load p ∷ []) c (λ b. b) (ends_well false before (bits_of_bank bank) first.fits))
          ∙ ap (λ (x : Chip). read (reg_of p) x.regs) (first.leaves c)
          ∙ read_blind (reg_of p) c.regs (record d.regs.status { b4 = c.regs.status.b4; b3 = c.regs.status.b3 }) (read_not_status (reg_of p) may);
    }

loads_far : (known : BankBits) (bank : Bank) (o : Option ℕ) (reg : Reg) (lines : List Line) → Loads known (bits_of_bank bank) reg lines
    → Loads known (bits_of_bank (moved bank o)) reg (lines ++ lines_for bank o)
loads_far known bank o reg lines loaded =
    let more = lines_for bank o in record {
      makes = makes_then known (bits_of_bank bank) (bits_of_bank (moved bank o)) none none lines more blind_none loaded.makes (makes_bank bank o);
      loads = λ c.
          ap (λ (x : Chip). x.w) (ran_then false false lines more c (λ b. b) (ends_well false lines known loaded.makes.fits))
          ∙ w_kept more (bank_keeps bank o) (ran_all false lines c) ∙ loaded.loads c;
    }

-- W is stored behind them.
store_line : (p : Place) (d : Chip) → may_be_written (reg_of p) ≡ true → ran_all false (Store p ∷ []) d ≡ left (write (reg_of p) d.w d.regs) (ran_all false (Store p ∷ []) d) d
store_line place.Absent d may = absurd (cc)
store_line place.Indf d may = absurd (cc)
store_line place.Pcl d may = absurd (cc)
store_line place.Status d may = absurd (cc)
store_line place.Intcon d may = absurd (cc)
store_line place.Pir1 d may = absurd (cc)
store_line place.Pir2 d may = absurd (cc)
store_line _ d may = refl

store_fits : (known : BankBits) (p : Place) → may_be_written (reg_of p) ≡ true → Reached known (Some (reg_of p))
    → Fits false known (Store p ∷ []) × (bank_behind_all (Store p ∷ []) known ≡ known)
store_fits known place.Absent may at = absurd (cc)
store_fits known place.Indf may at = absurd (cc)
store_fits known place.Pcl may at = absurd (cc)
store_fits known place.Status may at = absurd (cc)
store_fits known place.Intcon may at = absurd (cc)
store_fits known place.Pir1 may at = absurd (cc)
store_fits known place.Pir2 may at = absurd (cc)
store_fits known _ may at = ((may, at, refl), refl)

stored_behind : (known behind : BankBits) (reg : Reg) (p : Place) (lines : List Line) → Loads known behind reg lines → may_be_written (reg_of p) ≡ true
    → Reached behind (Some (reg_of p)) → Makes known behind (copied reg (reg_of p)) (lines ++ Store p ∷ [])
stored_behind known behind reg p lines loaded may at =
    let well = ends_well false lines known loaded.makes.fits in
    let store = store_fits behind p may at in
    let to = reg_of p in
    let both = λ (c : Chip). ran_then false false lines (Store p ∷ []) c (λ b. b) well in
    record {
      fits = fits_then false lines (Store p ∷ []) known loaded.makes.fits (subst (λ k. Fits false k (Store p ∷ [])) (sym loaded.makes.banked) store.0);
      banked = bank_then lines (Store p ∷ []) known ∙ ap (bank_behind_all (Store p ∷ [])) loaded.makes.banked ∙ store.1;
      leaves = λ c.
          let d = ran_all false lines c in
          let e = ran_all false (Store p ∷ []) d in
          let x = read reg c.regs in
          both c ∙ left_after (byte_written to x) (blind_write to x may) c.regs d e c (loaded.makes.leaves c)
          (store_line p d may ∙ ap (λ w. left (write to w d.regs) e d) (loaded.loads c))
          ∙ ap (λ (y : Chip). left (write to x c.regs) y c) (sym (both c));
      puts = λ c later.
          let d = ran_all false lines c in
          puts_then false false lines (Store p ∷ []) c later (λ b. b) well ∙ loaded.makes.puts c (puts_of false (Store p ∷ []) d later)
          ∙ ap (λ w. cons_option (shown to w) later) (loaded.loads c) ∙ sym (one_put (shown to (read reg c.regs)) later);
    }
  where
    one_put : (o : Option PortWrite) (later : List PortWrite) → cons_option o [] ++ later ≡ cons_option o later
    one_put None later = refl
    one_put (Some put) later = refl

pub makes_copy : (bank : Bank) (from to : Place) → IsNumbered (reg_of from) → IsNumbered (reg_of to) → may_be_read (reg_of from) ≡ true → may_be_written (reg_of to) ≡ true
    → Makes (bits_of_bank bank) (bits_of_bank (moved (moved bank (bank_of (reg_of from))) (bank_of (reg_of to)))) (copied (reg_of from) (reg_of to)) (lines_to_copy bank from to)
makes_copy bank from to numbered also may write =
    let middle = moved bank (bank_of (reg_of from)) in
    let there = bits_of_bank (moved middle (bank_of (reg_of to))) in
    let loaded = loads_far (bits_of_bank bank) middle (bank_of (reg_of to)) (reg_of from) (lines_to_load bank from) (loads_in bank from numbered may) in
    subst (Makes (bits_of_bank bank) there (copied (reg_of from) (reg_of to)))
    (append_assoc (lines_to_load bank from) (lines_for middle (bank_of (reg_of to))) (Store to ∷ []))
    (stored_behind (bits_of_bank bank) there (reg_of from) to (lines_to_load bank from ++ lines_for middle (bank_of (reg_of to))) loaded write (reached middle (reg_of to) also))

pub blind_copy : (from to : Reg) → may_be_read from ≡ true → may_be_written to ≡ true → Blind (copied from to)
blind_copy from to may write =
    let never = read_not_status from may in record {
      change = λ r status. ap (λ x. (byte_written to x).change (record r { status = status })) (read_blind from r status never) ∙ (blind_write to (read from r) write).change r status;
      puts = λ r status. ap (λ x. cons_option (shown to x) []) (read_blind from r status never);
    }

blind_made : (reg : Reg) (byte : ℕ) (o : Option ℕ) → ((b : ℕ) → may_be_changed reg b ≡ true) → is_steady reg ≡ true → Blind (change_made o reg byte)
blind_made reg byte None may steady = blind_write reg (bits byte) (may_write reg (may 0) steady)
blind_made reg byte (Some b) may steady = blind_bit reg b (bit b (bits byte)) (may b)

blind_if : (reg : Reg) (changing byte : ℕ) (z : Bool) → ((b : ℕ) → may_be_changed reg b ≡ true) → is_steady reg ≡ true → Blind (if z then none else change_made (only_bit changing) reg byte)
blind_if reg changing byte true may steady = blind_none
blind_if reg changing byte false may steady = blind_made reg byte (only_bit changing) may steady

pub blind_change : (reg : Reg) (changing byte : ℕ) → ((b : ℕ) → may_be_changed reg b ≡ true) → is_steady reg ≡ true → Blind (changed_to reg changing byte)
blind_change reg changing byte may steady = blind_if reg changing byte (is_zero (bits changing)) may steady
