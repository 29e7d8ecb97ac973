-- Pieces of glue one after another, and what each leaves.
use Rattle.std.proofs.Common.{◌≡◌, ℕ, zero, suc, ◌+◌, ◌*◌, ◌/◌, ◌%◌, ◌<◌, ◌≤◌, Bool, true, false, not, ◌&&◌, ◌||◌, ◌==◌, if◌then◌else◌, Option, Some, None, List, [], ◌∷◌, ◌++◌, refl, sym, ap, ap₂, subst, ◌∙◌, append_assoc, arith, lit<, inl, inr}
use Rattle.std.specs.Prelude.{nat_lt, nat_le}
use Rattle.std.specs.List.{cons_option}
use Rattle.std.proofs.lemmas.Bool.Decides.{eqb_tells, leb_tells}
use Rattle.pic_isa.specs.declared.sources.Source.{Source}
use Rattle.pic_regs.specs.declared.places.Place.{Place}
use Rattle.pic_regs.specs.declared.places.Place.TheVariants as place
use Rattle.pic_regs.specs.Bytes.{Byte, bits, bit, with_bit, zeros, one_if, is_zero}
use Rattle.pic_regs.specs.Map.{Reg, Absent, Indf, Pcl, Status, Fsr, Pclath, Intcon, Pir1, Pir2, Pie1, Pie2, Port, Tris, Plain, reg_in, reg_at, in_bank}
use Rattle.pic_regs.specs.Places.{reg_of}
use Rattle.pic_regs.specs.Registers.{Registers, read, write}
use Rattle.pic_machine.specs.declared.steps.PortWrite.{PortWrite}
use Rattle.pic_machine.specs.Chip.{Chip}
use Rattle.code_steps.specs.declared.banks.Bank.{Bank}
use Rattle.code_steps.specs.declared.banks.Bank.TheVariants.{Known, Unknown}
use Rattle.code_acts.specs.Acts.{agrees}
use Rattle.code_acts.specs.Codes.{low_bit, high_bit, moved}
use Rattle.glue_steps.specs.declared.lines.Line.{Line}
use Rattle.glue_steps.specs.declared.lines.Line.TheVariants.{Constant, Load, Store, Clear, Bit, Lower, Skip, Nothing}
use Rattle.glue_steps.specs.Lines.{field_of, skips, did, ran, is_steady, takes_byte, takes_bit, is_glue}
use Rattle.glue_steps.specs.Stretches.{ran_all, puts_of, BankBits, bits_of_bank, may_skip, moves_bank, bank_behind, bank_behind_all, register_of, NamedIn, Reached, Fits}
use Rattle.glue_parts.specs.Places.{bank_of, IsNumbered, is_status, may_be_written}
use Rattle.glue_parts.specs.Pieces.{knows, bit_lines, is_known, lines_to_choose, lines_for, writing, lines_to_write, lines_to_load, lines_to_store, lines_to_copy, bank_stored, bank_copied, only_bit, lines_of_change, lines_to_change, bank_changed, bank_of_flag, lines_to_lower}
use Rattle.glue_parts.specs.Effects.{Effect, none, after, byte_written, copied, bit_made, flag_cleared, change_made, changed_to, Blind, left, Makes}

-- Lines one after another: what is known of the bank, and that they fit.
pub bank_then : (xs ys : List Line) (known : BankBits) → bank_behind_all (xs ++ ys) known ≡ bank_behind_all ys (bank_behind_all xs known)
bank_then [] ys known = refl
bank_then (line ∷ xs) ys known = bank_then xs ys (bank_behind line known)

pub fits_then : (behind : Bool) (xs ys : List Line) (known : BankBits) → Fits behind known xs → Fits false (bank_behind_all xs known) ys → Fits behind known (xs ++ ys)
fits_then behind [] ys known fits then_fits = subst (λ b. Fits b known ys) (sym fits) then_fits
fits_then behind (line ∷ xs) ys known fits then_fits = (fits.0, fits.1, fits_then (may_skip line) xs ys (bank_behind line known) fits.2 then_fits)

-- What they leave and put: none of the second part is skipped, since the first doesn't end in a skip.
abbrev pub EndsWell : (behind : Bool) → List Line → Type 0
EndsWell behind [] = behind ≡ false
EndsWell behind (line ∷ lines) = EndsWell (may_skip line) lines

pub ends_well : (behind : Bool) (lines : List Line) (known : BankBits) → Fits behind known lines → EndsWell behind lines
ends_well behind [] known fits = fits
ends_well behind (line ∷ lines) known fits = ends_well (may_skip line) lines (bank_behind line known) fits.2

none_pending : (skipped behind : Bool) → (skipped ≡ true → behind ≡ true) → behind ≡ false → skipped ≡ false
none_pending false behind pending never = refl
none_pending true true pending never = absurd (cc)
none_pending true false pending never = absurd (let is = pending refl in cc)

skip_told : (line : Line) (c : Chip) → skips line c ≡ true → may_skip line ≡ true
skip_told (Skip v p b) c skip = refl
skip_told (Constant k) c skip = absurd (cc)
skip_told _ c skip = absurd (cc)

pub ran_then : (skipped behind : Bool) (xs ys : List Line) (c : Chip) → (skipped ≡ true → behind ≡ true) → EndsWell behind xs
    → ran_all skipped (xs ++ ys) c ≡ ran_all false ys (ran_all skipped xs c)
ran_then skipped behind [] ys c pending well = ap (λ b. ran_all b ys c) (none_pending skipped behind pending well)
ran_then true behind (line ∷ xs) ys c pending well = ran_then false (may_skip line) xs ys c (λ e. absurd (cc)) well
ran_then false behind (line ∷ xs) ys c pending well = ran_then (skips line c) (may_skip line) xs ys (ran line c) (skip_told line c) well

pub puts_then : (skipped behind : Bool) (xs ys : List Line) (c : Chip) (later : List PortWrite) → (skipped ≡ true → behind ≡ true) → EndsWell behind xs
    → puts_of skipped (xs ++ ys) c later ≡ puts_of skipped xs c (puts_of false ys (ran_all skipped xs c) later)
puts_then skipped behind [] ys c later pending well = ap (λ b. puts_of b ys c later) (none_pending skipped behind pending well)
puts_then true behind (line ∷ xs) ys c later pending well = puts_then false (may_skip line) xs ys c later (λ e. absurd (cc)) well
puts_then false behind (line ∷ xs) ys c later pending well =
    ap (cons_option (did line c).port) (puts_then (skips line c) (may_skip line) xs ys (ran line c) later (skip_told line c) well)

-- No lines do nothing; and one piece after another has both effects.
pub makes_none : (known : BankBits) → Makes known known none []
makes_none known = record { fits = refl; banked = refl; leaves = λ c. refl; puts = λ c later. refl }

pub blind_none : Blind none
blind_none = record { change = λ r status. refl; puts = λ r status. refl }

pub blind_after : (e f : Effect) → Blind e → Blind f → Blind (after e f)
blind_after e f first second = record {
  change = λ r status. ap f.change (first.change r status) ∙ second.change (e.change r) status;
  puts = λ r status. ap₂ (λ xs ys. xs ++ ys) (first.puts r status) (ap f.puts (first.change r status) ∙ second.puts (e.change r) status);
}

pub left_after : (f : Effect) → Blind f → (r : Registers) (d e c : Chip) → d ≡ left r d c → e ≡ left (f.change d.regs) e d → e ≡ left (f.change r) e c
left_after f blind r d e c first second =
    let status : Byte = record d.regs.status { b4 = r.status.b4; b3 = r.status.b3 } in
    let regs : d.regs ≡ record r { status = status } = ap (λ (x : Chip). x.regs) first in
    let own : (f.change r).status ≡ r.status = ap (λ (x : Registers). x.status) (blind.change r r.status) in
    let made : f.change d.regs ≡ record (f.change r) { status = status } = ap f.change regs ∙ blind.change r status in
    second ∙ ap (λ (x : Chip). left (f.change d.regs) e x) first
    ∙ ap (λ (x : Registers). left x e (left r d c)) made
    ∙ ap (λ (s : Byte). record c { w = e.w; pc = e.pc; regs = record (f.change r) { status = record e.regs.status { b4 = s.b4; b3 = s.b3 } } }) (sym own)

pub makes_then : (known middle behind : BankBits) (e f : Effect) (xs ys : List Line) → Blind f → Makes known middle e xs → Makes middle behind f ys
    → Makes known behind (after e f) (xs ++ ys)
makes_then known middle behind e f xs ys blind first second =
    let well = ends_well false xs known first.fits in
    let ran_both = λ (c : Chip). ran_then false false xs ys c (λ b. b) well in
    record {
      fits = fits_then false xs ys known first.fits (subst (λ k. Fits false k ys) (sym first.banked) second.fits);
      banked = bank_then xs ys known ∙ ap (bank_behind_all ys) first.banked ∙ second.banked;
      leaves = λ c.
          let d = ran_all false xs c in
          ran_both c ∙ left_after f blind (e.change c.regs) d (ran_all false ys d) c (first.leaves c) (second.leaves d)
          ∙ ap (λ (x : Chip). left (f.change (e.change c.regs)) x c) (sym (ran_both c));
      puts = λ c later.
          let d = ran_all false xs c in
          let status : Byte = record d.regs.status { b4 = (e.change c.regs).status.b4; b3 = (e.change c.regs).status.b3 } in
          puts_then false false xs ys c later (λ b. b) well ∙ first.puts c (puts_of false ys d later)
          ∙ ap (λ zs. e.puts c.regs ++ zs)
          (second.puts d later ∙ ap (λ zs. zs ++ later) (ap (λ (x : Chip). f.puts x.regs) (first.leaves c) ∙ blind.puts (e.change c.regs) status))
          ∙ sym (append_assoc (e.puts c.regs) (f.puts (e.change c.regs)) later);
    }

-- Effects on a register other than STATUS are blind to STATUS.
pub blind_write : (reg : Reg) (x : Byte) → may_be_written reg ≡ true → Blind (byte_written reg x)
blind_write Status x may = absurd (cc)
blind_write _ x may = record { change = λ r status. refl; puts = λ r status. refl }

-- The choice of a bank.
knows_it : (known : Option Bool) (v : Bool) → knows known v ≡ true → known ≡ Some v
knows_it None v is = absurd (cc)
knows_it (Some true) true is = refl
knows_it (Some true) false is = absurd (cc)
knows_it (Some false) true is = absurd (cc)
knows_it (Some false) false is = refl

status_in : (high low : Option Bool) → NamedIn high low Status
status_in (Some high) (Some low) = refl
status_in (Some high) None = λ bank. refl
status_in None low = λ bank. refl

low_made : (known : BankBits) (v there : Bool) → knows known.low v ≡ there
    → Makes known (record known { low = Some v }) none (if there then [] else Bit v place.Status 5 ∷ [])
low_made known v true is = record {
  fits = refl;
  banked = ap (λ (b : Option Bool). record known { low = b }) (knows_it known.low v is);
  leaves = λ c. refl;
  puts = λ c later. refl;
}
low_made known v false is = record { fits = (refl, status_in known.high known.low, refl); banked = refl; leaves = λ c. refl; puts = λ c later. refl }

high_made : (known : BankBits) (v there : Bool) → knows known.high v ≡ there
    → Makes known (record known { high = Some v }) none (if there then [] else Bit v place.Status 6 ∷ [])
high_made known v true is = record {
  fits = refl;
  banked = ap (λ (b : Option Bool). record known { high = b }) (knows_it known.high v is);
  leaves = λ c. refl;
  puts = λ c later. refl;
}
high_made known v false is = record { fits = (refl, status_in known.high known.low, refl); banked = refl; leaves = λ c. refl; puts = λ c later. refl }

bits_chosen : (known : BankBits) (low high : Bool)
    → Makes known (record { high = Some high; low = Some low }) none (bit_lines 5 known.low low ++ bit_lines 6 known.high high)
bits_chosen known low high =
    makes_then known (record known { low = Some low }) (record { high = Some high; low = Some low }) none none (bit_lines 5 known.low low) (bit_lines 6 known.high high)
    blind_none (low_made known low (knows known.low low) refl) (high_made (record known { low = Some low }) high (knows known.high high) refl)

status_cleared : (known : BankBits) → Makes known (bits_of_bank (Known 0)) none (Clear place.Status ∷ [])
status_cleared known = record { fits = (refl, status_in known.high known.low, refl); banked = refl; leaves = λ c. refl; puts = λ c later. refl }

known_is : (bank : Bank) (k : ℕ) → is_known bank k ≡ true → bank ≡ Known k
known_is Unknown k is = absurd (cc)
known_is (Known bank) k is = elim (eqb_tells bank k) [ inl same ↦ ap Known same.1 | inr differ ↦ let other = differ.0 in absurd (cc) ]

chosen_by : (bank : Bank) (k : ℕ) (there first : Bool) → is_known bank k ≡ there → (k == 0) ≡ first
    → Makes (bits_of_bank bank) (bits_of_bank (Known k)) none
    (if there then [] else if first then Clear place.Status ∷ [] else bit_lines 5 (low_bit bank) (k % 2 == 1) ++ bit_lines 6 (high_bit bank) (k / 2 == 1))
chosen_by bank k true first is zero_is = subst (λ b. Makes (bits_of_bank bank) (bits_of_bank b) none []) (known_is bank k is) (makes_none (bits_of_bank bank))
chosen_by bank k false true is zero_is =
    elim (eqb_tells k 0) [
      | inl same ↦ subst (λ n. Makes (bits_of_bank bank) (bits_of_bank (Known n)) none (Clear place.Status ∷ [])) (sym same.1) (status_cleared (bits_of_bank bank))
      | inr differ ↦ let other = differ.0 in absurd (cc)
    ]
chosen_by bank k false false is zero_is = bits_chosen (bits_of_bank bank) (k % 2 == 1) (k / 2 == 1)

pub makes_choice : (bank : Bank) (k : ℕ) → Makes (bits_of_bank bank) (bits_of_bank (Known k)) none (lines_to_choose bank k)
makes_choice bank k = chosen_by bank k (is_known bank k) (k == 0) refl refl

pub makes_bank : (bank : Bank) (o : Option ℕ) → Makes (bits_of_bank bank) (bits_of_bank (moved bank o)) none (lines_for bank o)
makes_bank bank None = makes_none (bits_of_bank bank)
makes_bank bank (Some k) = makes_choice bank k

-- A register is reached in its bank.
bank_number : (k : ℕ) → k < 4 → 2 * one_if (k / 2 == 1) + one_if (k % 2 == 1) ≡ k
bank_number zero below = refl
bank_number (suc zero) below = refl
bank_number (suc (suc zero)) below = refl
bank_number (suc (suc (suc zero))) below = refl
bank_number (suc (suc (suc (suc k)))) below = absurd (omega (arith, below))

anywhere : (bank : Bank) (reg : Reg) → ((k : ℕ) → reg_in k (field_of reg) ≡ reg) → Reached (bits_of_bank bank) (Some reg)
anywhere Unknown reg all = all
anywhere (Known k) reg all = all (2 * one_if (k / 2 == 1) + one_if (k % 2 == 1))

common_in : (j k f : ℕ) → nat_le 0x70 f ≡ true → reg_in j f ≡ reg_in k f
common_in j k f far =
    ap (λ (r : Reg). if f == 0x00 then Indf else if f == 0x02 then Pcl else if f == 0x03 then Status else if f == 0x04 then Fsr else if f == 0x0A then Pclath else if f == 0x0B then Intcon else r)
    (ap (λ b. if b then Plain f else in_bank j f) far ∙ sym (ap (λ b. if b then Plain f else in_bank k f) far))

plain_reached : (bank : Bank) (address : ℕ) (low : Bool) → nat_lt (address % 128) 0x70 ≡ low → address < 512 → reg_at address ≡ Plain address
    → Reached (bits_of_bank (moved bank (if low then Some (address / 128) else None))) (Some (Plain address))
plain_reached bank address true is below there =
    ap (λ k. reg_in k (address % 128)) (bank_number (address / 128) (omega (arith, below))) ∙ there
plain_reached bank address false is below there =
    anywhere bank (Plain address) (λ k.
    elim (leb_tells 0x70 (address % 128)) [
      | inl far ↦ common_in k (address / 128) (address % 128) far.0 ∙ there
      | inr near ↦ let less = near.1 in let other : nat_lt (address % 128) 0x70 ≡ true = grind (arith, less) in absurd (cc)
    ])

port_reached : (n : ℕ) → n < 5 → reg_in 0 ((0x005 + n) % 128) ≡ Port n
port_reached zero below = refl
port_reached (suc zero) below = refl
port_reached (suc (suc zero)) below = refl
port_reached (suc (suc (suc zero))) below = refl
port_reached (suc (suc (suc (suc zero)))) below = refl
port_reached (suc (suc (suc (suc (suc n))))) below = absurd (omega (arith, below))

tris_reached : (n : ℕ) → n < 5 → reg_in 1 ((0x085 + n) % 128) ≡ Tris n
tris_reached zero below = refl
tris_reached (suc zero) below = refl
tris_reached (suc (suc zero)) below = refl
tris_reached (suc (suc (suc zero))) below = refl
tris_reached (suc (suc (suc (suc zero)))) below = refl
tris_reached (suc (suc (suc (suc (suc n))))) below = absurd (omega (arith, below))

pub reached : (bank : Bank) (reg : Reg) → IsNumbered reg → Reached (bits_of_bank (moved bank (bank_of reg))) (Some reg)
reached bank Absent named = absurd named
reached bank Pir1 named = refl
reached bank Pir2 named = refl
reached bank Pie1 named = refl
reached bank Pie2 named = refl
reached bank (Port n) named = port_reached n named
reached bank (Tris n) named = tris_reached n named
reached bank (Plain address) named = plain_reached bank address (nat_lt (address % 128) 0x70) refl named.0 named.1
reached bank Indf named = anywhere bank Indf (λ k. refl)
reached bank Pcl named = anywhere bank Pcl (λ k. refl)
reached bank Status named = anywhere bank Status (λ k. refl)
reached bank Fsr named = anywhere bank Fsr (λ k. refl)
reached bank Pclath named = anywhere bank Pclath (λ k. refl)
reached bank Intcon named = anywhere bank Intcon (λ k. refl)

-- A register is made a byte.
zeros_by : (p q r s t u v w : Bool) → not (p || q || r || s || t || u || v || w) ≡ true
    → zeros ≡ record { b7 = p; b6 = q; b5 = r; b4 = s; b3 = t; b2 = u; b1 = v; b0 = w }
zeros_by true q r s t u v w is = absurd (cc)
zeros_by false true r s t u v w is = absurd (cc)
zeros_by false false true s t u v w is = absurd (cc)
zeros_by false false false true t u v w is = absurd (cc)
zeros_by false false false false true u v w is = absurd (cc)
zeros_by false false false false false true v w is = absurd (cc)
zeros_by false false false false false false true w is = absurd (cc)
zeros_by false false false false false false false true is = absurd (cc)
zeros_by false false false false false false false false is = refl

zeros_are : (x : Byte) → is_zero x ≡ true → zeros ≡ x
zeros_are x is = zeros_by x.b7 x.b6 x.b5 x.b4 x.b3 x.b2 x.b1 x.b0 is

constant_stored : (known : BankBits) (p : Place) (byte : ℕ) → may_be_written (reg_of p) ≡ true → Reached known (Some (reg_of p))
    → Makes known known (byte_written (reg_of p) (bits byte)) (Constant byte ∷ Store p ∷ [])
constant_stored known place.Absent byte may at = absurd (cc)
constant_stored known place.Indf byte may at = absurd (cc)
constant_stored known place.Pcl byte may at = absurd (cc)
constant_stored known place.Status byte may at = absurd (cc)
constant_stored known place.Intcon byte may at = absurd (cc)
constant_stored known place.Pir1 byte may at = absurd (cc)
constant_stored known place.Pir2 byte may at = absurd (cc)
constant_stored known _ byte may at = record { fits = (refl, tt, (refl, at, refl)); banked = refl; leaves = λ c. refl; puts = λ c later. refl }

zero_stored : (known : BankBits) (p : Place) → may_be_written (reg_of p) ≡ true → Reached known (Some (reg_of p))
    → Makes known known (byte_written (reg_of p) zeros) (Clear p ∷ [])
zero_stored known place.Absent may at = absurd (cc)
zero_stored known place.Indf may at = absurd (cc)
zero_stored known place.Pcl may at = absurd (cc)
zero_stored known place.Status may at = absurd (cc)
zero_stored known place.Intcon may at = absurd (cc)
zero_stored known place.Pir1 may at = absurd (cc)
zero_stored known place.Pir2 may at = absurd (cc)
zero_stored known _ may at = record { fits = (refl, at, refl); banked = refl; leaves = λ c. refl; puts = λ c later. refl }

written_by : (known : BankBits) (p : Place) (byte : ℕ) (none_set : Bool) → is_zero (bits byte) ≡ none_set → may_be_written (reg_of p) ≡ true → Reached known (Some (reg_of p))
    → Makes known known (byte_written (reg_of p) (bits byte)) (if none_set then Clear p ∷ [] else Constant byte ∷ Store p ∷ [])
written_by known p byte true is may at =
    subst (λ x. Makes known known (byte_written (reg_of p) x) (Clear p ∷ [])) (zeros_are (bits byte) is) (zero_stored known p may at)
written_by known p byte false is may at = constant_stored known p byte may at

pub makes_write : (bank : Bank) (p : Place) (byte : ℕ) → IsNumbered (reg_of p) → may_be_written (reg_of p) ≡ true
    → Makes (bits_of_bank bank) (bits_of_bank (moved bank (bank_of (reg_of p)))) (byte_written (reg_of p) (bits byte)) (lines_to_write bank p byte)
makes_write bank p byte numbered may =
    let there = bits_of_bank (moved bank (bank_of (reg_of p))) in
    makes_then (bits_of_bank bank) there there none (byte_written (reg_of p) (bits byte)) (lines_for bank (bank_of (reg_of p))) (writing p byte)
    (blind_write (reg_of p) (bits byte) may) (makes_bank bank (bank_of (reg_of p)))
    (written_by there p byte (is_zero (bits byte)) refl may (reached bank (reg_of p) numbered))
