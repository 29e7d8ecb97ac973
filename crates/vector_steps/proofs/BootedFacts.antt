-- What the boot leaves in the registers.
use Rattle.std.proofs.Common.{◌≡◌, ℕ, zero, suc, ◌+◌, ◌<◌, ◌≤◌, Bool, true, false, not, ◌==◌, ◌||◌, if◌then◌else◌, Option, Some, None, List, [], ◌∷◌, ◌++◌, length, get_or, refl, sym, ap, ap₂, subst, ◌∙◌, arith, inl, inr}
use Rattle.std.specs.List.{AllByRecursion}
use Rattle.std.proofs.lemmas.Bool.Decides.{eqb_tells, nat_tests}
use Rattle.frp_tree.specs.Tree.{ProgramTree}
use Rattle.efrp_meaning.specs.Bounds.{state_bytes}
use Rattle.efrp_meaning.specs.Types.{IsTyped}
use Rattle.pic_regs.specs.Bytes.{Byte, bits, bit, is_zero, with_bit, zeros}
use Rattle.pic_regs.specs.Map.{Reg, Intcon, Pie1, Pie2}
use Rattle.pic_regs.specs.Places.{reg_of}
use Rattle.pic_regs.specs.Registers.{Registers}
use Rattle.bank_alloc.specs.declared.needs.Needs.{Needs}
use Rattle.bank_alloc.specs.Needs.{bytes_of}
use Rattle.bank_alloc.specs.Addresses.{address_of, is_general}
use Rattle.bank_alloc.proofs.AddressLaws.{addresses-general}
use Rattle.priority_masks.specs.declared.tables.Enables.{Enables}
use Rattle.glue_parts.specs.Pieces.{only_bit}
use Rattle.glue_parts.specs.Effects.{bit_made, change_made, changed_to, none}
use Rattle.core_story.specs.Interface.{AreSetUp}
use Rattle.isr_vector.specs.Booting.{Write, all_written, boot_effect, boot_writes, cell_writes, enable_made, enables_made, first_bytes, setup_writes}
use Rattle.isr_vector.proofs.ListLaws.{all_mapped}
use Rattle.isr_vector.proofs.BootLaws.{CanWrite, IsMemory, boot_can}
use Rattle.isr_vector.proofs.StateLaws.{first-length}
use Rattle.vector_steps.proofs.SetUpFacts.{SameMemory, cells_hold, set_up_behind, set_up_same, setups_elsewhere, written_controls, written_elsewhere, written_parts}

general-below : (address : ℕ) → is_general address ≡ true → address < 512
general-below address general = grind (arith, nat_tests)

-- A byte in which one bit alone is set, and one in which none is.
abbrev AloneIn : ℕ → ℕ → Type 0
AloneIn byte b = with_bit b (bit b (bits byte)) zeros ≡ bits byte

alone_or : (byte v k b : ℕ) (rest : Option ℕ) (t : Bool) → (byte == v) ≡ t → AloneIn v k → (rest ≡ Some b → AloneIn byte b) → (if t then Some k else rest) ≡ Some b → AloneIn byte b
alone_or byte v k b rest true test alone later is =
    let same : byte ≡ v = elim (eqb_tells byte v) [ inl is_it ↦ is_it.1 | inr differs ↦ let clash : true ≡ false = sym test ∙ differs.0 in absurd (cc) ] in
    let bits_same : k ≡ b = cc in
    subst (λ n. AloneIn n b) (sym same) (subst (AloneIn v) bits_same alone)
alone_or byte v k b rest false test alone later is = later is

only_one : (byte b : ℕ) → only_bit byte ≡ Some b → AloneIn byte b
only_one byte b =
    alone_or byte 0x01 0 b _ (byte == 0x01) refl refl
    (alone_or byte 0x02 1 b _ (byte == 0x02) refl refl
    (alone_or byte 0x04 2 b _ (byte == 0x04) refl refl
    (alone_or byte 0x08 3 b _ (byte == 0x08) refl refl
    (alone_or byte 0x10 4 b _ (byte == 0x10) refl refl
    (alone_or byte 0x20 5 b _ (byte == 0x20) refl refl
    (alone_or byte 0x40 6 b _ (byte == 0x40) refl refl
    (alone_or byte 0x80 7 b None (byte == 0x80) refl refl (λ none. absurd (cc)))))))))

no_bit : (p q r s t u v w : Bool) → not (p || q || r || s || t || u || v || w) ≡ true → zeros ≡ record { b7 = p; b6 = q; b5 = r; b4 = s; b3 = t; b2 = u; b1 = v; b0 = w }
no_bit true q r s t u v w is = absurd (cc)
no_bit false true r s t u v w is = absurd (cc)
no_bit false false true s t u v w is = absurd (cc)
no_bit false false false true t u v w is = absurd (cc)
no_bit false false false false true u v w is = absurd (cc)
no_bit false false false false false true v w is = absurd (cc)
no_bit false false false false false false true w is = absurd (cc)
no_bit false false false false false false false true is = absurd (cc)
no_bit false false false false false false false false is = refl

-- PIE1 and PIE2 become what they are to be.
pie1_made : (o : Option ℕ) (byte : ℕ) (r : Registers) → r.pie1 ≡ zeros → only_bit byte ≡ o → ((change_made o Pie1 byte).change r).pie1 ≡ bits byte
pie1_made None byte r before is = refl
pie1_made (Some b) byte r before is = ap (with_bit b (bit b (bits byte))) before ∙ only_one byte b is

pie1_if : (z : Bool) (byte : ℕ) (r : Registers) → r.pie1 ≡ zeros → is_zero (bits byte) ≡ z → ((if z then none else change_made (only_bit byte) Pie1 byte).change r).pie1 ≡ bits byte
pie1_if true byte r before is = let x : Byte = bits byte in before ∙ no_bit x.b7 x.b6 x.b5 x.b4 x.b3 x.b2 x.b1 x.b0 is
pie1_if false byte r before is = pie1_made (only_bit byte) byte r before refl

pie2_made : (o : Option ℕ) (byte : ℕ) (r : Registers) → r.pie2 ≡ zeros → only_bit byte ≡ o → ((change_made o Pie2 byte).change r).pie2 ≡ bits byte
pie2_made None byte r before is = refl
pie2_made (Some b) byte r before is = ap (with_bit b (bit b (bits byte))) before ∙ only_one byte b is

pie2_if : (z : Bool) (byte : ℕ) (r : Registers) → r.pie2 ≡ zeros → is_zero (bits byte) ≡ z → ((if z then none else change_made (only_bit byte) Pie2 byte).change r).pie2 ≡ bits byte
pie2_if true byte r before is = let x : Byte = bits byte in before ∙ no_bit x.b7 x.b6 x.b5 x.b4 x.b3 x.b2 x.b1 x.b0 is
pie2_if false byte r before is = pie2_made (only_bit byte) byte r before refl

-- All else stays.
record Others (r s : Registers) : Type 0 where
  memory : SameMemory r s
  pclath : s.pclath ≡ r.pclath

pie1_others : (z : Bool) (o : Option ℕ) (byte : ℕ) (r : Registers) → let s : Registers = (if z then none else change_made o Pie1 byte).change r in Others r s × (s.intcon ≡ r.intcon) × (s.pie2 ≡ r.pie2)
pie1_others true o byte r = (record { memory = record { latch = refl; tris = refl; plain = refl }; pclath = refl }, refl, refl)
pie1_others false None byte r = (record { memory = record { latch = refl; tris = refl; plain = refl }; pclath = refl }, refl, refl)
pie1_others false (Some b) byte r = (record { memory = record { latch = refl; tris = refl; plain = refl }; pclath = refl }, refl, refl)

pie2_others : (z : Bool) (o : Option ℕ) (byte : ℕ) (r : Registers) → let s : Registers = (if z then none else change_made o Pie2 byte).change r in Others r s × (s.intcon ≡ r.intcon) × (s.pie1 ≡ r.pie1)
pie2_others true o byte r = (record { memory = record { latch = refl; tris = refl; plain = refl }; pclath = refl }, refl, refl)
pie2_others false None byte r = (record { memory = record { latch = refl; tris = refl; plain = refl }; pclath = refl }, refl, refl)
pie2_others false (Some b) byte r = (record { memory = record { latch = refl; tris = refl; plain = refl }; pclath = refl }, refl, refl)

others_then : (r s t : Registers) → Others r s → Others s t → Others r t
others_then r s t first second = record {
  memory = record {
    latch = second.memory.latch ∙ first.memory.latch;
    tris = second.memory.tris ∙ first.memory.tris;
    plain = second.memory.plain ∙ first.memory.plain;
  };
  pclath = second.pclath ∙ first.pclath;
}

-- The enables of INTCON, one by one.
abbrev set_in : Bool → ℕ → Byte → Byte
set_in v b i = if v then with_bit b true i else i

record Enabled (b : ℕ) (v : Bool) (r s : Registers) : Type 0 where
  intcon : s.intcon ≡ set_in v b r.intcon
  pie1 : s.pie1 ≡ r.pie1
  pie2 : s.pie2 ≡ r.pie2
  others : Others r s

enabled : (b : ℕ) (v : Bool) (r : Registers) → Enabled b v r ((if v then bit_made Intcon b true else none).change r)
enabled b true r = record { intcon = refl; pie1 = refl; pie2 = refl; others = record { memory = record { latch = refl; tris = refl; plain = refl }; pclath = refl } }
enabled b false r = record { intcon = refl; pie1 = refl; pie2 = refl; others = record { memory = record { latch = refl; tris = refl; plain = refl }; pclath = refl } }

three_set : (t0 int peie : Bool) → set_in peie 6 (set_in int 4 (set_in t0 5 zeros)) ≡ record zeros { b6 = peie; b5 = t0; b4 = int }
three_set true true true = refl
three_set true true false = refl
three_set true false true = refl
three_set true false false = refl
three_set false true true = refl
three_set false true false = refl
three_set false false true = refl
three_set false false false = refl

-- The registers behind the boot.
pub record Booted (p : ProgramTree) (need : Needs) (enables : Enables) (r : Registers) : Type 0 where
  pub cells : (k : ℕ) → k < length (first_bytes p) → r.plain (address_of need k) ≡ bits (get_or (first_bytes p) k 0)
  pub intcon : r.intcon ≡ record zeros { b6 = bit 6 (bits enables.intcon); b5 = bit 5 (bits enables.intcon); b4 = bit 4 (bits enables.intcon) }
  pub pie1 : r.pie1 ≡ bits enables.pie1
  pub pie2 : r.pie2 ≡ bits enables.pie2
  pub pclath : r.pclath ≡ zeros
  pub set_up : AreSetUp p r

module _ (enables : Enables) (r : Registers) (intcon : r.intcon ≡ zeros) (pie1 : r.pie1 ≡ zeros) (pie2 : r.pie2 ≡ zeros) where
  abbrev with_pie1 : Registers
  with_pie1 = (changed_to Pie1 enables.pie1 enables.pie1).change r

  abbrev with_pie2 : Registers
  with_pie2 = (changed_to Pie2 enables.pie2 enables.pie2).change with_pie1

  abbrev with_t0 : Registers
  with_t0 = (enable_made enables 5).change with_pie2

  abbrev with_int : Registers
  with_int = (enable_made enables 4).change with_t0

  abbrev with_peie : Registers
  with_peie = (enable_made enables 6).change with_int

  record AllEnabled : Type 0 where
    its_intcon : with_peie.intcon ≡ record zeros { b6 = bit 6 (bits enables.intcon); b5 = bit 5 (bits enables.intcon); b4 = bit 4 (bits enables.intcon) }
    its_pie1 : with_peie.pie1 ≡ bits enables.pie1
    its_pie2 : with_peie.pie2 ≡ bits enables.pie2
    its_others : Others r with_peie

  all_enabled : AllEnabled
  all_enabled =
      let first = pie1_others (is_zero (bits enables.pie1)) (only_bit enables.pie1) enables.pie1 r in
      let second = pie2_others (is_zero (bits enables.pie2)) (only_bit enables.pie2) enables.pie2 with_pie1 in
      let one = pie1_if (is_zero (bits enables.pie1)) enables.pie1 r pie1 refl in
      let two = pie2_if (is_zero (bits enables.pie2)) enables.pie2 with_pie1 (first.2 ∙ pie2) refl in
      let t0 = enabled 5 (bit 5 (bits enables.intcon)) with_pie2 in
      let int = enabled 4 (bit 4 (bits enables.intcon)) with_t0 in
      let peie = enabled 6 (bit 6 (bits enables.intcon)) with_int in record {
        its_intcon =
            peie.intcon ∙ ap (set_in (bit 6 (bits enables.intcon)) 6) (int.intcon ∙ ap (set_in (bit 4 (bits enables.intcon)) 4) (t0.intcon ∙ ap (set_in (bit 5 (bits enables.intcon)) 5) (second.1 ∙ first.1 ∙ intcon)))
            ∙ three_set (bit 5 (bits enables.intcon)) (bit 4 (bits enables.intcon)) (bit 6 (bits enables.intcon));
        its_pie1 = peie.pie1 ∙ int.pie1 ∙ t0.pie1 ∙ second.2 ∙ one;
        its_pie2 = peie.pie2 ∙ int.pie2 ∙ t0.pie2 ∙ two;
        its_others =
            others_then r with_pie1 with_peie first.0
            (others_then with_pie1 with_pie2 with_peie second.0
            (others_then with_pie2 with_t0 with_peie t0.others (others_then with_t0 with_int with_peie int.others peie.others)));
      }

pub booted : (p : ProgramTree) (need : Needs) (enables : Enables) (r : Registers) → IsTyped p → bytes_of need ≤ 352 → state_bytes p ≤ need.states
    → r.pclath ≡ zeros → r.intcon ≡ zeros → r.pie1 ≡ zeros → r.pie2 ≡ zeros → Booted p need enables ((boot_effect p need enables).change r)
booted p need enables r typed fits placed pclath intcon pie1 pie2 =
    let bytes = first_bytes p in
    let cells = cell_writes need 0 bytes in
    let setups = setup_writes p.setups in
    let there : Registers = (all_written (boot_writes p need)).change r in
    let before : Registers = (all_written cells).change r in
    let parts : there ≡ (all_written setups).change before = written_parts cells setups r in
    let controls = written_controls (boot_writes p need) r
    (all_mapped CanWrite (λ (w : Write). IsMemory (reg_of w.place)) (λ w can. can.memory) (boot_writes p need) (boot_can p need typed fits placed)) in
    let count = first-length p typed in
    let room : 0 + length bytes ≤ bytes_of need = omega (arith, count, placed) in
    let done = all_enabled enables there (controls.intcon ∙ intcon) (controls.pie1 ∙ pie1) (controls.pie2 ∙ pie2) in record {
      cells = λ k inside.
          let general = addresses-general need fits k (omega (arith, room, inside)) in
          let from : 0 + k ≡ k = omega arith in
          ap (λ (plain : ℕ → Byte). plain (address_of need k)) (done.its_others.memory.plain ∙ ap (λ (x : Registers). x.plain) parts)
          ∙ written_elsewhere setups before (address_of need k) (setups_elsewhere p.setups (address_of need k) (general-below (address_of need k) general) general)
          ∙ ap (λ j. before.plain (address_of need j)) (sym from)
          ∙ cells_hold need 0 bytes r k fits room inside;
      intcon = done.its_intcon;
      pie1 = done.its_pie1;
      pie2 = done.its_pie2;
      pclath = done.its_others.pclath ∙ controls.pclath ∙ pclath;
      set_up = set_up_same p there ((enables_made enables).change there) done.its_others.memory (subst (AreSetUp p) (sym parts) (set_up_behind p before));
    }
