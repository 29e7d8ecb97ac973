-- What writes of cells and setups leave in the registers.
use Rattle.std.proofs.Common.{◌≡◌, ◌≢◌, ℕ, zero, suc, ◌+◌, ◌<◌, ◌≤◌, Bool, true, false, ◌==◌, if◌then◌else◌, Option, Some, None, List, [], ◌∷◌, ◌++◌, length, get_or, refl, sym, ap, ap₂, subst, ◌∙◌, arith, eq-eqb, inl, inr}
use Rattle.std.specs.Prelude.{IfSome}
use Rattle.std.specs.List.{AllByRecursion}
use Rattle.std.proofs.lemmas.Bool.{eqb-true, ne_eqb, agree_below_at}
use Rattle.std.proofs.lemmas.Bool.Decides.{eqb_tells}
use Rattle.frp_tree.specs.declared.syntax.Setup.{Setup}
use Rattle.frp_tree.specs.Tree.{ProgramTree}
use Rattle.pic_isa.specs.Names.{register_at}
use Rattle.pic_regs.specs.declared.places.Place.TheVariants as place
use Rattle.pic_regs.specs.Bytes.{Byte, num, bits, updated}
use Rattle.pic_regs.specs.Map.{Reg, Absent, Indf, Pcl, Status, Fsr, Pclath, Intcon, Pir1, Pir2, Pie1, Pie2, Port, Tris, Plain, existing, lowest, over, over_tris, reg_at, tris_bits, within}
use Rattle.pic_regs.specs.Places.{reg_of}
use Rattle.pic_regs.specs.Registers.{Registers, held, read, write}
use Rattle.pic_regs.specs.Start.{ram_place}
use Rattle.pic_regs.proofs.SetupRegisterLaws.{Suits, may_set_up, register_is_lowest}
use Rattle.bank_alloc.specs.declared.needs.Needs.{Needs}
use Rattle.bank_alloc.specs.Needs.{bytes_of}
use Rattle.bank_alloc.specs.Addresses.{address_of, is_general}
use Rattle.bank_alloc.proofs.AddressLaws.{addresses-differ, addresses-general}
use Rattle.glue_parts.specs.Places.{named}
use Rattle.firmware_promises.specs.Setups.{last_setup, setup_byte}
use Rattle.core_story.specs.Interface.{AreSetUp}
use Rattle.isr_vector.proofs.BootLaws.{IsMemory}
use Rattle.isr_vector.specs.Booting.{Write, all_written, cell_writes, setup_writes, write_at}

-- The registers of TRIS, and plain bytes.
abbrev pub IsKept : Reg → Type 0
IsKept (Tris n) = Unit {0}
IsKept (Plain address) = Unit {0}
IsKept _ = ⊥

pub named_reg : (reg : Reg) → reg_of (named reg) ≡ reg
named_reg Absent = refl
named_reg _ = refl

-- The registers that control depends on stay.
pub record Controls (r s : Registers) : Type 0 where
  pub pclath : s.pclath ≡ r.pclath
  pub intcon : s.intcon ≡ r.intcon
  pub pie1 : s.pie1 ≡ r.pie1
  pub pie2 : s.pie2 ≡ r.pie2

controls_then : (r s t : Registers) → Controls r s → Controls s t → Controls r t
controls_then r s t first second = record {
  pclath = second.pclath ∙ first.pclath;
  intcon = second.intcon ∙ first.intcon;
  pie1 = second.pie1 ∙ first.pie1;
  pie2 = second.pie2 ∙ first.pie2;
}

write_controls : (reg : Reg) (x : Byte) (r : Registers) → IsMemory reg → Controls r (write reg x r)
write_controls (Port n) x r memory = record { pclath = refl; intcon = refl; pie1 = refl; pie2 = refl }
write_controls (Tris n) x r memory = record { pclath = refl; intcon = refl; pie1 = refl; pie2 = refl }
write_controls (Plain a) x r memory = record { pclath = refl; intcon = refl; pie1 = refl; pie2 = refl }
write_controls _ x r memory = absurd memory

pub written_controls : (ws : List Write) (r : Registers) → AllByRecursion (λ (w : Write). IsMemory (reg_of w.place)) ws → Controls r ((all_written ws).change r)
written_controls [] r memory = record { pclath = refl; intcon = refl; pie1 = refl; pie2 = refl }
written_controls (w ∷ ws) r memory =
    let first : Registers = write (reg_of w.place) (bits w.byte) r in
    controls_then r first ((all_written ws).change first) (write_controls (reg_of w.place) (bits w.byte) r memory.0) (written_controls ws first memory.1)

-- Writes in two parts.
pub written_parts : (xs ys : List Write) (r : Registers) → (all_written (xs ++ ys)).change r ≡ (all_written ys).change ((all_written xs).change r)
written_parts [] ys r = refl
written_parts (w ∷ xs) ys r = written_parts xs ys (write (reg_of w.place) (bits w.byte) r)

-- A write elsewhere leaves a plain byte.
abbrev pub Elsewhere : ℕ → Reg → Type 0
Elsewhere address (Plain b) = address ≡ b → ⊥
Elsewhere address _ = Unit {0}

at_other : {A : Type 0} (memory : ℕ → A) (at other : ℕ) (x : A) → (other ≡ at → ⊥) → updated memory at x other ≡ memory other
at_other memory at other x differ = ap (λ b. if b then x else memory other) (ne_eqb other at differ)

at_same : {A : Type 0} (memory : ℕ → A) (at : ℕ) (x : A) → updated memory at x at ≡ x
at_same memory at x = ap (λ b. if b then x else memory at) (eq-eqb at at refl)

write_elsewhere : (reg : Reg) (x : Byte) (r : Registers) (address : ℕ) → Elsewhere address reg → (write reg x r).plain address ≡ r.plain address
write_elsewhere (Plain b) x r address elsewhere = at_other r.plain b address x elsewhere
write_elsewhere Absent x r address elsewhere = refl
write_elsewhere _ x r address elsewhere = refl

pub written_elsewhere : (ws : List Write) (r : Registers) (address : ℕ) → AllByRecursion (λ (w : Write). Elsewhere address (reg_of w.place)) ws
    → ((all_written ws).change r).plain address ≡ r.plain address
written_elsewhere [] r address elsewhere = refl
written_elsewhere (w ∷ ws) r address elsewhere =
    written_elsewhere ws (write (reg_of w.place) (bits w.byte) r) address elsewhere.1 ∙ write_elsewhere (reg_of w.place) (bits w.byte) r address elsewhere.0

-- Cells hold what is written to them.
later_cells : (need : Needs) (early cell : ℕ) (bytes : List ℕ) → bytes_of need ≤ 352 → early < cell → cell + length bytes ≤ bytes_of need
    → AllByRecursion (λ (w : Write). Elsewhere (address_of need early) (reg_of w.place)) (cell_writes need cell bytes)
later_cells need early cell [] fits before placed = tt
later_cells need early cell (byte ∷ bytes) fits before placed = (
  (λ same. let one = addresses-differ need fits early cell (omega (arith, before, placed)) (omega (arith, placed)) same in omega (arith, one, before)),
  later_cells need early (suc cell) bytes fits (omega (arith, before)) (omega (arith, placed)),
)

pub cells_hold : (need : Needs) (cell : ℕ) (bytes : List ℕ) (r : Registers) (k : ℕ) → bytes_of need ≤ 352 → cell + length bytes ≤ bytes_of need → k < length bytes
    → ((all_written (cell_writes need cell bytes)).change r).plain (address_of need (cell + k)) ≡ bits (get_or bytes k 0)
cells_hold need cell [] r k fits placed inside = absurd (omega (arith, inside))
cells_hold need cell (byte ∷ bytes) r zero fits placed inside =
    let here : cell + 0 ≡ cell = omega arith in
    let first : Registers = write (Plain (address_of need cell)) (bits byte) r in
    ap (λ c. ((all_written (cell_writes need (suc cell) bytes)).change first).plain (address_of need c)) here
    ∙ written_elsewhere (cell_writes need (suc cell) bytes) first (address_of need cell) (later_cells need cell (suc cell) bytes fits (omega arith) (omega (arith, placed)))
    ∙ at_same r.plain (address_of need cell) (bits byte)
cells_hold need cell (byte ∷ bytes) r (suc k) fits placed inside =
    let there : cell + suc k ≡ suc cell + k = omega arith in
    let first : Registers = write (Plain (address_of need cell)) (bits byte) r in
    ap (λ c. ((all_written (cell_writes need (suc cell) bytes)).change first).plain (address_of need c)) there
    ∙ cells_hold need (suc cell) bytes first k fits (omega (arith, placed)) (omega (arith, inside))

-- A general byte is no register that may be set up.
abbrev has_place : Option ℕ → Bool
has_place (Some n) = true
has_place None = false

abbrev placed_if : Bool → ℕ → Bool
placed_if true a = has_place (ram_place a)
placed_if false a = true

general_placed : (a : ℕ) → a < 512 → is_general a ≡ true → has_place (ram_place a) ≡ true
general_placed a below general = sym (ap (λ b. placed_if b a) general) ∙ agree_below_at (λ a. placed_if (is_general a) a) (λ a. true) 512 a refl below

setup_elsewhere : (name : List ℕ) (a : ℕ) (reg : Reg) (address : ℕ) → address < 512 → is_general address ≡ true → Suits name a reg → Elsewhere address reg
setup_elsewhere name a (Plain b) address below general suits = (λ same.
    let place : has_place (ram_place address) ≡ true = general_placed address below general in
    let here : address ≡ a = same ∙ suits.2 in
    let clash : true ≡ false = sym place ∙ ap (λ x. has_place (ram_place x)) here ∙ ap has_place suits.3 in absurd (cc))
setup_elsewhere name a (Port n) address below general suits = tt
setup_elsewhere name a (Tris n) address below general suits = tt
setup_elsewhere name a _ address below general suits = absurd suits

-- What holds of each register that may be set up holds of those of setups.
each_setup : (P : Reg → Type 0) → ((name : List ℕ) (a : ℕ) → register_at name ≡ Some a → P (reg_at a)) → (setups : List Setup)
    → AllByRecursion (λ (w : Write). P (reg_of w.place)) (setup_writes setups)
each_setup P each [] = tt
each_setup P each (s ∷ setups) = by (register_at s.register) refl (each_setup P each setups)
  where
    by : (o : Option ℕ) → register_at s.register ≡ o → AllByRecursion (λ (w : Write). P (reg_of w.place)) (setup_writes setups)
        → AllByRecursion (λ (w : Write). P (reg_of w.place)) (write_at o s.byte ++ setup_writes setups)
    by None is rest = rest
    by (Some a) is rest = (subst P (sym (named_reg (reg_at a))) (each s.register a is), rest)

pub setups_elsewhere : (setups : List Setup) (address : ℕ) → address < 512 → is_general address ≡ true → AllByRecursion (λ (w : Write). Elsewhere address (reg_of w.place)) (setup_writes setups)
setups_elsewhere setups address below general =
    each_setup (Elsewhere address) (λ name a is. setup_elsewhere name a (reg_at a) address below general (may_set_up name a is)) setups

memory_of : (name : List ℕ) (a : ℕ) (reg : Reg) → Suits name a reg → IsMemory reg
memory_of name a (Plain b) suits = tt
memory_of name a (Port n) suits = tt
memory_of name a (Tris n) suits = tt
memory_of name a _ suits = absurd suits

-- A register that is set up, and no port, is read back, whatever other registers are written then.
tris_over : (n : ℕ) (old x : Byte) → tris_bits n (over_tris n old x) ≡ tris_bits n x
tris_over zero old x = refl
tris_over (suc zero) old x = refl
tris_over (suc (suc zero)) old x = refl
tris_over (suc (suc (suc zero))) old x = refl
tris_over (suc (suc (suc (suc zero)))) old x = refl
tris_over (suc (suc (suc (suc (suc n))))) old x = refl

read_back : (reg : Reg) (x : Byte) (r : Registers) → IsKept reg → read reg (write reg x r) ≡ existing reg x
read_back (Tris n) x r kept = ap (tris_bits n) (at_same r.tris n (over_tris n (r.tris n) x)) ∙ tris_over n (r.tris n) x
read_back (Plain b) x r kept = at_same r.plain b x
read_back _ x r kept = absurd kept

port_aside : (m : ℕ) (reg : Reg) (x : Byte) (r : Registers) → IsKept reg → read reg (write (Port m) x r) ≡ read reg r
port_aside m (Tris n) x r kept = refl
port_aside m (Plain b) x r kept = refl
port_aside m _ x r kept = absurd kept

tris_aside : (m : ℕ) (reg : Reg) (x : Byte) (r : Registers) → IsKept reg → (lowest reg ≡ Some (0x085 + m) → ⊥) → read reg (write (Tris m) x r) ≡ read reg r
tris_aside m (Tris n) x r kept differ = ap (tris_bits n) (at_other r.tris m n (over_tris m (r.tris m) x) (λ same. differ (ap (λ k. Some (0x085 + k)) same)))
tris_aside m (Plain b) x r kept differ = refl
tris_aside m _ x r kept differ = absurd kept

plain_aside : (a : ℕ) (reg : Reg) (x : Byte) (r : Registers) → IsKept reg → (lowest reg ≡ Some a → ⊥) → read reg (write (Plain a) x r) ≡ read reg r
plain_aside a (Tris n) x r kept differ = refl
plain_aside a (Plain b) x r kept differ = at_other r.plain a b x (λ same. differ (ap (λ k. Some k) same))
plain_aside a _ x r kept differ = absurd kept

read_other : (other reg : Reg) (x : Byte) (r : Registers) → IsKept reg → IsMemory other → (lowest reg ≡ lowest other → ⊥) → read reg (write other x r) ≡ read reg r
read_other (Port m) reg x r kept memory differ = port_aside m reg x r kept
read_other (Tris m) reg x r kept memory differ = tris_aside m reg x r kept differ
read_other (Plain a) reg x r kept memory differ = plain_aside a reg x r kept differ
read_other _ reg x r kept memory differ = absurd memory

lowest_of : (name : List ℕ) (a : ℕ) → register_at name ≡ Some a → lowest (reg_at a) ≡ Some a
lowest_of name a is = subst (λ (o : Option ℕ). IfSome o (λ address. lowest (reg_at address) ≡ Some address)) is (register_is_lowest name)

kept_of : (name : List ℕ) (a : ℕ) (reg : Reg) → within 5 9 a ≡ false → Suits name a reg → IsKept reg
kept_of name a (Plain b) no_port suits = tt
kept_of name a (Tris n) no_port suits = tt
kept_of name a (Port n) no_port suits = let clash : true ≡ false = sym suits.1 ∙ no_port in absurd (cc)
kept_of name a _ no_port suits = absurd suits

-- Which registers setups name.
named_by : (setups : List Setup) (a byte : ℕ) → last_setup setups a ≡ Some byte → (name : List ℕ) × (register_at name ≡ Some a)
named_by [] a byte is = absurd (cc)
named_by (s ∷ setups) a byte is = by (last_setup setups a) refl is (λ b rest. named_by setups a b rest)
  where
    own : (o : Option ℕ) → register_at s.register ≡ o → elim o as (λ x. Option ℕ) [ Some at ↦ (if at == a then Some s.byte else None) | None ↦ None ] ≡ Some byte
        → (name : List ℕ) × (register_at name ≡ Some a)
    own None at found = absurd (cc)
    own (Some at) here found =
        elim (eqb_tells at a) [
          | inl same ↦ (s.register, here ∙ ap (λ k. Some k) same.1)
          | inr differ ↦ let clash : None ≡ Some byte = sym (ap (λ b. if b then Some s.byte else None) differ.0) ∙ found in absurd (cc)
        ]

    by : (o : Option ℕ) → last_setup setups a ≡ o → elim o as (λ x. Option ℕ) [ Some b ↦ Some b | None ↦ setup_byte s a ] ≡ Some byte
        → ((b : ℕ) → last_setup setups a ≡ Some b → (name : List ℕ) × (register_at name ≡ Some a)) → (name : List ℕ) × (register_at name ≡ Some a)
    by (Some b) rest found later = later b rest
    by None rest found later = own (register_at s.register) refl found

module _ (name : List ℕ) (a : ℕ) (is : register_at name ≡ Some a) (no_port : within 5 9 a ≡ false) where
  kept : IsKept (reg_at a)
  kept = kept_of name a (reg_at a) no_port (may_set_up name a is)

  -- Setups of other registers leave it.
  one_keeps : (other : List ℕ) (o : Option ℕ) (byte : ℕ) (r : Registers) → register_at other ≡ o → (o ≡ Some a → ⊥)
      → read (reg_at a) ((all_written (write_at o byte)).change r) ≡ read (reg_at a) r
  one_keeps other None byte r found differ = refl
  one_keeps other (Some b) byte r found differ =
      let same : reg_of (named (reg_at b)) ≡ reg_at b = named_reg (reg_at b) in
      ap (λ (reg : Reg). read (reg_at a) (write reg (bits byte) r)) same
      ∙ read_other (reg_at b) (reg_at a) (bits byte) r kept (memory_of other b (reg_at b) (may_set_up other b found))
      (λ lows. differ (sym (lowest_of other b found) ∙ sym lows ∙ lowest_of name a is))

  unnamed : (s : Setup) (o : Option ℕ) → elim o as (λ x. Option ℕ) [ Some at ↦ (if at == a then Some s.byte else None) | None ↦ None ] ≡ None → o ≡ Some a → ⊥
  unnamed s o none found =
      let at_it : elim (Some a) as (λ (x : Option ℕ). Option ℕ) [ Some at ↦ (if at == a then Some s.byte else None) | None ↦ None ] ≡ None =
      subst (λ (x : Option ℕ). elim x as (λ y. Option ℕ) [ Some at ↦ (if at == a then Some s.byte else None) | None ↦ None ] ≡ None) found none in
      let clash : Some s.byte ≡ None = sym (ap (λ b. if b then Some s.byte else None) (eq-eqb a a refl)) ∙ at_it in absurd (cc)

  setups_keep : (setups : List Setup) (r : Registers) → last_setup setups a ≡ None → read (reg_at a) ((all_written (setup_writes setups)).change r) ≡ read (reg_at a) r
  setups_keep [] r none = refl
  setups_keep (s ∷ setups) r none = by (last_setup setups a) refl none (λ x rest. setups_keep setups x rest)
    where
      by : (o : Option ℕ) → last_setup setups a ≡ o → elim o as (λ x. Option ℕ) [ Some b ↦ Some b | None ↦ setup_byte s a ] ≡ None
          → ((x : Registers) → last_setup setups a ≡ None → read (reg_at a) ((all_written (setup_writes setups)).change x) ≡ read (reg_at a) x)
          → read (reg_at a) ((all_written (setup_writes (s ∷ setups))).change r) ≡ read (reg_at a) r
      by (Some b) rest none later = absurd (cc)
      by None rest none later =
          let own = write_at (register_at s.register) s.byte in
          ap (read (reg_at a)) (written_parts own (setup_writes setups) r)
          ∙ later ((all_written own).change r) rest
          ∙ one_keeps s.register (register_at s.register) s.byte r refl (unnamed s (register_at s.register) none)

  -- The last setup of it stands.
  one_stands : (s : Setup) (o : Option ℕ) (byte : ℕ) (r : Registers) → elim o as (λ x. Option ℕ) [ Some at ↦ (if at == a then Some s.byte else None) | None ↦ None ] ≡ Some byte
      → read (reg_at a) ((all_written (write_at o s.byte)).change r) ≡ existing (reg_at a) (bits byte)
  one_stands s None byte r found = absurd (cc)
  one_stands s (Some b) byte r found =
      elim (eqb_tells b a) [
        | inl same ↦
            let its : Some s.byte ≡ Some byte = sym (ap (λ t. if t then Some s.byte else None) same.0) ∙ found in
            let bytes : s.byte ≡ byte = cc in
            ap (λ (reg : Reg). read (reg_at a) (write reg (bits s.byte) r)) (named_reg (reg_at b) ∙ ap reg_at same.1)
            ∙ read_back (reg_at a) (bits s.byte) r kept ∙ ap (λ n. existing (reg_at a) (bits n)) bytes
        | inr differ ↦ let clash : None ≡ Some byte = sym (ap (λ t. if t then Some s.byte else None) differ.0) ∙ found in absurd (cc)
      ]

  pub setups_stand : (setups : List Setup) (byte : ℕ) (r : Registers) → last_setup setups a ≡ Some byte
      → read (reg_at a) ((all_written (setup_writes setups)).change r) ≡ existing (reg_at a) (bits byte)
  setups_stand [] byte r last = absurd (cc)
  setups_stand (s ∷ setups) byte r last = by (last_setup setups a) refl last (λ b x rest. setups_stand setups b x rest)
    where
      own : List Write
      own = write_at (register_at s.register) s.byte

      by : (o : Option ℕ) → last_setup setups a ≡ o → elim o as (λ x. Option ℕ) [ Some b ↦ Some b | None ↦ setup_byte s a ] ≡ Some byte
          → ((b : ℕ) (x : Registers) → last_setup setups a ≡ Some b → read (reg_at a) ((all_written (setup_writes setups)).change x) ≡ existing (reg_at a) (bits b))
          → read (reg_at a) ((all_written (setup_writes (s ∷ setups))).change r) ≡ existing (reg_at a) (bits byte)
      by (Some b) rest found later =
          let same : b ≡ byte = cc in
          ap (read (reg_at a)) (written_parts own (setup_writes setups) r)
          ∙ later b ((all_written own).change r) rest ∙ ap (λ n. existing (reg_at a) (bits n)) same
      by None rest found later =
          ap (read (reg_at a)) (written_parts own (setup_writes setups) r)
          ∙ setups_keep setups ((all_written own).change r) rest ∙ one_stands s (register_at s.register) byte r found

-- So all that are set up, and are no ports, stand behind the setups, and wherever these registers hold the same.
pub set_up_behind : (p : ProgramTree) (r : Registers) → AreSetUp p ((all_written (setup_writes p.setups)).change r)
set_up_behind p r a byte no_port last =
    let named = named_by p.setups a byte last in ap num (setups_stand named.0 a named.1 no_port p.setups byte r last)

-- The registers that are memory are the same.
pub record SameMemory (r s : Registers) : Type 0 where
  pub latch : s.latch ≡ r.latch
  pub tris : s.tris ≡ r.tris
  pub plain : s.plain ≡ r.plain

kept_same : (reg : Reg) (r s : Registers) → IsKept reg → SameMemory r s → read reg s ≡ read reg r
kept_same (Tris n) r s kept same = ap (λ (tris : ℕ → Byte). tris_bits n (tris n)) same.tris
kept_same (Plain a) r s kept same = ap (λ (plain : ℕ → Byte). plain a) same.plain
kept_same _ r s kept same = absurd kept

pub set_up_same : (p : ProgramTree) (r s : Registers) → SameMemory r s → AreSetUp p r → AreSetUp p s
set_up_same p r s same set a byte no_port last =
    let named = named_by p.setups a byte last in
    ap num (kept_same (reg_at a) r s (kept_of named.0 a (reg_at a) no_port (may_set_up named.0 a named.1)) same) ∙ set a byte no_port last
