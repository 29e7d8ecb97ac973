-- Lines of glue: their own steps, and that arrivals before a line are arrivals behind it.
use Rattle.std.proofs.Common.{◌≡◌, ℕ, zero, suc, ◌+◌, ◌*◌, Bool, true, false, not, ◌==◌, ◌&&◌, ◌||◌, if◌then◌else◌, Option, Some, None, ap, ap₂, ◌∙◌, sym, refl, subst, arith, lit<, ◌%◌, ◌<◌}
use Rattle.std.specs.Prelude.{nat_le}
use Rattle.std.proofs.lemmas.Bool.{ne_eqb}
use Rattle.pic_isa.specs.declared.instructions.Dest.TheVariants.{W}
use Rattle.pic_isa.specs.declared.instructions.Instr.{Instr}
use Rattle.pic_isa.specs.declared.instructions.Instr.TheVariants.{Bcf, Bsf, Btfsc, Btfss, Clrf, Movf, Movwf}
use Rattle.pic_isa.specs.declared.sources.Source.{Source}
use Rattle.pic_isa.specs.declared.sources.Source.TheVariants.{T0}
use Rattle.pic_isa.specs.Sources.{flag_of}
use Rattle.pic_isa.specs.Instructions.{FieldsFit}
use Rattle.pic_regs.specs.declared.places.Place.{Place}
use Rattle.pic_regs.specs.declared.places.Place.TheVariants as place
use Rattle.pic_regs.specs.Bytes.{Byte, bit, with_bit, zeros, one_if}
use Rattle.pic_regs.specs.Map.{Reg, Indf, Pcl, Intcon, Pir1, Pir2, Port, Status, lowest, reg_at, reg_in}
use Rattle.pic_regs.specs.Places.{reg_of}
use Rattle.pic_regs.specs.Registers.{Registers, read, flag}
use Rattle.pic_regs.specs.Single.{only}
use Rattle.pic_machine.specs.Chip.{Chip, bank, advanced, skipping, through, got}
use Rattle.pic_machine.specs.Results.{Done, Outcome, just, tested, leaves, stored}
use Rattle.pic_machine.specs.Exec.{exec, exec_on}
use Rattle.code_steps.specs.Steps.{next}
use Rattle.code_steps.specs.Between.{Alone, with_outside_of}
use Rattle.code_acts.specs.Acts.{agrees}
use Rattle.glue_steps.specs.declared.lines.Line.{Line}
use Rattle.glue_steps.specs.declared.lines.Line.TheVariants.{Constant, Load, Store, Clear, Bit, Lower, Skip, Nothing}
use Rattle.glue_steps.specs.Lines.{field_of, instr_of, loaded, lowered, skips, did, ran, is_steady, takes_byte, takes_bit, is_glue, keeps_flag, quiet, stores, LineFits}
use Rattle.glue_steps.specs.Stretches.{BankBits, IsKnown, Banked, NamedIn, Reached, moves_bank, bank_behind, register_of}

-- A register that lines may name is none of INDF and PCL: a read gives what it holds, and it stands for itself.
byte_of_steady : (reg : Reg) → is_steady reg ≡ true → takes_byte reg ≡ true
byte_of_steady (Port n) steady = absurd (cc)
byte_of_steady _ steady = steady

bit_of_steady : (reg : Reg) (b : ℕ) → is_steady reg ≡ true → takes_bit reg b ≡ true
bit_of_steady Intcon b steady = absurd (cc)
bit_of_steady _ b steady = steady

itself_byte : (r : Registers) (reg : Reg) → takes_byte reg ≡ true → through r reg ≡ reg
itself_byte r Indf takes = absurd (cc)
itself_byte r _ takes = refl

itself_bit : (r : Registers) (reg : Reg) (b : ℕ) → takes_bit reg b ≡ true → through r reg ≡ reg
itself_bit r Indf b takes = absurd (cc)
itself_bit r _ b takes = refl

read_bit : (reg : Reg) (b : ℕ) (c : Chip) → takes_bit reg b ≡ true → got reg c ≡ read reg c.regs
read_bit Pcl b c takes = absurd (cc)
read_bit _ b c takes = refl

-- The register that is reached is the one that is named.
reached_in : (high low : Option Bool) (reg : Reg) (c : Chip) → IsKnown high c.regs.status.b6 → IsKnown low c.regs.status.b5 → NamedIn high low reg
    → reg_in (bank c.regs) (field_of reg) ≡ reg
reached_in (Some high) (Some low) reg c is_high is_low named = ap₂ (λ p q. reg_in (2 * one_if p + one_if q) (field_of reg)) is_high is_low ∙ named
reached_in (Some high) None reg c is_high is_low named = named (bank c.regs)
reached_in None low reg c is_high is_low named = named (bank c.regs)

-- What the instruction of a line leaves.
on_byte : (i : Instr) (reg : Reg) (c : Chip) → takes_byte reg ≡ true → reg_in (bank c.regs) (field_of reg) ≡ reg
    → exec_on i (through c.regs (reg_in (bank c.regs) (field_of reg))) (advanced c) ≡ exec_on i reg (advanced c)
on_byte i reg c takes at = ap (λ r. exec_on i r (advanced c)) (ap (through c.regs) at ∙ itself_byte c.regs reg takes)

on_bit : (i : Instr) (reg : Reg) (b : ℕ) (c : Chip) → takes_bit reg b ≡ true → reg_in (bank c.regs) (field_of reg) ≡ reg
    → exec_on i (through c.regs (reg_in (bank c.regs) (field_of reg))) (advanced c) ≡ exec_on i reg (advanced c)
on_bit i reg b c takes at = ap (λ r. exec_on i r (advanced c)) (ap (through c.regs) at ∙ itself_bit c.regs reg b takes)

lower_leaves : (source : Source) (c : Chip) → reg_in (bank c.regs) (field_of (reg_at (flag_of source).address)) ≡ reg_at (flag_of source).address
    → exec (instr_of (Lower source)) c ≡ Some (did (Lower source) c)
lower_leaves T0 c at = refl
lower_leaves source c at = λ j. exec_on (instr_of (Lower source)) (through c.regs (at j)) (advanced c)

-- Each line whose register is reached leaves what it did.
pub line_leaves : (line : Line) (c : Chip) → is_glue line ≡ true → ((reg : Reg) → register_of line ≡ Some reg → reg_in (bank c.regs) (field_of reg) ≡ reg)
    → exec (instr_of line) c ≡ Some (did line c)
line_leaves (Constant k) c glue at = refl
line_leaves (Load p) c glue at =
    on_byte (Movf (field_of (reg_of p)) W) (reg_of p) c (byte_of_steady (reg_of p) glue) (at (reg_of p) refl)
    ∙ ap (λ x. Some (quiet (loaded x (advanced c)))) (read_bit (reg_of p) 0 (advanced c) (bit_of_steady (reg_of p) 0 glue))
line_leaves (Store p) c glue at = on_byte (Movwf (field_of (reg_of p))) (reg_of p) c glue (at (reg_of p) refl)
line_leaves (Clear p) c glue at = on_byte (Clrf (field_of (reg_of p))) (reg_of p) c glue (at (reg_of p) refl)
line_leaves (Bit true p b) c glue at =
    on_bit (Bsf (field_of (reg_of p)) b) (reg_of p) b c glue (at (reg_of p) refl)
    ∙ ap (λ x. Some (stores (reg_of p) (just (with_bit b true x)) (advanced c))) (read_bit (reg_of p) b (advanced c) glue)
line_leaves (Bit false p b) c glue at =
    on_bit (Bcf (field_of (reg_of p)) b) (reg_of p) b c glue (at (reg_of p) refl)
    ∙ ap (λ x. Some (stores (reg_of p) (just (with_bit b false x)) (advanced c))) (read_bit (reg_of p) b (advanced c) glue)
line_leaves (Lower source) c glue at = lower_leaves source c (at (reg_at (flag_of source).address) refl)
line_leaves (Skip true p b) c glue at =
    on_bit (Btfss (field_of (reg_of p)) b) (reg_of p) b c glue (at (reg_of p) refl)
    ∙ ap (λ x. leaves (skipping (bit b x) (advanced c))) (read_bit (reg_of p) b (advanced c) glue)
line_leaves (Skip false p b) c glue at =
    on_bit (Btfsc (field_of (reg_of p)) b) (reg_of p) b c glue (at (reg_of p) refl)
    ∙ ap (λ x. leaves (skipping (not (bit b x)) (advanced c))) (read_bit (reg_of p) b (advanced c) glue)
line_leaves Nothing c glue at = refl

-- The register that a line names is reached, where what is known of the bank holds.
reached_at : (known : BankBits) (o : Option Reg) (c : Chip) → Banked known c → Reached known o → (reg : Reg) → o ≡ Some reg
    → reg_in (bank c.regs) (field_of reg) ≡ reg
reached_at known None c banked reached reg is = absurd (cc)
reached_at known (Some named) c banked reached reg is =
    let same : named ≡ reg = (cc) in
    subst (λ r. reg_in (bank c.regs) (field_of r) ≡ r) same (reached_in known.high known.low named c banked.0 banked.1 reached)

pub line_is : (known : BankBits) (line : Line) (c : Chip) → is_glue line ≡ true → Banked known c → Reached known (register_of line)
    → exec (instr_of line) c ≡ Some (did line c)
line_is known line c glue banked reached = line_leaves line c glue (reached_at known (register_of line) c banked reached)

-- Where it leads: to the next place, or past the one behind it.
pub line_place : (line : Line) (c : Chip) → is_glue line ≡ true → (ran line c).pc ≡ (if skips line c then next (next c.pc) else next c.pc)
line_place (Store place.Pcl) c glue = absurd (cc)
line_place (Store _) c glue = refl
line_place (Clear place.Pcl) c glue = absurd (cc)
line_place (Clear _) c glue = refl
line_place (Bit v place.Pcl b) c glue = absurd (cc)
line_place (Bit v _ b) c glue = refl
line_place _ c glue = refl

-- What is known of the bank behind it.
bit_banked : (b : ℕ) (v : Bool) (known : BankBits) (x : Byte) → IsKnown known.high x.b6 → IsKnown known.low x.b5
    → IsKnown (if b == 5 then record known { low = Some v } else if b == 6 then record known { high = Some v } else known).high (with_bit b v x).b6
    × IsKnown (if b == 5 then record known { low = Some v } else if b == 6 then record known { high = Some v } else known).low (with_bit b v x).b5
bit_banked (suc (suc (suc (suc (suc zero))))) v known x high low = (high, refl)
bit_banked (suc (suc (suc (suc (suc (suc zero)))))) v known x high low = (refl, low)
bit_banked (suc (suc (suc (suc (suc (suc (suc b))))))) v known x high low =
    let no_low : (suc (suc (suc (suc (suc (suc (suc b)))))) == 5) ≡ false = ne_eqb (suc (suc (suc (suc (suc (suc (suc b))))))) 5 (λ e. omega (arith, e)) in
    let no_high : (suc (suc (suc (suc (suc (suc (suc b)))))) == 6) ≡ false = ne_eqb (suc (suc (suc (suc (suc (suc (suc b))))))) 6 (λ e. omega (arith, e)) in
    rw (no_low, no_high) (high, low)
bit_banked _ v known x high low = (high, low)

lower_status : (source : Source) (r : Registers) → (lowered source r).status ≡ r.status
lower_status T0 r = refl
lower_status _ r = refl

known_stays : (known : Option Bool) (b e : Bool) → e ≡ b → IsKnown known b → IsKnown known e
known_stays None b e same is = tt
known_stays (Some k) b e same is = same ∙ is

-- Where the bank bits stay, so does what is known of them.
pub banked_same : (known : BankBits) (c d : Chip) → d.regs.status ≡ c.regs.status → Banked known c → Banked known d
banked_same known c d same banked = (
  known_stays known.high c.regs.status.b6 d.regs.status.b6 (ap (λ (x : Byte). x.b6) same) banked.0,
  known_stays known.low c.regs.status.b5 d.regs.status.b5 (ap (λ (x : Byte). x.b5) same) banked.1,
)

pub banked_behind : (line : Line) (known : BankBits) (c : Chip) → is_glue line ≡ true → Banked known c → Banked (bank_behind line known) (ran line c)
banked_behind (Store place.Status) known c glue banked = (tt, tt)
banked_behind (Store _) known c glue banked = banked
banked_behind (Clear place.Status) known c glue banked = (refl, refl)
banked_behind (Clear _) known c glue banked = banked
banked_behind (Bit v place.Status b) known c glue banked = bit_banked b v known c.regs.status banked.0 banked.1
banked_behind (Bit v _ b) known c glue banked = banked
banked_behind (Lower source) known c glue banked = banked_same known c (ran (Lower source) c) (lower_status source c.regs) banked
banked_behind _ known c glue banked = banked

pub same_bank : (line : Line) (known : BankBits) → moves_bank line ≡ false → bank_behind line known ≡ known
same_bank (Store place.Status) known stays = absurd (cc)
same_bank (Clear place.Status) known stays = absurd (cc)
same_bank (Bit v place.Status b) known stays = same_if (b == 5) (b == 6) stays
  where
    same_if : (low high : Bool) → (low || high) ≡ false → (if low then record known { low = Some v } else if high then record known { high = Some v } else known) ≡ known
    same_if true high none = absurd (cc)
    same_if false true none = absurd (cc)
    same_if false false none = refl
same_bank _ known stays = refl

-- Arrivals and pins change nothing that lines read.
read_steady : (reg : Reg) → is_steady reg ≡ true → (e c : Chip) → read reg (with_outside_of e c).regs ≡ read reg c.regs
read_steady Intcon steady e c = absurd (cc)
read_steady Pir1 steady e c = absurd (cc)
read_steady Pir2 steady e c = absurd (cc)
read_steady (Port n) steady e c = absurd (cc)
read_steady _ steady e c = refl

-- From bit 3 of INTCON on, its flags at bits 2 and 1 change nothing.
high_bit_set : (b : ℕ) (v x y : Bool) (i : Byte) → nat_le 3 b ≡ true → with_bit b v (record i { b2 = x; b1 = y }) ≡ record (with_bit b v i) { b2 = x; b1 = y }
high_bit_set zero v x y i high = absurd (cc)
high_bit_set (suc zero) v x y i high = absurd (cc)
high_bit_set (suc (suc zero)) v x y i high = absurd (cc)
high_bit_set (suc (suc (suc (suc (suc (suc (suc b))))))) v x y i high = refl
high_bit_set _ v x y i high = refl

high_bit_read : (b : ℕ) (x y : Bool) (i : Byte) → nat_le 3 b ≡ true → bit b (record i { b2 = x; b1 = y }) ≡ bit b i
high_bit_read zero x y i high = absurd (cc)
high_bit_read (suc zero) x y i high = absurd (cc)
high_bit_read (suc (suc zero)) x y i high = absurd (cc)
high_bit_read (suc (suc (suc (suc (suc (suc (suc b))))))) x y i high = refl
high_bit_read _ x y i high = refl

bit_steady : (reg : Reg) (b : ℕ) → takes_bit reg b ≡ true → (e c : Chip) → bit b (read reg (with_outside_of e c).regs) ≡ bit b (read reg c.regs)
bit_steady Intcon b takes e c = high_bit_read b e.regs.intcon.b2 e.regs.intcon.b1 c.regs.intcon takes
bit_steady reg b takes e c = ap (bit b) (read_steady reg takes e c)

-- A result stored in a register, where sources have arrived: it is stored, and they have arrived.
stored_like : (reg : Reg) (result : Outcome) (e c : Chip) → stored reg result (with_outside_of e c) ≡ with_outside_of (stored reg result (with_outside_of e c)) (stored reg result c)
stored_like Pcl result e c = refl
stored_like Status result e c = refl
stored_like _ result e c = refl

-- One own step is like another, but for arrivals and pins.
record Like (d c : Done) : Type 0 where
  chip : d.chip ≡ with_outside_of d.chip c.chip
  port : d.port ≡ c.port

with_bit_like : (reg : Reg) (b : ℕ) (v : Bool) → is_steady reg ≡ true → (e c : Chip)
    → Like (stores reg (just (with_bit b v (read reg (with_outside_of e c).regs))) (advanced (with_outside_of e c))) (stores reg (just (with_bit b v (read reg c.regs))) (advanced c))
with_bit_like reg b v steady e c =
    subst (λ x. Like (stores reg (just (with_bit b v x)) (advanced (with_outside_of e c))) (stores reg (just (with_bit b v (read reg c.regs))) (advanced c)))
    (sym (read_steady reg steady e c))
    (record { chip = stored_like reg (just (with_bit b v (read reg c.regs))) e (advanced c); port = refl })

bit_like : (v : Bool) (p : Place) (b : ℕ) → takes_bit (reg_of p) b ≡ true → (e c : Chip) → Like (did (Bit v p b) (with_outside_of e c)) (did (Bit v p b) c)
bit_like v place.Intcon b takes e c =
    let i = c.regs.intcon in
    let x = with_bit b v (record i { b2 = e.regs.intcon.b2; b1 = e.regs.intcon.b1 }) in
    let same : x ≡ record (with_bit b v i) { b2 = e.regs.intcon.b2; b1 = e.regs.intcon.b1 } = high_bit_set b v e.regs.intcon.b2 e.regs.intcon.b1 i takes in
    record {
      chip = subst (λ y. stored Intcon (just y) (advanced (with_outside_of e c)) ≡ with_outside_of (stored Intcon (just y) (advanced (with_outside_of e c))) (ran (Bit v place.Intcon b) c))
          (sym same) refl;
      port = refl;
    }
bit_like v p b takes e c = with_bit_like (reg_of p) b v takes e c

lower_like : (source : Source) (e c : Chip) → Like (did (Lower source) (with_outside_of e c)) (did (Lower source) c)
lower_like T0 e c = record { chip = refl; port = refl }
lower_like _ e c = record { chip = refl; port = refl }

skips_at : (line : Line) → is_glue line ≡ true → (e c : Chip) → skips line (with_outside_of e c) ≡ skips line c
skips_at (Skip v p b) glue e c = ap (agrees v) (bit_steady (reg_of p) b glue e c)
skips_at _ glue e c = refl

did_like : (line : Line) → is_glue line ≡ true → (e c : Chip) → Like (did line (with_outside_of e c)) (did line c)
did_like (Load p) glue e c = record {
  chip = ap (λ x. loaded x (advanced (with_outside_of e c))) (read_steady (reg_of p) glue e c);
  port = refl;
}
did_like (Store p) glue e c = record { chip = stored_like (reg_of p) (just c.w) e (advanced c); port = refl }
did_like (Clear p) glue e c = record { chip = stored_like (reg_of p) (tested zeros) e (advanced c); port = refl }
did_like (Bit v p b) glue e c = bit_like v p b glue e c
did_like (Lower source) glue e c = lower_like source e c
did_like (Skip v p b) glue e c = record { chip = ap (λ t. skipping t (advanced (with_outside_of e c))) (skips_at (Skip v p b) glue e c); port = refl }
did_like _ glue e c = record { chip = refl; port = refl }

-- The flag of a source that a line clears is clear behind it; all other flags are as before.
pub flag_lowered : (source other : Source) (r : Registers) → flag other (lowered source r) ≡ (not (only source other) && flag other r)
flag_lowered T0 T0 r = refl
flag_lowered _ T0 r = refl
flag_lowered _ _ r = refl

flag_stored : (reg : Reg) → takes_byte reg ≡ true → (source : Source) (result : Outcome) (c : Chip) → flag source (stored reg result c).regs ≡ flag source c.regs
flag_stored Intcon takes source result c = absurd (cc)
flag_stored Pir1 takes source result c = absurd (cc)
flag_stored Pir2 takes source result c = absurd (cc)
flag_stored _ takes source result c = refl

flag_bit : (p : Place) (b : ℕ) (v : Bool) → takes_bit (reg_of p) b ≡ true → (source : Source) (c : Chip) → flag source (ran (Bit v p b) c).regs ≡ flag source c.regs
flag_bit place.Intcon b v takes source c =
    ap (λ (i : Byte). flag source (record c.regs { intcon = i })) (high_bit_set b v c.regs.intcon.b2 c.regs.intcon.b1 c.regs.intcon takes)
flag_bit p b v takes source c = flag_stored (reg_of p) (byte_of_steady (reg_of p) takes) source (just (with_bit b v (read (reg_of p) c.regs))) (advanced c)

-- A line clears the flag of a source alone that it is told to clear, and sets none.
pub flag_behind : (line : Line) → is_glue line ≡ true → (source : Source) (c : Chip) → flag source (ran line c).regs ≡ (keeps_flag line source && flag source c.regs)
flag_behind (Store p) glue source c = flag_stored (reg_of p) glue source (just c.w) (advanced c)
flag_behind (Clear p) glue source c = flag_stored (reg_of p) glue source (tested zeros) (advanced c)
flag_behind (Bit v p b) glue source c = flag_bit p b v glue source c
flag_behind (Lower lower) glue source c = flag_lowered lower source c.regs
flag_behind _ glue source c = refl

still_set : (keeps before after : Bool) → (before ≡ true → after ≡ true) → (keeps && before) ≡ true → (keeps && after) ≡ true
still_set true before after stays set = stays set
still_set false before after stays set = set

-- Arrivals before a line are arrivals behind it; it skips and puts the same.
pub ran_alone : (line : Line) → is_glue line ≡ true → (c d : Chip) → Alone c d → Alone (ran line c) (ran line d)
ran_alone line glue c d r = record {
  only = subst (λ x. ran line x ≡ with_outside_of (ran line x) (ran line c)) (sym r.only) (did_like line glue d c).chip;
  flags = λ source set.
      flag_behind line glue source d
      ∙ still_set (keeps_flag line source) (flag source c.regs) (flag source d.regs) (r.flags source) (sym (flag_behind line glue source c) ∙ set);
}

pub skips_alone : (line : Line) → is_glue line ≡ true → (c d : Chip) → Alone c d → skips line d ≡ skips line c
skips_alone line glue c d r = subst (λ x. skips line x ≡ skips line c) (sym r.only) (skips_at line glue d c)

pub put_alone : (line : Line) → is_glue line ≡ true → (c d : Chip) → Alone c d → (did line d).port ≡ (did line c).port
put_alone line glue c d r = subst (λ x. (did line x).port ≡ (did line c).port) (sym r.only) (did_like line glue d c).port

-- The fields of a line's instruction are in range.
field_below : (o : Option ℕ) → elim o [ Some address ↦ address % 128 | None ↦ 0 ] < 128
field_below (Some address) = omega arith
field_below None = omega arith

named_below : (reg : Reg) → field_of reg < 128
named_below reg = field_below (lowest reg)

lower_fits : (source : Source) → FieldsFit (instr_of (Lower source))
lower_fits T0 = (lit< tt, lit< tt)
lower_fits _ = (lit< tt, lit< tt)

pub fields_fit : (line : Line) → LineFits line → FieldsFit (instr_of line)
fields_fit (Constant k) fit = fit
fields_fit (Load p) fit = named_below (reg_of p)
fields_fit (Store p) fit = named_below (reg_of p)
fields_fit (Clear p) fit = named_below (reg_of p)
fields_fit (Bit true p b) fit = (named_below (reg_of p), fit)
fields_fit (Bit false p b) fit = (named_below (reg_of p), fit)
fields_fit (Lower source) fit = lower_fits source
fields_fit (Skip true p b) fit = (named_below (reg_of p), fit)
fields_fit (Skip false p b) fit = (named_below (reg_of p), fit)
fields_fit Nothing fit = tt
