-- Single steps of the chip that the code of a layout takes: what they leave, and which source it is that requests an interrupt.
use Rattle.std.proofs.Common.{◌≡◌, ℕ, zero, suc, ◌+◌, ◌%◌, ◌==◌, Bool, true, false, ◌&&◌, ◌||◌, Option, Some, None, get_or, ap, ap₂, sym, ◌∙◌, refl, arith, ⊎_elim, ◌<◌, [], ◌↔◌}
use Rattle.std.proofs.lemmas.Bool.{and_parts, and_from, or_cases, eqb-true, false_from_ne_true, both_ways}
use Rattle.pic_isa.specs.declared.sources.Source.{Source}
use Rattle.pic_isa.specs.declared.sources.Source.TheVariants.{T0, Int, Psp, Ad, Ssp, Ccp1, Tmr2, Tmr1, Ee, Bcl, Ccp2}
use Rattle.pic_isa.specs.Sources.{sources, source_number}
use Rattle.pic_isa.specs.Instructions.{instruction_of}
use Rattle.pic_regs.specs.Bytes.{Byte, bits, bit, share_a_bit}
use Rattle.pic_regs.specs.Map.{Pir1, Pir2}
use Rattle.pic_regs.specs.Registers.{Registers, flag, enable, bit_of, read, requested}
use Rattle.pic_machine.specs.Chip.{Chip, advanced, popped, with_gie}
use Rattle.pic_machine.specs.Results.{Done}
use Rattle.pic_machine.specs.Boundary.{no_outer}
use Rattle.pic_machine.proofs.TurnLaws.{taking}
use Rattle.map_file.specs.declared.maps.MapEvent.{MapEvent}
use Rattle.firmware_promises.specs.Urgent.{is_in_intcon}
use Rattle.firmware_promises.proofs.HeardLaws.{heard_is_requested}
use Rattle.code_steps.specs.Steps.{own_of, own}
use Rattle.glue_steps.specs.Lines.{quiet, lowered}
use Rattle.firmware_parts.specs.Layout.{Layout}
use Rattle.firmware_parts.specs.Contexts.{AtLevel}
use Rattle.code_story.specs.Arranged.{IsLevel, is_heard_by, EnablesAgree}

pub some_same : {A : Type 0} {x y : A} → Some x ≡ Some y → x ≡ y
some_same {A = A} {x = x} e = ap (λ (o : Option A). elim o [ Some z ↦ z | None ↦ x ]) e

-- What RETFIE leaves.
abbrev pub returned : Chip → Chip
returned c = with_gie true (popped (advanced c))

pub returns_is : (program : ℕ → ℕ) (c : Chip) → program c.pc ≡ 0x0009 → own program c ≡ Some (quiet (returned c))
returns_is program c word = ap (λ w. own_of (instruction_of w) c) word

-- It moves the top of the return stack: what leaves that isn't RETFIE.
moved : (k : ℕ) → (k + 7) % 8 ≡ k → ⊥
moved k e = omega (arith, e)

pub no_return_by : (program : ℕ → ℕ) (c : Chip) (done : Done) → own program c ≡ Some done → done.chip.top ≡ c.top → (program c.pc == 0x0009) ≡ false
no_return_by program c done is same = false_from_ne_true (program c.pc == 0x0009) (λ nine.
    let its : done ≡ quiet (returned c) = some_same (sym is ∙ returns_is program c (eqb-true (program c.pc) 0x0009 nine)) in
    moved c.top (ap (λ (d : Done). d.chip.top) (sym its) ∙ same))

-- The clearing of a flag leaves all but flags.
pub lowered_keeps : (source : Source) (r : Registers) → lowered source r ≡ record r {
  intcon = record r.intcon { b2 = (lowered source r).intcon.b2; b1 = (lowered source r).intcon.b1 };
  pir1 = (lowered source r).pir1;
  pir2 = (lowered source r).pir2;
}
lowered_keeps T0 r = refl
lowered_keeps _ r = refl

-- A source is known by its number.
at_number : (source : Source) → get_or sources (source_number source) T0 ≡ source
at_number T0 = refl
at_number _ = refl

pub one_source : (a b : Source) → source_number a ≡ source_number b → a ≡ b
one_source a b same = sym (at_number a) ∙ ap (λ n. get_or sources n T0) same ∙ at_number b

-- A source whose flag is set and that is heard.
pub record Asking (r : Registers) : Type 0 where
  pub source : Source
  pub set : flag source r ≡ true
  pub enabled : enable source r ≡ true
  pub peripheral : (is_in_intcon source || r.intcon.b6) ≡ true

-- Bytes that share a bit share one of the eight.
abbrev Shared : Byte → Byte → Type 0
Shared x y = (i : ℕ) × (bit i x ≡ true) × (bit i y ≡ true)

shared_at : (x y : Byte) (i : ℕ) → (bit i x && bit i y) ≡ true → Shared x y
shared_at x y i both = let parts = and_parts (bit i x) (bit i y) both in (i, parts.0, parts.1)

either : {C : Type 0} (a b : Bool) → (a ≡ true → C) → (b ≡ true → C) → (a || b) ≡ true → C
either a b left right h = ⊎_elim left right (or_cases a b h)

shared : (x y : Byte) → share_a_bit x y ≡ true → Shared x y
shared x y = either _ (x.b0 && y.b0) (either _ (x.b1 && y.b1) (either _ (x.b2 && y.b2) (either _ (x.b3 && y.b3) (either _ (x.b4 && y.b4) (either _ (x.b5 && y.b5)
    (either (x.b7 && y.b7) (x.b6 && y.b6) (shared_at x y 7) (shared_at x y 6))
    (shared_at x y 5)) (shared_at x y 4)) (shared_at x y 3)) (shared_at x y 2)) (shared_at x y 1)) (shared_at x y 0)

-- A source in PIR1, and in PIR2, whose enable and flag are set.
in_first : (r : Registers) → r.intcon.b6 ≡ true → Shared r.pie1 (read Pir1 r) → Asking r
in_first r peie (zero, e, f) = record { source = Tmr1; set = f; enabled = e; peripheral = peie }
in_first r peie (suc zero, e, f) = record { source = Tmr2; set = f; enabled = e; peripheral = peie }
in_first r peie (suc (suc zero), e, f) = record { source = Ccp1; set = f; enabled = e; peripheral = peie }
in_first r peie (suc (suc (suc zero)), e, f) = record { source = Ssp; set = f; enabled = e; peripheral = peie }
in_first r peie (suc (suc (suc (suc zero))), e, f) = absurd (both_ways false refl f)
in_first r peie (suc (suc (suc (suc (suc zero)))), e, f) = absurd (both_ways false refl f)
in_first r peie (suc (suc (suc (suc (suc (suc zero))))), e, f) = record { source = Ad; set = f; enabled = e; peripheral = peie }
in_first r peie (suc (suc (suc (suc (suc (suc (suc i)))))), e, f) = record { source = Psp; set = f; enabled = e; peripheral = peie }

in_second : (r : Registers) → r.intcon.b6 ≡ true → Shared r.pie2 (read Pir2 r) → Asking r
in_second r peie (zero, e, f) = record { source = Ccp2; set = f; enabled = e; peripheral = peie }
in_second r peie (suc (suc (suc zero)), e, f) = record { source = Bcl; set = f; enabled = e; peripheral = peie }
in_second r peie (suc (suc (suc (suc zero))), e, f) = record { source = Ee; set = f; enabled = e; peripheral = peie }
in_second r peie (suc zero, e, f) = absurd (both_ways false refl f)
in_second r peie (suc (suc zero), e, f) = absurd (both_ways false refl f)
in_second r peie (suc (suc (suc (suc (suc zero)))), e, f) = absurd (both_ways false refl f)
in_second r peie (suc (suc (suc (suc (suc (suc zero))))), e, f) = absurd (both_ways false refl f)
in_second r peie (suc (suc (suc (suc (suc (suc (suc i)))))), e, f) = absurd (both_ways false refl f)

-- Where RBIE is clear a request is that of a source.
pub asking : (r : Registers) → r.intcon.b3 ≡ false → requested r ≡ true → Asking r
asking r rbie request =
    either _ (r.intcon.b6 && (share_a_bit r.pie1 (read Pir1 r) || share_a_bit r.pie2 (read Pir2 r)))
    (either _ (r.intcon.b3 && r.intcon.b0)
    (either (r.intcon.b5 && r.intcon.b2) (r.intcon.b4 && r.intcon.b1)
    (λ h. let both = and_parts r.intcon.b5 r.intcon.b2 h in record { source = T0; set = both.1; enabled = both.0; peripheral = refl })
    (λ h. let both = and_parts r.intcon.b4 r.intcon.b1 h in record { source = Int; set = both.1; enabled = both.0; peripheral = refl }))
    (λ h. absurd (both_ways r.intcon.b3 rbie (and_parts r.intcon.b3 r.intcon.b0 h).0)))
    (λ h.
    let both = and_parts r.intcon.b6 (share_a_bit r.pie1 (read Pir1 r) || share_a_bit r.pie2 (read Pir2 r)) h in
    either (share_a_bit r.pie1 (read Pir1 r)) (share_a_bit r.pie2 (read Pir2 r))
    (λ one. in_first r both.0 (shared r.pie1 (read Pir1 r) one)) (λ two. in_second r both.0 (shared r.pie2 (read Pir2 r) two)) both.1)
    (and_parts r.intcon.b7 _ request).1

-- A chip whose enables are those of a level hears what they hear.
module _ (l : Layout) (level : ℕ) (c : Chip) (at_level : AtLevel l level c) where
  its_enable : (source : Source) → (is_in_intcon source || c.regs.intcon.b6) ≡ true
      → enable source c.regs ≡ bit_of source (bit 5 (bits (l.enables level).intcon)) (bit 4 (bits (l.enables level).intcon)) (bits (l.enables level).pie1) (bits (l.enables level).pie2)
  its_enable T0 peripheral = at_level.t0ie
  its_enable Int peripheral = at_level.inte
  its_enable source peripheral = ap₂ (bit_of source c.regs.intcon.b5 c.regs.intcon.b4) (at_level.pie1 peripheral) (at_level.pie2 peripheral)

  its_peie : (source : Source) → (is_in_intcon source || c.regs.intcon.b6) ≡ (is_in_intcon source || bit 6 (bits (l.enables level).intcon))
  its_peie source = ap (λ b. is_in_intcon source || b) at_level.peie

  pub hears : (source : Source) → is_heard_by (l.enables level) source ≡ true → (enable source c.regs ≡ true) × ((is_in_intcon source || c.regs.intcon.b6) ≡ true)
  hears source heard =
      let parts = and_parts _ (is_in_intcon source || bit 6 (bits (l.enables level).intcon)) heard in
      let peripheral = its_peie source ∙ parts.1 in (its_enable source peripheral ∙ parts.0, peripheral)

  pub is_heard_where : (source : Source) → enable source c.regs ≡ true → (is_in_intcon source || c.regs.intcon.b6) ≡ true → is_heard_by (l.enables level) source ≡ true
  is_heard_where source enabled peripheral = and_from _ _ (sym (its_enable source peripheral) ∙ enabled) (sym (its_peie source) ∙ peripheral)

-- What the enables of a level hear, where they are those of the events above.
module _ (l : Layout) (agree : EnablesAgree l) (level : ℕ) (c : Chip) (is_level : IsLevel l level) (at_level : AtLevel l level c) where
  pub hears_above : (x : ℕ) → level < l.level x → (enable (l.source x) c.regs ≡ true) × ((is_in_intcon (l.source x) || c.regs.intcon.b6) ≡ true)
  hears_above x above = hears l level c at_level (l.source x) (agree.heard level x is_level above)

  abbrev heard_event : ℕ → MapEvent
  heard_event x = record { name = []; source = l.source x; priority = 0; «open» = 0; commit = 0 }

  pub requests_exactly : c.regs.intcon.b7 ≡ true → (requested c.regs ≡ true) ↔ ((x : ℕ) × (level < l.level x) × (flag (l.source x) c.regs ≡ true))
  requests_exactly on = (asks, is_asked)
    where
      asks : requested c.regs ≡ true → (x : ℕ) × (level < l.level x) × (flag (l.source x) c.regs ≡ true)
      asks request =
          let one : Asking c.regs = asking c.regs at_level.rbie request in
          let found = agree.only level one.source is_level (is_heard_where l level c at_level one.source one.enabled one.peripheral) in
          (found.0, found.2, ap (λ source. flag source c.regs) found.1 ∙ one.set)

      is_asked : (x : ℕ) × (level < l.level x) × (flag (l.source x) c.regs ≡ true) → requested c.regs ≡ true
      is_asked found =
          let its = hears_above found.0 found.1 in
          heard_is_requested (heard_event found.0) (taking no_outer c) (and_from _ _ (and_from _ _ on its.0) its.1) found.2
