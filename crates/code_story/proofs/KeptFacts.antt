-- What a step of a part leaves: the state, what is set up, frames, enables, the return stack; and so what a run has to give back.
use Rattle.std.specs.Prelude.{ℕ, ◌+◌, ◌<◌, ◌≤◌, ◌==◌, Bool, true, false, ◌⊎◌, List, [], ◌∷◌, length, Option, Some, None, if◌then◌else◌}
use Rattle.std.proofs.Common.{◌≡◌, refl, sym, ap, subst, ◌∙◌, arith, inl, inr}
use Rattle.std.proofs.lemmas.Bool.{both_ways, eqb-true}
use Rattle.frp_tree.specs.declared.syntax.Setup.{Setup}
use Rattle.frp_tree.specs.Tree.{ProgramTree}
use Rattle.efrp_meaning.specs.Meaning.{react}
use Rattle.pic_isa.specs.Names.{register_at}
use Rattle.pic_regs.specs.Bytes.{Byte, num}
use Rattle.pic_regs.specs.Map.{Reg, Pclath, Intcon, Pie1, Pie2, Port, Tris, Plain, within, reg_at, existing}
use Rattle.pic_regs.specs.Registers.{read}
use Rattle.pic_regs.proofs.SetupRegisterLaws.{Suits, may_set_up}
use Rattle.pic_machine.specs.Chip.{Chip}
use Rattle.pic_machine.specs.Results.{Done}
use Rattle.pic_machine.specs.Boundary.{Outer}
use Rattle.pic_machine.proofs.TurnLaws.{with_outer}
use Rattle.firmware_promises.specs.Setups.{setup_byte, last_setup}
use Rattle.map_file.specs.declared.maps.Map.{Map}
use Rattle.timed_core.specs.Steps.{Run}
use Rattle.core_story.specs.Values.{Values, name_at}
use Rattle.core_story.specs.Interface.{AreSetUp}
use Rattle.code_steps.specs.declared.banks.Bank.{Bank}
use Rattle.code_steps.specs.declared.banks.Bank.TheVariants.{Known, Unknown}
use Rattle.code_steps.specs.Ends.{Holds}
use Rattle.glue_steps.specs.Laws.{StillIn}
use Rattle.firmware_parts.specs.Layout.{Layout, Part, Easy, Usual, is_told, piece}
use Rattle.firmware_parts.specs.Layout.Part.{Work, Lock}
use Rattle.firmware_parts.specs.Contexts.{SameEnables, AtLevel}
use Rattle.firmware_parts.specs.Runs.{WorkStep, Reacts}
use Rattle.code_story.specs.Arranged.{WritesAgree, IsPart, WrittenBy, Spares, is_boot_part, leaves_states, leaves_enables, leaves_told, leaves_page}
use Rattle.code_story.specs.Code.{Code}
use Rattle.code_story.specs.Laws.{Touches}
use Rattle.code_story.specs.Relation.{level_of_top, SameFrames, Over, Beneath, Past}

-- The return stack as it was.
pub record SameStack (c d : Chip) : Type 0 where
  pub stack : d.stack ≡ c.stack
  pub top : d.top ≡ c.top
  pub depth : d.depth ≡ c.depth

written_same : (l : Layout) (part : Part) (before after : ℕ → Byte) → after ≡ before → WrittenBy l part before after
written_same l part before after same address = inl (ap (λ (f : ℕ → Byte). f address) same)

-- A step that writes none of these.
pub untouched : (l : Layout) (part : Part) (c d : Chip) → d.regs.plain ≡ c.regs.plain → d.regs.tris ≡ c.regs.tris → d.regs.intcon.b3 ≡ c.regs.intcon.b3 → Touches l part c d
untouched l part c d plain tris rbie = record {
  plain = written_same l part c.regs.plain d.regs.plain plain;
  tris = λ n. inl (ap (λ (f : ℕ → Byte). f n) tris);
  rbie = rbie;
}

-- A step of glue, and one of work, from a chip with what comes from outside.
module _ (l : Layout) (part : Part) (outer : Outer) (c : Chip) (done : Done) (step : StillIn l.program (piece l part) (with_outer outer c) done) where
  pub still_touches : Touches l part c done.chip
  still_touches = record {
    plain = λ address. step.changes (Plain address);
    tris = λ n. step.changes (Tris n);
    rbie = ap (λ (x : Chip). x.regs.intcon.b3) step.kept;
  }

  pub still_stack : SameStack c done.chip
  still_stack = record {
    stack = ap (λ (x : Chip). x.stack) step.kept;
    top = ap (λ (x : Chip). x.top) step.kept;
    depth = ap (λ (x : Chip). x.depth) step.kept;
  }

module _ (l : Layout) (e : ℕ) (outer : Outer) (c : Chip) (done : Done) (step : WorkStep l e (with_outer outer c) done) where
  pub work_touches : Touches l (Work e) c done.chip
  work_touches = record {
    plain = step.plain;
    tris = λ n. inl (ap (λ (x : Chip). x.regs.tris n) step.kept);
    rbie = ap (λ (x : Chip). x.regs.intcon.b3) step.kept;
  }

  pub work_stack : SameStack c done.chip
  work_stack = record {
    stack = ap (λ (x : Chip). x.stack) step.kept;
    top = ap (λ (x : Chip). x.top) step.kept;
    depth = ap (λ (x : Chip). x.depth) step.kept;
  }

  pub work_enables : SameEnables c done.chip
  work_enables = record {
    peie = ap (λ (x : Chip). x.regs.intcon.b6) step.kept;
    t0ie = ap (λ (x : Chip). x.regs.intcon.b5) step.kept;
    inte = ap (λ (x : Chip). x.regs.intcon.b4) step.kept;
    pie1 = ap (λ (x : Chip). x.regs.pie1) step.kept;
    pie2 = ap (λ (x : Chip). x.regs.pie2) step.kept;
  }

-- What may not be written is as it was.
pub unwritten : {A : Type 0} {x y : A} (b : Bool) → b ≡ false → (x ≡ y) ⊎ (b ≡ true) → x ≡ y
unwritten b none (inl same) = same
unwritten b none (inr may) = absurd (both_ways b none may)

-- What is known of the bank, where its bits are as they were.
pub holds_same : (bank : Bank) (c d : Chip) → d.regs.status.b6 ≡ c.regs.status.b6 → d.regs.status.b5 ≡ c.regs.status.b5 → Holds bank c → Holds bank d
holds_same Unknown c d rp1 rp0 holds = tt
holds_same (Known k) c d rp1 rp0 holds = (rp1 ∙ holds.0, rp0 ∙ holds.1)

pub easy_same : (l : Layout) (c d : Chip) → d.regs.pclath ≡ c.regs.pclath → Easy l c → Easy l d
easy_same l c d same easy = record { whole = ap (existing Pclath) same ∙ easy.whole ∙ sym same; page = λ alone. same ∙ easy.page alone }

pub usual_same : (l : Layout) (c d : Chip) → d.regs.status.b6 ≡ c.regs.status.b6 → d.regs.status.b5 ≡ c.regs.status.b5 → d.regs.pclath ≡ c.regs.pclath → Usual l c → Usual l d
usual_same l c d rp1 rp0 same usual = record {
  easy = easy_same l c d same usual.easy;
  bank = λ unsaved. holds_same (Known 0) c d rp1 rp0 (usual.bank unsaved);
  page = λ unsaved. same ∙ usual.page unsaved;
}

-- A level's enables are still there.
pub level_moves : (l : Layout) (level : ℕ) (x c : Chip) → SameEnables x c → c.regs.intcon.b3 ≡ false → AtLevel l level x → AtLevel l level c
level_moves l level x c same rbie at_level = record {
  peie = same.peie ∙ at_level.peie;
  t0ie = same.t0ie ∙ at_level.t0ie;
  inte = same.inte ∙ at_level.inte;
  rbie = rbie;
  pie1 = λ on. same.pie1 ∙ at_level.pie1 (sym same.peie ∙ on);
  pie2 = λ on. same.pie2 ∙ at_level.pie2 (sym same.peie ∙ on);
}

pub enables_same : (x y c : Chip) → SameEnables x y → SameEnables y c → SameEnables x c
enables_same x y c first second = record {
  peie = second.peie ∙ first.peie;
  t0ie = second.t0ie ∙ first.t0ie;
  inte = second.inte ∙ first.inte;
  pie1 = second.pie1 ∙ first.pie1;
  pie2 = second.pie2 ∙ first.pie2;
}

pub frames_same : (l : Layout) (level : ℕ) (x y c : Chip) → SameFrames l level x y → SameFrames l level y c → SameFrames l level x c
frames_same l level x y c first second e address real low its = second e address real low its ∙ first e address real low its

pub frames_less : (l : Layout) (low high : ℕ) (x c : Chip) → low ≤ high → SameFrames l high x c → SameFrames l low x c
frames_less l low high x c less same e address real at_most its = same e address real (omega (arith, at_most, less)) its

-- What a run leaves beneath it stays so.
pub over_moves : (l : Layout) (st : List Run) (x c d : Chip) → SameStack c d → SameFrames l (level_of_top l st) c d → Over l st x c → Over l st x d
over_moves l st x c d stack frames over = record {
  place = ap (λ (f : ℕ → ℕ). f (length st)) stack.stack ∙ over.place;
  beneath = λ i less. ap (λ (f : ℕ → ℕ). f i) stack.stack ∙ over.beneath i less;
  top = stack.top ∙ over.top;
  depth = omega (arith, stack.depth, over.depth);
  frames = frames_same l (level_of_top l st) x c d over.frames frames;
}

-- A register that is set up has a name.
abbrev Named : ℕ → Type 0
Named a = (name : List ℕ) × (register_at name ≡ Some a)

its_register : (s : Setup) (a byte : ℕ) (o : Option ℕ) → register_at s.register ≡ o → elim o [ Some at ↦ (if at == a then Some s.byte else None) | None ↦ None ] ≡ Some byte → Named a
its_register s a byte (Some at) is found = by (at == a) refl found
  where
    by : (b : Bool) → (at == a) ≡ b → (if b then Some s.byte else None) ≡ Some byte → Named a
    by true same h = (s.register, is ∙ ap (λ (n : ℕ). Some n) (eqb-true at a same))
    by false same h = absurd (cc)
its_register s a byte None is found = absurd (cc)

set_up_named : (setups : List Setup) (a byte : ℕ) → last_setup setups a ≡ Some byte → Named a
set_up_named [] a byte last = absurd (cc)
set_up_named (s ∷ setups) a byte last = by (last_setup setups a) refl last (set_up_named setups a)
  where
    by : (o : Option ℕ) → last_setup setups a ≡ o → elim o [ Some b ↦ Some b | None ↦ setup_byte s a ] ≡ Some byte → ((b : ℕ) → last_setup setups a ≡ Some b → Named a) → Named a
    by (Some b) later h named = named b later
    by None later h named = its_register s a byte (register_at s.register) refl h

module _ (p : ProgramTree) (m : Map) (l : Layout) (writes : WritesAgree p m l) where
  -- It is TRIS of a port or a plain byte, and none but the boot writes it.
  read_same : (part : Part) (c d : Chip) → IsPart l part → is_boot_part part ≡ false → Touches l part c d → (a byte : ℕ) → within 5 9 a ≡ false → last_setup p.setups a ≡ Some byte
      → read (reg_at a) d.regs ≡ read (reg_at a) c.regs
  read_same part c d is_part later touches a byte other last = by (reg_at a) (may_set_up named.0 a named.1)
    where
      named : Named a
      named = set_up_named p.setups a byte last

      never : (address : ℕ) → address ≡ a → l.may part address ≡ false
      never address same = ap (l.may part) same ∙ writes.set_up a byte other last part is_part later

      by : (reg : Reg) → Suits named.0 a reg → read reg d.regs ≡ read reg c.regs
      by (Port n) suits = absurd (both_ways (within 5 9 a) other suits.1)
      by (Tris n) suits = ap (existing (Tris n)) (unwritten (l.may part (0x085 + n)) (never (0x085 + n) suits.2) (touches.tris n))
      by (Plain b) suits = unwritten (l.may part b) (never b suits.2) (touches.plain b)
      by _ suits = absurd suits

  pub set_ups_stay : (part : Part) (c d : Chip) → IsPart l part → is_boot_part part ≡ false → Touches l part c d → AreSetUp p c.regs → AreSetUp p d.regs
  set_ups_stay part c d is_part later touches set_up a byte other last = ap num (read_same part c d is_part later touches a byte other last) ∙ set_up a byte other last

module _ (f : Code) where
  pub set_up_stays : (part : Part) (c d : Chip) → IsPart f.l part → is_boot_part part ≡ false → Touches f.l part c d → AreSetUp f.p c.regs → AreSetUp f.p d.regs
  set_up_stays part c d is_part later touches set_up = set_ups_stay f.p f.m f.l f.arranged.writes part c d is_part later touches set_up

  pub past_stays : (part : Part) (v : Values) (c d : Chip) → IsPart f.l part → is_boot_part part ≡ false → Touches f.l part c d → Past f.p v c → Past f.p v d
  past_stays part v c d is_part later touches past = record {
    rbie = touches.rbie ∙ past.rbie;
    set_up = set_up_stays part c d is_part later touches past.set_up;
    typed = past.typed;
  }

  pub states_stay : (part : Part) (c d : Chip) → IsPart f.l part → leaves_states part ≡ true → Touches f.l part c d → f.l.states d.regs.plain ≡ f.l.states c.regs.plain
  states_stay part c d is_part leaves touches = f.arranged.writes.states part is_part leaves c.regs.plain d.regs.plain touches.plain

  pub frames_stay : (part : Part) (level : ℕ) (c d : Chip) → IsPart f.l part → ((x : ℕ) → 0 < f.l.level x → f.l.level x ≤ level → Spares f.l part x) → Touches f.l part c d → SameFrames f.l level c d
  frames_stay part level c d is_part spares touches e address real low its =
      unwritten (f.l.may part address) (f.arranged.writes.frames part e address is_part real (spares e real low) its) (touches.plain address)

  pub told_stays : (part : Part) (c d : Chip) → IsPart f.l part → leaves_told part ≡ true → Touches f.l part c d → is_told d ≡ is_told c
  told_stays part c d is_part leaves touches = ap (λ (b : Byte). b.b0) (unwritten (f.l.may part 0x073) (f.arranged.writes.told part is_part leaves) (touches.plain 0x073))

  -- Glue that changes no enables, and leaves PCLATH.
  module _ (part : Part) (is_part : IsPart f.l part) (outer : Outer) (c : Chip) (done : Done) (step : StillIn f.l.program (piece f.l part) (with_outer outer c) done) where
    pub enables_stay : leaves_enables part ≡ true → SameEnables c done.chip
    enables_stay leaves =
        let never = f.arranged.writes.enables part is_part leaves in
        let intcon : done.chip.regs.intcon ≡ (with_outer outer c).regs.intcon = unwritten (f.l.may part 0x00B) never.0 (step.changes Intcon) in
        record {
          peie = ap (λ (b : Byte). b.b6) intcon;
          t0ie = ap (λ (b : Byte). b.b5) intcon;
          inte = ap (λ (b : Byte). b.b4) intcon;
          pie1 = unwritten (f.l.may part 0x08C) never.1 (step.changes Pie1);
          pie2 = unwritten (f.l.may part 0x08D) never.2 (step.changes Pie2);
        }

    pub page_stays : leaves_page part ≡ true → Easy f.l c → Easy f.l done.chip
    page_stays leaves easy =
        let same : done.chip.regs.pclath ≡ c.regs.pclath = unwritten (f.l.may part 0x00A) (f.arranged.writes.page part is_part leaves) (step.changes Pclath) in
        easy_same f.l c done.chip same easy

  -- The reaction stands behind the lock too.
  pub reacts_stay : (e : ℕ) (c d : Chip) → IsPart f.l (Lock e) → Touches f.l (Lock e) c d → Reacts f.p f.m f.l e c.regs.plain → Reacts f.p f.m f.l e d.regs.plain
  reacts_stay e c d is_part touches reacts = record {
    reaction = reacts.reaction;
    defined = subst (λ s. react f.p s [] (name_at f.m e) ≡ Some reacts.reaction) (sym (states_stay (Lock e) c d is_part refl touches)) reacts.defined;
    next = f.arranged.writes.next e is_part c.regs.plain d.regs.plain touches.plain ∙ reacts.next;
    puts = f.arranged.writes.puts e is_part c.regs.plain d.regs.plain touches.plain ∙ reacts.puts;
  }

  -- What a run has to give back stays over a step that leaves the enables, the return stack, and frames up to the run's level.
  pub beneath_moves : (e : ℕ) (st : List Run) (c d : Chip) → 0 < f.l.level e → level_of_top f.l st ≤ f.l.level e → SameEnables c d → SameStack c d → SameFrames f.l (f.l.level e) c d
      → Beneath f.t f.l e st c → Beneath f.t f.l e st d
  beneath_moves e st c d real low enables stack frames beneath = record {
    chip = beneath.chip;
    saved = (f.runs e real).saved_stays beneath.chip c d beneath.saved enables (λ address its. frames e address real (omega arith) its);
    over = over_moves f.l st beneath.chip c d stack (frames_less f.l (level_of_top f.l st) (f.l.level e) c d low frames) beneath.over;
    paused = beneath.paused;
  }
