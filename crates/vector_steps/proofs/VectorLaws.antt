-- The vector of firmware does what it has to do.
use Rattle.std.proofs.Common.{◌≡◌, ℕ, ◌+◌, ◌*◌, ◌%◌, ◌<◌, ◌≤◌, Bool, true, false, Some, None, List, [], ◌∷◌, ◌++◌, length, refl, sym, ap, ap₂, subst, ◌∙◌, arith}
use Rattle.frp_tree.specs.Tree.{ProgramTree}
use Rattle.efrp_meaning.specs.Bounds.{boot}
use Rattle.pic_isa.specs.declared.instructions.Instr.TheVariants.{Goto}
use Rattle.pic_regs.specs.declared.starts.Start.{Start}
use Rattle.pic_regs.specs.Bytes.{Byte, bit, bits, one_if, zeros}
use Rattle.pic_regs.specs.Registers.{Registers}
use Rattle.pic_machine.specs.Chip.{Chip}
use Rattle.pic_machine.specs.Results.{leaves}
use Rattle.pic_machine.specs.Run.{power_on}
use Rattle.bank_alloc.specs.declared.needs.Needs.{Needs}
use Rattle.bank_alloc.specs.Addresses.{address_of}
use Rattle.code_steps.specs.declared.banks.Bank.TheVariants.{Known}
use Rattle.code_steps.specs.Steps.{Is, next, own}
use Rattle.code_steps.specs.Between.{Alone}
use Rattle.code_steps.proofs.ComesLaws.{own_is}
use Rattle.glue_steps.specs.Lines.{did, instr_of, quiet}
use Rattle.glue_steps.specs.Laws.{StillIn}
use Rattle.glue_steps.specs.Stretches.{BankBits, Banked, bits_of_bank, ran_all}
use Rattle.glue_steps.specs.Tells.{Tells}
use Rattle.glue_steps.proofs.LineLaws.{line_is}
use Rattle.glue_steps.proofs.TellsLaws.{tells_longer, tells_wider}
use Rattle.glue_parts.specs.declared.spread.Spread.{Spread}
use Rattle.glue_parts.specs.Effects.{Makes, left}
use Rattle.firmware_promises.specs.Follows.{setup_puts}
use Rattle.isr_vector.specs.Booting.{boot_effect}
use Rattle.isr_vector.specs.Vector.{turns_on}
use Rattle.isr_vector.proofs.BootCountLaws.{boot-is_short, some_lines}
use Rattle.isr_vector.proofs.BootLaws.{boot-made}
use Rattle.firmware_parts.specs.Layout.{Layout, piece}
use Rattle.firmware_parts.specs.Layout.Part.{Boot}
use Rattle.firmware_parts.specs.Runs.{Leads, turns}
use Rattle.firmware_parts.specs.Times.{dispatching}
use Rattle.firmware_parts.specs.Vector.{AtBootEnd, DoesVector}
use Rattle.vector_steps.specs.Laws.{VectorDoes}
use Rattle.vector_steps.specs.Standing.{HasVector, lines_for, rest_for, taking_for}
use Rattle.vector_steps.proofs.BootPutFacts.{boot-puts}
use Rattle.vector_steps.proofs.BootedFacts.{Booted, booted}
use Rattle.vector_steps.proofs.BootingLaws.{EndStands, boot_left, booting_told, end_stands}
use Rattle.vector_steps.proofs.PlacedFacts.{banked_all, plain_lines, put_at}
use Rattle.vector_steps.proofs.SetUpFacts.{set_up_same}
use Rattle.vector_steps.proofs.StandingFacts.{boot_stands}
use Rattle.vector_steps.proofs.TakesFacts.{taken}

module _ (p : ProgramTree) (need : Needs) (spread : Spread) (l : Layout) (initial : List ℕ) (has : HasVector p need spread l initial) where
  abbrev In : ℕ → Type 0
  In x = l.inside Boot x ≡ true

  abbrev May : ℕ → Type 0
  May a = l.may Boot a ≡ true

  abbrev known : BankBits
  known = bits_of_bank (Known 0)

  -- From power-on.
  module _ (start : Start) where
    abbrev c : Chip
    c = power_on start

    abbrev ran_lines : Chip
    ran_lines = ran_all false (lines_for p need l) c

    abbrev final : Chip
    final = boot_left p need (l.enables 0) has.boot_at c

    abbrev behind : Registers
    behind = (boot_effect p need (l.enables 0)).change c.regs

    its_registers : Booted p need (l.enables 0) behind
    its_registers = booted p need (l.enables 0) c.regs has.typed has.fits has.placed refl refl refl refl

    makes : Makes known known (boot_effect p need (l.enables 0)) (lines_for p need l)
    makes = (boot-made p need (l.enables 0) has.typed has.fits has.placed).makes

    leaves_it : ran_lines ≡ left behind ran_lines c
    leaves_it = makes.leaves c

    field : {A : Type 0} (f : Registers → A) → f ran_lines.regs ≡ f (left behind ran_lines c).regs
    field f = ap (λ (x : Chip). f x.regs) leaves_it

    banked : Banked known ran_lines
    banked =
        let few = some_lines p need (l.enables 0) has.typed has.fits has.placed in
        subst (λ k. Banked k ran_lines) makes.banked
        (banked_all (lines_for p need l) known c (plain_lines false known (lines_for p need l) few.plain makes.fits) (refl, refl))

    -- Whatever has arrived at the end of the boot.
    ended : (e : Chip) → Alone final e → AtBootEnd p l initial e
    ended e r =
        let its = its_registers in
        let intcon : ran_lines.regs.intcon ≡ behind.intcon = field (λ (x : Registers). x.intcon) in
        let bit_is : (f : Byte → Bool) → f ran_lines.regs.intcon ≡ f (record zeros { b6 = bit 6 (bits (l.enables 0).intcon); b5 = bit 5 (bits (l.enables 0).intcon); b4 = bit 4 (bits (l.enables 0).intcon) }) =
        λ f. ap f (intcon ∙ its.intcon) in
        let plain : e.regs.plain ≡ behind.plain = ap (λ (x : Chip). x.regs.plain) r.only ∙ field (λ (x : Registers). x.plain) in record {
          there = ap (λ (x : Chip). x.pc) r.only ∙ sym has.boot_end;
          off = ap (λ (x : Chip). x.regs.intcon.b7) r.only ∙ bit_is (λ (i : Byte). i.b7);
          states = has.states e.regs.plain (λ k inside. ap (λ (f : ℕ → Byte). f (address_of need k)) plain ∙ its.cells k inside);
          heard = record {
            peie = ap (λ (x : Chip). x.regs.intcon.b6) r.only ∙ bit_is (λ (i : Byte). i.b6);
            t0ie = ap (λ (x : Chip). x.regs.intcon.b5) r.only ∙ bit_is (λ (i : Byte). i.b5);
            inte = ap (λ (x : Chip). x.regs.intcon.b4) r.only ∙ bit_is (λ (i : Byte). i.b4);
            rbie = ap (λ (x : Chip). x.regs.intcon.b3) r.only ∙ bit_is (λ (i : Byte). i.b3);
            pie1 = λ is. ap (λ (x : Chip). x.regs.pie1) r.only ∙ field (λ (x : Registers). x.pie1) ∙ its.pie1;
            pie2 = λ is. ap (λ (x : Chip). x.regs.pie2) r.only ∙ field (λ (x : Registers). x.pie2) ∙ its.pie2;
          };
          bank = (ap (λ (x : Chip). x.regs.status.b6) r.only ∙ banked.0, ap (λ (x : Chip). x.regs.status.b5) r.only ∙ banked.1);
          page = ap (λ (x : Chip). x.regs.pclath) r.only ∙ field (λ (x : Registers). x.pclath) ∙ its.pclath;
          set_up = set_up_same p behind e.regs
              (record {
                latch = ap (λ (x : Chip). x.regs.latch) r.only ∙ field (λ (x : Registers). x.latch);
                tris = ap (λ (x : Chip). x.regs.tris) r.only ∙ field (λ (x : Registers). x.tris);
                plain = plain;
              })
              its.set_up;
        }

    boots : Leads l Boot (AtBootEnd p l initial) (setup_puts p) (boot p) c
    boots =
        let G = StillIn l.program (piece l Boot) in
        let lines = lines_for p need l in
        let short = boot-is_short p need (l.enables 0) has.typed has.fits has.placed in
        tells_longer l.program G (AtBootEnd p l initial) (setup_puts p) (length lines + 1) (boot p) c (omega (arith, short))
        (tells_wider l.program G G (Alone final) (AtBootEnd p l initial) (λ e done g. g) ended (setup_puts p) (length lines + 1) c
        (subst (λ puts. Tells l.program G (Alone final) puts (length lines + 1) c) (boot-puts p need (l.enables 0) has.setups c.regs)
        (booting_told p need (l.enables 0) l.program has.marks spread.pages In May (taking_for p spread l) has.boot_at has.head_end has.boot_stop c
        (boot_stands p need spread l initial has) refl refl (refl, refl) refl)))

  -- The end of the boot, and rest.
  abbrev rest_length : ℕ
  rest_length = length (rest_for p need l)

  its_end : EndStands p need (l.enables 0) l.program has.marks spread.pages In May has.boot_at (taking_for p spread l) (has.boot_at + rest_length + 1)
  its_end = end_stands p need (l.enables 0) l.program has.marks spread.pages In May (taking_for p spread l) has.boot_at has.head_end has.boot_stop (boot_stands p need spread l initial has)

  turned : (d : Chip) → d.pc ≡ l.boot_end → own l.program d ≡ Some (did (turns true) d)
  turned d at =
      own_is l.program d (instr_of turns_on) (subst (λ q. Is l.program q (instr_of turns_on)) (sym (at ∙ has.boot_end)) its_end.turns)
      ∙ line_is (record { high = None; low = None }) turns_on d refl (tt, tt) (λ bank. refl)

  ready_behind : next l.boot_end ≡ l.ready
  ready_behind = let near = has.near in let ready = has.ready in let end = has.boot_end in omega (arith, near, ready, end)

  rested : (d : Chip) → d.pc ≡ l.ready → d.regs.pclath ≡ zeros → own l.program d ≡ Some (quiet d)
  rested d at page =
      let near = has.near in
      let k : ℕ = l.ready % 2048 in
      let there : Is l.program l.ready (Goto k) = subst (λ q. Is l.program q (Goto (q % 2048))) (sym has.ready) its_end.rests in
      let is : Is l.program d.pc (Goto k) = subst (λ q. Is l.program q (Goto k)) (sym at) there in
      let here : 0 + k ≡ d.pc = omega (arith, near, at) in
      let high : d.regs.pclath.b4 ≡ false = ap (λ (b : Byte). b.b4) page in
      let low : d.regs.pclath.b3 ≡ false = ap (λ (b : Byte). b.b3) page in
      own_is l.program d (Goto k) is
      ∙ ap₂ (λ h s. leaves (record d { pc = 4096 * one_if h + 2048 * one_if s + k })) high low
      ∙ ap (λ q. leaves (record d { pc = q })) here

pub vector-does : (p : ProgramTree) (need : Needs) (spread : Spread) (l : Layout) (initial : List ℕ) → VectorDoes p need spread l initial
vector-does p need spread l initial has = record {
  boots = λ start is. boots p need spread l initial has start;
  boot_turns_on = turned p need spread l initial has;
  ready_next = ready_behind p need spread l initial has;
  rests = rested p need spread l initial has;
  takes = taken p need spread l initial has;
}
