-- A taking, in the words of the parts of firmware.
use Rattle.std.proofs.Common.{◌≡◌, ℕ, zero, suc, ◌+◌, ◌*◌, ◌<◌, ◌≤◌, Bool, true, false, ◌&&◌, ◌==◌, ◌⊎◌, if◌then◌else◌, Some, List, [], ◌∷◌, ◌++◌, length, map, refl, sym, ap, ap₂, subst, ◌∙◌, arith, length-append, inl, inr}
use Rattle.std.specs.Prelude.{nat_lt}
use Rattle.std.specs.List.{AllByRecursion}
use Rattle.std.proofs.lemmas.Bool.Decides.{eqb_tells, leb_tells}
use Rattle.frp_tree.specs.Tree.{ProgramTree}
use Rattle.efrp_meaning.specs.Bounds.{levels}
use Rattle.pic_isa.specs.declared.sources.Source.{Source}
use Rattle.pic_regs.specs.Bytes.{Byte, zeros}
use Rattle.pic_regs.specs.Map.{Pclath, existing}
use Rattle.pic_regs.specs.Registers.{flag}
use Rattle.pic_machine.specs.Chip.{Chip}
use Rattle.pic_machine.specs.Boundary.{took}
use Rattle.bank_alloc.specs.declared.needs.Needs.{Needs}
use Rattle.priority_masks.specs.Levels.{level_of}
use Rattle.code_steps.specs.declared.banks.Bank.TheVariants.{Known}
use Rattle.code_steps.specs.Between.{Alone, placed_at}
use Rattle.code_steps.specs.Ends.{Between, Holds}
use Rattle.code_steps.specs.Jumps.{Reaches}
use Rattle.code_items.specs.Items.{words_in}
use Rattle.glue_steps.specs.Choices.{Moved}
use Rattle.glue_steps.specs.Laws.{StillIn}
use Rattle.glue_steps.specs.Still.{Off}
use Rattle.glue_steps.specs.Tells.{Tells}
use Rattle.glue_steps.proofs.TellsLaws.{tells_longer, tells_wider}
use Rattle.glue_parts.specs.declared.spread.Context.{Context}
use Rattle.glue_parts.specs.declared.spread.Spread.{Spread}
use Rattle.glue_parts.specs.Marks.{Entry, mark}
use Rattle.isr_vector.specs.Taking.{context_of, taking_items}
use Rattle.isr_vector.specs.Urgency.{ComesBefore, by_urgency}
use Rattle.isr_vector.proofs.ListLaws.{all_mapped, at_event}
use Rattle.isr_vector.proofs.TestLaws.{taking-words}
use Rattle.isr_vector.proofs.UrgencyLaws.{all-are_events, all_events, first-is_best, order-length}
use Rattle.firmware_parts.specs.Layout.{Easy, Layout, Usual, piece}
use Rattle.firmware_parts.specs.Layout.Part.{Boot, Taking}
use Rattle.firmware_parts.specs.Contexts.{AtLevel, Entered, SameEnables}
use Rattle.firmware_parts.specs.Runs.{Leads}
use Rattle.firmware_parts.specs.Times.{dispatching}
use Rattle.firmware_parts.specs.Vector.{Chosen}
use Rattle.firmware_parts.proofs.WholeLaws.{tells_whole}
use Rattle.vector_steps.specs.Choosing.{Dispatched, saved}
use Rattle.vector_steps.specs.Standing.{HasVector, lines_for, taking_for}
use Rattle.vector_steps.proofs.BootingLaws.{reaches_near, taking_there}
use Rattle.vector_steps.proofs.StandingFacts.{boot_stands}
use Rattle.vector_steps.proofs.TakingLaws.{Behind, TakingBegins, TakingStands, behind_context, taking_told}

module _ (p : ProgramTree) (need : Needs) (spread : Spread) (l : Layout) (initial : List ℕ) (has : HasVector p need spread l initial) where
  abbrev context : Context
  context = context_of p spread

  abbrev words : ℕ
  words = words_in spread.pages (taking_for p spread l)

  -- Few words.
  words_few : words ≤ dispatching p
  words_few = let few = taking-words l.source context spread.pages spread.pages (by_urgency p) in let events = order-length p in omega (arith, few, events)

  event_in : (before : List ℕ) (event : ℕ) (behind : List ℕ) → by_urgency p ≡ before ++ event ∷ behind → event < length p.events
  event_in before event behind order = at_event (λ x. x < length p.events) before event behind (subst (AllByRecursion (λ x. x < length p.events)) order (all-are_events p))

  placed : TakingStands l.program has.marks l.source (λ x. l.inside Taking x ≡ true) (λ a. l.may Taking a ≡ true) spread.pages context (by_urgency p) has.head_end
  placed =
      let few = words_few in
      let events = has.few in record {
        room = omega (arith, few, events);
        inside = λ x within. has.in_taking x within.0 within.1;
        may_status = λ is. has.may_status (has.status ∙ is);
        may_pclath = λ is. has.may_pclath (has.pclath ∙ is);
        may_page = λ is. has.may_page (has.paged ∙ is);
        stands = taking_there p need (l.enables 0) l.program has.marks spread.pages (λ x. l.inside Boot x ≡ true) (λ a. l.may Boot a ≡ true) (taking_for p spread l) has.boot_at has.head_end has.boot_stop
            (boot_stands p need spread l initial has);
        next_is = λ is tested least order. sym (has.entry least (event_in tested least [] order)) ∙ has.last is tested least order;
      }

  module _ (x : Chip) (low event : ℕ) (usual : Usual l x) (at_level : AtLevel l low x) (above : low < l.level event) (flagged : flag (l.source event) x.regs ≡ true) where
    abbrev c : Chip
    c = (took x).after

    -- A number with a level is an event's.
    is_event : (y : ℕ) → 0 < l.level y → y < length p.events
    is_event y some =
        elim (leb_tells (y + 1) (length p.events)) [
          | inl there ↦ let below = there.1 in omega (arith, below)
          | inr past ↦ let far = past.1 in let none = has.no_level y (omega (arith, far)) in absurd (omega (arith, some, none))
        ]

    its_event : event < length p.events
    its_event = is_event event (omega (arith, above))

    -- In code of one page PCLATH is 0, so each entry is reached.
    easy_page : spread.pages ≡ false → x.regs.pclath ≡ zeros
    easy_page is = usual.easy.page (has.paged ∙ is)

    reached : (b : Bool) → spread.pages ≡ b → (y : ℕ) → y < length p.events → Reaches b (has.marks (mark (Entry y))) c
    reached true is y inside = tt
    reached false is y inside =
        let entry = has.entry y inside in
        let short = has.short is y inside in
        reaches_near (has.marks (mark (Entry y))) c (omega (arith, entry, short)) (easy_page is)

    begins : TakingBegins l.program has.marks l.source (λ x. l.inside Taking x ≡ true) (λ a. l.may Taking a ≡ true) spread.pages context (by_urgency p) c
    begins = record {
      at = refl;
      off = refl;
      bank = λ is. usual.bank (has.status ∙ is);
      reach = all_mapped (λ y. y < length p.events) (λ y. Reaches spread.pages (has.marks (mark (Entry y))) c) (λ y inside. reached spread.pages refl y inside) (by_urgency p) (all-are_events p);
      some = λ clear. let never = all_events p (λ y. flag (l.source y) x.regs ≡ false) clear event its_event in let clash : true ≡ false = sym flagged ∙ never in absurd (cc);
    }

    module _ (e : Chip) (its : Dispatched has.marks l.source context spread.pages (by_urgency p) c e) where
      its_inside : its.event < length p.events
      its_inside = event_in its.before its.event its.behind its.among

      best : (y : ℕ) → 0 < l.level y → flag (l.source y) x.regs ≡ true → (y ≡ its.event → ⊥) → (l.level y < l.level its.event) ⊎ ((l.level y ≡ l.level its.event) × (its.event < y))
      best y some set differ =
          let inside = is_event y some in
          let own = has.levels y inside in
          let chosen = has.levels its.event its_inside in
          elim (first-is_best p (λ z. flag (l.source z) x.regs) its.before its.event its.behind its.among its.clear y inside set differ) [
            | inl less ↦ inl (omega (arith, less, own, chosen))
            | inr tie ↦ inr (own ∙ tie.0 ∙ sym chosen, tie.1)
          ]

      its_above : low < l.level its.event
      its_above =
          elim (eqb_tells event its.event) [
            | inl same ↦ subst (λ y. low < l.level y) same.1 above
            | inr differ ↦
                elim (best event (omega (arith, above)) flagged differ.1) [
                  | inl less ↦ omega (arith, above, less)
                  | inr tie ↦ let level = tie.0 in omega (arith, above, level)
                ]
          ]

      -- What was dispatched is chosen.
      chosen : existing Pclath e.regs.pclath ≡ e.regs.pclath → Chosen l x low e
      chosen whole =
          let behind = behind_context context c refl (λ is. usual.bank (has.status ∙ is)) in
          let only = its.moved.only in record {
            event = its.event;
            there = its.there ∙ sym (has.entry its.event its_inside);
            off = ap (λ (y : Chip). y.regs.intcon.b7) only ∙ behind.off;
            set = its.set;
            best = best;
            above = its_above;
            entered = record {
              enables = record {
                peie = ap (λ (y : Chip). y.regs.intcon.b6) only ∙ ap (λ (i : Byte). i.b6) behind.intcon;
                t0ie = ap (λ (y : Chip). y.regs.intcon.b5) only ∙ ap (λ (i : Byte). i.b5) behind.intcon;
                inte = ap (λ (y : Chip). y.regs.intcon.b4) only ∙ ap (λ (i : Byte). i.b4) behind.intcon;
                pie1 = ap (λ (y : Chip). y.regs.pie1) only ∙ behind.pie1;
                pie2 = ap (λ (y : Chip). y.regs.pie2) only ∙ behind.pie2;
              };
              bank = (ap (λ (y : Chip). y.regs.status.b6) only ∙ behind.bank.0, ap (λ (y : Chip). y.regs.status.b5) only ∙ behind.bank.1);
              easy = record { whole = whole; page = λ is. its.kept (sym has.paged ∙ is) ∙ usual.easy.page is };
              rp1 = λ is. ap (λ (y : Chip). (y.regs.plain 0x071).b6) only ∙ ap (λ (s : Byte). s.b6) (behind.status_kept (sym has.status ∙ is));
              rp0 = λ is. ap (λ (y : Chip). (y.regs.plain 0x071).b5) only ∙ ap (λ (s : Byte). s.b5) (behind.status_kept (sym has.status ∙ is));
              pclath = λ is. ap (λ (y : Chip). y.regs.plain 0x072) only ∙ behind.pclath_kept (sym has.pclath ∙ is) ∙ usual.easy.whole;
            };
          }

    pub taken : Leads l Taking (Chosen l x low) [] (dispatching p) c
    taken =
        let G = StillIn l.program (piece l Taking) in
        let Q = Dispatched has.marks l.source context spread.pages (by_urgency p) c in
        tells_longer l.program G (Chosen l x low) [] words (dispatching p) c words_few
        (tells_wider l.program G G (λ e. Q e × (existing Pclath e.regs.pclath ≡ e.regs.pclath)) (Chosen l x low) (λ e done g. g) (λ e both. chosen e both.0 both.1) [] words c
        (tells_whole l.program G Q [] words c usual.easy.whole
        (taking_told l.program has.marks l.source (λ y. l.inside Taking y ≡ true) (λ a. l.may Taking a ≡ true) spread.pages context (by_urgency p) has.head_end c placed begins)))
