-- A run of each kind does what is asked of it.
use Rattle.std.proofs.Common.{◌≡◌, ℕ, ◌+◌, ◌-◌, ◌<◌, ◌≤◌, Bool, true, false, ◌&&◌, if◌then◌else◌, Some, List, [], ◌∷◌, length, map, refl, sym, ap, subst, ◌∙◌, arith}
use Rattle.std.proofs.Common.{lt-ltb}
use Rattle.frp_tree.specs.Tree.{ProgramTree}
use Rattle.efrp_meaning.specs.States.{IsState}
use Rattle.map_file.specs.declared.maps.Map.{Map}
use Rattle.timed_core.specs.Timing.{Timing}
use Rattle.pic_isa.specs.declared.sources.Source.{Source}
use Rattle.pic_regs.specs.Bytes.{zeros}
use Rattle.pic_machine.specs.Chip.{Chip}
use Rattle.code_steps.specs.declared.banks.Bank.{Bank}
use Rattle.code_steps.specs.declared.banks.Bank.TheVariants.{Known, Unknown}
use Rattle.code_steps.specs.Steps.{Is, next, own}
use Rattle.code_steps.specs.Between.{Alone}
use Rattle.code_steps.specs.Ends.{Between, Holds}
use Rattle.code_steps.proofs.ComesLaws.{comes_longer}
use Rattle.code_acts.specs.Codes.{moved}
use Rattle.code_acts.specs.Standing.{StandFrom}
use Rattle.code_items.specs.declared.items.Item.{Item}
use Rattle.code_items.specs.declared.items.Item.TheVariants.{Jump}
use Rattle.code_items.specs.Items.{words_of_item}
use Rattle.code_items.specs.Lines.{Stands}
use Rattle.glue_steps.specs.declared.lines.Line.{Line}
use Rattle.glue_steps.specs.declared.lines.Line.TheVariants.{Lower, Skip}
use Rattle.glue_steps.specs.Lines.{did, instr_of, item_of}
use Rattle.glue_steps.specs.Laws.{StillIn}
use Rattle.glue_steps.specs.Still.{Off}
use Rattle.glue_steps.specs.Tells.{Withstands}
use Rattle.glue_steps.proofs.StraightLaws.{place-behind}
use Rattle.glue_steps.proofs.TellsLaws.{tells_longer, tells_now}
use Rattle.glue_parts.specs.declared.kept.TheConstants.{REDO}
use Rattle.glue_parts.specs.Marks.{mark, Again}
use Rattle.glue_parts.specs.Marks.{Lock as LockSpot}
use Rattle.glue_parts.specs.Pieces.{bank_of_flag}
use Rattle.firmware_parts.specs.Layout.{Easy, Layout, Usual, is_told, piece}
use Rattle.firmware_parts.specs.Layout.Part.{Begin, Commit, Copying, Exit, Lock, Open, Start, Work}
use Rattle.firmware_parts.specs.Contexts.{AtLevel, Entered}
use Rattle.firmware_parts.specs.Runs.{AtClear, AtLock, AtOn, AtOpen, AtReturn, Clean, DoesRun, Leads, Opened, Returned, Runs, Void, WorkStep}
use Rattle.scratch_commit.specs.declared.kinds.Kind.{Kind}
use Rattle.scratch_commit.specs.declared.kinds.Kind.TheVariants.{Short, Long, Bottom, Middle}
use Rattle.scratch_commit.specs.Deeds.{LowerFlag, bank_past, lines_in}
use Rattle.scratch_commit.specs.Plans.{Plan, is_short}
use Rattle.run_steps.specs.Laws.{RunDoes}
use Rattle.run_steps.specs.Premises.{AreSpotsOf, Inside, IsRunIn, LieInParts, May}
use Rattle.run_steps.specs.Saved.{SavedBy}
use Rattle.run_steps.specs.Spots.{Spots, before_flag, entering_in, exit_bank, is_locked, lock_words, locked_spots, long_spots, moves_in, open_bank, restarting, returning_in, short_spots, spots_by, spots_of}
use Rattle.run_steps.proofs.BeginFacts.{on_stays, places_inside, restart_again, restart_first}
use Rattle.run_steps.proofs.ClearFacts.{starts_long}
use Rattle.run_steps.proofs.GateFacts.{holds_from, passes, repeats}
use Rattle.run_steps.proofs.LockFacts.{slips}
use Rattle.run_steps.proofs.PlaceLaws.{LockedStands, locked_stands, long_stands, short_stands, tail_items}
use Rattle.run_steps.proofs.SavedFacts.{saved_stays}
use Rattle.run_steps.proofs.ShortFacts.{starts_short}
use Rattle.run_steps.proofs.SkipFacts.{holds_placed, steps_over, words_over}
use Rattle.run_steps.proofs.TailFacts.{flag_bank, lower_own, tail_exits, tail_window, turns_own}
use Rattle.run_steps.proofs.WorkFacts.{easy_same, work_clean, work_void}

-- Being at the open withstands arrivals.
holds_alone : (bank : Bank) (c d : Chip) → Alone c d → Holds bank c → Holds bank d
holds_alone Unknown c d r holds = tt
holds_alone (Known k) c d r holds = (ap (λ (y : Chip). y.regs.status.b6) r.only ∙ holds.0, ap (λ (y : Chip). y.regs.status.b5) r.only ∙ holds.1)

open_stays : (l : Layout) (e : ℕ) → Withstands (AtOpen l e)
open_stays l e c d r at = record {
  there = ap (λ (y : Chip). y.pc) r.only ∙ at.there;
  off = ap (λ (y : Chip). y.regs.intcon.b7) r.only ∙ at.off;
  easy = easy_same l c d (ap (λ (y : Chip). y.regs.pclath) r.only) at.easy;
  bank = holds_alone (l.bank e) c d r at.bank;
}

-- Kinds.
locked_long : (kind : Kind) → is_locked kind ≡ true → is_short kind ≡ false
locked_long Short locked = absurd (cc)
locked_long Long locked = absurd (cc)
locked_long Bottom locked = refl
locked_long Middle locked = refl

locked_places : (kind : Kind) (paged : Bool) (start : ℕ) (plan : Plan) → is_locked kind ≡ true → spots_by kind paged start plan ≡ locked_spots paged start plan
locked_places Short paged start plan locked = absurd (cc)
locked_places Long paged start plan locked = absurd (cc)
locked_places Bottom paged start plan locked = refl
locked_places Middle paged start plan locked = refl

-- The words and the steps of a lock.
lock_is : (paged : Bool) → lock_words paged ≡ 1 + words_over paged + words_over paged
lock_is true = refl
lock_is false = refl

few_words : (paged : Bool) (lock opens : ℕ) → opens ≡ lock + lock_words paged → lock + 1 + (if paged then 4 else 2) ≤ opens
few_words true lock opens is = omega (arith, is)
few_words false lock opens is = omega (arith, is)

few_steps : (paged : Bool) → steps_over paged + steps_over paged ≤ 6
few_steps true = omega arith
few_steps false = omega arith

again_steps : (paged : Bool) (mark n k : ℕ) → 7 + n ≤ k → steps_over paged + (1 + words_of_item paged (Jump mark) + n) ≤ k
again_steps true mark n k enough = omega (arith, enough)
again_steps false mark n k enough = omega (arith, enough)

module _ (p : ProgramTree) (m : Map) (t : Timing) (l : Layout) (marks : ℕ → ℕ) (starting start : ℕ) (plans : ℕ → Plan) (e : ℕ) (run : IsRunIn p m t l marks starting start (plans e) e) where
  abbrev plan : Plan
  plan = plans e

  abbrev Saved : ℕ → Chip → Chip → Type 0
  Saved event = SavedBy l (plans event)

  abbrev A : List Line
  A = lines_in (Known 0) (entering_in plan)

  abbrev B : List Line
  B = lines_in plan.bank restarting

  abbrev L : List Line
  L = lines_in (open_bank plan) (moves_in plan)

  abbrev R : List Line
  R = lines_in (exit_bank plan) (returning_in plan)

  -- What is known of its places.
  record At (s : Spots) : Type 0 where
    pub room : s.stops < 8192
    pub few : l.paged ≡ false → s.stops < 2048
    pub spots : AreSpotsOf l e s
    pub lie : LieInParts l e s

  at_spots : (s : Spots) → spots_of l.paged start plan ≡ s → At s
  at_spots s same = subst At same (record { room = run.room; few = run.page; spots = run.spots; lie = run.lie })

  -- The window and the return, from the open on.
  record Tail : Type 0 where
    pub window : (c : Chip) → AtOpen l e c → Runs l.program (StillIn l.program (piece l (Open e))) (Opened l e t.copying c) c
    pub exits : (x c : Chip) → c.pc ≡ next (l.commits e) → Off c → Easy l c → SavedBy l plan x c → Holds (l.exit_bank e) c → Leads l (Exit e) (AtReturn l x) [] t.exiting c

  tail_of : (s : Spots) → At s → s.commits ≡ s.opens + length L - 1 → s.stops ≡ s.opens + length L + length R → Stands l.paged l.program marks s.opens (tail_items plan) run.stop → Tail
  tail_of s at commits stops stands =
      let is_commits : l.commits e ≡ s.opens + length L - 1 = at.spots.commits ∙ commits in
      let room : s.opens + length L + length R < 8192 = subst (λ r. r < 8192) stops at.room in
      let there : s.commits ≡ l.commits e = sym at.spots.commits in
      let in_copying = subst (λ r. Inside l (Copying e) (s.opens + 1) r) there at.lie.copying in
      let in_commit = subst (λ r. Inside l (Commit e) r (r + 1)) there at.lie.commits in
      let in_exit = subst (λ r. Inside l (Exit e) (r + 1) (s.opens + length L + length R)) there (subst (λ r. Inside l (Exit e) (s.commits + 1) r) stops at.lie.exit) in
      record {
        window = tail_window p m t l marks starting plan e s.opens run.stop run.planned run.may run.states run.times run.words stands at.spots.opens is_commits room at.lie.opens in_copying in_commit in_exit;
        exits = tail_exits p m t l marks starting plan e s.opens run.stop run.planned run.may run.states run.times run.words stands at.spots.opens is_commits room at.lie.opens in_copying in_commit in_exit;
      }

  -- Where the work comes later: the start, and the clearing of the flag.
  module _ (long : is_short plan.kind ≡ false) where
    not_short : l.is_short e ≡ false
    not_short = run.planned.short ∙ long

    bank_is : l.bank e ≡ plan.bank
    bank_is = run.planned.bank ∙ open_long (is_short plan.kind) long
      where
        open_long : (s : Bool) → s ≡ false → (if s then bank_past plan.bank (LowerFlag plan.source ∷ []) else plan.bank) ≡ plan.bank
        open_long true is = absurd (cc)
        open_long false is = refl

    clears_long : (place : ℕ) → l.clear e ≡ place → Is l.program place (instr_of (Lower plan.source)) → (c : Chip) → c.pc ≡ l.clear e → (l.is_short e ≡ false → Holds (Known 0) c)
        → own l.program c ≡ Some (did (Lower (l.source e)) c)
    clears_long place there is c at zero =
        subst (λ (source : Source). own l.program c ≡ Some (did (Lower source) c)) run.planned.source
        (lower_own l.program plan.source (Known 0) place c is (at ∙ there) (subst (λ b. Holds b c) (sym (flag_bank plan.source)) (zero not_short)))

    long_start : (s : Spots) → At s → s.entry ≡ start → s.clear ≡ start + length A → s.clear < 8192 → StandFrom l.program start (map instr_of A)
        → (x c : Chip) (low : ℕ) → c.pc ≡ l.entry e → Off c → c.regs.intcon.b3 ≡ false → Usual l x → Entered l x c → AtLevel l low x → low < l.level e
        → (low ≡ 0 → Holds (Known 0) x × (x.regs.pclath ≡ zeros)) → Leads l (Start e) (AtClear p m l Saved e x) [] starting c
    long_start s at entry clear room stand x c low here off rbie usual entered level above home =
        let is_entry : l.entry e ≡ start = at.spots.entry ∙ entry in
        let is_clear = at.spots.clear in
        let its_level = run.planned.level in
        let place = place-behind (l.entry e) A (omega (arith, is_entry, clear, room)) in
        starts_long p m l plans e run.planned run.frame long x c low rbie usual entered level (omega (arith, its_level, above))
        (record { bank = λ z. (home z).0; page = λ z. (home z).1 }) starting (subst (λ r. StandFrom l.program r (map instr_of A)) (sym is_entry) stand)
        (places_inside (λ q. l.inside (Start e) q ≡ true) s.entry s.clear (l.entry e) A at.lie.start (omega (arith, room)) (omega (arith, is_entry, entry)) (omega (arith, is_entry, clear)))
        (run.may.start not_short) (run.times.start not_short) (omega (arith, place, is_entry, clear, room, is_clear)) here off

    -- The work.
    module _ (work lock : ℕ) (stands : Stands l.paged l.program marks work plan.work lock) (ends : lock ≡ work + length plan.work) (room : lock < 8192) (is_lock : l.lock e ≡ lock)
        (inside : (place : ℕ) → Between work lock place → l.inside (Work e) place ≡ true) where
      inside_work : (place : ℕ) → Between work (work + length plan.work) place → l.inside (Work e) place ≡ true
      inside_work place its = let from = its.0 in let below = its.1 in inside place (from, omega (arith, below, ends))

      works_void : (c : Chip) → c.pc ≡ work → Holds (Known 0) c → Void l e (t.body e) c
      works_void c at holds =
          work_void p m l marks run.most e work lock plan.bank plan.work run.work stands (omega (arith, ends, room)) (is_lock ∙ ends) bank_is inside_work (t.body e) c (run.times.body not_short) at holds

      works_clean : (c : Chip) → c.pc ≡ work → Holds (Known 0) c → IsState p (l.states c.regs.plain) → Clean p m l e (t.body e) c
      works_clean c at holds state =
          work_clean p m l marks run.most e work lock plan.bank plan.work run.work stands (omega (arith, ends, room)) (is_lock ∙ ends) bank_is inside_work (t.body e) c (run.times.body not_short) at holds state

  -- A long run.
  long_run : plan.kind ≡ Long → DoesRun p m t l Saved starting e
  long_run kind =
      let s : Spots = long_spots start plan in
      let at = at_spots s (ap (λ k. spots_by k l.paged start plan) kind) in
      let room = at.room in
      let stands = long_stands l.paged l.program marks start run.stop plan run.stands run.instructions run.work.last kind room in
      let long : is_short plan.kind ≡ false = ap is_short kind in
      let unlocked : l.is_locked e ≡ false = run.planned.locked ∙ ap is_locked kind in
      let ns = not_short long in
      let is_on = at.spots.on ns in
      let is_clear = at.spots.clear in
      let is_work = at.spots.work ns in
      let is_lock = at.spots.lock ns in
      let is_opens = at.spots.opens in
      let tail = tail_of s at refl refl stands.tail in
      let inside : (place : ℕ) → Between s.work s.lock place → l.inside (Work e) place ≡ true = λ place its. let from = its.0 in let below = its.1 in at.lie.work place (from, omega (arith, below)) in
      record {
        saved_stays = saved_stays l e plan run.frame;
        starts = λ x c low here off rbie usual entered level above home typed. long_start long s at refl refl (omega (arith, room)) stands.start x c low here off rbie usual entered level above home;
        clears = λ c here zero bank. clears_long long s.clear is_clear stands.clear c here zero;
        opens_next = λ short. absurd (let clash : true ≡ false = sym short ∙ ns in cc);
        begins = λ c not here off easy holds. tells_now l.program (StillIn l.program (piece l (Begin e))) (AtOn l e) [] t.start c (
          refl,
          record {
            there = omega (arith, here, is_clear, is_on, room);
            off = off;
            easy = easy;
            bank = holds;
            untold = λ locked. absurd (let clash : true ≡ false = sym locked ∙ unlocked in cc);
            usual = λ locked. absurd (let clash : true ≡ false = sym locked ∙ unlocked in cc);
          },
        );
        turns_on = λ c not here. turns_own l.program true s.on c stands.on (here ∙ is_on);
        work_next = λ not. omega (arith, is_on, is_work, room);
        void = λ c not here holds. works_void long s.work s.lock stands.work refl (omega (arith, room)) is_lock inside c (here ∙ is_work) holds;
        clean = λ c not here holds state. works_clean long s.work s.lock stands.work refl (omega (arith, room)) is_lock inside c (here ∙ is_work) holds state;
        turns_off = λ c not here. turns_own l.program false s.lock c stands.off (here ∙ is_lock);
        slips = λ c locked here holds usual. absurd (let clash : true ≡ false = sym locked ∙ unlocked in cc);
        repeats = λ c locked here off easy holds told. absurd (let clash : true ≡ false = sym locked ∙ unlocked in cc);
        passes = λ c not here off easy holds untold. tells_now l.program (StillIn l.program (piece l (Lock e))) (AtOpen l e) [] t.opening c
            (refl, record { there = omega (arith, here, is_lock, is_opens, room); off = off; easy = easy; bank = holds });
        window = tail.window;
        exits = tail.exits;
      }

  -- A short one.
  short_run : plan.kind ≡ Short → DoesRun p m t l Saved starting e
  short_run kind =
      let s : Spots = short_spots start plan in
      let at = at_spots s (ap (λ k. spots_by k l.paged start plan) kind) in
      let room = at.room in
      let stands = short_stands l.paged l.program marks start run.stop plan run.stands run.instructions run.work.last kind room in
      let short : is_short plan.kind ≡ true = ap is_short kind in
      let is_its : l.is_short e ≡ true = run.planned.short ∙ short in
      let unlocked : l.is_locked e ≡ false = run.planned.locked ∙ ap is_locked kind in
      let is_clear = at.spots.clear in
      let is_entry = at.spots.entry in
      let is_opens = at.spots.opens in
      let tail = tail_of s at refl refl stands.tail in
      let never : l.is_short e ≡ false → ⊥ = λ not. let clash : true ≡ false = sym is_its ∙ not in absurd (cc) in
      let unmet : l.is_locked e ≡ true → ⊥ = λ locked. let clash : true ≡ false = sym locked ∙ unlocked in absurd (cc) in
      let before = place-behind (start + length plan.work) (before_flag plan) (omega (arith, room)) in
      record {
        saved_stays = saved_stays l e plan run.frame;
        starts = λ x c low here off rbie usual entered level above home typed.
            let its_level = run.planned.level in
            starts_short p m l plans e run.planned run.frame short run.spares x c low usual entered level (omega (arith, its_level, above))
            (record { bank = λ z. (home z).0; page = λ z. (home z).1 }) run.most run.work marks start stands.work stands.before (omega (arith, room))
            (λ place its. let from = its.0 in let below = its.1 in at.lie.start place (from, omega (arith, below)))
            (places_inside (λ q. l.inside (Start e) q ≡ true) s.entry s.clear (start + length plan.work) (before_flag plan) at.lie.start (omega (arith, room)) (omega arith) (omega arith))
            (run.may.short is_its) starting (run.times.short is_its) is_entry (omega (arith, before, is_clear, room)) here off typed;
        clears = λ c here zero bank.
            subst (λ (source : Source). own l.program c ≡ Some (did (Lower source) c)) run.planned.source
            (lower_own l.program plan.source plan.bank s.clear c stands.clear (here ∙ is_clear) (subst (λ b. Holds b c) (run.planned.bank ∙ open_short (is_short plan.kind) short) (bank is_its)));
        opens_next = λ is. omega (arith, is_clear, is_opens, room);
        begins = λ c not here off easy holds. absurd (never not);
        turns_on = λ c not here. absurd (never not);
        work_next = λ not. absurd (never not);
        void = λ c not here holds. absurd (never not);
        clean = λ c not here holds state. absurd (never not);
        turns_off = λ c not here. absurd (never not);
        slips = λ c locked here holds usual. absurd (unmet locked);
        repeats = λ c locked here off easy holds told. absurd (unmet locked);
        passes = λ c not here off easy holds untold. absurd (never not);
        window = tail.window;
        exits = tail.exits;
      }
    where
      open_short : (s : Bool) → s ≡ true → (if s then bank_past plan.bank (LowerFlag plan.source ∷ []) else plan.bank) ≡ moved plan.bank (bank_of_flag plan.source)
      open_short true is = refl
      open_short false is = absurd (cc)

  -- One with a lock.
  module _ (locked : is_locked plan.kind ≡ true) where
    abbrev s : Spots
    s = locked_spots l.paged start plan

    long : is_short plan.kind ≡ false
    long = locked_long plan.kind locked

    its_lock : l.is_locked e ≡ true
    its_lock = run.planned.locked ∙ locked

    at : At s
    at = at_spots s (locked_places plan.kind l.paged start plan locked)

    stands : LockedStands l.paged l.program marks start run.stop plan
    stands = locked_stands l.paged l.program marks start run.stop plan run.stands run.instructions run.work.last locked at.room

    is_on : l.on e ≡ s.on
    is_on = at.spots.on (not_short long)

    is_work : l.work e ≡ s.work
    is_work = at.spots.work (not_short long)

    is_lock : l.lock e ≡ s.lock
    is_lock = at.spots.lock (not_short long)

    pages_saved : l.paged ≡ true → l.saves_pclath ≡ true
    pages_saved paged =
        run.planned.saves_pclath ∙ ap (λ b. b && plan.spread.pages) (lt-ltb 1 plan.levels (run.planned.several locked)) ∙ sym run.planned.paged ∙ paged

    saves_pages : l.saves_pclath ≡ false → l.paged ≡ false
    saves_pages unsaved = by_test l.paged refl
      where
        by_test : (b : Bool) → l.paged ≡ b → b ≡ false
        by_test true is = absurd (let clash : true ≡ false = sym (pages_saved is) ∙ unsaved in cc)
        by_test false is = refl

    may_redo : May l (Begin e) 0x073
    may_redo = (run.may.begin its_lock).1.0.1

    in_begin : Inside l (Begin e) (s.clear + 1) s.on
    in_begin = at.lie.begin

    words : s.opens ≡ s.lock + 1 + words_over l.paged + words_over l.paged
    words = let its = lock_is l.paged in omega (arith, its)

    top : s.opens < 8192
    top = let room = at.room in omega (arith, room)

    few : l.paged ≡ false → s.opens < 2048
    few short = let room = at.few short in omega (arith, room)

    lock_room : s.lock + 1 < 8192
    lock_room = let its = words in let high = top in omega (arith, its, high)

    near_lock : marks (mark (LockSpot plan.event)) < s.opens
    near_lock = let there = stands.lock in let its = lock_is l.paged in omega (arith, there, its)

    near_again : marks (mark (Again plan.event)) < s.opens
    near_again = let there = stands.again in let its = lock_is l.paged in omega (arith, there, its)

    inside_lock : (place : ℕ) → Between s.work s.lock place → l.inside (Work e) place ≡ true
    inside_lock place its = let from = its.0 in let below = its.1 in let w = lock_is l.paged in at.lie.work place (from, omega (arith, below, w))

    inside_back : (place : ℕ) → Between (s.lock + 1) s.opens place → l.inside (Work e) place ≡ true
    inside_back place its = let from = its.0 in at.lie.work place (omega (arith, from), its.1)

    begins_locked : (c : Chip) → c.pc ≡ next (l.clear e) → Off c → Easy l c → Holds (Known 0) c → Leads l (Begin e) (AtOn l e) [] t.start c
    begins_locked c here off easy holds =
        let room = at.room in
        let is_clear = at.spots.clear in
        let w = lock_is l.paged in
        let again : c.pc ≡ s.clear + 1 = omega (arith, here, is_clear, lock_room) in
        tells_longer l.program (StillIn l.program (piece l (Begin e))) (AtOn l e) [] (length B) t.start c run.times.begin
        (restart_first l e marks plan.bank (s.clear + 1) s.on stands.begin (omega (arith, lock_room)) refl is_on in_begin may_redo saves_pages c again off easy holds)

    slips_locked : (c : Chip) → c.pc ≡ next (l.lock e) → Holds (l.bank e) c → Usual l c → Void l e t.retry c
    slips_locked c here holds usual =
        let behind : c.pc ≡ s.lock + 1 = let there = is_lock in let room = lock_room in omega (arith, here, there, room) in
        let tests : List Item = item_of (Skip false REDO 0) ∷ Jump (mark (Again plan.event)) ∷ tail_items plan in
        comes_longer l.program Returned (WorkStep l e) (AtLock l e) 4 t.retry c (run.times.retry its_lock)
        (slips l e (s.lock + 1) s.opens inside_back (let there = is_lock in omega (arith, there)) marks (mark (LockSpot plan.event)) run.stop tests (stands.lock ∙ sym is_lock)
        (λ short. let there = is_lock in let low = few short in let w = lock_is l.paged in omega (arith, there, low, w)) (let there = is_lock in let room = lock_room in omega (arith, there, room))
        (few_words l.paged s.lock s.opens refl) (let high = top in omega (arith, high)) (λ paged. run.may.work_pages its_lock paged) (λ paged is. pages_saved paged) c behind holds usual stands.tests)

    passes_locked : (c : Chip) → c.pc ≡ next (l.lock e) → Off c → Easy l c → Holds (l.bank e) c → is_told c ≡ false → Leads l (Lock e) (AtOpen l e) [] t.opening c
    passes_locked c here off easy holds untold =
        let behind : c.pc ≡ s.lock + 1 = let there = is_lock in let room = lock_room in omega (arith, here, there, room) in
        let steps = few_steps l.paged in
        let enough = run.times.opening its_lock in
        let is_opens = at.spots.opens in
        let its = words in
        passes l (Lock e) marks (mark (LockSpot plan.event)) (mark (Again plan.event)) (s.lock + 1) s.opens run.stop (tail_items plan) at.lie.lock stands.tests words top few
        (λ paged. run.may.lock_pages its_lock paged) near_lock near_again (AtOpen l e) (open_stays l e) c behind off easy untold t.opening
        (λ off_there easy_there. record { there = omega (arith, is_opens, its); off = off_there; easy = easy_there; bank = holds_placed (l.bank e) _ _ c holds }) (omega (arith, steps, enough))

    repeats_locked : (c : Chip) → c.pc ≡ next (l.lock e) → Off c → Easy l c → Holds (l.bank e) c → is_told c ≡ true → Leads l (Begin e) (AtOn l e) [] t.again c
    repeats_locked c here off easy holds told =
        let behind : c.pc ≡ s.lock + 1 = let there = is_lock in let room = lock_room in omega (arith, here, there, room) in
        let on_room : s.on < 8192 = let room = lock_room in omega (arith, room) in
        repeats l (Begin e) marks (mark (LockSpot plan.event)) (mark (Again plan.event)) (s.lock + 1) s.opens run.stop (tail_items plan) at.lie.again stands.tests words top few
        (λ paged. run.may.begin_pages its_lock paged) near_lock near_again (AtOn l e)
        (on_stays l e marks plan.bank (s.clear + 1) s.on stands.begin on_room refl is_on in_begin may_redo saves_pages) c behind off easy told (length B) t.again
        (λ d there off_d easy_d from.
        restart_again l e marks plan.bank (s.clear + 1) s.on stands.begin on_room refl is_on in_begin may_redo saves_pages d (there ∙ stands.again) off_d easy_d
        (subst (λ b. Holds b d) (bank_is long) (holds_from (l.bank e) (marks (mark (Again plan.event))) d.regs.pclath c d from holds)))
        (again_steps l.paged (mark (Again plan.event)) (length B) t.again (run.times.again its_lock))

    locked_run : DoesRun p m t l Saved starting e
    locked_run =
        let tail = tail_of s at refl refl stands.tail in
        let is_clear = at.spots.clear in
        let room = lock_room in
        let on = is_on in
        let work = is_work in
        record {
          saved_stays = saved_stays l e plan run.frame;
          starts = λ x c low here off rbie usual entered level above home typed. long_start long s at refl refl (omega (arith, room)) stands.start x c low here off rbie usual entered level above home;
          clears = λ c here zero bank. clears_long long s.clear is_clear stands.clear c here zero;
          opens_next = λ short. absurd (let clash : true ≡ false = sym short ∙ not_short long in cc);
          begins = λ c not here off easy holds. begins_locked c here off easy holds;
          turns_on = λ c not here. turns_own l.program true s.on c stands.on (here ∙ is_on);
          work_next = λ not. omega (arith, on, work, room);
          void = λ c not here holds. works_void long s.work s.lock stands.work refl (omega (arith, room)) is_lock inside_lock c (here ∙ is_work) holds;
          clean = λ c not here holds state. works_clean long s.work s.lock stands.work refl (omega (arith, room)) is_lock inside_lock c (here ∙ is_work) holds state;
          turns_off = λ c not here. turns_own l.program false s.lock c stands.off (here ∙ is_lock);
          slips = λ c is here holds usual. slips_locked c here holds usual;
          repeats = λ c is here off easy holds told. repeats_locked c here off easy holds told;
          passes = λ c not here off easy holds untold. passes_locked c here off easy holds (untold its_lock);
          window = tail.window;
          exits = tail.exits;
        }

pub run_does : (p : ProgramTree) (m : Map) (t : Timing) (l : Layout) (marks : ℕ → ℕ) (starting start : ℕ) (plans : ℕ → Plan) (e : ℕ) → RunDoes p m t l marks starting start plans e
run_does p m t l marks starting start plans e run = by_kind (plans e).kind refl
  where
    by_kind : (kind : Kind) → (plans e).kind ≡ kind → DoesRun p m t l (λ event. SavedBy l (plans event)) starting e
    by_kind Short is = short_run p m t l marks starting start plans e run is
    by_kind Long is = long_run p m t l marks starting start plans e run is
    by_kind Bottom is = locked_run p m t l marks starting start plans e run (ap is_locked is)
    by_kind Middle is = locked_run p m t l marks starting start plans e run (ap is_locked is)
