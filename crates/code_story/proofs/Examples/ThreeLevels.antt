-- Code of three events on three levels, the top one's short or long: it is arranged as `Arranged` says.
use Rattle.std.specs.Prelude.{ℕ, zero, suc, ◌+◌, ◌*◌, ◌/◌, ◌%◌, ◌<◌, ◌≤◌, ◌==◌, ◌↔◌, Bool, true, false, ◌&&◌, ◌||◌, nat_lt, nat_le, List, [], ◌∷◌, Option, Some, None, codes, if◌then◌else◌}
use Rattle.std.proofs.Common.{◌≡◌, refl, sym, ap, ap₂, subst, ◌∙◌, arith, inl, inr, add-zero}
use Rattle.std.proofs.lemmas.Bool.{and_parts, or_cases, both_ways, eqb-true, ltb-true, le-leb, lt-ltb, and_from, or_left}
use Rattle.frp_tree.specs.declared.syntax.Ty.TheVariants.{U8}
use Rattle.frp_tree.specs.declared.syntax.Lit.TheVariants as lit
use Rattle.frp_tree.specs.Tree.{Name, ProgramTree}
use Rattle.efrp_meaning.proofs.Examples.Programs.{event, setup, clause, reactive, one_more, output, tick, go}
use Rattle.efrp_meaning.specs.Meaning.{Reaction, react}
use Rattle.efrp_meaning.specs.States.{IsState}
use Rattle.efrp_meaning.specs.Bounds.{body}
use Rattle.pic_isa.specs.Sources.{flag_of}
use Rattle.pic_isa.specs.declared.sources.Source.{Source}
use Rattle.pic_isa.specs.declared.sources.Source.TheVariants.{T0, Int, Tmr1}
use Rattle.pic_regs.specs.Bytes.{Byte, num}
use Rattle.pic_machine.specs.declared.steps.PortWrite.{PortWrite}
use Rattle.map_file.specs.declared.maps.MapEvent.{MapEvent}
use Rattle.map_file.specs.declared.maps.Map.{Map}
use Rattle.firmware_promises.specs.MapNames.{is_listed}
use Rattle.firmware_promises.specs.Setups.{last_setup}
use Rattle.priority_masks.specs.declared.tables.Enables.{Enables}
use Rattle.core_story.specs.Values.{item, name_at}
use Rattle.core_story.specs.Interface.{Fitted}
use Rattle.code_steps.specs.declared.banks.Bank.TheVariants.{Known}
use Rattle.firmware_parts.specs.Times.{times, dispatching, starting}
use Rattle.firmware_parts.specs.Layout.{Layout, Part}
use Rattle.firmware_parts.specs.Layout.Part.{Boot, Taking, Start, Begin, Work, Lock, Open, Copying, Commit, Exit}
use Rattle.code_story.specs.Arranged.{StandsAlone, IsEventOf, LevelsAgree, IsLevel, is_heard_by, EnablesAgree, PlacesAgree, Spares, is_boot_part, leaves_states, leaves_enables, leaves_told, leaves_page, WritesAgree, StatesAgree, Arranged}
use Rattle.code_story.proofs.KeptFacts.{unwritten}

-- A counter of Low that is shown on port B; Mid and High change nothing.
abbrev low : List ℕ
low = codes "Low"

abbrev p : ProgramTree
p = record {
  events = event low (codes "T0") 1 ∷ event tick (codes "INT") 4 ∷ event go (codes "TMR1") 9 ∷ [];
  setups = setup (codes "TRISB") 0 ∷ [];
  decls = reactive (codes "n") U8 (lit.Plain 0) (clause low (one_more (codes "n")) ∷ []) ∷ [];
  outputs = output (codes "PORTB") (Name (codes "n")) ∷ [];
}

-- Each part has one place, by its kind, from 0 to 9, and its event.
abbrev kind_of : Part → ℕ
kind_of Boot = 0
kind_of Taking = 1
kind_of (Start e) = 2
kind_of (Begin e) = 3
kind_of (Work e) = 4
kind_of (Lock e) = 5
kind_of (Open e) = 6
kind_of (Copying e) = 7
kind_of (Commit e) = 8
kind_of (Exit e) = 9

abbrev event_of : Part → ℕ
event_of Boot = 0
event_of Taking = 0
event_of (Start e) = e
event_of (Begin e) = e
event_of (Work e) = e
event_of (Lock e) = e
event_of (Open e) = e
event_of (Copying e) = e
event_of (Commit e) = e
event_of (Exit e) = e

abbrev place_of : Part → ℕ
place_of part = 10 * event_of part + kind_of part

abbrev m : Map
m = record {
  events = record { name = low; source = T0; priority = 1; «open» = 6; commit = 8 }
      ∷ record { name = tick; source = Int; priority = 4; «open» = 16; commit = 18 }
      ∷ record { name = go; source = Tmr1; priority = 9; «open» = 26; commit = 28 } ∷ [];
  states = record { name = codes "n"; ty = U8; low = 0x20; high = 0x20 } ∷ [];
  outputs = 1 ∷ [];
  samples = [];
  ready = 1000;
  regs = record { from = 0; to = 0x1FF } ∷ [];
  depth = 3;
  ram = 10;
  words = 90;
  settle = 9000;
}

-- The frame of the middle run, and of the top one; the state at 20h, scratch at 40h.
abbrev frame_of : ℕ → ℕ → Bool
frame_of a e = (a == 0x30 && e == 1) || ((a == 0x71 || a == 0x72) && e == 2)

abbrev writes : Part → ℕ → Bool
writes Boot a = a == 0x20 || (a == 0x86 || (a == 0x06 || (a == 0x0B || (a == 0x8C || a == 0x73))))
writes Taking a = a == 0x71 || a == 0x72
writes (Start e) a = frame_of a e || (a == 0x40 || a == 0x0B)
writes (Begin e) a = a == 0x73
writes (Work e) a = a == 0x40
writes (Lock e) a = false
writes (Open e) a = a == 0x20
writes (Copying e) a = a == 0x20 || a == 0x06
writes (Commit e) a = a == 0x20 || a == 0x73
writes (Exit e) a = a == 0x0B || a == 0x8C

abbrev level_of : ℕ → ℕ
level_of zero = 1
level_of (suc zero) = 2
level_of (suc (suc zero)) = 3
level_of _ = 0

abbrev source_of : ℕ → Source
source_of zero = T0
source_of (suc zero) = Int
source_of _ = Tmr1

-- INTE is bit 4 of INTCON, PEIE bit 6, TMR1IE bit 0 of PIE1; at the top nothing is heard, though TMR1IE stays set.
abbrev enables_at : ℕ → Enables
enables_at zero = record { intcon = 0x70; pie1 = 0x01; pie2 = 0 }
enables_at (suc zero) = record { intcon = 0x50; pie1 = 0x01; pie2 = 0 }
enables_at (suc (suc zero)) = record { intcon = 0x40; pie1 = 0x01; pie2 = 0 }
enables_at _ = record { intcon = 0; pie1 = 0x01; pie2 = 0 }

abbrev put : ℕ → List PortWrite
put its_byte = record { port = 1; byte = its_byte } ∷ []

abbrev is_top : ℕ → Bool
is_top e = e == 2

abbrev layout : Bool → Layout
layout short = record {
  program = λ place. 0;
  paged = false;
  saves_status = true;
  saves_pclath = true;
  level = level_of;
  source = source_of;
  is_short = λ e. short && is_top e;
  is_locked = λ e. nat_lt e 2;
  is_telling = λ e. nat_lt 0 e;
  enables = enables_at;
  ready = 1000;
  boot_end = 1001;
  entry = λ e. place_of (Start e);
  clear = λ e. 10 * e + 2000;
  on = λ e. 10 * e + 2001;
  work = λ e. place_of (Work e);
  lock = λ e. 10 * e + 2002;
  opens = λ e. place_of (Open e);
  commits = λ e. place_of (Commit e);
  bank = λ e. Known 0;
  exit_bank = λ e. Known 0;
  inside = λ part place. place == place_of part;
  may = λ part a. nat_lt a 0x200 && writes part a;
  frame = λ e a. frame_of a e;
  states = λ plain. num (plain 0x20) ∷ [];
  next_of = λ e plain. num (plain 0x40) ∷ [];
  puts_of = λ e plain. put (num (plain 0x40));
}

fitted : Fitted p m (times p m)
fitted = record {
  events = refl;
  level = λ x. refl;
  body = λ x e found. by x e found;
  boot = omega arith;
  in_time = record { taking = omega arith; short = λ is_short. omega arith; again = omega arith; commit = omega arith; sum = omega arith; pair = omega arith; order = omega arith };
  quick = record { start = omega arith; again = omega arith; opening = omega arith };
  depth = omega arith;
  settle = omega arith;
}
  where
    named : (o : Option MapEvent) (e : MapEvent) → o ≡ Some e → elim o [ Some d ↦ d.name | None ↦ [] ] ≡ e.name
    named o e found = ap (λ (o : Option MapEvent). elim o [ Some d ↦ d.name | None ↦ [] ]) found

    by : (x : ℕ) (e : MapEvent) → item m.events x ≡ Some e → body p (name_at m x) ≡ body p e.name + 0
    by x e found = ap (body p) (named (item m.events x) e found) ∙ sym (add-zero (body p e.name))

-- Levels.
at_most_three : (x : ℕ) → level_of x ≤ 3
at_most_three zero = omega arith
at_most_three (suc zero) = omega arith
at_most_three (suc (suc zero)) = omega arith
at_most_three _ = omega arith

module _ (short : Bool) where
  levels : LevelsAgree (times p m) (layout short)
  levels = record {
    few = λ x. omega (arith, at_most_three x);
    rise = rise;
    real = real;
    short = λ e its is_short. let top : e ≡ 2 = eqb-true e 2 (and_parts short (e == 2) is_short).1 in (refl, λ x. subst (λ y. level_of x ≤ level_of y) (sym top) (at_most_three x));
    unlocked = unlocked;
    telling = telling;
    sources = sources;
  }
    where
      rise : (x y : ℕ) → (level_of x < level_of y) ↔ ((times p m).level x < (times p m).level y)
      rise zero (suc (suc zero)) = (λ h. omega arith, λ h. omega arith)
      rise (suc zero) (suc (suc zero)) = (λ h. omega arith, λ h. omega arith)
      rise (suc (suc zero)) (suc (suc zero)) = (λ h. omega (arith, h), λ h. omega (arith, h))
      rise (suc (suc (suc x))) (suc (suc zero)) = (λ h. omega arith, λ h. omega arith)
      rise _ _ = (λ h. omega (arith, h), λ h. omega (arith, h))

      real : (x : ℕ) → (0 < level_of x) ↔ (0 < (times p m).level x)
      real (suc (suc zero)) = (λ h. omega arith, λ h. omega arith)
      real _ = (λ h. omega (arith, h), λ h. omega (arith, h))

      unlocked : (e : ℕ) → 0 < level_of e → nat_lt e 2 ≡ false → (x : ℕ) → level_of x ≤ level_of e
      unlocked zero its open_lock x = absurd (both_ways true open_lock refl)
      unlocked (suc zero) its open_lock x = absurd (both_ways true open_lock refl)
      unlocked (suc (suc zero)) its open_lock x = at_most_three x
      unlocked (suc (suc (suc e))) its open_lock x = absurd (omega (arith, its))

      telling : (e beneath : ℕ) → 0 < level_of beneath → level_of beneath < level_of e → nat_lt 0 e ≡ true
      telling zero beneath its above = absurd (omega (arith, its, above))
      telling (suc e) beneath its above = lt-ltb 0 (suc e) (omega arith)

      sources : (x y : ℕ) → 0 < level_of x → 0 < level_of y → source_of x ≡ source_of y → x ≡ y
      sources zero zero first second same = refl
      sources (suc zero) (suc zero) first second same = refl
      sources (suc (suc zero)) (suc (suc zero)) first second same = refl
      sources (suc (suc (suc x))) y first second same = absurd (omega (arith, first))
      sources x (suc (suc (suc y))) first second same = absurd (omega (arith, second))
      sources _ _ first second same = absurd (cc)

  -- What is heard.
  enables : EnablesAgree (layout short)
  enables = record { heard = heard; only = only }
    where
      heard : (level x : ℕ) → IsLevel (layout short) level → level < level_of x → is_heard_by (enables_at level) (source_of x) ≡ true
      heard zero zero is_level above = refl
      heard zero (suc zero) is_level above = refl
      heard zero (suc (suc zero)) is_level above = refl
      heard (suc zero) (suc zero) is_level above = refl
      heard (suc zero) (suc (suc zero)) is_level above = refl
      heard (suc (suc zero)) (suc (suc zero)) is_level above = refl
      heard (suc (suc (suc level))) x is_level above = absurd (omega (arith, at_most_three x, above))
      heard _ _ is_level above = absurd (omega (arith, above))

      only : (level : ℕ) (source : Source) → IsLevel (layout short) level → is_heard_by (enables_at level) source ≡ true → (x : ℕ) × (source_of x ≡ source) × (level < level_of x)
      only zero T0 is_level its = (0, refl, omega arith)
      only zero Int is_level its = (1, refl, omega arith)
      only zero Tmr1 is_level its = (2, refl, omega arith)
      only (suc zero) Int is_level its = (1, refl, omega arith)
      only (suc zero) Tmr1 is_level its = (2, refl, omega arith)
      only (suc (suc zero)) Tmr1 is_level its = (2, refl, omega arith)
      only (suc (suc (suc level))) Tmr1 is_level its = absurd (both_ways false refl its)
      only _ _ is_level its = absurd (both_ways false refl its)

  -- Each place is one part's.
  abbrev pick : ℕ → ℕ → Part
  pick zero e = Boot
  pick (suc zero) e = Taking
  pick (suc (suc zero)) e = Start e
  pick (suc (suc (suc zero))) e = Begin e
  pick (suc (suc (suc (suc zero)))) e = Work e
  pick (suc (suc (suc (suc (suc zero))))) e = Lock e
  pick (suc (suc (suc (suc (suc (suc zero)))))) e = Open e
  pick (suc (suc (suc (suc (suc (suc (suc zero))))))) e = Copying e
  pick (suc (suc (suc (suc (suc (suc (suc (suc zero)))))))) e = Commit e
  pick _ e = Exit e

  abbrev part_at : ℕ → Part
  part_at place = pick (place % 10) (place / 10)

  kind_below : (part : Part) → kind_of part < 10
  kind_below Boot = omega arith
  kind_below _ = omega arith

  picked : (part : Part) → pick (kind_of part) (event_of part) ≡ part
  picked Boot = refl
  picked _ = refl

  back : (part : Part) → part_at (place_of part) ≡ part
  back part =
      let low = kind_below part in
      let kind : place_of part % 10 ≡ kind_of part = omega (arith, low) in
      let its : place_of part / 10 ≡ event_of part = omega (arith, low) in ap₂ pick kind its ∙ picked part

  its_part : (part other : Part) → (place_of part == place_of other) ≡ true → other ≡ part
  its_part part other inside = sym (back other) ∙ ap part_at (sym (eqb-true (place_of part) (place_of other) inside)) ∙ back part

  places : PlacesAgree m (layout short)
  places = record {
    events = events;
    ready = refl;
    opens = λ x real. alone (Open x) (omega arith) (omega arith);
    commits = λ x real. alone (Commit x) (omega arith) (omega arith);
    boot_misses_ready = refl;
    boot_end_is_before = λ same. omega (arith, same);
  }
    where
      -- A place whose last digit is more than 2 is no other one.
      alone : (part : Part) → 2 < kind_of part → kind_of part < 10 → StandsAlone (layout short) part (place_of part)
      alone part high low = record {
        only = λ other is_part inside. its_part part other inside;
        not_ready = λ same. omega (arith, high, low, same);
        not_boot_end = λ same. omega (arith, high, low, same);
        not_clear = λ e its same. omega (arith, high, low, same);
        not_on = λ e its long same. omega (arith, high, low, same);
        not_lock = λ e its long same. omega (arith, high, low, same);
        no_return = refl;
      }

      its_event : (x : ℕ) (d e : MapEvent) → Some d ≡ Some e → IsEventOf (layout short) x d → IsEventOf (layout short) x e
      its_event x d e found of_event = subst (IsEventOf (layout short) x) (let same : d ≡ e = cc in same) of_event

      events : (x : ℕ) (e : MapEvent) → item m.events x ≡ Some e → IsEventOf (layout short) x e
      events zero e found = its_event 0 _ e found (record { real = omega arith; source = refl; opens = refl; commits = refl })
      events (suc zero) e found = its_event 1 _ e found (record { real = omega arith; source = refl; opens = refl; commits = refl })
      events (suc (suc zero)) e found = its_event 2 _ e found (record { real = omega arith; source = refl; opens = refl; commits = refl })
      events (suc (suc (suc x))) e found = absurd (cc)

  -- What is written.
  abbrev may : Part → ℕ → Bool
  may = (layout short).may

  no_state : (part : Part) → leaves_states part ≡ true → may part 0x20 ≡ false
  no_state Boot leaves = absurd (both_ways false refl leaves)
  no_state (Open e) leaves = absurd (both_ways false refl leaves)
  no_state (Copying e) leaves = absurd (both_ways false refl leaves)
  no_state (Commit e) leaves = absurd (both_ways false refl leaves)
  no_state _ leaves = refl

  no_enables : (part : Part) → leaves_enables part ≡ true → (may part 0x00B ≡ false) × (may part 0x08C ≡ false) × (may part 0x08D ≡ false)
  no_enables Boot leaves = absurd (both_ways false refl leaves)
  no_enables (Start e) leaves = absurd (both_ways false refl leaves)
  no_enables (Exit e) leaves = absurd (both_ways false refl leaves)
  no_enables _ leaves = (refl, refl, refl)

  no_told : (part : Part) → leaves_told part ≡ true → may part 0x073 ≡ false
  no_told Boot leaves = absurd (both_ways false refl leaves)
  no_told (Begin e) leaves = absurd (both_ways false refl leaves)
  no_told (Commit e) leaves = absurd (both_ways false refl leaves)
  no_told _ leaves = refl

  no_page : (part : Part) → leaves_page part ≡ true → may part 0x00A ≡ false
  no_page (Open e) leaves = refl
  no_page (Copying e) leaves = refl
  no_page (Commit e) leaves = refl
  no_page _ leaves = absurd (both_ways false refl leaves)

  no_tris : (part : Part) → is_boot_part part ≡ false → may part 0x086 ≡ false
  no_tris Boot later = absurd (both_ways true later refl)
  no_tris _ later = refl

  -- The frame of the middle run is left by the top one's start, and that of the top run by all parts but its own start and takings.
  middle_left : (part : Part) → Spares (layout short) part 1 → may part 0x30 ≡ false
  middle_left Boot spares = absurd spares
  middle_left (Start zero) spares = absurd (let h : 2 < 1 = spares in omega (arith, h))
  middle_left (Start (suc zero)) spares = absurd (let h : 2 < 2 = spares in omega (arith, h))
  middle_left (Start (suc (suc zero))) spares = refl
  middle_left (Start (suc (suc (suc e)))) spares = absurd (let h : 2 < 0 = spares in omega (arith, h))
  middle_left _ spares = refl

  top_left : (part : Part) → Spares (layout short) part 2 → (may part 0x71 ≡ false) × (may part 0x72 ≡ false)
  top_left Boot spares = absurd spares
  top_left Taking spares = absurd (let h : 3 < level_of spares.0 = spares.1 in omega (arith, h, at_most_three spares.0))
  top_left (Start e) spares = absurd (let h : 3 < level_of e = spares in omega (arith, h, at_most_three e))
  top_left _ spares = (refl, refl)

  frames : (part : Part) (x address : ℕ) → 0 < level_of x → Spares (layout short) part x → frame_of address x ≡ true → may part address ≡ false
  frames part (suc (suc (suc x))) address real spares its = absurd (omega (arith, real))
  frames part zero address real spares its =
      elim (or_cases (address == 0x30 && false) ((address == 0x71 || address == 0x72) && false) its) [
        | inl mid ↦ absurd (both_ways false refl (and_parts (address == 0x30) false mid).1)
        | inr top ↦ absurd (both_ways false refl (and_parts (address == 0x71 || address == 0x72) false top).1)
      ]
  frames part (suc zero) address real spares its =
      elim (or_cases (address == 0x30 && true) ((address == 0x71 || address == 0x72) && false) its) [
        | inl mid ↦ subst (λ a. may part a ≡ false) (sym (eqb-true address 0x30 (and_parts (address == 0x30) true mid).0)) (middle_left part spares)
        | inr top ↦ absurd (both_ways false refl (and_parts (address == 0x71 || address == 0x72) false top).1)
      ]
  frames part (suc (suc zero)) address real spares its =
      elim (or_cases (address == 0x30 && false) ((address == 0x71 || address == 0x72) && true) its) [
        | inl mid ↦ absurd (both_ways false refl (and_parts (address == 0x30) false mid).1)
        | inr top ↦ elim (or_cases (address == 0x71) (address == 0x72) (and_parts (address == 0x71 || address == 0x72) true top).0) [
          | inl first ↦ subst (λ a. may part a ≡ false) (sym (eqb-true address 0x71 first)) (top_left part spares).0
          | inr second ↦ subst (λ a. may part a ≡ false) (sym (eqb-true address 0x72 second)) (top_left part spares).1
        ]
      ]

  set_up_at : (a byte : ℕ) → last_setup p.setups a ≡ Some byte → 0x86 ≡ a
  set_up_at a byte last = by (0x86 == a) refl last
    where
      by : (b : Bool) → (0x86 == a) ≡ b → (if b then Some 0 else None) ≡ Some byte → 0x86 ≡ a
      by true same h = eqb-true 0x86 a same
      by false same h = absurd (cc)

  in_list : (a : ℕ) → a < 0x200 → is_listed m a ≡ true
  in_list a below = or_left (nat_le 0 a && nat_le a 0x1FF) false (and_from (nat_le 0 a) (nat_le a 0x1FF) (le-leb 0 a (omega arith)) (le-leb a 0x1FF (omega (arith, below))))

  flags_in_list : (e : ℕ) → is_listed m (flag_of (source_of e)).address ≡ true
  flags_in_list zero = refl
  flags_in_list (suc zero) = refl
  flags_in_list _ = refl

  written : WritesAgree p m (layout short)
  written = record {
    states = λ part is_part leaves before after by. ap (λ (b : Byte). num b ∷ []) (unwritten (may part 0x20) (no_state part leaves) (by 0x20));
    next = λ e is_part before after by. ap (λ (b : Byte). num b ∷ []) (unwritten (may (Lock e) 0x40) refl (by 0x40));
    puts = λ e is_part before after by. ap (λ (b : Byte). put (num b)) (unwritten (may (Lock e) 0x40) refl (by 0x40));
    frames = λ part x address is_part real spares its. frames part x address real spares its;
    enables = λ part is_part leaves. no_enables part leaves;
    told = λ part is_part leaves. no_told part leaves;
    page = λ part is_part leaves. no_page part leaves;
    set_up = λ a byte other last part is_part later. subst (λ address. may part address ≡ false) (set_up_at a byte last) (no_tris part later);
    listed = λ part address is_part its. in_list address (ltb-true address 0x200 (and_parts (nat_lt address 0x200) (writes part address) its).0);
    status_listed = refl;
    intcon_listed = refl;
    flags_listed = λ e real. flags_in_list e;
  }

  -- Reactions.
  is_count : (n : ℕ) → n < 256 → IsState p (n ∷ [])
  is_count n below = (below, tt)

  abbrev state_of : Option Reaction → List ℕ
  state_of o = elim o [ Some r ↦ r.state | None ↦ [] ]

  reacts : (e : ℕ) (s : List ℕ) (r : Reaction) → 0 < level_of e → IsState p s → react p s [] (name_at m e) ≡ Some r → IsState p r.state
  reacts e [] r real is_state reaction = absurd is_state
  reacts e (n ∷ k ∷ s) r real is_state reaction = absurd is_state.1
  reacts zero (n ∷ []) r real is_state reaction = subst (IsState p) (ap state_of reaction) (is_count ((n + 1) % 256) (omega arith))
  reacts (suc zero) (n ∷ []) r real is_state reaction = subst (IsState p) (ap state_of reaction) is_state
  reacts (suc (suc zero)) (n ∷ []) r real is_state reaction = subst (IsState p) (ap state_of reaction) is_state
  reacts (suc (suc (suc e))) (n ∷ []) r real is_state reaction = absurd (omega (arith, real))

  states : StatesAgree p m (layout short) (0 ∷ [])
  states = record {
    no_inputs = refl;
    begins = refl;
    first = (omega arith, tt);
    reacts = reacts;
    read = λ c. refl;
  }

  pub arranged : Arranged p m (times p m) (layout short) (0 ∷ []) 20 (dispatching p) (starting p)
  arranged = record {
    fitted = fitted;
    levels = levels;
    enables = enables;
    places = places;
    writes = written;
    states = states;
    boots_in_time = omega arith;
    starts_in_time = omega arith;
  }
