-- The code of sound acts comes to its end, and carries with it whatever bank settings, acts and skips keep: one induction for all.
use Rattle.std.proofs.Common.{◌≡◌, ℕ, suc, ◌+◌, ◌/◌, ◌%◌, ◌<◌, ◌≤◌, Bool, true, false, not, ◌&&◌, ◌||◌, ◌==◌, if◌then◌else◌, Option, Some, None, List, [], ◌∷◌, length, ap, ◌∙◌, sym, refl, subst, arith}
use Rattle.std.proofs.lemmas.Bool.{eqb-true, ltb-true}
use Rattle.pic_isa.specs.declared.instructions.Instr.{Instr}
use Rattle.pic_regs.specs.Bytes.{Byte}
use Rattle.pic_regs.specs.Map.{Plain, reg_in}
use Rattle.pic_machine.specs.Chip.{Chip, bank}
use Rattle.code_steps.specs.declared.banks.Bank.{Bank}
use Rattle.code_steps.specs.declared.banks.Bank.TheVariants.{Known, Unknown}
use Rattle.code_steps.specs.Steps.{own_of, Comes}
use Rattle.code_steps.specs.Between.{Others}
use Rattle.code_steps.specs.Ends.{Own, Holds, Ended}
use Rattle.code_steps.proofs.ComesLaws.{comes_longer}
use Rattle.code_steps.proofs.BetweenLaws.{holds_bank, holds_stays}
use Rattle.code_steps.proofs.JumpLaws.{reg_in-common}
use Rattle.code_acts.specs.declared.acts.FileOp.TheVariants.{IncSkip}
use Rattle.code_acts.specs.declared.acts.Act.{Act}
use Rattle.code_acts.specs.declared.acts.Act.TheVariants.{File, Store, Clear, Const, SkipBit, SkipCarry, SkipZero, MakeCarry, Near}
use Rattle.code_acts.specs.Acts.{Into, Nowhere, IntoW, IntoName, into, name_of, skips}
use Rattle.code_acts.specs.Codes.{is_operand, far, bit_setting, settings, moved, instr_of, with_own, code, bank_after, latest, is_last, is_near, has_word, may_skip, names_allowed, writes_allowed, fields_fit, allowed, sound}
use Rattle.code_acts.specs.Standing.{Placed, PlacesOf}
use Rattle.code_acts.proofs.StepFacts.{skips_on, outcome, after, done, Reached, step_of, flags_keep, MayGo, own_act}
use Rattle.code_acts.proofs.SettingFacts.{bit_set, At, Goes, one_before, settings_before}

pub both_hold : (a b : Bool) → (a && b) ≡ true → (a ≡ true) × (b ≡ true)
both_hold true b both = (refl, both)
both_hold false b both = absurd (cc)

or_false : (a b : Bool) → (a || b) ≡ true → a ≡ false → b ≡ true
or_false true b one none = absurd (cc)
or_false false b one none = one

-- What soundness says of the first act, and of the others.
pub record Sound (uses writes : ℕ → Bool) (last : Option ℕ) (behind : Bool) (a : Act) (more : List Act) : Type 0 where
  pub names : names_allowed uses (name_of a) ≡ true
  pub writes_to : writes_allowed writes (into a) ≡ true
  pub fields : fields_fit a ≡ true
  pub word : behind ≡ true → has_word a ≡ true
  pub near : behind ≡ true → is_near last (name_of a) ≡ true
  pub rest : sound uses writes (latest last (name_of a)) (may_skip a) more ≡ true

pub sound_parts : (uses writes : ℕ → Bool) (last : Option ℕ) (behind : Bool) (a : Act) (more : List Act) → sound uses writes last behind (a ∷ more) ≡ true
    → Sound uses writes last behind a more
sound_parts uses writes last behind a more holds =
    let is_first = names_allowed uses (name_of a) && writes_allowed writes (into a) && fields_fit a in
    let its_skip = not behind || has_word a && is_near last (name_of a) in
    let whole = both_hold (is_first && its_skip) (sound uses writes (latest last (name_of a)) (may_skip a) more) holds in
    let first = both_hold is_first its_skip whole.0 in
    let own = both_hold (names_allowed uses (name_of a) && writes_allowed writes (into a)) (fields_fit a) first.0 in
    let names = both_hold (names_allowed uses (name_of a)) (writes_allowed writes (into a)) own.0 in
    let held = λ (e : behind ≡ true). both_hold (has_word a) (is_near last (name_of a)) (or_false (not behind) (has_word a && is_near last (name_of a)) first.1 (ap not e)) in
    record { names = names.0; writes_to = names.1; fields = own.1; word = λ e. (held e).0; near = λ e. (held e).1; rest = whole.1 }

-- The bank is that of the last name whose bank was chosen.
abbrev pub InBank : (place : ℕ → ℕ) → Option ℕ → Bank → Type 0
InBank place None bank = Unit {0}
InBank place (Some n) bank = bank ≡ Known (place n / 128)

in_bank_if : (place : ℕ → ℕ) (last : Option ℕ) (bank : Bank) (n : ℕ) (b : Bool) → InBank place last bank
    → InBank place (if b then last else Some n) (moved bank (if b then None else Some (place n / 128)))
in_bank_if place last bank n true in_bank = in_bank
in_bank_if place last bank n false in_bank = refl

pub in_bank_next : (place : ℕ → ℕ) (last : Option ℕ) (bank : Bank) (name : Option ℕ) → InBank place last bank
    → InBank place (latest last name) (moved bank (far place name))
in_bank_next place last bank None in_bank = in_bank
in_bank_next place last bank (Some n) in_bank = in_bank_if place last bank n (is_operand n) in_bank

-- In the bank that is wanted there is no setting.
pub settings_none : (k : ℕ) (rest : List Instr) → settings (Known k) (Some k) rest ≡ rest
settings_none k rest = none_of (k % 2 == 1) (k / 2 == 1)
  where
    none_of : (low high : Bool) → bit_setting 5 (Some low) low (bit_setting 6 (Some high) high rest) ≡ rest
    none_of true true = refl
    none_of true false = refl
    none_of false true = refl
    none_of false false = refl

stays_if : (place : ℕ → ℕ) (last : Option ℕ) (bank : Bank) (n : ℕ) (b : Bool) (rest : List Instr) → (b || is_last last n) ≡ true → InBank place last bank
    → (settings bank (if b then None else Some (place n / 128)) rest ≡ rest) × (moved bank (if b then None else Some (place n / 128)) ≡ bank)
stays_if place last bank n true rest near in_bank = (refl, refl)
stays_if place None bank n false rest near in_bank = absurd (cc)
stays_if place (Some m) bank n false rest near in_bank =
    let k = place n / 128 in
    let is : bank ≡ Known k = in_bank ∙ ap (λ x. Known (place x / 128)) (eqb-true m n near) in
    (ap (λ b. settings b (Some k) rest) is ∙ settings_none k rest, sym is)

-- A name that is near has no setting, and leaves the bank.
pub near_stays : (place : ℕ → ℕ) (last : Option ℕ) (bank : Bank) (name : Option ℕ) (rest : List Instr) → is_near last name ≡ true → InBank place last bank
    → (settings bank (far place name) rest ≡ rest) × (moved bank (far place name) ≡ bank)
near_stays place last bank None rest near in_bank = (refl, refl)
near_stays place last bank (Some n) rest near in_bank = stays_if place last bank n (is_operand n) rest near in_bank

-- A name is reached in the bank that it wants.
reached_if : (uses writes : ℕ → Bool) (place : ℕ → ℕ) → Placed uses writes place → (before : Bank) (n : ℕ) (b : Bool) → is_operand n ≡ b → (d : Chip) → uses n ≡ true
    → Holds (moved before (if b then None else Some (place n / 128))) d → reg_in (bank d.regs) (place n % 128) ≡ Plain (place n)
reached_if uses writes place placed before n true operand d used holds =
    let low : n < 12 = ltb-true n 12 operand in
    let lies : place n ≡ 0x74 + n = placed.operands n low in
    let field : place n % 128 ≡ place n = omega arith in
    ap (λ f. reg_in (bank d.regs) f) field ∙ reg_in-common (bank d.regs) (place n) (omega arith)
reached_if uses writes place placed before n false operand d used holds =
    let below : place n < 512 = placed.below n used in
    ap (λ k. reg_in k (place n % 128)) (holds_bank (place n / 128) d (omega arith) holds) ∙ placed.plain n used

pub reached : (uses writes : ℕ → Bool) (place : ℕ → ℕ) → Placed uses writes place → (before : Bank) (name : Option ℕ) (d : Chip) → names_allowed uses name ≡ true
    → Holds (moved before (far place name)) d → Reached place name d
reached uses writes place placed before None d used holds = tt
reached uses writes place placed before (Some n) d used holds = reached_if uses writes place placed before n (is_operand n) refl d used holds

-- Where an act goes may be written.
pub may_go : (writes : ℕ → Bool) (place : ℕ → ℕ) (to : Into) → writes_allowed writes to ≡ true → MayGo (PlacesOf writes place) place to
may_go writes place Nowhere allowed = tt
may_go writes place IntoW allowed = tt
may_go writes place (IntoName n) allowed = (n, allowed, refl)

-- Only an act that may skip does.
pub may_skip_of : (a : Act) (c z : Bool) (x r : Byte) → skips a c z x r ≡ true → may_skip a ≡ true
may_skip_of (File IncSkip n d) c z x r skip = refl
may_skip_of (File _ n d) c z x r skip = absurd (cc)
may_skip_of (SkipBit v n b) c z x r skip = refl
may_skip_of (SkipCarry v) c z x r skip = refl
may_skip_of (SkipZero v) c z x r skip = refl
may_skip_of (Store n) c z x r skip = absurd (cc)
may_skip_of (Clear n) c z x r skip = absurd (cc)
may_skip_of (Const op k) c z x r skip = absurd (cc)
may_skip_of (MakeCarry v) c z x r skip = absurd (cc)
may_skip_of (Near n) c z x r skip = absurd (cc)

-- An act leaves the bank, and is followed by the next place, or the one behind that.
holds_after : (place : ℕ → ℕ) (a : Act) (bank : Bank) (d : Chip) → Holds bank d → Holds bank (after place a d)
holds_after place a Unknown d holds = tt
holds_after place a (Known k) d holds =
    let kept = flags_keep (outcome place a d).flags d.regs.status in (ap (λ (s : Byte). s.b6) kept ∙ holds.0, ap (λ (s : Byte). s.b5) kept ∙ holds.1)

pc_after : (skip : Bool) (x p : ℕ) → x ≡ p → (if skip then ((x + 1) % 8192 + 1) % 8192 else (x + 1) % 8192) ≡ (if skip then p + 1 + 1 else p + 1) % 8192
pc_after true x p same = omega arith
pc_after false x p same = omega arith

-- What code of acts carries with it: a fact of the acts to come, whether a skip is pending, and the chip.
pub record Carries (place : ℕ → ℕ) (uses writes : ℕ → Bool) (R : Chip → Chip → Type 0) (I : List Act → Bool → Chip → Type 0) : Type 0 where
  pub narrow : (c d : Chip) → R c d → Others c d
  pub stays : (acts : List Act) (skip : Bool) (c d : Chip) → R c d → I acts skip c → I acts skip d
  pub sets : (acts : List Act) (high v : Bool) (d : Chip) → I acts false d → I acts false (bit_set high v d)
  pub acted : (a : Act) (more : List Act) (d : Chip) → names_allowed uses (name_of a) ≡ true → writes_allowed writes (into a) ≡ true
      → I (a ∷ more) false d → I more (skips_on place a d) (after place a d)
  pub passed : (a : Act) (more : List Act) (d : Chip) → I (a ∷ more) true d → I more false d
  pub came_near : (a : Act) (more : List Act) (d : Chip) → has_word a ≡ false → I (a ∷ more) false d → I more false d

module _ (program place : ℕ → ℕ) (uses writes : ℕ → Bool) (placed : Placed uses writes place) (R : Chip → Chip → Type 0) (I : List Act → Bool → Chip → Type 0)
    (carries : Carries place uses writes R I) (start stop : ℕ) where
  module _ (Q : Chip → Type 0) where
    -- The rest of the code, behind an act.
    abbrev pub Then : Act → List Act → Bank → List Instr → Type 0
    Then a more bank rest =
        (skip : Bool) → (skip ≡ true → may_skip a ≡ true) → (p : ℕ) (e : Chip) → At program start stop skip p rest e → I more skip e → Holds bank e
        → Comes program R (Own (PlacesOf writes place) start stop) Q (length rest) e

    -- An act, with its instruction or without.
    with_step : (o : Option Instr) (a : Act) (more : List Act) (bank : Bank) (rest : List Instr) → names_allowed uses (name_of a) ≡ true
        → writes_allowed writes (into a) ≡ true → ((d : Chip) → Holds bank d → own_of o d ≡ Some (done place a d)) → Then a more bank rest
        → Goes program R carries.narrow (PlacesOf writes place) start stop Q (λ d. I (a ∷ more) false d × Holds bank d) (with_own o rest)
    with_step None a more bank rest names writes_to step then_on p c at j = absurd (let e = step c j.1 in cc)
    with_step (Some i) a more bank rest names writes_to step then_on p c at j =
        one_before program R carries.narrow (PlacesOf writes place) start stop Q i rest p c at (λ d r same from below.
        let holds = holds_stays bank c d (carries.narrow c d r) j.1 in (
          done place a d,
          step d holds,
          own_act (PlacesOf writes place) place a start stop d from below (may_go writes place (into a) writes_to),
          then_on (skips_on place a d)
              (may_skip_of a _ _ _ _)
              (p + 1)
              (after place a d)
              (let ends : p + suc (length rest) ≡ stop = at.ends in
              let low : start ≤ p = at.from in
              record { pc = pc_after (skips_on place a d) d.pc p same; from = omega arith; ends = omega arith; top = at.top; line = at.line.1 })
              (carries.acted a more d names writes_to (carries.stays (a ∷ more) false c d r j.0))
              (holds_after place a bank d holds),
        ))

    act_before : (a : Act) (more : List Act) (bank : Bank) (rest : List Instr) → names_allowed uses (name_of a) ≡ true
        → writes_allowed writes (into a) ≡ true → ((d : Chip) → Holds bank d → Reached place (name_of a) d) → Then a more bank rest
        → Goes program R carries.narrow (PlacesOf writes place) start stop Q (λ d. I (a ∷ more) false d × Holds bank d) (with_own (instr_of place a) rest)
    act_before (Near n) more bank rest names writes_to reach then_on p c at j =
        then_on false (λ e. absurd (cc)) p c at (carries.came_near (Near n) more c refl j.0) j.1
    act_before a more bank rest names writes_to reach then_on p c at j =
        with_step (instr_of place a) a more bank rest names writes_to (λ d holds. step_of place a d (reach d holds) refl) then_on p c at j

    -- An act that is skipped.
    skip_before : (a : Act) (rest : List Instr) (p : ℕ) (c : Chip) → has_word a ≡ true → At program start stop true p (with_own (instr_of place a) rest) c
        → (At program start stop false (p + 1) rest c → Comes program R (Own (PlacesOf writes place) start stop) Q (length rest) c)
        → Comes program R (Own (PlacesOf writes place) start stop) Q (length (with_own (instr_of place a) rest)) c
    skip_before (Near n) rest p c word at then_on = absurd (cc)
    skip_before a rest p c word at then_on =
        let ends : p + suc (length rest) ≡ stop = at.ends in
        let low : start ≤ p = at.from in
        comes_longer program R (Own (PlacesOf writes place) start stop) Q (length rest) (suc (length rest)) c (omega arith)
        (then_on (record { pc = at.pc; from = omega arith; ends = omega arith; top = at.top; line = at.line.1 }))

  -- The end of the code.
  abbrev pub Finished : Bank → Chip → Type 0
  Finished bank e = Ended (stop % 8192) bank e × I [] false e

  pub go : (acts : List Act) (skip behind : Bool) (last : Option ℕ) (bank : Bank) (p : ℕ) (c : Chip) → sound uses writes last behind acts ≡ true
      → InBank place last bank → (skip ≡ true → behind ≡ true) → At program start stop skip p (code place bank acts) c → I acts skip c → Holds bank c
      → Comes program R (Own (PlacesOf writes place) start stop) (Finished (bank_after place bank acts)) (length (code place bank acts)) c
  go [] false behind last bank p c sounds in_bank pending at i holds =
      let ends : p + 0 ≡ stop = at.ends in let here : c.pc ≡ p % 8192 = at.pc in ((omega arith, holds), i)
  go [] true behind last bank p c sounds in_bank pending at i holds =
      let clash : false ≡ true = subst (λ b. not b ≡ true) (pending refl) sounds in absurd (cc)
  go (a ∷ more) true behind last bank p c sounds in_bank pending at i holds =
      let parts = sound_parts uses writes last behind a more sounds in
      let then_in = moved bank (far place (name_of a)) in
      let rest = code place then_in more in
      let near = near_stays place last bank (name_of a) (with_own (instr_of place a) rest) (parts.near (pending refl)) in_bank in
      let Q = Finished (bank_after place then_in more) in
      subst (λ l. At program start stop true p l c → Comes program R (Own (PlacesOf writes place) start stop) Q (length l) c) (sym near.0)
      (λ there. skip_before Q a rest p c (parts.word (pending refl)) there (λ here.
      go more false (may_skip a) (latest last (name_of a)) then_in (p + 1) c parts.rest (in_bank_next place last bank (name_of a) in_bank) (λ e. absurd (cc)) here
      (carries.passed a more c i)
      (subst (λ b. Holds b c) (sym near.1) holds)))
      at
  go (a ∷ more) false behind last bank p c sounds in_bank pending at i holds =
      let parts = sound_parts uses writes last behind a more sounds in
      let then_in = moved bank (far place (name_of a)) in
      let rest = code place then_in more in
      let Q = Finished (bank_after place then_in more) in
      settings_before program R carries.narrow (PlacesOf writes place) start stop Q (I (a ∷ more) false) (carries.stays (a ∷ more) false) (carries.sets (a ∷ more)) bank
      (far place (name_of a)) (with_own (instr_of place a) rest)
      (act_before Q a more then_in rest parts.names parts.writes_to (λ d holds. reached uses writes place placed bank (name_of a) d parts.names holds)
      (λ skip may q e there j held.
      go more skip (may_skip a) (latest last (name_of a)) then_in q e parts.rest (in_bank_next place last bank (name_of a) in_bank) may there j held))
      p c at (i, holds)
