-- The code of acts: its words, its fields, and what stands behind a skip.
use Rattle.std.proofs.Common.{◌≡◌, ℕ, suc, ◌+◌, ◌/◌, ◌%◌, ◌<◌, ◌≤◌, Bool, true, false, ◌==◌, if◌then◌else◌, Option, Some, None, List, [], ◌∷◌, ◌++◌, length, map, ap, ◌∙◌, sym, refl, subst, arith}
use Rattle.std.proofs.lemmas.Bool.{ltb-true}
use Rattle.std.specs.List.{AllByRecursion}
use Rattle.pic_isa.specs.declared.instructions.Dest.{Dest}
use Rattle.pic_isa.specs.declared.instructions.Instr.{Instr}
use Rattle.pic_isa.specs.Instructions.{FieldsFit}
use Rattle.pic_regs.specs.Map.{Pclath, Plain, reg_in}
use Rattle.pic_machine.specs.Exec.{field}
use Rattle.code_steps.specs.declared.banks.Bank.{Bank}
use Rattle.code_steps.specs.declared.banks.Bank.TheVariants.{Known}
use Rattle.code_items.specs.declared.items.Item.TheVariants.{Ins}
use Rattle.code_items.specs.Items.{ends_skipping}
use Rattle.code_acts.specs.declared.acts.FileOp.{FileOp}
use Rattle.code_acts.specs.declared.acts.FileOp.TheVariants.{Add, And, Com, IncSkip, Ior, Mov, Left, Right, Sub, Swap, Xor}
use Rattle.code_acts.specs.declared.acts.ConstOp.TheVariants.{AddK, AndK, MovK, XorK}
use Rattle.code_acts.specs.declared.acts.Act.{Act}
use Rattle.code_acts.specs.declared.acts.Act.TheVariants.{File, Store, Clear, Const, SkipBit, SkipCarry, SkipZero, MakeCarry, Near}
use Rattle.code_acts.specs.Acts.{number, name_of}
use Rattle.code_acts.specs.Codes.{far, low_bit, high_bit, status_setting, bit_setting, settings, moved, file_instr, instr_of, with_own, code, bank_after, latest, is_near, has_word, may_skip, names_allowed, fields_fit, sound, words}
use Rattle.code_acts.specs.Standing.{Placed}
use Rattle.code_acts.specs.Laws.{sets_bank, SetsNone, SkipsNoSetting}
use Rattle.code_acts.proofs.GoFacts.{InBank, in_bank_next, near_stays, settings_none, sound_parts}

-- A bank setting takes at most two words, and none where the name is near; an act at most one.
bit-words : (b : ℕ) (known : Option Bool) (v : Bool) (rest : List Instr) → length (bit_setting b known v rest) ≤ suc (length rest)
bit-words b None v rest = omega arith
bit-words b (Some true) true rest = omega arith
bit-words b (Some true) false rest = omega arith
bit-words b (Some false) true rest = omega arith
bit-words b (Some false) false rest = omega arith

settings-words : (bank : Bank) (target : Option ℕ) (rest : List Instr) → length (settings bank target rest) ≤ 2 + length rest
settings-words bank None rest = omega arith
settings-words bank (Some k) rest =
    let first = bit-words 5 (low_bit bank) (k % 2 == 1) (bit_setting 6 (high_bit bank) (k / 2 == 1) rest) in
    let second = bit-words 6 (high_bit bank) (k / 2 == 1) rest in
    omega (arith, first, second)

near-words : (place : ℕ → ℕ) (last : Option ℕ) (bank : Bank) (name : Option ℕ) (rest : List Instr) (b : Bool) → is_near last name ≡ b → InBank place last bank
    → length (settings bank (far place name) rest) ≤ (if b then 0 else 2) + length rest
near-words place last bank name rest true near in_bank =
    let same : length (settings bank (far place name) rest) ≡ length rest = ap length (near_stays place last bank name rest near in_bank).0 in omega (arith, same)
near-words place last bank name rest false near in_bank = settings-words bank (far place name) rest

own-words : (place : ℕ → ℕ) (a : Act) (rest : List Instr) → length (with_own (instr_of place a) rest) ≤ (if has_word a then 1 else 0) + length rest
own-words place (Near n) rest = omega arith
own-words place _ rest = omega arith

pub words_at_most : (place : ℕ → ℕ) (last : Option ℕ) (bank : Bank) (acts : List Act) → InBank place last bank → length (code place bank acts) ≤ words last acts
words_at_most place last bank [] in_bank = omega arith
words_at_most place last bank (a ∷ more) in_bank =
    let then_in = moved bank (far place (name_of a)) in
    let rest = code place then_in more in
    let first = near-words place last bank (name_of a) (with_own (instr_of place a) rest) (is_near last (name_of a)) refl in_bank in
    let second = own-words place a rest in
    let third = words_at_most place (latest last (name_of a)) then_in more (in_bank_next place last bank (name_of a) in_bank) in
    omega (arith, first, second, third)

-- Where the bank is known and is that of each name, no bank bit is set.
own_sets_none : (place : ℕ → ℕ) (a : Act) (rest : List Instr) → AllByRecursion (λ i. sets_bank i ≡ false) rest
    → AllByRecursion (λ i. sets_bank i ≡ false) (with_own (instr_of place a) rest)
own_sets_none place (File Add n d) rest none = (refl, none)
own_sets_none place (File And n d) rest none = (refl, none)
own_sets_none place (File Com n d) rest none = (refl, none)
own_sets_none place (File IncSkip n d) rest none = (refl, none)
own_sets_none place (File Ior n d) rest none = (refl, none)
own_sets_none place (File Mov n d) rest none = (refl, none)
own_sets_none place (File Left n d) rest none = (refl, none)
own_sets_none place (File Right n d) rest none = (refl, none)
own_sets_none place (File Sub n d) rest none = (refl, none)
own_sets_none place (File Swap n d) rest none = (refl, none)
own_sets_none place (File Xor n d) rest none = (refl, none)
own_sets_none place (Store n) rest none = (refl, none)
own_sets_none place (Clear n) rest none = (refl, none)
own_sets_none place (Const AddK k) rest none = (refl, none)
own_sets_none place (Const AndK k) rest none = (refl, none)
own_sets_none place (Const MovK k) rest none = (refl, none)
own_sets_none place (Const XorK k) rest none = (refl, none)
own_sets_none place (SkipBit true n b) rest none = (refl, none)
own_sets_none place (SkipBit false n b) rest none = (refl, none)
own_sets_none place (SkipCarry true) rest none = (refl, none)
own_sets_none place (SkipCarry false) rest none = (refl, none)
own_sets_none place (SkipZero true) rest none = (refl, none)
own_sets_none place (SkipZero false) rest none = (refl, none)
own_sets_none place (MakeCarry true) rest none = (refl, none)
own_sets_none place (MakeCarry false) rest none = (refl, none)
own_sets_none place (Near n) rest none = none

wants_none : (k : ℕ) (target : Option ℕ) (rest : List Instr) → ((j : ℕ) → target ≡ Some j → j ≡ k)
    → (settings (Known k) target rest ≡ rest) × (moved (Known k) target ≡ Known k)
wants_none k None rest lies = (refl, refl)
wants_none k (Some j) rest lies =
    let same = lies j refl in (ap (λ x. settings (Known k) (Some x) rest) same ∙ settings_none k rest, ap Known same)

pub sets_none : (place : ℕ → ℕ) (k : ℕ) (acts : List Act) → SetsNone place k acts
sets_none place k [] lie = (tt, refl)
sets_none place k (a ∷ more) lie =
    let next = sets_none place k more lie.1 in
    let then_in = moved (Known k) (far place (name_of a)) in
    let stays = λ (rest : List Instr). wants_none k (far place (name_of a)) rest lie.0 in
    let same = (stays []).1 in
    let rest = code place then_in more in (
      subst (AllByRecursion (λ i. sets_bank i ≡ false)) (sym (stays (with_own (instr_of place a) rest)).0)
          (own_sets_none place a rest (subst (λ b. AllByRecursion (λ i. sets_bank i ≡ false) (code place b more)) (sym same) next.0)),
      ap (λ b. bank_after place b more) same ∙ next.1,
    )

-- The instructions of one list have fields in range, and none names PCLATH.
abbrev Fits : Instr → Type 0
Fits i = FieldsFit i × (field i ≡ Some 0x0A → ⊥)

other_field : (f : ℕ) → (f ≡ 0x0A → ⊥) → Some f ≡ Some 0x0A → ⊥
other_field f other same = other (cc)

status_fits : (b : ℕ) (v : Bool) → b < 8 → Fits (status_setting b v)
status_fits b true below = ((omega arith, below), other_field 3 (λ e. omega arith))
status_fits b false below = ((omega arith, below), other_field 3 (λ e. omega arith))

bit_fits : (b : ℕ) (known : Option Bool) (v : Bool) (rest : List Instr) → b < 8 → AllByRecursion Fits rest → AllByRecursion Fits (bit_setting b known v rest)
bit_fits b None v rest below fit = (status_fits b v below, fit)
bit_fits b (Some true) true rest below fit = fit
bit_fits b (Some true) false rest below fit = (status_fits b false below, fit)
bit_fits b (Some false) true rest below fit = (status_fits b true below, fit)
bit_fits b (Some false) false rest below fit = fit

settings_fit : (bank : Bank) (target : Option ℕ) (rest : List Instr) → AllByRecursion Fits rest → AllByRecursion Fits (settings bank target rest)
settings_fit bank None rest fit = fit
settings_fit bank (Some k) rest fit =
    bit_fits 5 (low_bit bank) (k % 2 == 1) (bit_setting 6 (high_bit bank) (k / 2 == 1) rest) (omega arith)
    (bit_fits 6 (high_bit bank) (k / 2 == 1) rest (omega arith) fit)

-- Seven bits of the address of a plain byte aren't those of PCLATH.
not_pclath : (f address : ℕ) → reg_in (address / 128) f ≡ Plain address → f ≡ 0x0A → ⊥
not_pclath f address plain same =
    let clash : Pclath ≡ Plain address = subst (λ x. reg_in (address / 128) x ≡ Plain address) same plain in cc

file_fits : (op : FileOp) (f : ℕ) (d : Dest) → f < 128 → (f ≡ 0x0A → ⊥) → Fits (file_instr op f d)
file_fits Add f d below other = (below, other_field f other)
file_fits And f d below other = (below, other_field f other)
file_fits Com f d below other = (below, other_field f other)
file_fits IncSkip f d below other = (below, other_field f other)
file_fits Ior f d below other = (below, other_field f other)
file_fits Mov f d below other = (below, other_field f other)
file_fits Left f d below other = (below, other_field f other)
file_fits Right f d below other = (below, other_field f other)
file_fits Sub f d below other = (below, other_field f other)
file_fits Swap f d below other = (below, other_field f other)
file_fits Xor f d below other = (below, other_field f other)

own_fits : (uses writes : ℕ → Bool) (place : ℕ → ℕ) → Placed uses writes place → (a : Act) (rest : List Instr) → names_allowed uses (name_of a) ≡ true
    → fields_fit a ≡ true → AllByRecursion Fits rest → AllByRecursion Fits (with_own (instr_of place a) rest)
own_fits uses writes place placed (File op n d) rest used fields fit =
    let f = place (number n) % 128 in (file_fits op f d (omega arith) (not_pclath f (place (number n)) (placed.plain (number n) used)), fit)
own_fits uses writes place placed (Store n) rest used fields fit =
    let f = place (number n) % 128 in ((omega arith, other_field f (not_pclath f (place (number n)) (placed.plain (number n) used))), fit)
own_fits uses writes place placed (Clear n) rest used fields fit =
    let f = place (number n) % 128 in ((omega arith, other_field f (not_pclath f (place (number n)) (placed.plain (number n) used))), fit)
own_fits uses writes place placed (Const AddK k) rest used fields fit = ((ltb-true k 256 fields, λ e. cc), fit)
own_fits uses writes place placed (Const AndK k) rest used fields fit = ((ltb-true k 256 fields, λ e. cc), fit)
own_fits uses writes place placed (Const MovK k) rest used fields fit = ((ltb-true k 256 fields, λ e. cc), fit)
own_fits uses writes place placed (Const XorK k) rest used fields fit = ((ltb-true k 256 fields, λ e. cc), fit)
own_fits uses writes place placed (SkipBit true n b) rest used fields fit =
    let f = place (number n) % 128 in
    (((omega arith, ltb-true b 8 fields), other_field f (not_pclath f (place (number n)) (placed.plain (number n) used))), fit)
own_fits uses writes place placed (SkipBit false n b) rest used fields fit =
    let f = place (number n) % 128 in
    (((omega arith, ltb-true b 8 fields), other_field f (not_pclath f (place (number n)) (placed.plain (number n) used))), fit)
own_fits uses writes place placed (SkipCarry true) rest used fields fit = (((omega arith, omega arith), other_field 3 (λ e. omega arith)), fit)
own_fits uses writes place placed (SkipCarry false) rest used fields fit = (((omega arith, omega arith), other_field 3 (λ e. omega arith)), fit)
own_fits uses writes place placed (SkipZero true) rest used fields fit = (((omega arith, omega arith), other_field 3 (λ e. omega arith)), fit)
own_fits uses writes place placed (SkipZero false) rest used fields fit = (((omega arith, omega arith), other_field 3 (λ e. omega arith)), fit)
own_fits uses writes place placed (MakeCarry v) rest used fields fit = (status_fits 0 v (omega arith), fit)
own_fits uses writes place placed (Near n) rest used fields fit = fit

pub instrs_fit : (uses writes : ℕ → Bool) (place : ℕ → ℕ) → Placed uses writes place → (last : Option ℕ) (behind : Bool) (bank : Bank) (acts : List Act)
    → sound uses writes last behind acts ≡ true → AllByRecursion Fits (code place bank acts)
instrs_fit uses writes place placed last behind bank [] sounds = tt
instrs_fit uses writes place placed last behind bank (a ∷ more) sounds =
    let parts = sound_parts uses writes last behind a more sounds in
    let then_in = moved bank (far place (name_of a)) in
    let rest = code place then_in more in
    settings_fit bank (far place (name_of a)) (with_own (instr_of place a) rest)
    (own_fits uses writes place placed a rest parts.names parts.fields
    (instrs_fit uses writes place placed (latest last (name_of a)) (may_skip a) then_in more parts.rest))

-- Skips: none at the end, and no bank setting directly behind one.
abbrev pub Well : Bool → List Instr → Type 0
Well behind instrs = (ends_skipping behind (map Ins instrs) ≡ false) × SkipsNoSetting behind instrs

status_well : (b : ℕ) (v : Bool) (rest : List Instr) → Well false rest → Well false (status_setting b v ∷ rest)
status_well b true rest well = (well.0, ((λ e. absurd (cc)), well.1))
status_well b false rest well = (well.0, ((λ e. absurd (cc)), well.1))

bit_well : (b : ℕ) (known : Option Bool) (v : Bool) (rest : List Instr) → Well false rest → Well false (bit_setting b known v rest)
bit_well b None v rest well = status_well b v rest well
bit_well b (Some true) true rest well = well
bit_well b (Some true) false rest well = status_well b false rest well
bit_well b (Some false) true rest well = status_well b true rest well
bit_well b (Some false) false rest well = well

settings_well : (bank : Bank) (target : Option ℕ) (rest : List Instr) → Well false rest → Well false (settings bank target rest)
settings_well bank None rest well = well
settings_well bank (Some k) rest well =
    bit_well 5 (low_bit bank) (k % 2 == 1) (bit_setting 6 (high_bit bank) (k / 2 == 1) rest) (bit_well 6 (high_bit bank) (k / 2 == 1) rest well)

-- The instruction of an act is a skip instruction exactly where the act may skip, and no bank setting.
own_well : (place : ℕ → ℕ) (behind : Bool) (a : Act) (rest : List Instr) → (behind ≡ true → has_word a ≡ true) → Well (may_skip a) rest
    → Well behind (with_own (instr_of place a) rest)
own_well place behind (File Add n d) rest word well = (well.0, ((λ e. refl), well.1))
own_well place behind (File And n d) rest word well = (well.0, ((λ e. refl), well.1))
own_well place behind (File Com n d) rest word well = (well.0, ((λ e. refl), well.1))
own_well place behind (File IncSkip n d) rest word well = (well.0, ((λ e. refl), well.1))
own_well place behind (File Ior n d) rest word well = (well.0, ((λ e. refl), well.1))
own_well place behind (File Mov n d) rest word well = (well.0, ((λ e. refl), well.1))
own_well place behind (File Left n d) rest word well = (well.0, ((λ e. refl), well.1))
own_well place behind (File Right n d) rest word well = (well.0, ((λ e. refl), well.1))
own_well place behind (File Sub n d) rest word well = (well.0, ((λ e. refl), well.1))
own_well place behind (File Swap n d) rest word well = (well.0, ((λ e. refl), well.1))
own_well place behind (File Xor n d) rest word well = (well.0, ((λ e. refl), well.1))
own_well place behind (Store n) rest word well = (well.0, ((λ e. refl), well.1))
own_well place behind (Clear n) rest word well = (well.0, ((λ e. refl), well.1))
own_well place behind (Const AddK k) rest word well = (well.0, ((λ e. refl), well.1))
own_well place behind (Const AndK k) rest word well = (well.0, ((λ e. refl), well.1))
own_well place behind (Const MovK k) rest word well = (well.0, ((λ e. refl), well.1))
own_well place behind (Const XorK k) rest word well = (well.0, ((λ e. refl), well.1))
own_well place behind (SkipBit true n b) rest word well = (well.0, ((λ e. refl), well.1))
own_well place behind (SkipBit false n b) rest word well = (well.0, ((λ e. refl), well.1))
own_well place behind (SkipCarry true) rest word well = (well.0, ((λ e. refl), well.1))
own_well place behind (SkipCarry false) rest word well = (well.0, ((λ e. refl), well.1))
own_well place behind (SkipZero true) rest word well = (well.0, ((λ e. refl), well.1))
own_well place behind (SkipZero false) rest word well = (well.0, ((λ e. refl), well.1))
own_well place behind (MakeCarry true) rest word well = (well.0, ((λ e. refl), well.1))
own_well place behind (MakeCarry false) rest word well = (well.0, ((λ e. refl), well.1))
own_well place true (Near n) rest word well = let clash = word refl in absurd (cc)
own_well place false (Near n) rest word well = well

pub skips_well : (uses writes : ℕ → Bool) (place : ℕ → ℕ) (last : Option ℕ) (behind : Bool) (bank : Bank) (acts : List Act) → sound uses writes last behind acts ≡ true
    → InBank place last bank → Well behind (code place bank acts)
skips_well uses writes place last true bank [] sounds in_bank = absurd (cc)
skips_well uses writes place last false bank [] sounds in_bank = (refl, tt)
skips_well uses writes place last true bank (a ∷ more) sounds in_bank =
    let parts = sound_parts uses writes last true a more sounds in
    let then_in = moved bank (far place (name_of a)) in
    let rest = code place then_in more in
    let next = skips_well uses writes place (latest last (name_of a)) (may_skip a) then_in more parts.rest (in_bank_next place last bank (name_of a) in_bank) in
    let stays = near_stays place last bank (name_of a) (with_own (instr_of place a) rest) (parts.near refl) in_bank in
    subst (Well true) (sym stays.0) (own_well place true a rest parts.word next)
skips_well uses writes place last false bank (a ∷ more) sounds in_bank =
    let parts = sound_parts uses writes last false a more sounds in
    let then_in = moved bank (far place (name_of a)) in
    let rest = code place then_in more in
    let next = skips_well uses writes place (latest last (name_of a)) (may_skip a) then_in more parts.rest (in_bank_next place last bank (name_of a) in_bank) in
    settings_well bank (far place (name_of a)) (with_own (instr_of place a) rest) (own_well place false a rest parts.word next)

-- Settings and an act's instruction stand before the rest of the code.
bit-append : (b : ℕ) (known : Option Bool) (v : Bool) (xs ys : List Instr) → bit_setting b known v (xs ++ ys) ≡ bit_setting b known v xs ++ ys
bit-append b None v xs ys = refl
bit-append b (Some true) true xs ys = refl
bit-append b (Some true) false xs ys = refl
bit-append b (Some false) true xs ys = refl
bit-append b (Some false) false xs ys = refl

pub settings-append : (bank : Bank) (target : Option ℕ) (xs ys : List Instr) → settings bank target (xs ++ ys) ≡ settings bank target xs ++ ys
settings-append bank None xs ys = refl
settings-append bank (Some k) xs ys =
    let low = k % 2 == 1 in
    let high = k / 2 == 1 in
    ap (bit_setting 5 (low_bit bank) low) (bit-append 6 (high_bit bank) high xs ys)
    ∙ bit-append 5 (low_bit bank) low (bit_setting 6 (high_bit bank) high xs) ys

own-append : (o : Option Instr) (rest : List Instr) → with_own o rest ≡ with_own o [] ++ rest
own-append None rest = refl
own-append (Some i) rest = refl

pub code-cons : (place : ℕ → ℕ) (bank : Bank) (a : Act) (more : List Act)
    → code place bank (a ∷ more)
    ≡ settings bank (far place (name_of a)) (with_own (instr_of place a) []) ++ code place (moved bank (far place (name_of a))) more
code-cons place bank a more =
    let target = far place (name_of a) in
    let rest = code place (moved bank target) more in
    ap (settings bank target) (own-append (instr_of place a) rest) ∙ settings-append bank target (with_own (instr_of place a) []) rest
