-- What the laws of `laws.rt` promise of every list of acts.
use Rattle.std.specs.Prelude.{◌≡◌, ℕ, ◌+◌, ◌%◌, ◌<◌, ◌≤◌, ◌==◌, ◌&&◌, ◌||◌, ◌⊎◌, Bool, true, false, Some, None, List, [], ◌∷◌, map, length}
use Rattle.std.specs.List.{AllByRecursion}
use Rattle.pic_isa.specs.declared.instructions.Instr.{Instr}
use Rattle.pic_isa.specs.declared.instructions.Instr.TheVariants.{Bcf, Bsf}
use Rattle.pic_isa.specs.Instructions.{FieldsFit}
use Rattle.pic_regs.specs.Map.{Plain, reg_at}
use Rattle.pic_machine.specs.Chip.{Chip}
use Rattle.pic_machine.specs.Exec.{field}
use Rattle.code_steps.specs.declared.banks.Bank.{Bank}
use Rattle.code_steps.specs.declared.banks.Bank.TheVariants.{Known}
use Rattle.code_steps.specs.Steps.{Comes}
use Rattle.code_steps.specs.Between.{Others}
use Rattle.code_steps.specs.Ends.{Ended}
use Rattle.code_items.specs.declared.items.Item.TheVariants.{Ins}
use Rattle.code_items.specs.Items.{is_skip, ends_skipping}
use Rattle.code_items.specs.Lines.{Stands}
use Rattle.code_acts.specs.declared.acts.Act.{Act}
use Rattle.code_acts.specs.Acts.{State, name_of, run}
use Rattle.code_acts.specs.Codes.{is_operand, far, code, bank_after, sound}
use Rattle.code_acts.specs.Standing.{StandFrom, Placed, view, Like, AtStart, OwnIn, EndsAnywhere, Leaves}

-- Sound acts, with no skip before them and no bank chosen.
abbrev pub IsSound : (uses writes : ℕ → Bool) → List Act → Type 0
IsSound uses writes acts = sound uses writes None false acts ≡ true

-- Their code comes to its end anywhere, under whole runs of others.
abbrev pub CodeEnds : (uses writes : ℕ → Bool) → (place : ℕ → ℕ) → Bank → List Act → Type 0
CodeEnds uses writes place bank acts =
    Placed uses writes place → IsSound uses writes acts → EndsAnywhere writes place bank (bank_after place bank acts) (code place bank acts)

-- Where nothing else changes what it uses, it leaves what the machine says.
abbrev pub CodeLeaves : (uses writes : ℕ → Bool) → (place : ℕ → ℕ) → Bank → List Act → Type 0
CodeLeaves uses writes place bank acts =
    Placed uses writes place → IsSound uses writes acts
    → Leaves uses writes place bank (bank_after place bank acts) (code place bank acts) (λ c e. Like uses (run acts (view place c)) (view place e))

-- Each byte that may be written is one that is used.
abbrev pub IsUsed : (uses writes : ℕ → Bool) → Type 0
IsUsed uses writes = (n : ℕ) → writes n ≡ true → uses n ≡ true

-- It keeps PCLATH, also under whole runs of others.
abbrev pub KeepsPclath : (uses writes : ℕ → Bool) → (place : ℕ → ℕ) → Bank → List Act → (program : ℕ → ℕ) → Chip → Type 0
KeepsPclath uses writes place bank acts program c =
    let instrs = code place bank acts in
    Placed uses writes place → IsUsed uses writes → IsSound uses writes acts → AtStart program bank instrs c
    → Comes program Others (OwnIn writes place instrs c)
    (λ e. Ended ((c.pc + length instrs) % 8192) (bank_after place bank acts) e × (e.regs.pclath ≡ c.regs.pclath))
    (length instrs) c

-- An address is that of a plain byte, and of no operand byte.
pub record IsFar (address : ℕ) : Type 0 where
  pub below : address < 512
  pub plain : reg_at address ≡ Plain address
  pub outside : (address < 0x74) ⊎ (0x80 ≤ address)

-- The names but for those of operand bytes lie where they can.
pub record OthersPlaced (uses writes : ℕ → Bool) (place : ℕ → ℕ) : Type 0 where
  pub used : IsUsed uses writes
  pub far : (n : ℕ) → is_operand n ≡ false → uses n ≡ true → IsFar (place n)
  pub apart : (n m : ℕ) → is_operand n ≡ false → is_operand m ≡ false → writes n ≡ true → uses m ≡ true → place n ≡ place m → n ≡ m

-- An instruction sets or clears a bank bit, RP0 or RP1.
abbrev pub sets_bank : Instr → Bool
sets_bank (Bcf f b) = f == 0x03 && (b == 5 || b == 6)
sets_bank (Bsf f b) = f == 0x03 && (b == 5 || b == 6)
sets_bank _ = false

-- Each name that needs a bank lies in this one.
abbrev pub LieIn : (place : ℕ → ℕ) → ℕ → List Act → Type 0
LieIn place k acts = AllByRecursion (λ a. (j : ℕ) → far place (name_of a) ≡ Some j → j ≡ k) acts

-- Code in a known bank in which all names lie has no bank setting, and stays in the bank.
abbrev pub SetsNone : (place : ℕ → ℕ) → ℕ → List Act → Type 0
SetsNone place k acts =
    LieIn place k acts → AllByRecursion (λ i. sets_bank i ≡ false) (code place (Known k) acts) × (bank_after place (Known k) acts ≡ Known k)

-- No instruction names PCLATH, and all fields are in range.
abbrev pub InstrsFit : (uses writes : ℕ → Bool) → (place : ℕ → ℕ) → Bank → List Act → Type 0
InstrsFit uses writes place bank acts =
    Placed uses writes place → IsSound uses writes acts
    → AllByRecursion (λ i. FieldsFit i × (field i ≡ Some 0x0A → ⊥)) (code place bank acts)

-- Directly behind a skip instruction stands no bank setting; `behind` says that one stands before these.
abbrev pub SkipsNoSetting : (behind : Bool) → List Instr → Type 0
SkipsNoSetting behind [] = Unit {0}
SkipsNoSetting behind (i ∷ more) = (behind ≡ true → sets_bank i ≡ false) × SkipsNoSetting (is_skip i) more

-- The code ends in no skip instruction, and has no bank setting directly behind one.
abbrev pub SkipsWell : (uses writes : ℕ → Bool) → (place : ℕ → ℕ) → Bank → List Act → Type 0
SkipsWell uses writes place bank acts =
    IsSound uses writes acts
    → (ends_skipping false (map Ins (code place bank acts)) ≡ false) × SkipsNoSetting false (code place bank acts)

-- The machine keeps each byte that may not be written, and leaves like states from like ones.
abbrev pub RunKeeps : (uses writes : ℕ → Bool) → List Act → State → ℕ → Type 0
RunKeeps uses writes acts s n = IsSound uses writes acts → writes n ≡ false → (run acts s).mem n ≡ s.mem n

abbrev pub RunLike : (uses writes : ℕ → Bool) → List Act → (s t : State) → Type 0
RunLike uses writes acts s t = IsSound uses writes acts → Like uses s t → s.skip ≡ t.skip → Like uses (run acts s) (run acts t)

-- Instructions stand where they stand as items.
abbrev pub ItemsStand : Bool → (program marks : ℕ → ℕ) → (p q : ℕ) → List Instr → Type 0
ItemsStand paged program marks p q instrs = Stands paged program marks p (map Ins instrs) q → StandFrom program p instrs
