-- The enables at a level, PEIE among them.
use Rattle.std.specs.Prelude.{◌≡◌, ℕ, ◌↔◌, ◌⊎◌}
use Rattle.std.specs.Int.{bit_at}
use Rattle.frp_tree.specs.Tree.{ProgramTree}
use Rattle.pic_isa.specs.declared.sources.Source.{Source}
use Rattle.pic_isa.specs.declared.sources.BitAt.{BitAt}
use Rattle.pic_isa.specs.Sources.{at, enable_of}
use Rattle.priority_masks.specs.declared.tables.Enables.{Enables}
use Rattle.priority_masks.specs.Levels.{HasEnablesIn, IsAbove}

-- A source has its enable in PIE1 or PIE2, so that it is heard only where PEIE is set.
abbrev pub IsPeripheral : Source → Type 0
IsPeripheral source = ((enable_of source).address ≡ 0x08C) ⊎ ((enable_of source).address ≡ 0x08D)

-- The enables of the sources with an event above the level; and PEIE, bit 6 of INTCON, exactly where one of them is in PIE1 or PIE2.
pub record IsHeardAt (p : ProgramTree) (level : ℕ) (enables : Enables) : Type 0 where
  pub intcon : (bit : ℕ) → (bit ≡ 6 → ⊥) → (bit_at enables.intcon bit ≡ 1) ↔ ((source : Source) × (enable_of source ≡ at 0x00B bit) × IsAbove p level source)
  pub peie : (bit_at enables.intcon 6 ≡ 1) ↔ ((source : Source) × IsPeripheral source × IsAbove p level source)
  pub pie1 : HasEnablesIn p level 0x08C enables.pie1
  pub pie2 : HasEnablesIn p level 0x08D enables.pie2
