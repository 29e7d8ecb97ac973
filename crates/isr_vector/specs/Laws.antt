-- What the laws of `laws.rt` promise of the boot.
use Rattle.std.specs.Prelude.{◌≡◌, ◌+◌, ◌<◌, ◌≤◌, length}
use Rattle.std.specs.List.{AllByRecursion}
use Rattle.frp_tree.specs.Tree.{ProgramTree}
use Rattle.efrp_meaning.specs.Bounds.{boot, state_bytes}
use Rattle.efrp_meaning.specs.Meaning.{State}
use Rattle.efrp_meaning.specs.States.{IsState}
use Rattle.efrp_meaning.specs.Types.{IsTyped}
use Rattle.bank_alloc.specs.declared.needs.Needs.{Needs}
use Rattle.bank_alloc.specs.Needs.{bytes_of}
use Rattle.priority_masks.specs.declared.tables.Enables.{Enables}
use Rattle.code_steps.specs.declared.banks.Bank.TheVariants.{Known}
use Rattle.glue_steps.specs.Stretches.{bits_of_bank}
use Rattle.glue_parts.specs.Effects.{Makes}
use Rattle.isr_vector.specs.Booting.{boot_effect, boot_lines, bytes_of_state}

-- The lines of the boot, from bank 0 to bank 0, have its effect, where the states' bytes are placed.
abbrev pub BootMakes : ProgramTree → Needs → Enables → Type 0
BootMakes p need enables =
    IsTyped p → bytes_of need ≤ 352 → state_bytes p ≤ need.states
    → Makes (bits_of_bank (Known 0)) (bits_of_bank (Known 0)) (boot_effect p need enables) (boot_lines p need enables)

-- With the goto to the rest of the boot and the line that turns interrupts on the lines are no more than the bound on the boot.
abbrev pub BootIsShort : ProgramTree → Needs → Enables → Type 0
BootIsShort p need enables = IsTyped p → bytes_of need ≤ 352 → state_bytes p ≤ need.states → length (boot_lines p need enables) + 2 ≤ boot p

-- A state has as many bytes as the program's states have, and each is one.
abbrev pub StateHasBytes : ProgramTree → State → Type 0
StateHasBytes p s = IsState p s → (length (bytes_of_state p s) ≡ state_bytes p) × AllByRecursion (λ byte. byte < 256) (bytes_of_state p s)
