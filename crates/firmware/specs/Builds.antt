-- What is built of a program, and of which programs nothing is.
use Rattle.std.specs.Prelude.{◌≡◌, ◌<◌, ◌≤◌, List, [], filter}
use Rattle.frp_tree.specs.Tree.{DeclTree, ProgramTree}
use Rattle.efrp_meaning.specs.Bounds.{levels, ram_bound, words_bound}
use Rattle.efrp_meaning.specs.Decls.{inputs_of, is_table}
use Rattle.hex_file.specs.ImageOf.{IsImageOf}
use Rattle.hex_file.specs.Written.{IsWritable, written}
use Rattle.map_file.specs.MapRules.{IsMap}
use Rattle.map_file.specs.MapText.{map_text}
use Rattle.firmware_promises.specs.Firmware.{IsFirmware}
use Rattle.core_steps.specs.Scheduled.{IsScheduled}
use Rattle.stack_bound.specs.Reports.{IsReported}
use Rattle.firmware.specs.declared.build.Built.{Built}
use Rattle.firmware.specs.declared.faults.BuildFault.{BuildFault}
use Rattle.firmware.specs.declared.faults.BuildFault.TheVariants.{Form, Stack, Ram, Code, Memory}

-- The tables of a program, in declaration order.
abbrev pub tables_of : ProgramTree → List DeclTree
tables_of p = filter (λ d. is_table d.behaviour) p.decls

-- There is code for all that the program has: no definition is an input or a table.
pub record HasCode (p : ProgramTree) : Type 0 where
  pub no_inputs : inputs_of p ≡ []
  pub no_tables : tables_of p ≡ []

-- The program is built, where its image turns out to have at most 8,192 words: there is code for it, and by the bounds its
-- levels fit the chip's return stack and its bytes the chip's RAM.
pub record IsBuildable (p : ProgramTree) : Type 0 where
  pub has_code : HasCode p
  pub levels_fit : levels p ≤ 8
  pub ram_fits : ram_bound p ≤ 352

-- The image and the map can be written, and their bytes mean them, are firmware for the program and treat its events in time and in
-- order. The map reports the program's levels as its depth and the program's bound on settling, and nothing less.
pub record IsBuilt (p : ProgramTree) (built : Built) : Type 0 where
  pub writable : IsWritable built.image
  pub means : IsImageOf (written built.image) built.image
  pub rules : IsMap built.map
  pub firmware : IsFirmware p (written built.image) (map_text built.map)
  pub scheduled : IsScheduled p (written built.image) (map_text built.map)
  pub reported : IsReported p built.map
  pub buildable : IsBuildable p

-- The program has this fault. Each comes where those before it don't. Out of memory is no fault of a program.
abbrev pub IsBuildFault : ProgramTree → BuildFault → Type 0
IsBuildFault p Form = HasCode p → ⊥
IsBuildFault p (Stack n) = HasCode p × (n ≡ levels p) × (8 < n)
IsBuildFault p (Ram n) = HasCode p × (levels p ≤ 8) × (n ≡ ram_bound p) × (352 < n)
IsBuildFault p (Code n) = IsBuildable p × (8192 < n) × (n ≤ words_bound p)
IsBuildFault p Memory = ⊥
