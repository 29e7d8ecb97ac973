-- What the law of `laws.rt` promises.
use Rattle.std.specs.Prelude.{ℕ, List}
use Rattle.frp_tree.specs.Tree.{ProgramTree}
use Rattle.efrp_meaning.specs.Bounds.{boot}
use Rattle.bank_alloc.specs.declared.needs.Needs.{Needs}
use Rattle.glue_parts.specs.declared.spread.Spread.{Spread}
use Rattle.firmware_parts.specs.Layout.{Layout}
use Rattle.firmware_parts.specs.Times.{dispatching}
use Rattle.firmware_parts.specs.Vector.{DoesVector}
use Rattle.vector_steps.specs.Standing.{HasVector}

-- Where the vector of a program stands, it does what the vector of firmware has to do, within the program's times.
abbrev pub VectorDoes : ProgramTree → Needs → Spread → Layout → List ℕ → Type 0
VectorDoes p need spread l initial = HasVector p need spread l initial → DoesVector p l initial (boot p) (dispatching p)
