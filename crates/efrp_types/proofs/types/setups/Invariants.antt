use Rattle.std.specs.Prelude.{List}
use Rattle.frp_tree.specs.declared.syntax.Setup.{Setup}
use Rattle.efrp_types.specs.TypeFaults.{setup_byte_faults}
use Rattle.efrp_types.proofs.AnswerLaws.{Gone}
use Rattle.efrp_types.proofs.types.setups.Given as goal

abbrev pub invariant-loop-i : goal.invariant-loop-i
invariant-loop-i l = Gone (λ (before : List Setup) (s : Setup). setup_byte_faults s) l.setups l.i
