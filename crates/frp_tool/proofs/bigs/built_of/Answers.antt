use Rattle.std.proofs.Common.{inl, inr, subst, ◌≡◌, ◌⊎◌}
use Rattle.frp_tree.specs.Tree.{ProgramTree, program_tree_of}
use Rattle.firmware.specs.declared.faults.BuildFault.{BuildFault}
use Rattle.firmware.specs.declared.faults.BuildFault.TheVariants.{Memory}
use Rattle.firmware.specs.Builds.{IsBuildFault, IsBuilt}
use Rattle.large_program.specs.LargePrograms.{large_program}
use Rattle.frp_tool.proofs.CompileLaws.{no_build_fault}
use Rattle.frp_tool.proofs.BigTextFacts.{large_fits_chip, large_has_code}
use Rattle.frp_tool.proofs.bigs.built_of.Goals as goal

pub returns-in-Ok : goal.returns-in-Ok
returns-in-Ok c = subst (λ (p : ProgramTree). IsBuilt p c.in-Ok.built) c.in_ok-checked.ensures.0 c.in-Ok.ensures.ok

pub returns : goal.returns
returns c = by c.in-Err.ensures.err
  where
    by : (c.in-Err.fault ≡ Memory) ⊎ IsBuildFault (program_tree_of c.in_ok-checked.checked.typed.program) c.in-Err.fault → ⊥
    by (inl memory) = c.in_ok-build_line-in-Err.ensures.0 memory
    by (inr fault) =
        let p = large_program c.args.number in
        no_build_fault p (large_has_code c.args.number) (large_fits_chip c.args.number) c.in-Err.fault (subst (λ (q : ProgramTree). IsBuildFault q c.in-Err.fault) c.in_ok-checked.ensures.0 fault)
