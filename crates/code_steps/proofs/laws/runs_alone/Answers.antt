use Rattle.std.proofs.Common.{◌+◌, ◌≤◌, arith}
use Rattle.code_steps.specs.Ends.{Ended}
use Rattle.code_steps.specs.Laws.{OwnOf}
use Rattle.code_steps.proofs.OwnLaws.{comes_alone}
use Rattle.code_steps.proofs.laws.runs_alone.Goals as goal

pub returns : goal.returns
returns c = λ program piece place bank k x outer come quiet.
    let found = comes_alone program (OwnOf piece) (Ended place bank) x outer k 0 come (λ j low high. quiet j (omega arith)) in
    (found.0, (let high : found.0 ≤ 0 + k = found.2 in omega arith), found.3)
