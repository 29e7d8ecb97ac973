use Rattle.std.proofs.Common.{◌+◌, ◌%◌, length}
use Rattle.code_steps.specs.Between.{Others}
use Rattle.code_steps.specs.Ends.{Ended}
use Rattle.code_acts.specs.Codes.{code, bank_after}
use Rattle.code_acts.specs.Standing.{PlacesOf}
use Rattle.code_acts.proofs.EndLaws.{ends_anywhere}
use Rattle.code_acts.proofs.PlaceLaws.{keeps_pclath, misses_pclath}
use Rattle.code_acts.proofs.laws.keeps_pclath.Goals as goal

pub returns : goal.returns
returns c = λ uses writes place bank acts program x placed used sounds at.
    let words = length (code place bank acts) in
    let stop = x.pc + words in
    keeps_pclath program Others (PlacesOf writes place) x.pc stop (Ended (stop % 8192) (bank_after place bank acts)) (λ a b r. r.pclath)
    (misses_pclath uses writes place placed used) words x (ends_anywhere uses writes place bank acts placed sounds program x at)
