use Rattle.std.proofs.Common.{◌≡◌, true, refl}
use Rattle.code_steps.specs.Between.{Keeps}
use Rattle.code_steps.specs.Ends.{Ended}
use Rattle.code_steps.proofs.OwnLaws.{comes_frames}
use Rattle.code_steps.proofs.laws.leaves_other_bytes.Goals as goal

pub returns : goal.returns
returns c = λ program piece place bank address k x missed come.
    comes_frames program (Keeps (λ a. a ≡ address)) (λ a. piece.may a ≡ true) piece.start piece.stop (Ended place bank) address
    (λ a b r. r.cells address refl) (λ may. cc) k x come
